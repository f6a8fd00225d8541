-- The ends of a checkpoint, and where they stand.
use Rattle.std.proofs.Common.{◌≡◌, ℕ, ◌+◌, ◌-◌, ◌/◌, ◌<◌, ◌≤◌, List, [], ◌∷◌, ◌++◌, length, refl, sym, ap, ◌∙◌, arith}
use Rattle.std.specs.Prelude.{Result, Ok, Err, OnOk, is_err, false}
use Rattle.std.proofs.Math.Nat.{mul-mod_right}
use Rattle.std.proofs.lemmas.List.Elements.{All-nil}
use Rattle.page_core.specs.declared.page.Page.{Page}
use Rattle.log_records.specs.declared.dirty_page.DirtyPage.{DirtyPage}
use Rattle.log_records.specs.declared.limits.TheConstants.{MAX_RECORDS}
use Rattle.log_records.specs.declared.record.Record.TheVariants.{BeginChkpt}
use Rattle.log_records.specs.Log.{IsLog, Log, StandsAt, lsn_of, page_count, page_count_at, page_count_below, with_next}
use Rattle.log_records.proofs.Public.{page_count_at-all, page_count_at-append}
use Rattle.log_records.specs.Record.{IsLsn}
use Rattle.fuzzy_ckpt.specs.Ckpt.{AllCover, AreCovered, CkptView, IsCkptOf, gathered_ckpt}
use Rattle.fuzzy_ckpt.specs.Steps.{end_of, end_record, new_ckpt}
use Rattle.fuzzy_ckpt.proofs.Covers.{all_later}
use Rattle.fuzzy_ckpt.proofs.Opens.{begin_before, ckpt_redo_before, lowered_falls, open_push, pages_later}

pub end_is_lsn : (n : ℕ) → n ≤ MAX_RECORDS → IsLsn (lsn_of n)
end_is_lsn n few = record {
  aligned = mul-mod_right 64 (n + 1);
  past_header = omega arith;
  fits = omega arith;
}

-- ---- the begin

pub begun_is : (log : Log) → IsCkptOf (with_next log (BeginChkpt (end_of log.records) ∷ [])) (new_ckpt log)
begun_is log = record {
  ckpt = record { begin = end_of log.records; pages = []; txns = [] };
  still_open = open_push log.records (BeginChkpt (end_of log.records));
  same_begin = refl;
  same_pages =
      let n = length log.records in
      let before : (lsn_of n - 1) / 64 ≡ n = omega arith in
      let whole : page_count_at (with_next log (BeginChkpt (lsn_of n) ∷ [])) n ≡ page_count log =
      page_count_at-append log (BeginChkpt (lsn_of n) ∷ []) n (omega arith)
      ∙ page_count_at-all log n (omega arith) in
      sym (ap (page_count_at (with_next log (BeginChkpt (lsn_of n) ∷ []))) before ∙ whole);
  same_redo = refl;
  behind = (All-nil (λ (e : DirtyPage). e.page < 0), refl);
}

-- ---- the end

pub end_stands : {P : Type 0} (log : Log) (c : CkptView P) → IsLog log → IsCkptOf log (gathered_ckpt c)
    → length log.records < MAX_RECORDS → StandsAt (page_count log) (end_of log.records) (end_record log.records c)
end_stands log c valid is few = record {
  lsn = refl;
  valid = (
    end_is_lsn (length log.records) (omega arith),
    begin_before log (gathered_ckpt c) valid is,
    ckpt_redo_before log (gathered_ckpt c) valid is,
  );
  within = tt;
}

-- the page count that it noted is that of the log with its end
pub end_pages : {P : Type 0} (log : Log) (c : CkptView P) → IsLog log → IsCkptOf log (gathered_ckpt c)
    → c.pages ≡ page_count_below (with_next log (end_record log.records c ∷ [])) c.begin
end_pages log c valid is =
    is.same_pages ∙ sym (pages_later log (end_record log.records c) (gathered_ckpt c) valid is)

pub end_order : {P : Type 0} (log : Log) (c : CkptView P) → IsLog log → IsCkptOf log (gathered_ckpt c)
    → (c.redo ≤ c.begin) × (c.begin < end_of log.records)
end_order log c valid is =
    let low = lowered_falls is.ckpt.pages is.ckpt.begin in
    (omega (arith, is.same_begin, is.same_redo), (begin_before log (gathered_ckpt c) valid is).earlier)

pub end_covers : {P : Type 0} (log : Log) (c : CkptView P) (stored : List Page) → IsLog log
    → IsCkptOf log (gathered_ckpt c) → AreCovered log.records stored (gathered_ckpt c)
    → AllCover (log.records ++ end_record log.records c ∷ []) stored c.redo
end_covers log c stored valid is covered =
    let before = (ckpt_redo_before log (gathered_ckpt c) valid is).earlier in
    all_later log.records (end_record log.records c) stored c.redo (omega arith) (λ p d lt. covered p d lt tt)

-- what an answer that is no `Err` says
pub said : {T E : Type 0} (r : Result T E) (P : Type 0) → is_err r ≡ false → OnOk r P → P
said (Ok x) P ok h = h
said (Err e) P ok h = cc

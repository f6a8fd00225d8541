-- What a page lacks of a log that a crash left.
use Rattle.std.proofs.Common.{◌≡◌, ℕ, ◌+◌, ◌-◌, ◌*◌, ◌/◌, ◌<◌, ◌≤◌, List, length, take, sym, ap, subst, ◌∙◌, arith}
use Rattle.std.specs.Prelude.{true}
use Rattle.std.proofs.lemmas.List.{length-take, take-take}
use Rattle.std.proofs.lemmas.List.Elements.{All-take}
use Rattle.page_core.specs.declared.page.Page.{Page}
use Rattle.log_records.specs.declared.record.Record.{Record}
use Rattle.log_records.specs.Coverage.{Covers, changes, resume}
use Rattle.log_records.specs.Image.{image}
use Rattle.log_records.specs.Log.{IsLog, Log, lsn_of, page_count_below}
use Rattle.log_records.specs.Record.{own_lsn}
use Rattle.log_records.proofs.Public.{page_count_at-take, valid_cut}
use Rattle.log_records.proofs.Public.{at_each, of_each, past_is_named, resume_covering}
use Rattle.copy_coverage.specs.Copied.{IsCovered}
use Rattle.copy_coverage.specs.Kept.{IsKeptOf}

-- a part of a log is one too
pub prefix_is_log : (log : Log) (n : ℕ) → IsLog log → n ≤ length log.records
    → IsLog (record log { records = take n log.records })
prefix_is_log log n valid le = valid_cut log n valid

-- the page count below what is forced
pub kept_count_below : (log kept : Log) (f lsn : ℕ) → IsKeptOf log f kept → lsn < f
    → page_count_below kept lsn ≡ page_count_below log lsn
kept_count_below log kept f lsn is low =
    let high = is.forced in
    subst (λ (k : Log). page_count_below k lsn ≡ page_count_below log lsn) (sym is.made)
    (page_count_at-take log ((lsn - 1) / 64) is.count (omega arith))

steps_below : (lsn k : ℕ) → lsn < 64 * (k + 1) → lsn / 64 ≤ k
steps_below lsn k lt = omega arith

pub covers_kept : (log : Log) (n p : ℕ) (page : Page) (bound : ℕ) → IsLog log → n ≤ length log.records
    → Covers log.records p page bound → page.lsn < lsn_of n → Covers (take n log.records) p page bound
covers_kept log n p page bound valid le covers lt =
    let rs = log.records in
    let m = page.lsn / 64 in
    let below : m ≤ n = steps_below page.lsn n lt in
    record {
      past = record {
        count = m;
        within = omega (arith, length-take n rs);
        made = past_is_named log p page valid covers.past
            ∙ ap (λ (xs : List Record). image xs p) (sym (take-take m n rs below));
      };
      reached = of_each (λ lsn. lsn < bound → lsn ≤ page.lsn) p (take n rs)
          (All-take (λ r. changes p r ≡ true → own_lsn r < bound → own_lsn r ≤ page.lsn) n rs
          (at_each (λ lsn. lsn < bound → lsn ≤ page.lsn) p rs covers.reached));
    }

pub restored : (log : Log) (f : ℕ) (kept : Log) (p redo : ℕ) (page : Page) → IsLog log → IsKeptOf log f kept
    → IsCovered log.records f redo p page → resume page kept.records redo ≡ image kept.records p
restored log f kept p redo page valid is covered =
    let low = covered.stable in
    let high = is.forced in
    let part = record log { records = take is.count log.records } in
    subst (λ (k : Log). resume page k.records redo ≡ image k.records p) (sym is.made)
    (resume_covering part p page redo (prefix_is_log log is.count valid is.within)
    (covers_kept log is.count p page redo valid is.within covered.covers (omega arith)))

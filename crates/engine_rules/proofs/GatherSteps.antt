-- What the steps of a gather append, and what is gathered after them.
use Rattle.std.proofs.Common.{◌≡◌, ℕ, suc, ◌+◌, ◌-◌, ◌/◌, ◌<◌, ◌≤◌, ◌++◌, List, [], ◌∷◌, length}
use Rattle.std.proofs.Common.{refl, sym, ap, subst, ◌∙◌, arith}
use Rattle.std.specs.Prelude.{Option, Some, None, IfSome, IsSomeAnd, filter, min, nat_le, slice_get}
use Rattle.std.specs.Prelude.{take}
use Rattle.std.specs.Option.{option_map_or}
use Rattle.std.proofs.lemmas.List.{length-append, length-take}
use Rattle.std.proofs.lemmas.List.Sums.{fold-append}
use Rattle.std.proofs.lemmas.Option.{same_Some}
use Rattle.log_records.specs.declared.dirty_page.DirtyPage.{DirtyPage}
use Rattle.log_records.specs.declared.dirty_page.DirtyPages.{DirtyPages}
use Rattle.log_records.specs.declared.dirty_page.DirtyPages.TheVariants.{One, Two, Three}
use Rattle.log_records.specs.declared.limits.TheConstants.{MAX_RECORDS}
use Rattle.log_records.specs.declared.record.Record.{Record}
use Rattle.log_records.specs.Coverage.{dirty, next_dirty}
use Rattle.log_records.specs.DirtyPage.{entries_of}
use Rattle.log_records.specs.Log.{Log, StandsAt, lsn_of, page_count_below, with_next}
use Rattle.log_records.proofs.Public.{page_count_at-append}
use Rattle.log_rules.specs.Checkpoint.{Checkpoint, checkpoint_after, open_checkpoint, redo_point}
use Rattle.log_rules.specs.Checkpoint.{with_pages, with_txn}
use Rattle.log_rules.specs.Linked.{HasOldTxns, MayEnd, MayFollow}
use Rattle.log_rules.specs.Transactions.{last_of}
use Rattle.fuzzy_ckpt.specs.Ckpt.{AreCovered, CkptView, IsCkptOf, Phase, in_pages, in_txns}
use Rattle.fuzzy_ckpt.specs.Steps.{end_of, last_page, new_ckpt, pages_of, past_pages}
use Rattle.log_records.specs.declared.record.Record.TheVariants.{BeginChkpt}
use Rattle.fuzzy_ckpt.proofs.Public.{begun_is, end_stands, open_before, open_push, MorePages}
use Rattle.fuzzy_ckpt.proofs.Public.{more_pages, none_covered, none_kept, MoreTxns, all_passed}
use Rattle.fuzzy_ckpt.proofs.Public.{more_txns, txns_cover}
use Rattle.engine_rules.specs.EngineState.{EngineState, IsFit, IsGathering, end, end_ckpt_record}
use Rattle.engine_rules.specs.EngineState.{log_of, volume_pages}
use Rattle.engine_rules.specs.Gather.{Left, behind_pages, behind_txns, none_left, pages_left}
use Rattle.engine_rules.specs.Gather.{phase_of, session_of, txns_left}
use Rattle.engine_rules.proofs.Gathers.{AreGathered, FindsPages, FindsTxn, pages_record, txn_entry}

-- the open checkpoint of a fit engine
pub gathering_of : (s : EngineState) (c : Checkpoint) (left : Left) → IsFit s → open_checkpoint s.log ≡ Some c
    → s.left ≡ left → IsGathering (log_of s) s.stored left c
gathering_of s c left fit is at =
    subst (λ (l : Left). IsGathering (log_of s) s.stored l c) at
    (subst (λ (o : Option Checkpoint). IfSome o (IsGathering (log_of s) s.stored s.left)) is fit.gathered)

-- it began before the log's end, so a record more leaves what its session has
pub begun_before : (s : EngineState) (c : Checkpoint) → IsFit s → open_checkpoint s.log ≡ Some c → c.begin < end s
begun_before s c fit is = (open_before (log_of s) c fit.valid is).begin.earlier

pub session_same : (log : Log) (r : Record) (left : Left) (c : Checkpoint) → c.begin < lsn_of (length log.records)
    → session_of (with_next log (r ∷ [])) left c ≡ session_of log left c
session_same log r left c before =
    let place : (c.begin - 1) / 64 ≤ length log.records = omega arith in
    ap (λ (n : ℕ). record { begin = c.begin; pages = n; redo = redo_point c; phase = phase_of left c })
    (page_count_at-append log (r ∷ []) ((c.begin - 1) / 64) place)

-- the session that begins is that of the checkpoint that it opens
pub new_is_session : (log : Log)
    → new_ckpt log
    ≡ session_of (with_next log (BeginChkpt (end_of log.records) ∷ [])) pages_left
    (record { begin = end_of log.records; pages = []; txns = [] })
new_is_session log =
    ap (λ (n : ℕ). record { begin = end_of log.records; pages = n; redo = end_of log.records; phase = in_pages 0 })
    (begun_is log).same_pages

last_append : {X : Type 0} (xs : List X) (y : X) (ys : List X) → last_of (xs ++ y ∷ ys) ≡ last_of (y ∷ ys)
last_append [] y ys = refl
last_append (x ∷ xs) y ys =
    let long = length-append xs (y ∷ ys) in
    let one : length (x ∷ (xs ++ y ∷ ys)) - 1 ≡ suc (length (xs ++ y ∷ ys) - 1) = omega (arith, long) in
    ap (slice_get (x ∷ (xs ++ y ∷ ys))) one ∙ last_append xs y ys

-- ---- dirty pages

entries_of_some : (es : List DirtyPage) (pages : DirtyPages) → length es ≤ 3 → pages_of es ≡ Some pages
    → entries_of pages ≡ es
entries_of_some [] pages few is = cc
entries_of_some (a ∷ []) pages few is = ap entries_of (sym (same_Some _ _ is))
entries_of_some (a ∷ b ∷ []) pages few is = ap entries_of (sym (same_Some _ _ is))
entries_of_some (a ∷ b ∷ c ∷ []) pages few is = ap entries_of (sym (same_Some _ _ is))
entries_of_some (a ∷ b ∷ c ∷ d ∷ rest) pages few is = absurd (omega arith)

short : (es : List DirtyPage) → length (take 3 es) ≤ 3
short es = omega (arith, length-take 3 es)

none_of_some : (es : List DirtyPage) → pages_of es ≡ None → es ≡ []
none_of_some [] is = refl
none_of_some (a ∷ []) is = cc
none_of_some (a ∷ b ∷ []) is = cc
none_of_some (a ∷ b ∷ c ∷ rest) is = cc

-- a checkpoint as its session has it, at that point of the gather
abbrev view_at : {P : Type 0} → EngineState → Checkpoint → P → CkptView P
view_at s c phase = record {
  begin = c.begin;
  pages = page_count_below (log_of s) c.begin;
  redo = redo_point c;
  phase = phase;
}

-- as the session of its pages has it
abbrev view_of : EngineState → Checkpoint → CkptView ℕ
view_of s c = view_at s c (behind_pages c)

more : (s : EngineState) (c : Checkpoint) (pages : DirtyPages) → IsFit s → open_checkpoint s.log ≡ Some c
    → FindsPages s c (Some pages) → MorePages (log_of s) s.stored s.written (view_of s c) pages
more s c pages fit is finds =
    let now = gathering_of s c pages_left fit is finds.left in
    let next = next_dirty (dirty s.log s.written) (behind_pages c) in
    let few : length next ≤ 3 = short (filter (λ e. nat_le (behind_pages c) e.page) (dirty s.log s.written)) in
    more_pages (log_of s) s.stored s.written s.writing (view_of s c) pages fit.valid (sym fit.counted.written)
    fit.stored now.ckpt now.covered (entries_of_some next pages few finds.found)

pub pages_follow : (s : EngineState) (c : Checkpoint) (pages : DirtyPages) → IsFit s → open_checkpoint s.log ≡ Some c
    → FindsPages s c (Some pages) → MayFollow s.log (pages_record s c pages)
pages_follow s c pages fit is finds = (more s c pages fit is finds).follows

pub pages_stand : (s : EngineState) (c : Checkpoint) (pages : DirtyPages) → IsFit s → open_checkpoint s.log ≡ Some c
    → FindsPages s c (Some pages) → length s.log < MAX_RECORDS → StandsAt (volume_pages s) (end s) (pages_record s c pages)
pages_stand s c pages fit is finds few = (more s c pages fit is finds).stands few

-- the cursor is behind the last page
cursor_after : (c : Checkpoint) (pages : DirtyPages)
    → behind_pages (with_pages (entries_of pages) c) ≡ last_page pages + 1
cursor_after c (One a) = ap (λ o. option_map_or (λ (e : DirtyPage). e.page + 1) o 0) (last_append c.pages a [])
cursor_after c (Two a b) = ap (λ o. option_map_or (λ (e : DirtyPage). e.page + 1) o 0) (last_append c.pages a (b ∷ []))
cursor_after c (Three a b d) =
    ap (λ o. option_map_or (λ (e : DirtyPage). e.page + 1) o 0) (last_append c.pages a (b ∷ d ∷ []))

pub past_is_session : (log : Log) (c : Checkpoint) (pages : DirtyPages)
    → past_pages pages (session_of log pages_left c) ≡ session_of log pages_left (with_pages (entries_of pages) c)
past_is_session log c pages = λ i. record {
  begin = c.begin;
  pages = page_count_below log c.begin;
  redo = sym (fold-append (λ least (e : DirtyPage). min least e.rec_lsn) c.begin c.pages (entries_of pages)) i;
  phase = in_pages (sym (cursor_after c pages) i);
}

-- what holds of the checkpoint that is open after a record
opened : (s : EngineState) (r : Record) (c after : Checkpoint) (left : Left) → open_checkpoint s.log ≡ Some c
    → checkpoint_after (Some c) r ≡ Some after → IsGathering (with_next (log_of s) (r ∷ [])) s.stored left after
    → AreGathered (with_next (log_of s) (r ∷ [])) s.stored left
opened s r c after left is then gathers =
    subst (λ (o : Option Checkpoint). IfSome o (IsGathering (with_next (log_of s) (r ∷ [])) s.stored left))
    (sym (open_push s.log r ∙ ap (λ (o : Option Checkpoint). checkpoint_after o r) is ∙ then)) gathers

pub pages_gathered : (s : EngineState) (c : Checkpoint) (pages : DirtyPages) → IsFit s → open_checkpoint s.log ≡ Some c
    → FindsPages s c (Some pages)
    → AreGathered (with_next (log_of s) (pages_record s c pages ∷ [])) s.stored pages_left
pages_gathered s c pages fit is finds =
    let r = pages_record s c pages in
    let found = more s c pages fit is finds in
    let at = past_is_session (log_of s) c pages
    ∙ sym (session_same (log_of s) r pages_left (with_pages (entries_of pages) c) (begun_before s c fit is)) in
    opened s r c (with_pages (entries_of pages) c) pages_left is refl (record {
      ckpt = subst (IsCkptOf (with_next (log_of s) (r ∷ []))) at found.kept;
      covered = subst (AreCovered (s.log ++ r ∷ []) s.stored) at found.covered;
    })

-- no page is left
pub first_txn : (s : EngineState) (c : Checkpoint) → IsFit s → open_checkpoint s.log ≡ Some c → s.left ≡ pages_left
    → behind_txns c ≡ 0
first_txn s c fit is left =
    let now = gathering_of s c pages_left fit is left in
    let same : now.ckpt.ckpt ≡ c = same_Some _ _ (sym now.ckpt.still_open ∙ is) in
    let empty : c.txns ≡ [] = ap (λ (x : Checkpoint). x.txns) (sym same) ∙ now.ckpt.behind.1 in
    ap (λ (ts : List ℕ). option_map_or (λ t. t + 1) (last_of ts) 0) empty

pub pages_passed : (s : EngineState) (c : Checkpoint) → IsFit s → open_checkpoint s.log ≡ Some c
    → FindsPages s c None → AreGathered (log_of s) s.stored txns_left
pages_passed s c fit is finds =
    let now = gathering_of s c pages_left fit is finds.left in
    let none = none_of_some (next_dirty (dirty s.log s.written) (behind_pages c)) finds.found in
    let at : in_txns 0 ≡ in_txns (behind_txns c) = ap in_txns (sym (first_txn s c fit is finds.left)) in
    subst (λ (o : Option Checkpoint). IfSome o (IsGathering (log_of s) s.stored txns_left)) (sym is) (record {
      ckpt = subst (λ (p : Phase). IsCkptOf (log_of s) (view_at s c p)) at (none_kept (log_of s) (view_of s c) now.ckpt);
      covered = subst (λ (p : Phase). AreCovered s.log s.stored (view_at s c p)) at
          (none_covered (log_of s) s.stored s.written s.writing (view_of s c) fit.valid
          (sym fit.counted.written) fit.stored
          now.covered none 0);
    })

-- ---- open transactions

-- the checkpoint as the session of its transactions has it
abbrev txn_view : EngineState → Checkpoint → CkptView ℕ
txn_view s c = view_at s c (behind_txns c)

one_more : (s : EngineState) (c : Checkpoint) (t : ℕ) → IsFit s → open_checkpoint s.log ≡ Some c → FindsTxn s c (Some t)
    → MoreTxns (log_of s) (txn_view s c) t
one_more s c t fit is finds =
    let now = gathering_of s c txns_left fit is finds.left in
    more_txns (log_of s) (txn_view s c) t fit.valid fit.linked now.ckpt finds.found

pub txn_follows : (s : EngineState) (c : Checkpoint) (t : ℕ) → IsFit s → open_checkpoint s.log ≡ Some c
    → FindsTxn s c (Some t) → MayFollow s.log (txn_entry s c t)
txn_follows s c t fit is finds = (one_more s c t fit is finds).follows

pub txn_stand : (s : EngineState) (c : Checkpoint) (t : ℕ) → IsFit s → open_checkpoint s.log ≡ Some c
    → FindsTxn s c (Some t) → length s.log < MAX_RECORDS → StandsAt (volume_pages s) (end s) (txn_entry s c t)
txn_stand s c t fit is finds few = (one_more s c t fit is finds).stands few

-- the cursor is behind the last transaction
pub cursor_after_txn : (c : Checkpoint) (t : ℕ) → behind_txns (with_txn t c) ≡ t + 1
cursor_after_txn c t = ap (λ o. option_map_or (λ (n : ℕ). n + 1) o 0) (last_append c.txns t [])

pub txn_gathered : (s : EngineState) (c : Checkpoint) (t : ℕ) → IsFit s → open_checkpoint s.log ≡ Some c
    → FindsTxn s c (Some t) → AreGathered (with_next (log_of s) (txn_entry s c t ∷ [])) s.stored txns_left
txn_gathered s c t fit is finds =
    let r = txn_entry s c t in
    let now = gathering_of s c txns_left fit is finds.left in
    let found = one_more s c t fit is finds in
    let at : in_txns (t + 1) ≡ in_txns (behind_txns (with_txn t c)) = ap in_txns (sym (cursor_after_txn c t)) in
    opened s r c (with_txn t c) txns_left is refl (record {
      ckpt = subst (IsCkptOf (with_next (log_of s) (r ∷ [])))
          (ap (view_at s c) at ∙ sym (session_same (log_of s) r txns_left (with_txn t c) (begun_before s c fit is))) found.kept;
      covered = λ p d lt passed. txns_cover (log_of s)
          (txn_view s c) s.stored r fit.valid now.ckpt refl now.covered p d lt;
    })

pub txns_passed : (s : EngineState) (c : Checkpoint) → IsFit s → open_checkpoint s.log ≡ Some c
    → FindsTxn s c None → AreGathered (log_of s) s.stored none_left
txns_passed s c fit is finds =
    let now = gathering_of s c txns_left fit is finds.left in
    subst (λ (o : Option Checkpoint). IfSome o (IsGathering (log_of s) s.stored none_left)) (sym is) (record {
      ckpt = all_passed (log_of s) (txn_view s c) now.ckpt finds.found;
      covered = λ p d lt passed. now.covered p d lt tt;
    })

-- ---- the end

pub end_ckpt_follows : (s : EngineState) (c : Checkpoint) → IsFit s → open_checkpoint s.log ≡ Some c
    → s.left ≡ none_left
    → MayFollow s.log (end_ckpt_record s c)
end_ckpt_follows s c fit is done =
    let now = gathering_of s c none_left fit is done in
    let same : now.ckpt.ckpt ≡ c = same_Some _ _ (sym now.ckpt.still_open ∙ is) in
    subst (λ (o : Option Checkpoint). IsSomeAnd o (λ x. MayEnd c.begin (redo_point c) x × HasOldTxns s.log x)) (sym is)
    (record { same = refl; least = refl }, subst (HasOldTxns s.log) same now.ckpt.behind)

pub end_ckpt_stands : (s : EngineState) (c : Checkpoint) → IsFit s → open_checkpoint s.log ≡ Some c
    → s.left ≡ none_left → length s.log < MAX_RECORDS → StandsAt (volume_pages s) (end s) (end_ckpt_record s c)
end_ckpt_stands s c fit is done few =
    end_stands (log_of s) (session_of (log_of s) none_left c) fit.valid (gathering_of s c none_left fit is done).ckpt few

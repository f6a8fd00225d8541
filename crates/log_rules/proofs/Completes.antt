-- Complete checkpoints of linked logs.
use Rattle.std.proofs.Common.{◌≡◌, ◌↔◌, ℕ, suc, ◌<◌, ◌≤◌, List, [], ◌∷◌, ◌++◌, length, get_or, take, drop, min, refl}
use Rattle.std.proofs.Common.{sym, ap, subst, ◌∙◌, arith, append_assoc, drop-cons}
use Rattle.std.specs.Prelude.{Option, Some, None, IsSomeAnd, Contains}
use Rattle.std.proofs.lemmas.List.{get_or_at, length-append, take-append-drop}
use Rattle.std.specs.List.{fold}
use Rattle.log_records.specs.declared.dirty_page.DirtyPage.{DirtyPage}
use Rattle.log_records.specs.declared.record.Record.{Record}
use Rattle.log_records.specs.declared.record.Record.TheVariants.{EndChkpt}
use Rattle.log_rules.specs.Checkpoint.{Checkpoint, IsCompleteCheckpoint, open_checkpoint}
use Rattle.log_rules.specs.Linked.{HasOldTxns, IsLinked, MayEnd, MayFollow}

-- ---- where its end stands

-- a record of a list stands between those before and those behind it
around : (rs : List Record) (i : ℕ) (r : Record) → i < length rs → get_or rs i r ≡ r
    → rs ≡ take i rs ++ r ∷ drop (suc i) rs
around rs i r lt is =
    sym (take-append-drop i rs)
    ∙ ap (λ (b : List Record). take i rs ++ b) (drop-cons rs i r lt ∙ ap (λ (x : Record). x ∷ drop (suc i) rs) is)

same_begin : (o : Option Checkpoint) (begin redo : ℕ) (P : Checkpoint → Type 0)
    → IsSomeAnd o (λ c. MayEnd begin redo c × P c) → IsSomeAnd o (λ c. c.begin ≡ begin)
same_begin (Some c) begin redo P may = sym may.0.same
same_begin None begin redo P may = may

ended_in : (rs : List Record) (i begin end redo : ℕ) → IsLinked rs → i < length rs
    → get_or rs i (EndChkpt end begin redo) ≡ EndChkpt end begin redo → MayFollow (take i rs) (EndChkpt end begin redo)
ended_in rs i begin end redo linked lt is =
    subst (MayFollow (take i rs)) is (linked i (EndChkpt end begin redo) lt)

pub complete-of_end : (rs : List Record) (begin end redo : ℕ) → IsLinked rs → Contains rs (EndChkpt end begin redo)
    → IsCompleteCheckpoint rs begin end
complete-of_end rs begin end redo linked (i, lt, is) =
    let may = ended_in rs i begin end redo linked lt is in
    record {
      before = take i rs;
      behind = drop (suc i) rs;
      redo = redo;
      ended = around rs i (EndChkpt end begin redo) lt is;
      begun = same_begin (open_checkpoint (take i rs)) begin redo (HasOldTxns (take i rs)) may;
    }

pub end-of_complete : (rs : List Record) (begin end : ℕ) → IsCompleteCheckpoint rs begin end
    → (redo : ℕ) × Contains rs (EndChkpt end begin redo)
end-of_complete rs begin end is =
    let r = EndChkpt end begin is.redo in
    let i = length is.before in
    let long = ap length is.ended ∙ length-append is.before (r ∷ is.behind) in
    let lt : i < length rs = omega (arith, long) in
    (is.redo, (i, lt, ap (λ (xs : List Record). get_or xs i r) is.ended ∙ get_or_at is.before r is.behind r i refl))

pub complete_by_end : (rs : List Record) (begin end : ℕ) → IsLinked rs
    → IsCompleteCheckpoint rs begin end ↔ ((redo : ℕ) × Contains rs (EndChkpt end begin redo))
complete_by_end rs begin end linked =
    (end-of_complete rs begin end, λ has. complete-of_end rs begin end has.0 linked has.1)

-- ---- as the log goes on

pub complete_later : (rs more : List Record) (begin end : ℕ) → IsCompleteCheckpoint rs begin end
    → IsCompleteCheckpoint (rs ++ more) begin end
complete_later rs more begin end is = record {
  before = is.before;
  behind = is.behind ++ more;
  redo = is.redo;
  ended = ap (λ (xs : List Record). xs ++ more) is.ended
      ∙ append_assoc is.before (EndChkpt end begin is.redo ∷ is.behind) more;
  begun = is.begun;
}

-- ---- its redo point

least-start : (n : ℕ) (es : List DirtyPage) → fold (λ least (e : DirtyPage). min least e.rec_lsn) n es ≤ n
least-start n [] = omega arith
least-start n (e ∷ es) = let rest = least-start (min n e.rec_lsn) es in omega (arith, rest)

not_past : (o : Option Checkpoint) (begin redo : ℕ) (P : Checkpoint → Type 0)
    → IsSomeAnd o (λ c. MayEnd begin redo c × P c) → redo ≤ begin
not_past (Some c) begin redo P may =
    let below = least-start c.begin c.pages in
    let least = may.0.least in
    let same = may.0.same in
    omega (arith, below, least, same)
not_past None begin redo P may = absurd may

pub redo_not_past : (rs : List Record) (begin end redo : ℕ) → IsLinked rs → Contains rs (EndChkpt end begin redo)
    → redo ≤ begin
redo_not_past rs begin end redo linked (i, lt, is) =
    not_past (open_checkpoint (take i rs)) begin redo (HasOldTxns (take i rs))
    (ended_in rs i begin end redo linked lt is)

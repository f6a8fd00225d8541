-- Undo appends no Commit.
use Rattle.std.proofs.Common.{◌≡◌, ℕ, Bool, true, false, cond, List, [], ◌∷◌, refl, ◌∙◌}
use Rattle.std.specs.List.{fold}
use Rattle.log_records.specs.declared.record.Record.{Record}
use Rattle.log_rules.specs.Committed.{committed}
use Rattle.log_rules.proofs.Public.{committed_push}
use Rattle.loser_undo.specs.Undo.{LostChange, after_undo, comp_of, end_of, is_undone, lost_changes, spent, with_comp}
use Rattle.loser_undo.specs.Undo.{with_end, taken_back}

committed_with_end : (rs : List Record) (t : ℕ) → committed (with_end rs t) ≡ committed rs
committed_with_end rs t = committed_push rs (end_of rs t)

committed_without : (rs : List Record) (l : LostChange) → committed (taken_back rs l) ≡ committed rs
unfolding taken_back
committed_without rs l = by (is_undone (with_comp rs l) l.txn) ∙ committed_push rs (comp_of rs l)
  where
    by : (b : Bool) → committed (cond b (with_end (with_comp rs l) l.txn) (with_comp rs l)) ≡ committed (with_comp rs l)
    by true = committed_with_end (with_comp rs l) l.txn
    by false = refl

over : {X : Type 0} (f : List Record → X → List Record)
    → ((rs : List Record) (x : X) → committed (f rs x) ≡ committed rs) → (rs : List Record) (xs : List X)
    → committed (fold f rs xs) ≡ committed rs
over f same rs [] = refl
over f same rs (x ∷ xs) = over f same (f rs x) xs ∙ same rs x

pub committed_stays : (rs : List Record) → committed (after_undo rs) ≡ committed rs
unfolding after_undo
committed_stays rs =
    over taken_back committed_without (fold with_end rs (spent rs)) (lost_changes rs)
    ∙ over with_end committed_with_end rs (spent rs)

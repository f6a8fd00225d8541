-- Undo, computed on small logs.
use Rattle.std.proofs.Common.{◌≡◌, List, [], ◌∷◌, ◌++◌, refl, take}
use Rattle.page_core.specs.declared.change.Change.TheVariants.{Set, Add}
use Rattle.page_core.specs.Page.{formatted}
use Rattle.log_records.specs.declared.record.Record.{Record}
use Rattle.log_records.specs.declared.record.Record.TheVariants.{Begin, Update, Comp, Commit, Abort, End, BeginChkpt}
use Rattle.log_records.specs.declared.record.Record.TheVariants.{ChkptTxns, EndChkpt}
use Rattle.log_records.specs.declared.txn_phase.TxnPhase.TheVariants.{Active}
use Rattle.log_records.specs.Image.{image}
use Rattle.log_rules.specs.Linked.{number_in}
use Rattle.loser_undo.specs.Undo.{after_undo, taken_back}

-- three losers, the last of them with nothing pending: its End comes first, and the others' changes fall by LSN
three : List Record
three = Begin 64 1 ∷ Begin 128 2 ∷ Begin 192 3 ∷ Update 256 1 64 0 0 (Add 1) ∷ Update 320 2 128 0 1 (Add 2)
    ∷ Update 384 1 256 0 2 (Add 3) ∷ []

three_undone : after_undo three ≡ three
    ++ (End 448 3 192
    ∷ Comp 512 1 384 256 0 2 (Add 18446744073709551613)
    ∷ Comp 576 2 320 128 0 1 (Add 18446744073709551614) ∷ End 640 2 576
    ∷ Comp 704 1 512 64 0 0 (Add 18446744073709551615) ∷ End 768 1 704 ∷ [])
unfolding three after_undo taken_back
three_undone = refl

-- Adds of two transactions on one slot, of which one commits, and then a Set
mixed : List Record
mixed = BeginChkpt 64 ∷ EndChkpt 128 64 64 ∷ Begin 192 1 ∷ Begin 256 2 ∷ Update 320 1 192 0 0 (Add 5)
    ∷ Update 384 2 256 0 0 (Add 3) ∷ Commit 448 2 384 ∷ Update 512 1 320 0 0 (Set 8 10) ∷ []

mixed_undone : after_undo mixed ≡ mixed
    ++ (Comp 576 1 512 320 0 0 (Set 0 8) ∷ Comp 640 1 576 192 0 0 (Add 18446744073709551611) ∷ End 704 1 640 ∷ [])
unfolding mixed after_undo taken_back
mixed_undone = refl

mixed_number : number_in (after_undo mixed) 0 0 ≡ 3
unfolding mixed after_undo taken_back formatted
mixed_number = refl

mixed_lsn : (image (after_undo mixed) 0).lsn ≡ 640
unfolding mixed after_undo taken_back formatted
mixed_lsn = refl

-- what undo makes of it without its last record
mixed_cut : after_undo (take 7 mixed) ≡ take 7 mixed
    ++ (Comp 512 1 320 192 0 0 (Add 18446744073709551611) ∷ End 576 1 512 ∷ [])
unfolding mixed after_undo taken_back
mixed_cut = refl

-- and without the Commit too
uncommitted : after_undo (take 6 mixed) ≡ take 6 mixed
    ++ (Comp 448 2 384 256 0 0 (Add 18446744073709551613) ∷ End 512 2 448
    ∷ Comp 576 1 320 192 0 0 (Add 18446744073709551611) ∷ End 640 1 576 ∷ [])
unfolding mixed after_undo taken_back
uncommitted = refl

-- a rollback that had begun: what was taken back is not taken back again, and no Abort is asked for
partly : List Record
partly = BeginChkpt 64 ∷ EndChkpt 128 64 64 ∷ Begin 192 1 ∷ Update 256 1 192 0 0 (Add 5)
    ∷ Update 320 1 256 0 1 (Add 7) ∷ BeginChkpt 384 ∷ ChkptTxns 448 384 1 Active 320 320 ∷ EndChkpt 512 384 384
    ∷ Abort 576 1 320 ∷ Comp 640 1 576 256 0 1 (Add 18446744073709551609) ∷ []

partly_undone : after_undo partly ≡ partly
    ++ (Comp 704 1 640 192 0 0 (Add 18446744073709551611) ∷ End 768 1 704 ∷ [])
unfolding partly after_undo taken_back
partly_undone = refl

-- nothing is left of a transaction, but its End
ended_only : after_undo (Begin 64 1 ∷ Update 128 1 64 0 0 (Set 0 5) ∷ Comp 192 1 128 64 0 0 (Set 0 0) ∷ [])
    ≡ Begin 64 1 ∷ Update 128 1 64 0 0 (Set 0 5) ∷ Comp 192 1 128 64 0 0 (Set 0 0) ∷ End 256 1 192 ∷ []
unfolding after_undo taken_back
ended_only = refl

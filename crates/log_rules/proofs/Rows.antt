-- The definitions on worked logs: what they compute to.
use Rattle.std.proofs.Common.{◌≡◌, zero, suc, false, ◌-◌, ◌^◌, List, [], ◌∷◌, ◌++◌, take, map, refl, arith, ℕ, lit<, lit≤}
use Rattle.std.specs.Prelude.{Some, None, Contains}
use Rattle.page_core.specs.declared.change.Change.TheVariants.{Set, Add}
use Rattle.page_core.specs.declared.change.ChangeKind.TheVariants as kind
use Rattle.page_core.specs.Page.{formatted}
use Rattle.log_rules.specs.declared.pending_change.PendingChange.{PendingChange}
use Rattle.log_records.specs.declared.record.Record.{Record}
use Rattle.log_records.specs.declared.record.Record.TheVariants.{Begin, Update, Comp, Commit, Abort, End, BeginChkpt}
use Rattle.log_records.specs.declared.record.Record.TheVariants.{ChkptPages, ChkptTxns, EndChkpt}
use Rattle.log_records.specs.declared.dirty_page.DirtyPages.{DirtyPages}
use Rattle.log_records.specs.declared.dirty_page.DirtyPages.TheVariants.{One}
use Rattle.log_records.specs.declared.txn_phase.TxnPhase.{TxnPhase}
use Rattle.log_records.specs.declared.txn_phase.TxnPhase.TheVariants.{Active, Rolling}
use Rattle.log_rules.specs.Checkpoint.{open_checkpoint, redo_point}
use Rattle.std.specs.Option.{option_map}
use Rattle.log_rules.specs.Transactions.{begun, holder, is_rolling, open_in, owed, pending}
use Rattle.log_rules.specs.Linked.{HasOldTxns, IsLinked, MayFollow, number_in}
use Rattle.log_rules.specs.Committed.{committed}
use Rattle.log_rules.specs.Savepoints.{savepoint}
use Rattle.log_rules.specs.Work.{AbortCall, AddCall, BeginCall, CommitCall, SetCall, UndoCall, UndoToCall, work}

-- ---- a transaction that commits

abbrev committing : List Record
committing =
    Begin 64 1
    ∷ Update 128 1 64 0 3 (Set 0 7)
    ∷ Update 192 1 128 0 3 (Add 5)
    ∷ Commit 256 1 192
    ∷ []

none_open : open_in committing ≡ []
none_open = refl

one_begun : begun committing ≡ 1 ∷ []
one_begun = refl

twelve_committed : committed committing 0 3 ≡ 12
twelve_committed = refl

others_stay_zero : committed committing 0 4 ≡ 0
others_stay_zero = refl

calls_of_commit : work committing ≡ BeginCall 1 ∷ SetCall 1 0 3 7 ∷ AddCall 1 0 3 5 ∷ CommitCall 1 ∷ []
calls_of_commit = refl

pub committing_is_linked : IsLinked committing
unfolding formatted
committing_is_linked zero d lt = record { next = refl; room = lit< tt }
committing_is_linked (suc zero) d lt = record {
  active = record { goes_on = record { still_open = refl; chained = refl }; active = refl };
  free = refl;
  replaces = refl;
}
committing_is_linked (suc (suc zero)) d lt = record {
  active = record { goes_on = record { still_open = refl; chained = refl }; active = refl };
  free = refl;
  replaces = tt;
}
committing_is_linked (suc (suc (suc zero))) d lt =
    record { goes_on = record { still_open = refl; chained = refl }; active = refl }
committing_is_linked (suc (suc (suc (suc i)))) d lt = absurd (omega arith)

-- ---- a transaction that aborts and takes its changes back

abbrev aborting : List Record
aborting =
    Begin 64 1
    ∷ Update 128 1 64 0 0 (Set 0 5)
    ∷ Update 192 1 128 0 0 (Add 3)
    ∷ Abort 256 1 192
    ∷ Comp 320 1 256 128 0 0 (Add (2 ^ 64 - 3))
    ∷ Comp 384 1 320 64 0 0 (Set 0 0)
    ∷ End 448 1 384
    ∷ []

abbrev the_set : PendingChange
the_set = record { lsn = 128; prev = 64; page = 0; slot = 0; change = Set 0 5 }

abbrev the_add : PendingChange
the_add = record { lsn = 192; prev = 128; page = 0; slot = 0; change = Add 3 }

prefixes : List (List Record)
prefixes = map (λ n. take n aborting) (1 ∷ 2 ∷ 3 ∷ 4 ∷ 5 ∷ 6 ∷ 7 ∷ [])

pending_after_each : map (λ rs. pending rs 1) prefixes
    ≡ [] ∷ (the_set ∷ []) ∷ (the_set ∷ the_add ∷ []) ∷ (the_set ∷ the_add ∷ []) ∷ (the_set ∷ []) ∷ [] ∷ [] ∷ []
unfolding prefixes
pending_after_each = refl

owed_after_each : map owed prefixes ≡ 2 ∷ 3 ∷ 4 ∷ 3 ∷ 2 ∷ 1 ∷ 0 ∷ []
unfolding prefixes
owed_after_each = refl

slot_after_each : map (λ rs. number_in rs 0 0) prefixes ≡ 0 ∷ 5 ∷ 8 ∷ 8 ∷ 5 ∷ 0 ∷ 0 ∷ []
unfolding prefixes formatted
slot_after_each = refl

nothing_committed : map (λ rs. committed rs 0 0) prefixes ≡ 0 ∷ 0 ∷ 0 ∷ 0 ∷ 0 ∷ 0 ∷ 0 ∷ []
unfolding prefixes
nothing_committed = refl

open_after_each : map open_in prefixes ≡ (1 ∷ []) ∷ (1 ∷ []) ∷ (1 ∷ []) ∷ (1 ∷ []) ∷ (1 ∷ []) ∷ (1 ∷ []) ∷ [] ∷ []
unfolding prefixes
open_after_each = refl

calls_of_abort : work aborting
    ≡ BeginCall 1 ∷ SetCall 1 0 0 5 ∷ AddCall 1 0 0 3 ∷ AbortCall 1 ∷ UndoCall 1 ∷ UndoCall 1 ∷ UndoCall 1 ∷ []
calls_of_abort = refl

pub aborting_is_linked : IsLinked aborting
unfolding formatted
aborting_is_linked zero d lt = record { next = refl; room = lit< tt }
aborting_is_linked (suc zero) d lt = record {
  active = record { goes_on = record { still_open = refl; chained = refl }; active = refl };
  free = refl;
  replaces = refl;
}
aborting_is_linked (suc (suc zero)) d lt = record {
  active = record { goes_on = record { still_open = refl; chained = refl }; active = refl };
  free = refl;
  replaces = tt;
}
aborting_is_linked (suc (suc (suc zero))) d lt =
    record { goes_on = record { still_open = refl; chained = refl }; active = refl }
aborting_is_linked (suc (suc (suc (suc zero)))) d lt = (
  record { still_open = refl; chained = refl },
  record { next = refl; same_page = refl; same_slot = refl; undoes = refl },
)
aborting_is_linked (suc (suc (suc (suc (suc zero))))) d lt = (
  record { still_open = refl; chained = refl },
  record { next = refl; same_page = refl; same_slot = refl; undoes = refl },
)
aborting_is_linked (suc (suc (suc (suc (suc (suc zero)))))) d lt = (record { still_open = refl; chained = refl }, refl)
aborting_is_linked (suc (suc (suc (suc (suc (suc (suc i))))))) d lt = absurd (omega arith)

-- ---- a transaction that takes its last change back, and goes on

abbrev going_back : List Record
going_back =
    Begin 64 1
    ∷ Update 128 1 64 0 0 (Add 5)
    ∷ Update 192 1 128 0 0 (Add 7)
    ∷ Comp 256 1 192 128 0 0 (Add (2 ^ 64 - 7))
    ∷ Update 320 1 256 0 1 (Set 0 9)
    ∷ Commit 384 1 320
    ∷ []

abbrev gone_back : List Record
gone_back = take 5 going_back

still_active : is_rolling gone_back 1 ≡ false
still_active = refl

calls_of_going_back : work going_back
    ≡ BeginCall 1 ∷ AddCall 1 0 0 5 ∷ AddCall 1 0 0 7 ∷ UndoToCall 1 ∷ SetCall 1 0 1 9 ∷ CommitCall 1 ∷ []
calls_of_going_back = refl

owed_on_the_way : map (λ n. owed (take n going_back)) (1 ∷ 2 ∷ 3 ∷ 4 ∷ 5 ∷ 6 ∷ []) ≡ 2 ∷ 3 ∷ 4 ∷ 3 ∷ 4 ∷ 0 ∷ []
owed_on_the_way = refl

what_stays_is_committed : map (committed going_back 0) (0 ∷ 1 ∷ []) ≡ 5 ∷ 9 ∷ []
what_stays_is_committed = refl

-- it may go back to each of its records but the Update that was taken back
savepoints_of_it : map (savepoint gone_back 1) (64 ∷ 128 ∷ 192 ∷ 256 ∷ 320 ∷ 384 ∷ [])
    ≡ Some 0 ∷ Some 1 ∷ None ∷ Some 1 ∷ Some 2 ∷ None ∷ []
savepoints_of_it = refl

pub going_back_is_linked : IsLinked going_back
unfolding formatted
going_back_is_linked zero d lt = record { next = refl; room = lit< tt }
going_back_is_linked (suc zero) d lt = record {
  active = record { goes_on = record { still_open = refl; chained = refl }; active = refl };
  free = refl;
  replaces = tt;
}
going_back_is_linked (suc (suc zero)) d lt = record {
  active = record { goes_on = record { still_open = refl; chained = refl }; active = refl };
  free = refl;
  replaces = tt;
}
going_back_is_linked (suc (suc (suc zero))) d lt = (
  record { still_open = refl; chained = refl },
  record { next = refl; same_page = refl; same_slot = refl; undoes = refl },
)
going_back_is_linked (suc (suc (suc (suc zero)))) d lt = record {
  active = record { goes_on = record { still_open = refl; chained = refl }; active = refl };
  free = refl;
  replaces = refl;
}
going_back_is_linked (suc (suc (suc (suc (suc zero))))) d lt =
    record { goes_on = record { still_open = refl; chained = refl }; active = refl }
going_back_is_linked (suc (suc (suc (suc (suc (suc i)))))) d lt = absurd (omega arith)

-- ---- two transactions on one slot

-- the first has added to it
abbrev added_by_one : List Record
added_by_one = Begin 64 1 ∷ Begin 128 2 ∷ Update 192 1 64 0 0 (Add 3) ∷ []

-- then both have
abbrev added_by_both : List Record
added_by_both = added_by_one ++ Update 256 2 128 0 0 (Add 4) ∷ []

first_keeps_out_a_set : holder added_by_one 0 0 kind.Set 2 ≡ Some 1
first_keeps_out_a_set = refl

not_an_add : holder added_by_one 0 0 kind.Add 2 ≡ None
not_an_add = refl

not_itself : holder added_by_one 0 0 kind.Set 1 ≡ None
not_itself = refl

not_another_slot : holder added_by_one 0 1 kind.Set 2 ≡ None
not_another_slot = refl

second_keeps_out_a_set : holder added_by_both 0 0 kind.Set 1 ≡ Some 2
second_keeps_out_a_set = refl

-- ---- a checkpoint beside an open transaction

abbrev one_dirty : ℕ → DirtyPages
one_dirty rec_lsn = One (record { page = 0; rec_lsn = rec_lsn })

abbrev found_pages : ℕ → Record
found_pages rec_lsn = ChkptPages 256 192 (one_dirty rec_lsn)

abbrev found_txn : TxnPhase → Record
found_txn state = ChkptTxns 320 192 1 state 128 128

abbrev ended_at : ℕ → Record
ended_at redo = EndChkpt 384 192 redo

-- the log up to its BeginChkpt, its ChkptPages and its ChkptTxns
abbrev to_begin : List Record
to_begin = Begin 64 1 ∷ Update 128 1 64 0 0 (Set 0 5) ∷ BeginChkpt 192 ∷ []

abbrev to_pages : List Record
to_pages = to_begin ++ found_pages 128 ∷ []

abbrev to_txns : List Record
to_txns = to_pages ++ found_txn Active ∷ []

abbrev checkpointing : List Record
checkpointing = to_txns ++ ended_at 128 ∷ Commit 448 1 128 ∷ []

open_after_its_pages : open_checkpoint to_pages
    ≡ Some (record { begin = 192; pages = record { page = 0; rec_lsn = 128 } ∷ []; txns = [] })
open_after_its_pages = refl

redo_begins_at_the_change : option_map redo_point (open_checkpoint to_txns) ≡ Some 128
redo_begins_at_the_change = refl

closed_in_the_end : open_checkpoint checkpointing ≡ None
closed_in_the_end = refl

no_calls_of_it : work checkpointing ≡ BeginCall 1 ∷ SetCall 1 0 0 5 ∷ CommitCall 1 ∷ []
no_calls_of_it = refl

pub checkpointing_is_linked : IsLinked checkpointing
unfolding formatted
checkpointing_is_linked zero d lt = record { next = refl; room = lit< tt }
checkpointing_is_linked (suc zero) d lt = record {
  active = record { goes_on = record { still_open = refl; chained = refl }; active = refl };
  free = refl;
  replaces = refl;
}
checkpointing_is_linked (suc (suc zero)) d lt = refl
checkpointing_is_linked (suc (suc (suc zero))) d lt =
    (record { same = refl; early = refl; above = tt }, ((0, lit≤ tt, refl), tt))
checkpointing_is_linked (suc (suc (suc (suc zero)))) d lt = (
  record { same = refl; above = tt },
  record { still_open = refl; same_state = refl; same_last = refl; same_undo = refl },
)
checkpointing_is_linked (suc (suc (suc (suc (suc zero))))) d lt = (
  record { same = refl; least = refl },
  each,
)
  where
    each : HasOldTxns to_txns (record { begin = 192; pages = record { page = 0; rec_lsn = 128 } ∷ []; txns = 1 ∷ [] })
    each zero d lt old = (0, lit≤ tt, refl)
    each (suc k) d lt old = absurd (omega arith)
checkpointing_is_linked (suc (suc (suc (suc (suc (suc zero)))))) d lt =
    record { goes_on = record { still_open = refl; chained = refl }; active = refl }
checkpointing_is_linked (suc (suc (suc (suc (suc (suc (suc i))))))) d lt = absurd (omega arith)

-- the LSN of a Begin is no RecLSN
no_rec_lsn_of_a_begin : MayFollow to_begin (found_pages 64) → ⊥
no_rec_lsn_of_a_begin may = at may.1.0
  where
    at : Contains {X = ℕ} (128 ∷ []) 64 → ⊥
    at (zero, lt, is) = absurd (omega (arith, is))
    at (suc k, lt, is) = absurd (omega (arith, lt))

-- an active transaction is not rolling back
not_rolling_back : MayFollow to_pages (found_txn Rolling) → ⊥
not_rolling_back may = let state = may.1.same_state in cc

-- the redo point is not past the least RecLSN
no_later_redo_point : MayFollow to_txns (ended_at 192) → ⊥
no_later_redo_point may = let least = may.0.least in absurd (omega (arith, least))

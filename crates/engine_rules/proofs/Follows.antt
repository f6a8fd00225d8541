-- The record of an accepted event may come behind the log.
use Rattle.std.proofs.Common.{◌≡◌, ℕ, ◌-◌, true, List, [], ◌∷◌, length, refl, arith}
use Rattle.std.specs.Prelude.{Some, None}
use Rattle.std.proofs.lemmas.Option.{slice_get-get_or}
use Rattle.page_core.specs.declared.change.Change.TheVariants.{Set, Add}
use Rattle.page_core.specs.declared.change.ChangeKind.TheVariants as kind
use Rattle.log_rules.specs.declared.pending_change.PendingChange.{PendingChange}
use Rattle.log_records.specs.declared.record.Record.{Record}
use Rattle.log_rules.specs.Linked.{GoesOn, IsActive, MayFollow, number_in}
use Rattle.log_rules.specs.Transactions.{holder, is_open, last_lsn, last_of, pending}
use Rattle.engine_calls.specs.declared.event.Event.{Event}
use Rattle.engine_rules.specs.EngineState.{EngineState, IsFit, comp_record, end_record}
use Rattle.engine_rules.specs.EngineState.{update_record}
use Rattle.engine_rules.specs.Refusal.{refusal}
use Rattle.engine_rules.proofs.GatherSteps.{end_ckpt_follows, pages_follow, txn_follows}
use Rattle.engine_rules.proofs.Refusals.{ActiveIn, RollsIn}
use Rattle.engine_rules.specs.Call.{record_for}
use Rattle.engine_rules.proofs.Makes.{Makes, MakesAbort, MakesAdd, MakesBegin, MakesBeginChkpt}
use Rattle.engine_rules.proofs.Makes.{MakesCommit, MakesComp, MakesEnd, MakesEndChkpt, MakesExtend}
use Rattle.engine_rules.proofs.Makes.{MakesPages, MakesSet, MakesTxn, makes}

-- a list that has no last element has none
pub none_last : {X : Type 0} (xs : List X) → last_of xs ≡ None → xs ≡ []
none_last [] none = refl
none_last (x ∷ xs) none =
    let last = slice_get-get_or (x ∷ xs) (length (x ∷ xs) - 1) x (omega arith) in cc

goes_on : (s : EngineState) (txn : ℕ) → is_open s.log txn ≡ true → GoesOn s.log txn (last_lsn s.log txn)
goes_on s txn still_open = record { still_open = still_open; chained = refl }

is_active : (s : EngineState) (txn : ℕ) → ActiveIn s txn → IsActive s.log txn (last_lsn s.log txn)
is_active s txn active = record {
  goes_on = record { still_open = active.still_open; chained = refl };
  active = active.active;
}

pub set_follows : (s : EngineState) (txn page slot number : ℕ) → ActiveIn s txn
    → holder s.log page slot kind.Set txn ≡ None
    → MayFollow s.log (update_record s txn page slot (Set (number_in s.log page slot) number))
set_follows s txn page slot number active free =
    record { active = is_active s txn active; free = free; replaces = refl }

pub add_follows : (s : EngineState) (txn page slot amount : ℕ) → ActiveIn s txn
    → holder s.log page slot kind.Add txn ≡ None
    → MayFollow s.log (update_record s txn page slot (Add amount))
add_follows s txn page slot amount active free =
    record { active = is_active s txn active; free = free; replaces = tt }

comp_follows : (s : EngineState) (txn : ℕ) (p : PendingChange) → is_open s.log txn ≡ true
    → last_of (pending s.log txn) ≡ Some p → MayFollow s.log (comp_record s txn p)
comp_follows s txn p still_open last =
    (goes_on s txn still_open, rw last (record { next = refl; same_page = refl; same_slot = refl; undoes = refl }))

end_follows : (s : EngineState) (txn : ℕ) → RollsIn s txn → last_of (pending s.log txn) ≡ None
    → MayFollow s.log (end_record s txn)
end_follows s txn rolls none = (goes_on s txn rolls.still_open, none_last (pending s.log txn) none)

-- ---- the record of an accepted event

pub made_follows : (s : EngineState) (event : Event) (r : Record) → IsFit s → Makes s event r → MayFollow s.log r
made_follows s event r fit (MakesBegin passes) = record { next = refl; room = passes.few }
made_follows s event r fit (MakesSet txn page slot number passes fits) =
    set_follows s txn page slot number passes.active passes.free
made_follows s event r fit (MakesAdd txn page slot amount passes fits) =
    add_follows s txn page slot amount passes.active passes.free
made_follows s event r fit (MakesCommit txn active) = is_active s txn active
made_follows s event r fit (MakesAbort txn active) = is_active s txn active
made_follows s event r fit (MakesComp txn p still_open last) = comp_follows s txn p still_open last
made_follows s event r fit (MakesEnd txn rolls none) = end_follows s txn rolls none
made_follows s event r fit (MakesExtend count grows begins passes) = tt
made_follows s event r fit (MakesBeginChkpt ckpt begins passes) = passes.idle
made_follows s event r fit (MakesPages c pages ckpt is finds room) = pages_follow s c pages fit is finds
made_follows s event r fit (MakesTxn c t ckpt is finds room) = txn_follows s c t fit is finds
made_follows s event r fit (MakesEndChkpt c ckpt is done room) = end_ckpt_follows s c fit is done

pub follows : (s : EngineState) (event : Event) (r : Record) → IsFit s → refusal s event ≡ None
    → record_for s event ≡ Some r → MayFollow s.log r
follows s event r fit none made = made_follows s event r fit (makes s event r none made)

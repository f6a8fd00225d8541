-- The record of an accepted event may stand at the end of the log.
use Rattle.std.proofs.Common.{◌≡◌, ℕ, ◌^◌, ◌<◌, true, length, refl, arith}
use Rattle.std.specs.Prelude.{Some}
use Rattle.std.proofs.lemmas.List.Elements.{All-weaker}
use Rattle.page_core.specs.declared.change.Change.{Change}
use Rattle.page_core.specs.declared.change.Change.TheVariants.{Set, Add}
use Rattle.page_core.specs.Change.{kind_of}
use Rattle.log_rules.specs.declared.pending_change.PendingChange.{PendingChange}
use Rattle.log_records.specs.declared.record.Record.{Record}
use Rattle.log_records.specs.declared.record.Record.TheVariants as log
use Rattle.log_rules.specs.Linked.{number_in}
use Rattle.log_records.specs.Log.{StandsAt}
use Rattle.log_records.specs.Record.{IsBefore, IsChange, IsLsn, IsRecord, IsTxn}
use Rattle.log_rules.specs.Transactions.{is_open, last_lsn, last_of, pending}
use Rattle.engine_calls.specs.declared.event.Event.{Event}
use Rattle.engine_rules.specs.EngineState.{EngineState, IsFit, abort_record, commit_record}
use Rattle.engine_rules.specs.EngineState.{comp_record, end, end_record, log_of, next_txn}
use Rattle.engine_rules.specs.EngineState.{update_record, volume_pages}
use Rattle.engine_calls.specs.EventFits.{EventFits}
use Rattle.log_rules.proofs.Public.{StandsBefore, all_stand, last_lsn_is_before, last_pending}
use Rattle.log_rules.proofs.Public.{length_begun, lsn_is_lsn, open_is_txn, undo_fits}
use Rattle.log_rules.proofs.Public.{undo_has_no_before}
use Rattle.engine_rules.proofs.GatherSteps.{end_ckpt_stands, pages_stand, txn_stand}
use Rattle.engine_rules.proofs.Numbers.{number_fits}
use Rattle.log_records.proofs.Public.{page_count-is_count}
use Rattle.engine_rules.proofs.Refusals.{ChangePasses}
use Rattle.engine_rules.proofs.Makes.{Makes, MakesAbort, MakesAdd, MakesBegin, MakesBeginChkpt}
use Rattle.engine_rules.proofs.Makes.{MakesCommit, MakesComp, MakesEnd, MakesEndChkpt, MakesExtend}
use Rattle.engine_rules.proofs.Makes.{MakesPages, MakesSet, MakesTxn}

abbrev pub StandsAtEnd : EngineState → Record → Type 0
StandsAtEnd s r = StandsAt (volume_pages s) (end s) r

-- ---- its parts

end_is_lsn : (s : EngineState) → IsFit s → IsLsn (end s)
end_is_lsn s fit = lsn_is_lsn (length s.log) fit.valid.count

-- the numbers of a record of an open transaction
record OpenParts (s : EngineState) (txn : ℕ) : Type 0 where
  lsn : IsLsn (end s)
  number : IsTxn txn
  prev : IsBefore (end s) (last_lsn s.log txn)

open_parts : (s : EngineState) (txn : ℕ) → IsFit s → is_open s.log txn ≡ true → OpenParts s txn
open_parts s txn fit still_open = record {
  lsn = end_is_lsn s fit;
  number = open_is_txn s.log txn fit.linked fit.valid.count still_open;
  prev = last_lsn_is_before (log_of s) txn fit.valid still_open;
}

-- ---- each record

begin_stands : (s : EngineState) → IsFit s → StandsAtEnd s (log.Begin (end s) (next_txn s))
begin_stands s fit = record {
  lsn = refl;
  valid = (
    end_is_lsn s fit,
    record { first = omega arith; fits = let few = fit.valid.count in omega (arith, length_begun s.log) },
  );
  within = tt;
}

update_stands : (s : EngineState) (txn page slot : ℕ) (change : Change) → IsFit s
    → ChangePasses s txn page slot (kind_of change) → IsChange change
    → StandsAtEnd s (update_record s txn page slot change)
update_stands s txn page slot change fit passes fits =
    let parts = open_parts s txn fit passes.active.still_open in
    let within = passes.place.within in
    record {
      lsn = refl;
      valid = (
        parts.lsn,
        parts.number,
        parts.prev,
        record { page = let most = (page_count-is_count (log_of s) fit.valid).most in omega arith; slot = passes.place.fits; change = fits },
      );
      within = within;
    }

set_fits : (s : EngineState) (page slot number : ℕ) → IsFit s → number < 2 ^ 64
    → IsChange (Set (number_in s.log page slot) number)
set_fits s page slot number fit fits =
    let all = all_stand (log_of s) fit.valid in
    let before = All-weaker (StandsBefore (volume_pages s) (end s)) IsRecord (λ r stands. stands.valid) s.log all in
    (number_fits s.log page slot before, fits)

commit_stands : (s : EngineState) (txn : ℕ) → IsFit s → is_open s.log txn ≡ true
    → StandsAtEnd s (commit_record s txn)
commit_stands s txn fit still_open =
    let parts = open_parts s txn fit still_open in
    record { lsn = refl; valid = (parts.lsn, parts.number, parts.prev); within = tt }

abort_stands : (s : EngineState) (txn : ℕ) → IsFit s → is_open s.log txn ≡ true
    → StandsAtEnd s (abort_record s txn)
abort_stands s txn fit still_open =
    let parts = open_parts s txn fit still_open in
    record { lsn = refl; valid = (parts.lsn, parts.number, parts.prev); within = tt }

end_stands : (s : EngineState) (txn : ℕ) → IsFit s → is_open s.log txn ≡ true
    → StandsAtEnd s (end_record s txn)
end_stands s txn fit still_open =
    let parts = open_parts s txn fit still_open in
    record { lsn = refl; valid = (parts.lsn, parts.number, parts.prev); within = tt }

comp_stands : (s : EngineState) (txn : ℕ) (p : PendingChange) → IsFit s → is_open s.log txn ≡ true
    → last_of (pending s.log txn) ≡ Some p → StandsAtEnd s (comp_record s txn p)
comp_stands s txn p fit still_open last =
    let parts = open_parts s txn fit still_open in
    let change = last_pending (log_of s) txn p fit.valid last in
    let fits = change.fits in
    record {
      lsn = refl;
      valid = (
        parts.lsn,
        parts.number,
        parts.prev,
        record { page = fits.page; slot = fits.slot; change = undo_fits p.change fits.change },
        change.prev,
        undo_has_no_before p.change,
      );
      within = change.within;
    }

-- ---- the record of an accepted event

pub stands : (s : EngineState) (event : Event) (r : Record) → IsFit s → EventFits event → Makes s event r
    → StandsAtEnd s r
stands s event r fit fits (MakesBegin passes) = begin_stands s fit
stands s event r fit fits (MakesSet txn page slot number passes number_fits) =
    update_stands s txn page slot (Set (number_in s.log page slot) number) fit passes
    (set_fits s page slot number fit (number_fits fits))
stands s event r fit fits (MakesAdd txn page slot amount passes amount_fits) =
    update_stands s txn page slot (Add amount) fit passes (amount_fits fits)
stands s event r fit fits (MakesCommit txn active) = commit_stands s txn fit active.still_open
stands s event r fit fits (MakesAbort txn active) = abort_stands s txn fit active.still_open
stands s event r fit fits (MakesComp txn p still_open last) = comp_stands s txn p fit still_open last
stands s event r fit fits (MakesEnd txn rolls none) = end_stands s txn fit rolls.still_open
stands s event r fit fits (MakesExtend count grows begins passes) = record {
  lsn = refl;
  valid = (end_is_lsn s fit, record { least = let more = passes.more in omega arith; most = passes.few });
  within = tt;
}
stands s event r fit fits (MakesBeginChkpt ckpt begins passes) =
    record { lsn = refl; valid = end_is_lsn s fit; within = tt }
stands s event r fit fits (MakesPages c pages ckpt is finds room) = pages_stand s c pages fit is finds (omega arith)
stands s event r fit fits (MakesTxn c t ckpt is finds room) = txn_stand s c t fit is finds (omega arith)
stands s event r fit fits (MakesEndChkpt c ckpt is done room) = end_ckpt_stands s c fit is done (omega arith)

-- Laws of checkpoints, of steps and of whole runs.
use Rattle.std.proofs.Common.{◌≡◌, ℕ, ◌-◌, ◌/◌, ◌<◌, ◌≤◌, ◌↔◌, ◌++◌, Bool, true, false, not, List}
use Rattle.std.proofs.Common.{[], ◌∷◌, get_or, length, refl, sym, ap, subst, subst₂, ◌∙◌, arith}
use Rattle.std.proofs.Common.{inl, inr}
use Rattle.std.specs.Prelude.{Option, Some, None, IfSome, IsSome, IsSomeAnd, Result, Ok, Err}
use Rattle.std.specs.Prelude.{is_none, is_some}
use Rattle.std.proofs.lemmas.List.{length_push}
use Rattle.page_core.specs.declared.page.Page.{Page}
use Rattle.log_records.specs.declared.record.Record.TheVariants as log
use Rattle.log_records.specs.Coverage.{Covers}
use Rattle.log_rules.specs.Checkpoint.{Checkpoint, IsCompleteCheckpoint, open_checkpoint}
use Rattle.log_rules.specs.Checkpoint.{redo_point, checkpoint_after}
use Rattle.fuzzy_ckpt.specs.declared.point.Point.{Point}
use Rattle.fuzzy_ckpt.proofs.Public.{open_push, begun_is}
use Rattle.engine_calls.specs.declared.event.Answer.{Answer}
use Rattle.engine_calls.specs.declared.event.Answer.TheVariants as answer
use Rattle.engine_calls.specs.declared.event.Event.{Event}
use Rattle.engine_calls.specs.declared.event.Event.TheVariants as event
use Rattle.engine_calls.specs.declared.refusal.Refusal.{Refusal}
use Rattle.engine_calls.specs.declared.refusal.Refusal.TheVariants.{CkptOpen, GatherLeft, LogFault}
use Rattle.engine_calls.specs.declared.refusal.Refusal.TheVariants.{LogFull, NoCkpt, OutOfMemory}
use Rattle.engine_calls.specs.declared.refusal.Refusal.TheVariants.{StoreFault}
use Rattle.engine_rules.specs.CkptReplies.{VolumeSize, gather_from, new_size, point_from}
use Rattle.engine_rules.specs.CkptReplies.{with_gather, with_point, with_size}
use Rattle.engine_rules.specs.EngineState.{EngineState, IsFit, IsMasterOf, Outcome}
use Rattle.engine_rules.specs.EngineState.{begin_ckpt_record, effect, end, end_ckpt_record}
use Rattle.engine_rules.specs.EngineState.{extend_record, log_of, new_state, volume_pages}
use Rattle.engine_rules.proofs.Growth.{count_then, growth_failed}
use Rattle.engine_rules.proofs.Makes.{BeginsNoCkpt, IsBeside, IsNoGrowth, Makes, MakesBeginChkpt}
use Rattle.engine_rules.proofs.Makes.{gives_none}
use Rattle.log_records.specs.declared.record.Record.{Record}
use Rattle.log_records.specs.Log.{Log, lsn_of, page_count, page_count_below, with_next}
use Rattle.log_records.specs.PageCount.{given_count}
use Rattle.log_records.proofs.Public.{page_count-same, count_behind-nil, page_count_at-append}
use Rattle.engine_rules.specs.Gather.{is_done}
use Rattle.engine_rules.specs.Refusal.{has_no_room, or_else, refused_if, refusal}
use Rattle.engine_rules.specs.Run.{Run}
use Rattle.engine_rules.specs.Step.{Fails, Step}
use Rattle.engine_rules.proofs.Beside.{open_stays}
use Rattle.engine_rules.proofs.Gathers.{PassesPages, PassesTxns, TakesPages, TakesTxn, WasDone}
use Rattle.engine_rules.proofs.Gathers.{ckpt_end_is, closed_part, gather_case, passes_pages}
use Rattle.engine_rules.proofs.Gathers.{passes_txns, takes_pages, takes_txn, was_done}
use Rattle.engine_rules.proofs.Refusals.{ckpt_end_passes, end_not_by_device, gather_passes}
use Rattle.engine_rules.proofs.Steps.{stays_or_grows, step_leaves}

-- ---- the master of a fit engine

of_master : (s : EngineState) (point : Point) → IsFit s → s.master ≡ Some point
    → IsMasterOf (log_of s) s.stored s.forced_end point
of_master s point fit is = subst (λ (o : Option Point). IfSome o (IsMasterOf (log_of s) s.stored s.forced_end)) is fit.master

pub master_is_complete : (s : EngineState) (point : Point) → IsFit s → s.master ≡ Some point
    → IsCompleteCheckpoint s.log point.begin point.end × (point.end < s.forced_end)
master_is_complete s point fit is = let has = of_master s point fit is in (has.complete, has.forced)

pub master_has_pages : (s : EngineState) (point : Point) → IsFit s → s.master ≡ Some point
    → point.pages ≡ page_count_below (log_of s) point.begin
master_has_pages s point fit is = (of_master s point fit is).same_pages

pub redo_is_covered : (s : EngineState) (point : Point) (page : ℕ) (d : Page) → IsFit s → page < volume_pages s
    → s.master ≡ Some point → Covers s.log page (get_or s.stored page d) point.redo
redo_is_covered s point page d fit within is =
    let count = fit.counted.stored in
    (of_master s point fit is).covered page d (omega arith)

-- ---- a Point is answered

pub point_is_master : (old : EngineState) (begin end redo : ℕ) (new : EngineState)
    → Step old event.CkptEnd (Ok (answer.Point begin end redo)) new
    → IsSomeAnd (open_checkpoint old.log) (λ c. (begin ≡ c.begin) × (redo ≡ redo_point c))
    × (new.log ≡ old.log ++ log.EndChkpt end begin redo ∷ []) × (end < new.forced_end)
    × (new.master ≡ Some (record {
      begin = begin;
      end = end;
      redo = redo;
      pages = page_count_below (log_of old) begin;
    }))
point_is_master old begin at redo new step =
    let passes = ckpt_end_passes old step.0 in
    let c = passes.ckpt in
    let outcome = ckpt_end_is old c passes.still_open in
    let said : answer.Point begin at redo ≡ answer.Point c.begin (end old) (redo_point c) = step.1
    ∙ ap (λ o. o.answer) outcome in
    let same_begin : begin ≡ c.begin = cc in
    let same_end : at ≡ end old = cc in
    let same_redo : redo ≡ redo_point c = cc in
    let state = step.2 ∙ ap (λ o. o.state) outcome in
    let forced_is = ap (λ (s : EngineState). s.forced_end) state in (
      subst (λ (o : Option Checkpoint). IsSomeAnd o (λ x. (begin ≡ x.begin) × (redo ≡ redo_point x)))
          (sym passes.still_open)
          (same_begin, same_redo),
      rw (same_begin, same_end, same_redo) (ap (λ (s : EngineState). s.log) state),
      omega (arith, same_end, forced_is, length_push old.log (end_ckpt_record old c)),
      rw (same_begin, same_end, same_redo) (ap (λ (s : EngineState). s.master) state),
    )

unforced_at : (old new : EngineState) → Fails old event.CkptEnd LogFault new
    → IsSomeAnd (open_checkpoint old.log) (λ c. (at : ℕ)
    × (new.log ≡ old.log ++ log.EndChkpt at c.begin (redo_point c) ∷ []) × (new.forced_end ≤ at))
    × (open_checkpoint new.log ≡ None) × (new.master ≡ old.master)
unforced_at old new fails =
    let part = closed_part old new fails in
    let c = part.0 in
    let r = end_ckpt_record old c in
    let state = part.2.reached.2 in
    let log_is : new.log ≡ old.log ++ r ∷ [] = ap (λ (s : EngineState). s.log) state in
    let forced_is = ap (λ (s : EngineState). s.forced_end) state in
    let before = part.2.reached.1 in (
      subst (λ (o : Option Checkpoint). IsSomeAnd o (λ x. (at : ℕ)
          × (new.log ≡ old.log ++ log.EndChkpt at x.begin (redo_point x) ∷ []) × (new.forced_end ≤ at))) (sym part.1)
          (end old, log_is, omega (arith, forced_is, length_push old.log r)),
      ap open_checkpoint log_is ∙ open_push old.log r,
      ap (λ (s : EngineState). s.master) state,
    )

pub unforced_leaves : (old new : EngineState) → Step old event.CkptEnd (Err LogFault) new
    → IsSomeAnd (open_checkpoint old.log) (λ c. (at : ℕ)
    × (new.log ≡ old.log ++ log.EndChkpt at c.begin (redo_point c) ∷ []) × (new.forced_end ≤ at))
    × (open_checkpoint new.log ≡ None) × (new.master ≡ old.master)
unforced_leaves old new (inl both) = absurd (end_not_by_device old both.0)
unforced_leaves old new (inr both) = unforced_at old new both.1

-- ---- which checkpoint ended last

-- of the open checkpoint, if one is, this is the page count at its begin
abbrev NotesBegun : EngineState → VolumeSize → Type 0
NotesBegun s size = (c : Checkpoint) → open_checkpoint s.log ≡ Some c → size.begun ≡ page_count_below (log_of s) c.begin

ended_point : (old : EngineState) (size : VolumeSize) (reply : Answer) (new : EngineState) → NotesBegun old size
    → refusal old event.CkptEnd ≡ None
    → reply ≡ (effect old event.CkptEnd).answer → new ≡ (effect old event.CkptEnd).state
    → new.master ≡ with_point size old.master event.CkptEnd (Ok reply)
ended_point old size reply new notes none given is =
    let passes = ckpt_end_passes old none in
    let c = passes.ckpt in
    let outcome = ckpt_end_is old c passes.still_open in
    ap (λ (s : EngineState). s.master) (is ∙ ap (λ o. o.state) outcome)
    ∙ ap (λ (n : ℕ). Some (record { begin = c.begin; end = end old; redo = redo_point c; pages = n }))
    (sym (notes c passes.still_open))
    ∙ ap (λ (a : Answer). with_point size old.master event.CkptEnd (Ok a)) (sym (given ∙ ap (λ o. o.answer) outcome))

failed_begin : (old : EngineState) (why : Refusal) (new : EngineState) → Fails old event.CkptBegin why new → new ≡ old
failed_begin old OutOfMemory new fails = fails.1
failed_begin old StoreFault new fails = absurd fails.0
failed_begin old why new fails = absurd fails

failed_gather : (old : EngineState) (why : Refusal) (new : EngineState) → Fails old event.CkptGather why new → new ≡ old
failed_gather old OutOfMemory new fails = fails.1
failed_gather old StoreFault new fails = absurd fails.0
failed_gather old why new fails = absurd fails

pub master_of_step : (old : EngineState) (size : VolumeSize) (event : Event) (reply : Result Answer Refusal)
    (new : EngineState) → NotesBegun old size
    → Step old event reply new → new.master ≡ with_point size old.master event reply
master_of_step old size event.CkptEnd (Ok reply) new notes step =
    ended_point old size reply new notes step.0 step.1 step.2
master_of_step old size event reply new notes step = (step_leaves old event reply new step).master tt

-- ---- the page count along a run

-- the page count of the state, and at the begin of its open checkpoint
pub record IsSized (s : EngineState) (size : VolumeSize) : Type 0 where
  pub now : size.now ≡ volume_pages s
  pub begun : IfSome (open_checkpoint s.log)
      (λ c. (c.begin < end s) × (size.begun ≡ page_count_below (log_of s) c.begin))

pub notes_begun : (s : EngineState) (size : VolumeSize) → IsSized s size → NotesBegun s size
notes_begun s size sized = λ c is.
    (subst (λ (o : Option Checkpoint). IfSome o
    (λ x. (x.begin < end s) × (size.begun ≡ page_count_below (log_of s) x.begin))) is sized.begun).1

pub new_is_sized : (pages frames : ℕ) → IsSized (new_state pages frames) (new_size pages)
new_is_sized pages frames = record { now = sym (count_behind-nil pages); begun = tt }

-- a record that begins no checkpoint
abbrev BeginsNone : Record → Type 0
BeginsNone (log.BeginChkpt lsn) = ⊥
BeginsNone other = Unit {0}

-- it leaves the begin of the open checkpoint, or closes it
begin_stays : (Q : ℕ → Type 0) (o : Option Checkpoint) (r : Record) → BeginsNone r → IfSome o (λ c. Q c.begin)
    → IfSome (checkpoint_after o r) (λ c. Q c.begin)
begin_stays Q o (log.BeginChkpt lsn) not has = absurd not
begin_stays Q None (log.ChkptPages lsn begin pages) not has = tt
begin_stays Q (Some c) (log.ChkptPages lsn begin pages) not has = has
begin_stays Q None (log.ChkptTxns lsn begin txn state last undo_next) not has = tt
begin_stays Q (Some c) (log.ChkptTxns lsn begin txn state last undo_next) not has = has
begin_stays Q o (log.EndChkpt lsn begin redo) not has = tt
begin_stays Q o other not has = has

-- the page count at the begin of the open checkpoint, if one is
abbrev IsBegunWith : EngineState → VolumeSize → Type 0
IsBegunWith s size = IfSome (open_checkpoint s.log)
    (λ c. (c.begin < end s) × (size.begun ≡ page_count_below (log_of s) c.begin))

-- what a state with such a record more keeps
begun_push : (old new : EngineState) (size : VolumeSize) (r : Record) → IsSized old size → BeginsNone r
    → log_of new ≡ with_next (log_of old) (r ∷ []) → IsBegunWith new size
begun_push old new size r sized not is =
    let len = ap (λ (l : Log). length l.records) is in
    let longer : end old ≤ end new = omega (arith, len, length_push old.log r) in
    subst (λ (l : Log). IfSome (open_checkpoint l.records)
    (λ c. (c.begin < end new) × (size.begun ≡ page_count_below l c.begin))) (sym is)
    (subst (λ (o : Option Checkpoint). IfSome o
    (λ c. (c.begin < end new) × (size.begun ≡ page_count_below (with_next (log_of old) (r ∷ [])) c.begin)))
    (sym (open_push old.log r))
    (begin_stays
    (λ n. (n < end new) × (size.begun ≡ page_count_below (with_next (log_of old) (r ∷ [])) n))
    (open_checkpoint old.log) r not (later longer (open_checkpoint old.log) sized.begun)))
  where
    later : end old ≤ end new → (o : Option Checkpoint)
        → IfSome o (λ c. (c.begin < end old) × (size.begun ≡ page_count_below (log_of old) c.begin))
        → IfSome o (λ c. (c.begin < end new)
        × (size.begun ≡ page_count_below (with_next (log_of old) (r ∷ [])) c.begin))
    later longer None has = tt
    later longer (Some c) has =
        let before = has.0 in
        let place : (c.begin - 1) / 64 ≤ length old.log = omega (arith, before) in
        (omega (arith, before, longer), has.1 ∙ sym (page_count_at-append (log_of old) (r ∷ []) ((c.begin - 1) / 64) place))

sized_push : (old new : EngineState) (size : VolumeSize) (r : Record) → IsSized old size → BeginsNone r
    → given_count r ≡ None → log_of new ≡ with_next (log_of old) (r ∷ []) → IsSized new size
sized_push old new size r sized not none is = record {
  now = sized.now ∙ sym (ap page_count is ∙ page_count-same (log_of old) r none);
  begun = begun_push old new size r sized not is;
}

-- where the volume grows
sized_grown : (old : EngineState) (size : VolumeSize) (count : ℕ) → refusal old (event.Extend count) ≡ None
    → IsSized old size → IsSized (effect old (event.Extend count)).state (record size { now = count })
sized_grown old size count none sized = record {
  now = sym (count_then old count none);
  begun = begun_push old (effect old (event.Extend count)).state size (extend_record old count) sized tt refl;
}

same_sized : (old new : EngineState) (size : VolumeSize) → IsSized old size → log_of new ≡ log_of old → IsSized new size
same_sized old new size sized is = record {
  now = sized.now ∙ sym (ap page_count is);
  begun = subst (λ (l : Log). IfSome (open_checkpoint l.records)
      (λ c. (c.begin < lsn_of (length l.records)) × (size.begun ≡ page_count_below l c.begin))) (sym is) sized.begun;
}

no_growth : (event : Event) → BeginsNoCkpt event → IsNoGrowth event
no_growth (event.Extend count) not = not
no_growth event not = tt

record_begins_none : (s : EngineState) (event : Event) (r : Record) → BeginsNoCkpt event → Makes s event r
    → BeginsNone r
record_begins_none s event r not (MakesBeginChkpt ckpt begins passes) = absurd (begins not)
record_begins_none s event r not other = tt

sized_beside : (old : EngineState) (size : VolumeSize) (event : Event) (reply : Result Answer Refusal)
    (new : EngineState) → BeginsNoCkpt event → IsSized old size → Step old event reply new → IsSized new size
sized_beside old size event reply new not sized step = elim (stays_or_grows old event reply new step) [
  | inl stays ↦ same_sized old new size sized (λ i. record { pages = stays.pages i; records = stays.log i })
  | inr grows ↦
      sized_push old new size grows.r sized (record_begins_none old event grows.r not grows.makes)
      (gives_none old event grows.r (no_growth event not) grows.makes)
      (λ i. record { pages = grows.pages i; records = grows.log i })
]

sized_begun : (old : EngineState) (size : VolumeSize) → IsSized old size
    → IsSized (effect old event.CkptBegin).state (record size { begun = size.now })
sized_begun old size sized =
    let r = begin_ckpt_record old in
    record {
      now = sized.now ∙ sym (page_count-same (log_of old) r refl);
      begun = subst (λ (o : Option Checkpoint). IfSome o (λ c. (c.begin < lsn_of (length (old.log ++ r ∷ [])))
          × (size.now ≡ page_count_below (with_next (log_of old) (r ∷ [])) c.begin)))
          (sym (open_push old.log r))
          (omega (arith, length_push old.log r), sized.now ∙ (begun_is (log_of old)).same_pages);
    }

pub sized_step : (old : EngineState) (size : VolumeSize) (event : Event) (reply : Result Answer Refusal)
    (new : EngineState) → IsSized old size → Step old event reply new → IsSized new (with_size size event reply)
sized_step old size event.CkptBegin (Ok reply) new sized step =
    subst (λ (s : EngineState). IsSized s (record size { begun = size.now })) (sym step.2) (sized_begun old size sized)
sized_step old size event.CkptBegin (Err why) new sized (inl both) =
    subst (λ (s : EngineState). IsSized s size) (sym both.1) sized
sized_step old size event.CkptBegin (Err why) new sized (inr both) =
    subst (λ (s : EngineState). IsSized s size) (sym (failed_begin old why new both.1)) sized
sized_step old size (event.Extend count) (Ok reply) new sized step =
    subst (λ (s : EngineState). IsSized s (record size { now = count })) (sym step.2)
    (sized_grown old size count step.0 sized)
sized_step old size (event.Extend count) (Err why) new sized step =
    subst (λ (s : EngineState). IsSized s size) (sym (growth_failed old count why new step)) sized
sized_step old size event reply new sized step = sized_beside old size event reply new tt sized step

pub master_of_run : (old : EngineState) (size : VolumeSize) (events : List Event)
    (replies : List (Result Answer Refusal)) (new : EngineState) → IsSized old size → Run old events replies new
    → new.master ≡ point_from size old.master events replies
master_of_run old size [] [] new sized is = ap (λ (s : EngineState). s.master) is
master_of_run old size (event ∷ events) (reply ∷ replies) new sized run =
    master_of_run run.0 (with_size size event reply) events replies new
    (sized_step old size event reply run.0 sized run.1) run.2
    ∙ ap (λ (m : Option Point). point_from (with_size size event reply) m events replies)
    (master_of_step old size event reply run.0 (notes_begun old size sized) run.1)
master_of_run old size [] (reply ∷ replies) new sized run = absurd run
master_of_run old size (event ∷ events) [] new sized run = absurd run

-- ---- which checkpoint is open

begin_refused : (o : Option Checkpoint) (full : Bool)
    → or_else (refused_if (is_some o) CkptOpen) (refused_if full LogFull) ≡ Some CkptOpen ↔ IsSome o
begin_refused None true = (λ is. cc, λ some. cc)
begin_refused None false = (λ is. cc, λ some. cc)
begin_refused (Some c) full = (λ is. refl, λ some. refl)

gather_refused : (o : Option Checkpoint) (full : Bool)
    → or_else (refused_if (is_none o) NoCkpt) (refused_if full LogFull) ≡ Some NoCkpt ↔ o ≡ None
gather_refused None full = (λ is. refl, λ none. refl)
gather_refused (Some c) true = (λ is. cc, λ none. cc)
gather_refused (Some c) false = (λ is. cc, λ none. cc)

end_refused : (o : Option Checkpoint) (left full : Bool)
    → or_else (refused_if (is_none o) NoCkpt) (or_else (refused_if left GatherLeft) (refused_if full LogFull))
    ≡ Some NoCkpt ↔ o ≡ None
end_refused None left full = (λ is. refl, λ none. refl)
end_refused (Some c) true full = (λ is. cc, λ none. cc)
end_refused (Some c) false true = (λ is. cc, λ none. cc)
end_refused (Some c) false false = (λ is. cc, λ none. cc)

pub open_says : (s : EngineState) → refusal s event.CkptBegin ≡ Some CkptOpen ↔ IsSome (open_checkpoint s.log)
open_says s = begin_refused (open_checkpoint s.log) (has_no_room s 1)

pub gather_says : (s : EngineState) → refusal s event.CkptGather ≡ Some NoCkpt ↔ open_checkpoint s.log ≡ None
gather_says s = gather_refused (open_checkpoint s.log) _

pub end_says : (s : EngineState) → refusal s event.CkptEnd ≡ Some NoCkpt ↔ open_checkpoint s.log ≡ None
end_says s = end_refused (open_checkpoint s.log) (not (is_done s.left)) (has_no_room s 1)

-- ---- whether its gather has ended

-- while a checkpoint is open, its gather has ended where this says so
abbrev Tells : EngineState → Bool → Type 0
Tells s done = IsSome (open_checkpoint s.log) → is_done s.left ≡ done

same_tells : (old new : EngineState) (done : Bool) → Tells old done → new ≡ old → Tells new done
same_tells old new done tells is = subst (λ (s : EngineState). Tells s done) (sym is) tells

none_tells : (s : EngineState) (done : Bool) → open_checkpoint s.log ≡ None → Tells s done
none_tells s done none is = let some = subst IsSome none is in cc

some_of : (o : Option Checkpoint) (c : Checkpoint) → o ≡ Some c → IsSome o
some_of o c is = subst IsSome (sym is) refl

gather_tells : (old : EngineState) (done : Bool) (reply : Answer) (new : EngineState) → Tells old done
    → refusal old event.CkptGather ≡ None → reply ≡ (effect old event.CkptGather).answer
    → new ≡ (effect old event.CkptGather).state → Tells new (with_gather done event.CkptGather (Ok reply))
gather_tells old done reply new tells none given is =
    let passes = gather_passes old none in
    let c = passes.ckpt in
    let open_now = passes.still_open in
    let before = tells (some_of (open_checkpoint old.log) c open_now) in
    let told : (o : Outcome) → effect old event.CkptGather ≡ o
    → Tells o.state (with_gather done event.CkptGather (Ok o.answer))
    → Tells new (with_gather done event.CkptGather (Ok reply)) =
    λ o outcome. subst₂ (λ s a. Tells s (with_gather done event.CkptGather (Ok a)))
    (sym (is ∙ ap (λ x. x.state) outcome)) (sym (given ∙ ap (λ x. x.answer) outcome)) in
    elim (gather_case old c) [
      | TakesPages pages finds ↦
          told _ (takes_pages old c pages open_now finds).outcome (λ some. sym (ap is_done finds.left) ∙ before)
      | PassesPages finds ↦
          told _ (passes_pages old c open_now finds).outcome (λ some. sym (ap is_done finds.left) ∙ before)
      | TakesTxn t finds ↦
          told _ (takes_txn old c t open_now finds).outcome (λ some. sym (ap is_done finds.left) ∙ before)
      | PassesTxns finds ↦ told _ (passes_txns old c open_now finds).outcome (λ some. refl)
      | WasDone left ↦ told _ (was_done old c open_now left).outcome (λ some. refl)
    ]

beside_tells : (old : EngineState) (event : Event) (reply : Result Answer Refusal) (new : EngineState) (done : Bool)
    → IsBeside event → Tells old done → Step old event reply new → Tells new done
beside_tells old event reply new done beside tells step =
    let same : open_checkpoint new.log ≡ open_checkpoint old.log = elim (stays_or_grows old event reply new step) [
      | inl stays ↦ ap open_checkpoint stays.log
      | inr grows ↦
          ap open_checkpoint grows.log ∙ open_stays old event grows.r beside grows.makes
    ] in
    λ some. ap is_done ((step_leaves old event reply new step).left beside) ∙ tells (subst IsSome same some)

told_step : (old : EngineState) (event : Event) (reply : Result Answer Refusal) (new : EngineState) (done : Bool)
    → Tells old done → Step old event reply new → Tells new (with_gather done event reply)
told_step old event.CkptBegin (Ok reply) new done tells step = λ some. ap (λ (s : EngineState). is_done s.left) step.2
told_step old event.CkptGather
    (Ok reply) new done tells step = gather_tells old done reply new tells step.0 step.1 step.2
told_step old event.CkptEnd (Ok reply) new done tells step =
    let passes = ckpt_end_passes old step.0 in
    let c = passes.ckpt in
    let log_is = ap (λ (s : EngineState). s.log) (step.2 ∙ ap (λ o. o.state) (ckpt_end_is old c passes.still_open)) in
    none_tells new done (ap open_checkpoint log_is ∙ open_push old.log (end_ckpt_record old c))
told_step old event.CkptBegin (Err why) new done tells (inl both) = same_tells old new done tells both.1
told_step old event.CkptBegin (Err why) new done tells (inr both) = same_tells old new done tells
    (failed_begin old why new both.1)
told_step old event.CkptGather (Err why) new done tells (inl both) = same_tells old new done tells both.1
told_step old event.CkptGather (Err why) new done tells (inr both) = same_tells old new done tells
    (failed_gather old why new both.1)
told_step old event.CkptEnd (Err LogFault) new done tells step = none_tells new done (unforced_leaves old new step).1
told_step old event.CkptEnd (Err why) new done tells (inl both) = same_tells old new done tells both.1
told_step old event.CkptEnd (Err OutOfMemory) new done tells (inr both) = same_tells old new done tells both.1.1
told_step old event.CkptEnd (Err StoreFault) new done tells (inr both) = absurd both.1.0
told_step old event.CkptEnd (Err why) new done tells (inr both) = absurd both.1
told_step old event reply new done tells step = beside_tells old event reply new done tt tells step

told_of_run : (old : EngineState) (events : List Event) (replies : List (Result Answer Refusal)) (new : EngineState)
    (done : Bool) → Tells old done → Run old events replies new → Tells new (gather_from done events replies)
told_of_run old [] [] new done tells is = same_tells old new done tells is
told_of_run old (event ∷ events) (reply ∷ replies) new done tells run =
    told_of_run run.0 events replies new (with_gather done event reply)
    (told_step old event reply run.0 done tells run.1) run.2
told_of_run old [] (reply ∷ replies) new done tells run = absurd run
told_of_run old (event ∷ events) [] new done tells run = absurd run

left_refused : (o : Option Checkpoint) (done full : Bool) → IsSome o
    → or_else (refused_if (is_none o) NoCkpt) (or_else (refused_if (not done) GatherLeft) (refused_if full LogFull))
    ≡ Some GatherLeft ↔ done ≡ false
left_refused None done full some = cc
left_refused (Some c) false full some = (λ is. refl, λ is. refl)
left_refused (Some c) true true some = (λ is. cc, λ is. cc)
left_refused (Some c) true false some = (λ is. cc, λ is. cc)

pub left_is_exact : (old : EngineState) (events : List Event) (replies : List (Result Answer Refusal))
    (s : EngineState) (done : Bool) → Tells old done → Run old events replies s → IsSome (open_checkpoint s.log)
    → refusal s event.CkptEnd ≡ Some GatherLeft ↔ gather_from done events replies ≡ false
left_is_exact old events replies s done tells run some =
    subst (λ (b : Bool). refusal s event.CkptEnd ≡ Some GatherLeft ↔ b ≡ false)
    (told_of_run old events replies s done tells run some)
    (left_refused (open_checkpoint s.log) (is_done s.left) (has_no_room s 1) some)

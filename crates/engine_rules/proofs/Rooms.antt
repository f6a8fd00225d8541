-- The log has room for its records and for those that open transactions may still need.
use Rattle.std.proofs.Common.{◌≡◌, ℕ, ◌+◌, ◌<◌, ◌≤◌, false, ◌++◌, List, [], ◌∷◌, length, refl, sym}
use Rattle.std.proofs.Common.{subst, ◌∙◌, arith, inl, inr}
use Rattle.std.specs.Prelude.{Some, None, Ok}
use Rattle.std.proofs.lemmas.Bool.{cases_lt}
use Rattle.std.proofs.lemmas.List.{length_push, take-append-le, take_all}
use Rattle.page_core.specs.declared.change.Change.{Change}
use Rattle.page_core.specs.declared.change.Change.TheVariants.{Set, Add}
use Rattle.page_core.specs.declared.change.ChangeKind.TheVariants as kind
use Rattle.log_records.specs.declared.limits.TheConstants.{MAX_RECORDS}
use Rattle.log_records.specs.declared.record.Record.{Record}
use Rattle.log_records.specs.declared.record.Record.TheVariants as log
use Rattle.log_rules.specs.Linked.{MayFollow, number_in}
use Rattle.log_rules.specs.Transactions.{begun_by, is_last, last_lsn, owed, txn_of}
use Rattle.log_rules.proofs.Public.{claimed_aside, claimed_begin, claimed_push, claimed_update}
use Rattle.log_rules.proofs.Public.{needs}
use Rattle.copy_coverage.specs.Retired.{HasRoomForUndo}
use Rattle.engine_calls.specs.declared.event.Event.{Event}
use Rattle.engine_calls.specs.declared.event.Event.TheVariants as event
use Rattle.engine_calls.specs.declared.refusal.Refusal.TheVariants.{LogFull}
use Rattle.engine_rules.specs.EngineState.{EngineState, IsFit, Outcome, begin_ckpt_record, effect}
use Rattle.engine_rules.specs.EngineState.{end, end_ckpt_record, extend_record, next_txn}
use Rattle.engine_rules.specs.EngineState.{update_record}
use Rattle.engine_rules.specs.Refusal.{refusal}
use Rattle.engine_rules.proofs.Gathers.{PassesPages, PassesTxns, TakesPages, TakesTxn, WasDone}
use Rattle.engine_rules.proofs.Gathers.{ckpt_end_is, gather_case, pages_record, passes_pages}
use Rattle.engine_rules.proofs.Gathers.{passes_txns, takes_pages, takes_txn, txn_entry, was_done}
use Rattle.engine_rules.proofs.Steps.{stays_or_grows}
use Rattle.engine_rules.proofs.Follows.{add_follows, made_follows, set_follows}
use Rattle.engine_rules.proofs.Makes.{Makes, MakesAdd, MakesBegin, MakesBeginChkpt, MakesEndChkpt}
use Rattle.engine_rules.proofs.Makes.{MakesExtend, MakesPages, MakesSet, MakesTxn, none_is_not_some}
use Rattle.engine_rules.proofs.Refusals.{GatherIsFull, HasRoomFor, begin_full, change_full}
use Rattle.engine_rules.proofs.Refusals.{ckpt_begin_full, ckpt_end_full, extend_full, gather_full}
use Rattle.engine_rules.proofs.Refusals.{never_full}

-- ---- an accepted call

-- records plus owed ones, of the whole log
room_now : (s : EngineState) → IsFit s → HasRoomFor s 0
room_now s fit =
    let whole : length s.log + owed s.log ≤ MAX_RECORDS =
    subst (λ (rs : List Record). length rs + owed rs ≤ MAX_RECORDS) (take_all (length s.log) s.log (omega arith))
    (fit.room (length s.log) (omega arith) (omega (arith, fit.forced.1, fit.forced.2))) in
    omega arith

room_for : (s : EngineState) (event : Event) (r : Record) → IsFit s → Makes s event r → HasRoomFor s (needs r)
room_for s event r fit (MakesBegin passes) = passes.room
room_for s event r fit (MakesSet txn page slot number passes fits) = passes.room
room_for s event r fit (MakesAdd txn page slot amount passes fits) = passes.room
room_for s event r fit (MakesExtend count grows begins passes) = passes.room
room_for s event r fit (MakesBeginChkpt ckpt begins passes) = passes.room
room_for s event r fit (MakesPages c pages ckpt is finds room) = room
room_for s event r fit (MakesTxn c t ckpt is finds room) = room
room_for s event r fit (MakesEndChkpt c ckpt is done room) = room
room_for s event r fit of_an_open_one = room_now s fit

pub room_grows : (s : EngineState) (event : Event) (r : Record) → IsFit s → Makes s event r
    → length (s.log ++ r ∷ []) + owed (s.log ++ r ∷ []) ≤ MAX_RECORDS
room_grows s event r fit made =
    let within = room_for s event r fit made in
    omega (arith, claimed_push s.log r fit.linked (made_follows s event r fit made))

-- so each part of the log with it has room
pub room_push : (rs : List Record) (r : Record) (forced_end : ℕ) → HasRoomForUndo rs forced_end
    → length (rs ++ r ∷ []) + owed (rs ++ r ∷ []) ≤ MAX_RECORDS → HasRoomForUndo (rs ++ r ∷ []) forced_end
room_push rs r forced_end room whole n le past = elim (cases_lt (length rs) n) [
  | inl all ↦ rw (take_all n (rs ++ r ∷ []) (omega (arith, length_push rs r))) whole
  | inr part ↦ rw (take-append-le n rs (r ∷ []) part) (room n part past)
]

-- so has each part with more forced records
pub room_forced : (rs : List Record) (old new : ℕ) → old ≤ new → HasRoomForUndo rs old → HasRoomForUndo rs new
room_forced rs old new no_less room n le past = room n le (omega (arith, no_less, past))

-- after an accepted call, whatever it is
pub room_if_accepted : (s : EngineState) (event : Event) → IsFit s → refusal s event ≡ None
    → let after = (effect s event).state in length after.log + owed after.log ≤ MAX_RECORDS
room_if_accepted s event fit none =
    let after = (effect s event).state in
    elim (stays_or_grows s event (Ok (effect s event).answer) after (none, refl, refl)) [
      | inl stays ↦ let room = room_now s fit in rw stays.log (omega arith)
      | inr grows ↦ rw grows.log (room_grows s event grows.r fit grows.makes)
    ]

-- ---- a call that is refused since the log is full

update_past : (s : EngineState) (txn page slot : ℕ) (change : Change) → IsFit s
    → MayFollow s.log (update_record s txn page slot change) → MAX_RECORDS < length s.log + owed s.log + 2
    → let after = s.log ++ update_record s txn page slot change ∷ [] in MAX_RECORDS < length after + owed after
update_past s txn page slot change fit may past =
    omega (
      arith,
      length_push s.log (update_record s txn page slot change),
      claimed_update s.log (end s) txn (last_lsn s.log txn) page slot change fit.linked may,
    )

-- a checkpoint's record needs room for itself
aside_past : (s : EngineState) (r : Record) → IsFit s → begun_by r ≡ None → is_last r ≡ false → txn_of r ≡ 0
    → MAX_RECORDS < length s.log + owed s.log + 1
    → MAX_RECORDS < length (s.log ++ r ∷ []) + owed (s.log ++ r ∷ [])
aside_past s r fit none more no_txn past = omega (arith, claimed_aside s.log r fit.linked none more no_txn)

abbrev IsPast : Outcome → Type 0
IsPast o = MAX_RECORDS < length o.state.log + owed o.state.log

gather_past : (s : EngineState) → IsFit s → GatherIsFull s → IsPast (effect s event.CkptGather)
gather_past s fit full =
    let c = full.ckpt in
    let is = full.still_open in
    elim (gather_case s c) [
      | TakesPages pages finds ↦
          subst IsPast (sym (takes_pages s c pages is finds).outcome)
          (aside_past s (pages_record s c pages) fit refl refl refl full.past)
      | PassesPages finds ↦ absurd (none_is_not_some (sym (passes_pages s c is finds).made ∙ full.made))
      | TakesTxn t finds ↦
          subst IsPast (sym (takes_txn s c t is finds).outcome)
          (aside_past s (txn_entry s c t) fit refl refl refl full.past)
      | PassesTxns finds ↦ absurd (none_is_not_some (sym (passes_txns s c is finds).made ∙ full.made))
      | WasDone left ↦ absurd (none_is_not_some (sym (was_done s c is left).made ∙ full.made))
    ]

pub past_if_full : (s : EngineState) (event : Event) → IsFit s → refusal s event ≡ Some LogFull
    → let after = (effect s event).state in MAX_RECORDS < length after.log + owed after.log
past_if_full s event.Begin fit full =
    let both = begin_full s full in
    let past = both.1 in
    omega (
      arith,
      length_push s.log (log.Begin (end s) (next_txn s)),
      claimed_begin s.log (end s) (next_txn s) fit.linked (record { next = refl; room = both.0 }),
    )
past_if_full s (event.Set txn page slot number) fit full =
    let parts = change_full s txn page slot kind.Set full in
    update_past s txn page slot (Set (number_in s.log page slot) number) fit
    (set_follows s txn page slot number parts.0 parts.1) parts.2
past_if_full s (event.Add txn page slot amount) fit full =
    let parts = change_full s txn page slot kind.Add full in
    update_past s txn page slot (Add amount) fit (add_follows s txn page slot amount parts.0 parts.1) parts.2
past_if_full s event.CkptBegin fit full =
    aside_past s (begin_ckpt_record s) fit refl refl refl (ckpt_begin_full s full).1
past_if_full s event.CkptGather fit full = gather_past s fit (gather_full s full)
past_if_full s (event.Extend count) fit full =
    aside_past s (extend_record s count) fit refl refl refl (extend_full s count full)
past_if_full s event.CkptEnd fit full =
    let end = ckpt_end_full s full in
    subst IsPast (sym (ckpt_end_is s end.ckpt end.still_open))
    (aside_past s (end_ckpt_record s end.ckpt) fit refl refl refl end.past)
past_if_full s event fit full = absurd (never_full s event tt full)

-- What a step leaves as it is, and what it does to the log.
use Rattle.std.proofs.Common.{◌≡◌, ℕ, ◌++◌, ◌⊎◌, List, [], ◌∷◌, refl, ◌∙◌, arith, inl, inr}
use Rattle.std.specs.Prelude.{None, Option, Result}
use Rattle.page_core.specs.declared.page.Page.{Page}
use Rattle.std.proofs.lemmas.List.{length_push}
use Rattle.log_records.specs.declared.record.Record.{Record}
use Rattle.log_rules.specs.Work.{call_of}
use Rattle.engine_calls.specs.declared.event.Answer.{Answer}
use Rattle.engine_calls.specs.declared.event.Event.{Event}
use Rattle.engine_calls.specs.declared.refusal.Refusal.{Refusal}
use Rattle.engine_rules.specs.Accepted.{shown_call}
use Rattle.engine_rules.specs.EngineState.{EngineState, with_appended, closed, end_ckpt_record}
use Rattle.engine_rules.specs.EngineState.{extend_record}
use Rattle.engine_rules.specs.Step.{Step}
use Rattle.engine_rules.proofs.Forces.{EndsAtRecord, Forces, all_forces}
use Rattle.engine_rules.proofs.Makes.{IsBeside, Makes, MakesEndChkpt, MakesExtend, left_stays}
use Rattle.engine_rules.proofs.Moves.{Adds, Completes, Copied, Done, Ends, Extends, Forced}
use Rattle.engine_rules.proofs.Moves.{Gathered, GoesOn, Keeps, LeavesCopies, LeavesMaster}
use Rattle.engine_rules.proofs.Moves.{LeavesWritten, Moves, Repairs, RepairsHalf, Rest, Stored}
use Rattle.engine_rules.proofs.Moves.{Storing, Then, moves}
use Rattle.engine_rules.proofs.Refusals.{extend_passes}

-- ---- what it leaves

-- the moves behind a record change neither the log nor memory, nor the master
abbrev pub RestLeaves : Event → Result Answer Refusal → EngineState → EngineState → Type 0
RestLeaves event reply s t =
    (t.frames ≡ s.frames) × (t.pages ≡ s.pages) × (t.log ≡ s.log) × (t.resident ≡ s.resident)
    × (t.master ≡ s.master) × (IsBeside event → t.left ≡ s.left) × (LeavesCopies event reply → t.copies ≡ s.copies)
    × (LeavesWritten event reply → t.written ≡ s.written)

written_stays : (s : EngineState) (event : Event) (reply : Result Answer Refusal) (page : ℕ) (image : Page)
    (written : List ℕ) (writing : List (Option Page)) → Storing s event reply page image written writing
    → LeavesWritten event reply → written ≡ s.written
written_stays s event reply page image written writing (Ends writes ends) leaves = absurd (writes leaves)
written_stays s event reply page image written writing (GoesOn ends) leaves = refl
written_stays s event reply page image written writing (Repairs writes idle) leaves = absurd (writes leaves)
written_stays s event reply page image written writing (RepairsHalf idle) leaves = refl

rest_leaves : (event : Event) (reply : Result Answer Refusal) (s t : EngineState) → Rest event reply s t
    → RestLeaves event reply s t
rest_leaves event reply s t Done = (refl, refl, refl, refl, refl, λ b. refl, λ b. refl, λ b. refl)
rest_leaves event reply s t (Then (Copied copies changes are) rest) =
    let (frames, pages, log, resident, master, left, same, written) = rest_leaves event reply _ t rest in
    (frames, pages, log, resident, master, left, λ leaves. absurd (changes leaves), written)
rest_leaves event reply s t (Then (Gathered less changes are) rest) =
    let (frames, pages, log, resident, master, left, copies, written) = rest_leaves event reply _ t rest in
    (frames, pages, log, resident, master, λ beside. absurd (changes beside), copies, written)
rest_leaves event reply s t (Then (Stored page image lsns writing storing) rest) =
    let (frames, pages, log, resident, master, left, copies, written) = rest_leaves event reply _ t rest in (
      frames,
      pages,
      log,
      resident,
      master,
      left,
      copies,
      λ leaves. written leaves ∙ written_stays s event reply page image lsns writing storing leaves,
    )
rest_leaves event reply s t (Then other rest) = rest_leaves event reply _ t rest

pub rest_memory : (event : Event) (reply : Result Answer Refusal) (s t : EngineState) → Rest event reply s t
    → t.resident ≡ s.resident
rest_memory event reply s t rest = (rest_leaves event reply s t rest).3

pub record Leaves (old : EngineState) (event : Event) (reply : Result Answer Refusal) (new : EngineState) : Type 0 where
  pub frames : new.frames ≡ old.frames
  pub pages : new.pages ≡ old.pages
  pub left : IsBeside event → new.left ≡ old.left
  pub master : LeavesMaster event reply → new.master ≡ old.master
  pub copies : LeavesCopies event reply → new.copies ≡ old.copies
  pub written : LeavesWritten event reply → new.written ≡ old.written

moves_leave : (old : EngineState) (event : Event) (reply : Result Answer Refusal) (new : EngineState)
    → Moves old event reply new → Leaves old event reply new
moves_leave old event reply new (Keeps start unseen rest) =
    let (frames, pages, log, resident, master, left, copies, written) = rest_leaves event reply _ new rest in
    record { frames = frames; pages = pages; left = left; master = λ leaves. master; copies = copies; written = written }
moves_leave old event reply new (Adds r start makes stays needs shown rest) =
    let (frames, pages, log, resident, master, left, copies, written) = rest_leaves event reply _ new rest in
    record {
      frames = frames;
      pages = pages;
      left = λ beside. left beside ∙ left_stays old event r old.left beside makes;
      master = λ leaves. master;
      copies = copies;
      written = written;
    }
moves_leave old event reply new (Completes passes ckpt masters stays unseen) = record {
  frames = refl;
  pages = refl;
  left = λ beside. absurd (ckpt beside);
  master = λ leaves. absurd (masters leaves);
  copies = λ leaves. refl;
  written = λ leaves. refl;
}
moves_leave old event reply new (Extends count none grows begins writes shown) = record {
  frames = refl;
  pages = refl;
  left = λ beside. refl;
  master = λ leaves. refl;
  copies = λ leaves. refl;
  written = λ leaves. absurd (writes leaves);
}

pub step_leaves : (old : EngineState) (event : Event) (reply : Result Answer Refusal) (new : EngineState)
    → Step old event reply new → Leaves old event reply new
step_leaves old event reply new step = moves_leave old event reply new (moves old event reply new step)

-- ---- how far the log is forced

rest_forces : (event : Event) (reply : Result Answer Refusal) (s t : EngineState) → EndsAtRecord s
    → Rest event reply s t → Forces s t
rest_forces event reply s t ends Done = (ends, omega arith)
rest_forces event reply s t ends (Then (Forced lsn forces) rest) =
    let first = forces ends in
    let later = rest_forces event reply _ t first.0 rest in
    (later.0, omega (arith, first.1, later.1))
rest_forces event reply s t ends (Then other rest) = rest_forces event reply _ t ends rest

longer : (s : EngineState) (r : Record) → EndsAtRecord s → EndsAtRecord (with_appended s r)
longer s r (k, le, e) = (k, omega (arith, length_push s.log r), e)

moves_force : (old : EngineState) (event : Event) (reply : Result Answer Refusal) (new : EngineState) → EndsAtRecord old
    → Moves old event reply new → Forces old new
moves_force old event reply new ends (Keeps start unseen rest) = rest_forces event reply _ new ends rest
moves_force old event reply new ends (Adds r start makes stays needs shown rest) =
    rest_forces event reply _ new (longer old r ends) rest
moves_force old event reply new ends (Completes passes ckpt masters stays unseen) =
    all_forces (closed old passes.ckpt) (longer old (end_ckpt_record old passes.ckpt) ends)
moves_force old event reply new ends (Extends count none grows begins writes shown) =
    (longer old (extend_record old count) ends, omega arith)

pub forces : (old : EngineState) (event : Event) (reply : Result Answer Refusal) (new : EngineState) → EndsAtRecord old
    → Step old event reply new → Forces old new
forces old event reply new ends step = moves_force old event reply new ends (moves old event reply new step)

-- ---- what it appends

-- the step leaves the log as it is, and shows no call
pub record Stays (old : EngineState) (event : Event) (reply : Result Answer Refusal) (new : EngineState) : Type 0 where
  pub pages : new.pages ≡ old.pages
  pub log : new.log ≡ old.log
  pub unseen : shown_call event reply ≡ None

-- the step appends the event's record, which shows the call
pub record Grows (old : EngineState) (event : Event) (reply : Result Answer Refusal) (new : EngineState) : Type 0 where
  pub r : Record
  pub makes : Makes old event r
  pub pages : new.pages ≡ old.pages
  pub log : new.log ≡ old.log ++ r ∷ []
  pub shown : shown_call event reply ≡ call_of old.log r

moves_log : (old : EngineState) (event : Event) (reply : Result Answer Refusal) (new : EngineState)
    → Moves old event reply new → Stays old event reply new ⊎ Grows old event reply new
moves_log old event reply new (Keeps start unseen rest) =
    let same = rest_leaves event reply _ new rest in
    inl (record { pages = same.1; log = same.2; unseen = unseen })
moves_log old event reply new (Adds r start makes stays needs shown rest) =
    let same = rest_leaves event reply _ new rest in
    inr (record { r = r; makes = makes; pages = same.1; log = same.2; shown = shown })
moves_log old event reply new (Completes passes ckpt masters stays unseen) = inr (record {
  r = end_ckpt_record old passes.ckpt;
  makes = MakesEndChkpt passes.ckpt ckpt passes.still_open passes.done passes.room;
  pages = refl;
  log = refl;
  shown = unseen;
})
moves_log old event reply new (Extends count none grows begins writes shown) = inr (record {
  r = extend_record old count;
  makes = MakesExtend count grows begins (extend_passes old count none);
  pages = refl;
  log = refl;
  shown = shown;
})

pub stays_or_grows : (old : EngineState) (event : Event) (reply : Result Answer Refusal) (new : EngineState)
    → Step old event reply new → Stays old event reply new ⊎ Grows old event reply new
stays_or_grows old event reply new step = moves_log old event reply new (moves old event reply new step)

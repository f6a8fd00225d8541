-- Runs of an engine, one behind another.
use Rattle.std.proofs.Common.{◌++◌, List, [], ◌∷◌, refl, subst}
use Rattle.std.specs.Prelude.{Result, Ok, Err}
use Rattle.std.proofs.lemmas.List.Elements.{All-append, All-cons, All-nil, All-weaker}
use Rattle.engine_calls.specs.EventFits.{EventFits}
use Rattle.engine_calls.specs.declared.event.Answer.{Answer}
use Rattle.engine_calls.specs.declared.event.Event.{Event}
use Rattle.engine_calls.specs.declared.event.Event.TheVariants.{Force, WriteBegin, WriteEnd}
use Rattle.engine_calls.specs.declared.refusal.Refusal.{Refusal}
use Rattle.engine_rules.specs.EngineState.{EngineState}
use Rattle.engine_rules.specs.Run.{Run}
use Rattle.engine_rules.specs.Step.{IsByDevice, IsByStore, Step}
use Rattle.database_session.specs.Calls.{IsAnyReply, IsNoFault, IsOfClosing, Lives, RunsBy}

-- ---- runs

pub run_append : (old mid new : EngineState) (events more : List Event)
    (replies given : List (Result Answer Refusal)) → Run old events replies mid → Run mid more given new
    → Run old (events ++ more) (replies ++ given) new
run_append old mid new [] more [] given is next = subst (λ (s : EngineState). Run s more given new) is next
run_append old mid new (event ∷ events) more (reply ∷ replies) given run next =
    (run.0, run.1, run_append run.0 mid new events more replies given run.2 next)
run_append old mid new [] more (reply ∷ replies) given run next = absurd run
run_append old mid new (event ∷ events) more [] given run next = absurd run

-- ---- runs by calls of some kind

module _ (P : Event → Type 0) (Q : Result Answer Refusal → Type 0) where
  -- no call at all
  pub runs_none : (s : EngineState) → RunsBy P Q s s
  runs_none s = record {
    events = [];
    replies = [];
    calls = All-nil P;
    answers = All-nil Q;
    run = refl;
  }

  pub runs_one : (old new : EngineState) (event : Event) (reply : Result Answer Refusal) → P event → Q reply
      → Step old event reply new → RunsBy P Q old new
  runs_one old new event reply call answer step = record {
    events = event ∷ [];
    replies = reply ∷ [];
    calls = All-cons P event [] call (All-nil P);
    answers = All-cons Q reply [] answer (All-nil Q);
    run = (new, step, refl);
  }

  pub runs_then : (old mid new : EngineState) → RunsBy P Q old mid → RunsBy P Q mid new → RunsBy P Q old new
  runs_then old mid new one next = record {
    events = one.events ++ next.events;
    replies = one.replies ++ next.replies;
    calls = All-append P one.events next.events one.calls next.calls;
    answers = All-append Q one.replies next.replies one.answers next.answers;
    run = run_append old mid new one.events next.events one.replies next.replies one.run next.run;
  }

-- ---- a closing

pub any_reply : (old new : EngineState) → RunsBy IsOfClosing IsNoFault old new → RunsBy IsOfClosing IsAnyReply old new
any_reply old new runs = record {
  events = runs.events;
  replies = runs.replies;
  calls = runs.calls;
  answers = All-weaker IsNoFault IsAnyReply (λ reply no_fault. tt) runs.replies runs.answers;
  run = runs.run;
}

closing_fits : (event : Event) → IsOfClosing event → EventFits event
closing_fits Force is = tt
closing_fits (WriteBegin page) is = tt
closing_fits (WriteEnd page) is = tt
closing_fits other is = absurd is

pub closing_lives : (old new : EngineState) → RunsBy IsOfClosing IsAnyReply old new → Lives old new
closing_lives old new runs = record {
  events = runs.events;
  replies = runs.replies;
  calls = All-weaker IsOfClosing EventFits closing_fits runs.events runs.calls;
  answers = runs.answers;
  run = runs.run;
}

-- the calls behind those in which no file failed
pub closing_goes_on : (old mid new : EngineState) → RunsBy IsOfClosing IsNoFault old mid
    → RunsBy IsOfClosing IsAnyReply mid new → RunsBy IsOfClosing IsAnyReply old new
closing_goes_on old mid new one next =
    runs_then IsOfClosing IsAnyReply old mid new (any_reply old mid one) next

-- an answer tells of no fault, and neither does a refusal that is none
pub answered_well : (answer : Answer) → IsNoFault (Ok answer)
answered_well answer = (λ is. is, λ is. is)

pub refused_well : (why : Refusal) → ¬ IsByDevice why → ¬ IsByStore why → IsNoFault (Err why)
refused_well why no_device no_store = (no_device, no_store)

-- Runs of an engine for the commands of an operator.
use Rattle.std.proofs.Common.{ℕ, ◌≡◌, ◌+◌, ◌++◌, List, [], ◌∷◌, ap, arith, refl, subst, sym, ◌∙◌}
use Rattle.std.specs.Prelude.{Option, Result, Ok, Err, IfErr, IsErrAnd, OnOk}
use Rattle.std.specs.Io.KnownBytes.{Appends}
use Rattle.std.specs.List.{All, sum_by}
use Rattle.std.proofs.lemmas.List.{append_assoc}
use Rattle.std.proofs.lemmas.List.Elements.{All-append, All-cons, All-nil, All-weaker}
use Rattle.std.proofs.lemmas.List.Sums.{sum_by-append, sum_by-cons}
use Rattle.engine_calls.specs.EventFits.{EventFits}
use Rattle.engine_calls.specs.declared.event.Answer.{Answer}
use Rattle.engine_calls.specs.declared.event.Event.{Event}
use Rattle.engine_calls.specs.declared.event.Event.TheVariants.{CkptBegin, CkptEnd, CkptGather}
use Rattle.engine_calls.specs.declared.event.Event.TheVariants.{Force, WriteBegin, WriteEnd}
use Rattle.engine_calls.specs.declared.refusal.Refusal.{Refusal}
use Rattle.engine_calls.specs.declared.refusal.Refusal.TheVariants.{CkptOpen}
use Rattle.engine_rules.specs.EngineState.{EngineState}
use Rattle.engine_rules.specs.Step.{Step}
use Rattle.database_session.proofs.Runs.{run_append}
use Rattle.database_session.specs.Calls.{IsAnyReply, IsNoFault, IsOfClosing, RunsBy}
use Rattle.database_session.specs.MadeFiles.{EndsCheckpoint}
use Rattle.session_lines.specs.Said.{LeavesLine}
use Rattle.database_session.specs.Session.{LeavesCommand, TakesCommand}
use Rattle.database_session.specs.PageWrites.{HasNoDirtyPage}
use Rattle.database_session.specs.CommandCalls.{AreRefused, GatherSteps, Gathers, GathersAll, GathersClean, IsOfCheckpoint}
use Rattle.database_session.specs.CommandCalls.{IsStatus, MakesCommand, Runs}
use Rattle.database_session.specs.CommandCalls.{SaysOfCommand, WritesPages, ended, flushed, no_step}
use Rattle.session_lines.specs.Commands.{Told, lines}
use Rattle.database_session.specs.CommandCalls.{begins, goes_on}
use Rattle.database_session.specs.CommandCalls.{not_flushed, not_gathered, one_step, pages_first, telling, writes_ended_by}
use Rattle.session_lines.specs.Commands.{one_line}
use Rattle.session_lines.specs.declared.help.TheConstants.{HELP}
use Rattle.session_lines.specs.declared.said.Said.{Said}
use Rattle.session_lines.specs.declared.said.Said.TheVariants.{Reply}
use Rattle.session_lines.specs.declared.serve_fault.ServeFault.{ServeFault}
use Rattle.session_lines.specs.declared.operator_command.OperatorCommand.TheVariants.{Checkpoint, Flush, Help, Status}
use Rattle.session_lines.specs.declared.command_said.CommandSaid.TheVariants.{Call, Flushed}
use Rattle.saved_files.specs.Folder.{Entries}

-- ---- runs of which something holds

pub runs_nothing : (P : List Event → List (Result Answer Refusal) → Type 0) (s : EngineState) → P [] [] → Runs P s s
runs_nothing P s holds = record {
  events = [];
  replies = [];
  fit = All-nil EventFits;
  run = refl;
  holds = holds;
}

pub runs_call : (P : List Event → List (Result Answer Refusal) → Type 0) (old new : EngineState) (event : Event)
    (reply : Result Answer Refusal) → EventFits event → Step old event reply new → P (event ∷ []) (reply ∷ [])
    → Runs P old new
runs_call P old new event reply fits step holds = record {
  events = event ∷ [];
  replies = reply ∷ [];
  fit = All-cons EventFits event [] fits (All-nil EventFits);
  run = (new, step, refl);
  holds = holds;
}

pub runs_both : (P Q R : List Event → List (Result Answer Refusal) → Type 0)
    → ((events more : List Event) (replies given : List (Result Answer Refusal)) → P events replies → Q more given
    → R (events ++ more) (replies ++ given))
    → (old mid new : EngineState) → Runs P old mid → Runs Q mid new → Runs R old new
runs_both P Q R joins old mid new one next = record {
  events = one.events ++ next.events;
  replies = one.replies ++ next.replies;
  fit = All-append EventFits one.events next.events one.fit next.fit;
  run = run_append old mid new one.events next.events one.replies next.replies one.run next.run;
  holds = joins one.events next.events one.replies next.replies one.holds next.holds;
}

pub runs_weaker : (P Q : List Event → List (Result Answer Refusal) → Type 0)
    → ((events : List Event) (replies : List (Result Answer Refusal)) → P events replies → Q events replies)
    → (old new : EngineState) → Runs P old new → Runs Q old new
runs_weaker P Q weaker old new runs = record {
  events = runs.events;
  replies = runs.replies;
  fit = runs.fit;
  run = runs.run;
  holds = weaker runs.events runs.replies runs.holds;
}

-- ---- calls that are refused

-- what is said of a refusal that was handed on
pub handed_on : {T : Type 0} (r : Result T Refusal) (why : Refusal) (Q : Refusal → Type 0)
    → IsErrAnd r (λ it. it ≡ why) → Q why → IfErr r Q
handed_on (Ok x) why Q is holds = tt
handed_on (Err it) why Q is holds = subst Q (sym is) holds

pub refused_one : (IsCall : Event → Type 0) (why : Refusal) (event : Event) → IsCall event
    → AreRefused IsCall why (event ∷ []) (Err why ∷ [])
refused_one IsCall why event is = record {
  calls = All-cons IsCall event [] is (All-nil IsCall);
  before = [];
  last = refl;
}

pub refused_behind : (IsCall : Event → Type 0) (why : Refusal) (events more : List Event)
    (replies given : List (Result Answer Refusal)) → All IsCall events → AreRefused IsCall why more given
    → AreRefused IsCall why (events ++ more) (replies ++ given)
refused_behind IsCall why events more replies given are refused = record {
  calls = All-append IsCall events more are refused.calls;
  before = replies ++ refused.before;
  last = ap (λ them. replies ++ them) refused.last ∙ sym (append_assoc replies refused.before (Err why ∷ []));
}

pub refused_weaker : (P Q : Event → Type 0) (why : Refusal) → ((event : Event) → P event → Q event)
    → (events : List Event) (replies : List (Result Answer Refusal)) → AreRefused P why events replies
    → AreRefused Q why events replies
refused_weaker P Q why weaker events replies refused = record {
  calls = All-weaker P Q weaker events refused.calls;
  before = refused.before;
  last = refused.last;
}

pub refuses_call : (IsCall : Event → Type 0) (why : Refusal) (old new : EngineState) (event : Event) → EventFits event
    → IsCall event → Step old event (Err why) new → Runs (AreRefused IsCall why) old new
refuses_call IsCall why old new event fits is step =
    runs_call (AreRefused IsCall why) old new event (Err why) fits step (refused_one IsCall why event is)

pub err_weaker : {T : Type 0} (r : Result T Refusal) (P Q : Refusal → Type 0)
    → ((why : Refusal) → P why → Q why) → IfErr r P → IfErr r Q
err_weaker (Ok x) P Q weaker holds = tt
err_weaker (Err why) P Q weaker holds = weaker why holds

-- ---- pages that are written

pub writes_none : WritesPages 0 [] []
writes_none = record {
  calls = All-nil IsOfClosing;
  no_fault = All-nil IsNoFault;
  ended = refl;
}

pub writes_one : (count : ℕ) (event : Event) (reply : Result Answer Refusal) → IsOfClosing event → IsNoFault reply
    → writes_ended_by reply ≡ count → WritesPages count (event ∷ []) (reply ∷ [])
writes_one count event reply is well counts = record {
  calls = All-cons IsOfClosing event [] is (All-nil IsOfClosing);
  no_fault = All-cons IsNoFault reply [] well (All-nil IsNoFault);
  ended =
      let one : sum_by writes_ended_by (reply ∷ []) ≡ writes_ended_by reply + sum_by writes_ended_by [] =
      sum_by-cons writes_ended_by reply [] in omega (arith, one, counts);
}

pub writes_both : (one next count : ℕ) → one + next ≡ count → (events more : List Event)
    (replies given : List (Result Answer Refusal)) → WritesPages one events replies → WritesPages next more given
    → WritesPages count (events ++ more) (replies ++ given)
writes_both one next count sum events more replies given first then = record {
  calls = All-append IsOfClosing events more first.calls then.calls;
  no_fault = All-append IsNoFault replies given first.no_fault then.no_fault;
  ended =
      let both = sum_by-append writes_ended_by replies given in
      omega (arith, both, first.ended, then.ended, sum);
}

pub writes_call : (count : ℕ) (old new : EngineState) (event : Event) (reply : Result Answer Refusal)
    → EventFits event → IsOfClosing event → IsNoFault reply → writes_ended_by reply ≡ count → Step old event reply new
    → Runs (WritesPages count) old new
writes_call count old new event reply fits is well counts step =
    runs_call (WritesPages count) old new event reply fits step (writes_one count event reply is well counts)

pub written_then : (one next count : ℕ) (old mid new : EngineState) → one + next ≡ count
    → Runs (WritesPages one) old mid → Runs (WritesPages next) mid new → Runs (WritesPages count) old new
written_then one next count old mid new sum =
    runs_both (WritesPages one) (WritesPages next) (WritesPages count) (writes_both one next count sum) old mid new

pub written_refused : (count : ℕ) (why : Refusal) (old mid new : EngineState) → Runs (WritesPages count) old mid
    → Runs (AreRefused IsOfClosing why) mid new → Runs (AreRefused IsOfClosing why) old new
written_refused count why old mid new =
    runs_both (WritesPages count) (AreRefused IsOfClosing why) (AreRefused IsOfClosing why)
    (λ events more replies given written refused.
    refused_behind IsOfClosing why events more replies given written.calls refused) old mid new

pub written_by : (count : ℕ) (old new : EngineState) → Runs (WritesPages count) old new
    → RunsBy IsOfClosing IsNoFault old new
written_by count old new runs = record {
  events = runs.events;
  replies = runs.replies;
  calls = runs.holds.calls;
  answers = runs.holds.no_fault;
  run = runs.run;
}

all_any : (replies : List (Result Answer Refusal)) → All IsAnyReply replies
all_any [] = All-nil IsAnyReply
all_any (reply ∷ replies) = All-cons IsAnyReply reply replies tt (all_any replies)

pub refused_by : (why : Refusal) (old new : EngineState) → Runs (AreRefused IsOfClosing why) old new
    → RunsBy IsOfClosing IsAnyReply old new
refused_by why old new runs = record {
  events = runs.events;
  replies = runs.replies;
  calls = runs.holds.calls;
  answers = all_any runs.replies;
  run = runs.run;
}

-- ---- a whole checkpoint

closing_is_of : (event : Event) → IsOfClosing event → IsOfCheckpoint event
closing_is_of Force is = tt
closing_is_of (WriteBegin page) is = tt
closing_is_of (WriteEnd page) is = tt
closing_is_of other is = absurd is

steps_call : (events : List Event) (replies : List (Result Answer Refusal)) → GatherSteps events replies
    → All IsOfCheckpoint events
steps_call events replies no_step = All-nil IsOfCheckpoint
steps_call events replies (one_step before told answer so_far) =
    All-append IsOfCheckpoint before (CkptGather ∷ []) (steps_call before told so_far)
    (All-cons IsOfCheckpoint CkptGather [] tt (All-nil IsOfCheckpoint))

pub gather_none : (s : EngineState) → Runs GatherSteps s s
gather_none s = runs_nothing GatherSteps s no_step

pub gather_more : (old mid new : EngineState) (answer : Answer) → Runs GatherSteps old mid
    → Step mid CkptGather (Ok answer) new → Runs GatherSteps old new
gather_more old mid new answer so_far step = record {
  events = so_far.events ++ CkptGather ∷ [];
  replies = so_far.replies ++ Ok answer ∷ [];
  fit = All-append EventFits so_far.events (CkptGather ∷ []) so_far.fit
      (All-cons EventFits CkptGather [] tt (All-nil EventFits));
  run = run_append old mid new so_far.events (CkptGather ∷ []) so_far.replies (Ok answer ∷ []) so_far.run
      (new, step, refl);
  holds = one_step so_far.events so_far.replies answer so_far.holds;
}

pub gather_refused : (why : Refusal) (old mid new : EngineState) → Runs GatherSteps old mid
    → Step mid CkptGather (Err why) new → Runs (AreRefused IsOfCheckpoint why) old new
gather_refused why old mid new so_far step =
    runs_both GatherSteps (AreRefused IsOfCheckpoint why) (AreRefused IsOfCheckpoint why)
    (λ events more replies given steps refused. refused_behind IsOfCheckpoint why events more replies given
    (steps_call events replies steps) refused)
    old mid new so_far (refuses_call IsOfCheckpoint why mid new CkptGather tt tt step)

pub gathers_then : (old mid new : EngineState) (answer : Answer) → Step old CkptBegin (Ok answer) mid
    → Runs GatherSteps mid new → Runs Gathers old new
gathers_then old mid new answer step steps = record {
  events = CkptBegin ∷ steps.events;
  replies = Ok answer ∷ steps.replies;
  fit = All-cons EventFits CkptBegin steps.events tt steps.fit;
  run = (mid, step, steps.run);
  holds = begins answer steps.events steps.replies steps.holds;
}

-- one that was open was gathered
pub goes_on_then : (old mid new : EngineState) → Step old CkptBegin (Err CkptOpen) mid → Runs GatherSteps mid new
    → Runs Gathers old new
goes_on_then old mid new step steps = record {
  events = CkptBegin ∷ steps.events;
  replies = Err CkptOpen ∷ steps.replies;
  fit = All-cons EventFits CkptBegin steps.events tt steps.fit;
  run = (mid, step, steps.run);
  holds = goes_on steps.events steps.replies steps.holds;
}

pub begun_refused : (why : Refusal) (old mid new : EngineState) (reply : Result Answer Refusal)
    → Step old CkptBegin reply mid → Runs (AreRefused IsOfCheckpoint why) mid new
    → Runs (AreRefused IsOfCheckpoint why) old new
begun_refused why old mid new reply step refused = record {
  events = CkptBegin ∷ refused.events;
  replies = reply ∷ refused.replies;
  fit = All-cons EventFits CkptBegin refused.events tt refused.fit;
  run = (mid, step, refused.run);
  holds = refused_behind IsOfCheckpoint why (CkptBegin ∷ []) refused.events (reply ∷ []) refused.replies
      (All-cons IsOfCheckpoint CkptBegin [] tt (All-nil IsOfCheckpoint)) refused.holds;
}

pub written_gathered : (count : ℕ) (old mid new : EngineState) → Runs (WritesPages count) old mid
    → Runs Gathers mid new → Runs GathersAll old new
written_gathered count old mid new =
    runs_both (WritesPages count) Gathers GathersAll
    (λ events more replies given writes gathers. pages_first events more replies given count writes gathers)
    old mid new

pub gathered_clean : (count : ℕ) (old mid new : EngineState) → Runs (WritesPages count) old mid → HasNoDirtyPage mid
    → Runs Gathers mid new → GathersClean old new
gathered_clean count old mid new writes clean gathers = record {
  between = mid;
  count = count;
  written = writes;
  clean = clean;
  gathered = gathers;
}

pub written_not_gathered : (count : ℕ) (why : Refusal) (old mid new : EngineState) → Runs (WritesPages count) old mid
    → Runs (AreRefused IsOfCheckpoint why) mid new → Runs (AreRefused IsOfCheckpoint why) old new
written_not_gathered count why old mid new =
    runs_both (WritesPages count) (AreRefused IsOfCheckpoint why) (AreRefused IsOfCheckpoint why)
    (λ events more replies given writes refused. refused_behind IsOfCheckpoint why events more replies given
    (All-weaker IsOfClosing IsOfCheckpoint closing_is_of events writes.calls) refused)
    old mid new

pub not_written : (why : Refusal) (old new : EngineState) → Runs (AreRefused IsOfClosing why) old new
    → Runs (AreRefused IsOfCheckpoint why) old new
not_written why old new =
    runs_weaker (AreRefused IsOfClosing why) (AreRefused IsOfCheckpoint why)
    (refused_weaker IsOfClosing IsOfCheckpoint why closing_is_of) old new

pub checkpointed : (old mid new : EngineState) (said : Said) → Runs GathersAll old mid → EndsCheckpoint mid said new
    → MakesCommand Checkpoint old (one_line (Call said)) new
checkpointed old mid new said gathered ends = record {
  events = gathered.events ++ CkptEnd ∷ [];
  replies = gathered.replies ++ ends.0 ∷ [];
  fit = All-append EventFits gathered.events (CkptEnd ∷ []) gathered.fit
      (All-cons EventFits CkptEnd [] tt (All-nil EventFits));
  run = run_append old mid new gathered.events (CkptEnd ∷ []) gathered.replies (ends.0 ∷ []) gathered.run
      (new, ends.1, refl);
  holds = ended gathered.events gathered.replies ends.0 said gathered.holds ends.2;
}

gather_calls : (events : List Event) (replies : List (Result Answer Refusal)) → Gathers events replies
    → All IsOfCheckpoint events
gather_calls events replies (begins answer steps told so_far) =
    All-cons IsOfCheckpoint CkptBegin steps tt (steps_call steps told so_far)
gather_calls events replies (goes_on steps told so_far) =
    All-cons IsOfCheckpoint CkptBegin steps tt (steps_call steps told so_far)

all_gather_calls : (events : List Event) (replies : List (Result Answer Refusal)) → GathersAll events replies
    → All IsOfCheckpoint events
all_gather_calls events replies (pages_first writes steps written given count wrote gathered) =
    All-append IsOfCheckpoint writes steps (All-weaker IsOfClosing IsOfCheckpoint closing_is_of writes wrote.calls)
    (gather_calls steps given gathered)

checkpoint_calls : (events : List Event) (replies : List (Result Answer Refusal)) (told : Told)
    → SaysOfCommand Checkpoint events replies told → All IsOfCheckpoint events
checkpoint_calls events replies told (ended before given reply said gathered is) =
    All-append IsOfCheckpoint before (CkptEnd ∷ []) (all_gather_calls before given gathered)
    (All-cons IsOfCheckpoint CkptEnd [] tt (All-nil IsOfCheckpoint))
checkpoint_calls events replies told (not_gathered why them given refused) = refused.calls
checkpoint_calls events replies told (telling command text is) = absurd is

-- a whole checkpoint makes the calls of one alone
pub checkpoint_by : (old new : EngineState) (told : Told) → MakesCommand Checkpoint old told new
    → RunsBy IsOfCheckpoint IsAnyReply old new
checkpoint_by old new told runs = record {
  events = runs.events;
  replies = runs.replies;
  calls = checkpoint_calls runs.events runs.replies told runs.holds;
  answers = all_any runs.replies;
  run = runs.run;
}

pub checkpoint_refused : (why : Refusal) (old new : EngineState) → Runs (AreRefused IsOfCheckpoint why) old new
    → MakesCommand Checkpoint old (one_line (Call (Reply (Err why)))) new
checkpoint_refused why old new =
    runs_weaker (AreRefused IsOfCheckpoint why)
    (λ events replies. SaysOfCommand Checkpoint events replies (one_line (Call (Reply (Err why)))))
    (λ events replies refused. not_gathered why events replies refused) old new

pub flushes : (count : ℕ) (old new : EngineState) → Runs (WritesPages count) old new
    → MakesCommand Flush old (one_line (Flushed count)) new
flushes count old new =
    runs_weaker (WritesPages count) (λ events replies. SaysOfCommand Flush events replies (one_line (Flushed count)))
    (λ events replies writes. flushed count events replies writes) old new

pub flush_refused : (why : Refusal) (old new : EngineState) → Runs (AreRefused IsOfClosing why) old new
    → MakesCommand Flush old (one_line (Call (Reply (Err why)))) new
flush_refused why old new =
    runs_weaker (AreRefused IsOfClosing why)
    (λ events replies. SaysOfCommand Flush events replies (one_line (Call (Reply (Err why)))))
    (λ events replies refused. not_flushed why events replies refused) old new

-- ---- commands that make no call

pub help_taken : {T : Type 0} (r : Result T ServeFault) (s : EngineState) (text : List ℕ) (entries : Option Entries)
    (is_stored : Type 0) (before after : Option (List ℕ)) → text ≡ HELP.now → OnOk r (Appends before after text)
    → OnOk r (TakesCommand Help s s entries is_stored before after)
help_taken (Ok x) s text entries is_stored before after is written = record {
  told = lines text;
  made = runs_nothing (λ events replies. SaysOfCommand Help events replies (lines text)) s (telling Help text is);
  in_place = tt;
  stored = tt;
  written = written;
}
help_taken (Err fault) s text entries is_stored before after is written = tt

pub help_left : {T : Type 0} (r : Result T ServeFault) (s : EngineState) (text : List ℕ) (entries : Option Entries)
    (is_stored : Type 0) (before after : Option (List ℕ)) → text ≡ HELP.now → IfErr r (LeavesLine before after text)
    → IfErr r (LeavesCommand Help s s entries is_stored before after)
help_left (Ok x) s text entries is_stored before after is left = tt
help_left (Err fault) s text entries is_stored before after is left = record {
  told = lines text;
  made = runs_nothing (λ events replies. SaysOfCommand Help events replies (lines text)) s (telling Help text is);
  in_place = tt;
  stored = tt;
  left = left;
}

-- some text of a status was written, or left
pub some_text : {T : Type 0} (r : Result T ServeFault) (text : List ℕ) (before after : Option (List ℕ))
    → IsStatus text → OnOk r (Appends before after text) → OnOk r ((it : List ℕ) × IsStatus it × Appends before after it)
some_text (Ok x) text before after is written = (text, is, written)
some_text (Err fault) text before after is written = tt

pub some_left : {T : Type 0} (r : Result T ServeFault) (text : List ℕ) (before after : Option (List ℕ))
    → IsStatus text → IfErr r (LeavesLine before after text)
    → IfErr r (λ fault. (it : List ℕ) × IsStatus it × LeavesLine before after it fault)
some_left (Ok x) text before after is left = tt
some_left (Err fault) text before after is left = (text, is, left)

pub status_taken : {T : Type 0} (r : Result T ServeFault) (s : EngineState) (entries : Option Entries)
    (is_stored : Type 0) (before after : Option (List ℕ))
    → OnOk r ((text : List ℕ) × IsStatus text × Appends before after text)
    → OnOk r (TakesCommand Status s s entries is_stored before after)
status_taken (Ok x) s entries is_stored before after (text, is, written) = record {
  told = lines text;
  made = runs_nothing (λ events replies. SaysOfCommand Status events replies (lines text)) s (telling Status text is);
  in_place = tt;
  stored = tt;
  written = written;
}
status_taken (Err fault) s entries is_stored before after written = tt

pub status_left : {T : Type 0} (r : Result T ServeFault) (s : EngineState) (entries : Option Entries)
    (is_stored : Type 0) (before after : Option (List ℕ))
    → IfErr r (λ fault. (text : List ℕ) × IsStatus text × LeavesLine before after text fault)
    → IfErr r (LeavesCommand Status s s entries is_stored before after)
status_left (Ok x) s entries is_stored before after left = tt
status_left (Err fault) s entries is_stored before after (text, is, left) = record {
  told = lines text;
  made = runs_nothing (λ events replies. SaysOfCommand Status events replies (lines text)) s (telling Status text is);
  in_place = tt;
  stored = tt;
  left = left;
}

-- Lines that were taken, one after another.
use Rattle.std.proofs.Common.{ℕ, ◌≡◌, ◌+◌, ◌++◌, ◌∙◌, List, [], ◌∷◌, arith, length, length-append, refl, subst, sym}
use Rattle.std.specs.Prelude.{Bool, Option, Some, None, Result, Ok, Err, IfErr, IfSome, IsErrAnd, OnErr, OnOk, false, true}
use Rattle.std.specs.Io.KnownBytes.{Appends, Keeps}
use Rattle.std.specs.List.{All}
use Rattle.std.proofs.lemmas.List.Elements.{All-append, All-cons, All-nil}
use Rattle.engine_calls.specs.EventFits.{EventFits}
use Rattle.engine_calls.specs.declared.event.Answer.{Answer}
use Rattle.engine_calls.specs.declared.event.Event.{Event}
use Rattle.engine_calls.specs.declared.event.Event.TheVariants.{CkptEnd, Seal}
use Rattle.engine_calls.specs.declared.refusal.Refusal.{Refusal}
use Rattle.engine_calls.specs.declared.refusal.Refusal.TheVariants.{CopyNotOpen, NoCkpt}
use Rattle.engine_rules.specs.EngineState.{EngineState}
use Rattle.engine_rules.specs.Step.{Step}
use Rattle.saved_files.specs.Folder.{Entries}
use Rattle.session_lines.proofs.Public.{AreTaken, IsTaken, all_lines, first_lines, none_taken, one_taken}
use Rattle.database_session.proofs.Runs.{closing_lives, run_append, runs_none, runs_then}
use Rattle.database_session.specs.Calls.{IsAnyReply, IsOfClosing, IsPlain, Lives, Makes, RunsBy, SaysOf, ended, plain, sealed}
use Rattle.session_lines.specs.Lines.{IsOver, Line, lines_in}
use Rattle.database_session.specs.MadeFiles.{StepsAndSays}
use Rattle.session_lines.specs.Said.{said_line}
use Rattle.database_session.specs.Session.{LeavesBad, LeavesLast, LeavesNext, LeavesServed, LeavesTaken}
use Rattle.session_lines.specs.Said.{LeavesLine}
use Rattle.database_session.specs.Closing.{ClosesWell}
use Rattle.session_lines.specs.Orders.{LineSays}
use Rattle.database_session.specs.Session.{LivesByAllLines, LivesByLines, Serves, ServesAll, ServesAllLines}
use Rattle.database_session.specs.Session.{ServesLines, Takes, WritesBad}
use Rattle.database_session.specs.Session.{all_served, bad_not_told, bad_told, call_told, next_left, not_begun, not_read}
use Rattle.database_session.specs.Session.{not_taken, not_told, nothing_told, one_left, silent, command_not_told, command_told}
use Rattle.database_session.specs.CommandCalls.{MakesCommand}
use Rattle.session_lines.specs.Commands.{Told, text_of}
use Rattle.session_lines.specs.declared.bad_call.LineTrouble.{LineTrouble}
use Rattle.session_lines.specs.declared.order.Order.{Order}
use Rattle.session_lines.specs.declared.order.Order.TheVariants as order
use Rattle.session_lines.specs.declared.said.Said.{Said}
use Rattle.session_lines.specs.declared.said.Said.TheVariants.{Reply}
use Rattle.session_lines.specs.declared.serve_fault.ServeFault.{ServeFault}
use Rattle.session_lines.specs.declared.serve_fault.ServeFault.TheVariants.{OutOfMemory, ReadFault}
use Rattle.session_lines.specs.declared.operator_command.OperatorCommand.{OperatorCommand}

-- any replies will do
All-from_unit : (replies : List (Result Answer Refusal)) → All IsAnyReply replies
All-from_unit [] = All-nil IsAnyReply
All-from_unit (reply ∷ replies) = All-cons IsAnyReply reply replies tt (All-from_unit replies)

-- ---- one call

made_one : (event : Event) (old new : EngineState) (reply : Result Answer Refusal) (said : Said) → EventFits event
    → Step old event reply new → SaysOf event (event ∷ []) (reply ∷ []) said → Makes event old said new
made_one event old new reply said fits step says = record {
  events = event ∷ [];
  replies = reply ∷ [];
  fit = All-cons EventFits event [] fits (All-nil EventFits);
  run = (new, step, refl);
  says = says;
}

pub made_plain : (event : Event) (old new : EngineState) (reply : Result Answer Refusal) → IsPlain event
    → EventFits event → Step old event reply new → Makes event old (Reply reply) new
made_plain event old new reply is_plain fits step =
    made_one event old new reply (Reply reply) fits step (plain event reply is_plain)

pub made_seal : (id : ℕ) (old new : EngineState) (said : Said) → StepsAndSays old (Seal id) CopyNotOpen said new
    → Makes (Seal id) old said new
made_seal id old new said steps =
    made_one (Seal id) old new steps.0 said tt steps.1 (sealed id steps.0 said steps.2)

pub made_end : (old new : EngineState) (said : Said) → StepsAndSays old CkptEnd NoCkpt said new
    → Makes CkptEnd old said new
made_end old new said steps =
    made_one CkptEnd old new steps.0 said tt steps.1 (ended steps.0 said steps.2)

-- ---- all lines

served_none : (s : EngineState) (written : Option (List ℕ)) → Serves [] s s written written
served_none s written = record {
  events = [];
  replies = [];
  fit = All-nil EventFits;
  run = refl;
  told = nothing_told;
}

-- some text is what is told, where that is said
pub told_by : (words : Option (List ℕ)) → (text : List ℕ) × IfSome words (λ it. text ≡ it)
told_by None = ([], tt)
told_by (Some it) = (it, refl)

module _ (lines : List Line) (line : Line) (old : EngineState) (before : Option (List ℕ)) where
  served_silent : (new : EngineState) (after : Option (List ℕ)) → Serves lines old new before after
      → LineSays line (Ok None) → Serves (lines ++ line ∷ []) old new before after
  served_silent new after so_far says = record {
    events = so_far.events;
    replies = so_far.replies;
    fit = so_far.fit;
    run = so_far.run;
    told = silent lines so_far.events so_far.replies after line so_far.told says;
  }

  served_call : (mid new : EngineState) (text after : Option (List ℕ)) (event : Event) (said : Said)
      → Serves lines old mid before text → LineSays line (Ok (Some (order.Call event))) → Makes event mid said new
      → Appends text after (said_line said) → Serves (lines ++ line ∷ []) old new before after
  served_call mid new text after event said so_far says made writes = record {
    events = so_far.events ++ made.events;
    replies = so_far.replies ++ made.replies;
    fit = All-append EventFits so_far.events made.events so_far.fit made.fit;
    run = run_append old mid new so_far.events made.events so_far.replies made.replies so_far.run made.run;
    told = call_told lines so_far.events made.events so_far.replies made.replies text after line event said
        so_far.told says made.says writes;
  }

  served_command : (mid new : EngineState) (text after : Option (List ℕ)) (command : OperatorCommand) (told : Told)
      → Serves lines old mid before text → LineSays line (Ok (Some (order.Command command))) → MakesCommand command mid told new
      → Appends text after (text_of told) → Serves (lines ++ line ∷ []) old new before after
  served_command mid new text after command told so_far says made writes = record {
    events = so_far.events ++ made.events;
    replies = so_far.replies ++ made.replies;
    fit = All-append EventFits so_far.events made.events so_far.fit made.fit;
    run = run_append old mid new so_far.events made.events so_far.replies made.replies so_far.run made.run;
    told = command_told lines so_far.events made.events so_far.replies made.replies text after line command told
        so_far.told says made.holds writes;
  }

  served_bad : (new : EngineState) (text after : Option (List ℕ)) (why : LineTrouble)
      → Serves lines old new before text → LineSays line (Err why)
      → WritesBad (1 + length lines) why text after → Serves (lines ++ line ∷ []) old new before after
  served_bad new text after why so_far says bad = record {
    events = so_far.events;
    replies = so_far.replies;
    fit = so_far.fit;
    run = so_far.run;
    told = bad_told lines so_far.events so_far.replies text after line why so_far.told says bad;
  }

-- what is said of a fault that was handed on
pub handed_on : {T : Type 0} (r : Result T ServeFault) (fault : ServeFault) (Q : ServeFault → Type 0)
    → IsErrAnd r (λ f. f ≡ fault) → Q fault → IfErr r Q
handed_on (Ok x) fault Q is h = tt
handed_on (Err f) fault Q is h = subst Q (sym is) h

-- the lines before the one of this number were taken, and these bytes are left
pub record HasServed (start left : Option (List ℕ)) (number : ℕ) (old new : EngineState)
    (before after : Option (List ℕ)) : Type 0 where
  pub lines : List Line
  pub counted : number ≡ 1 + length lines
  pub taken : AreTaken start left lines
  pub served : Serves lines old new before after

pub served_nothing : (left : Option (List ℕ)) (s : EngineState) (written : Option (List ℕ))
    → HasServed left left 1 s s written written
served_nothing left s written = record {
  lines = [];
  counted = refl;
  taken = none_taken left;
  served = served_none s written;
}

module _ (start reached left : Option (List ℕ)) (number : ℕ) (old mid new : EngineState)
    (before text after : Option (List ℕ)) (line : Line) (entries : Option Entries) (is_stored : Type 0)
    (so_far : HasServed start reached number old mid before text) (taken : IsTaken reached left line) where
  more : (said : Result (Option Order) LineTrouble) → LineSays line said
      → Takes number said mid new entries is_stored text after
      → Serves (so_far.lines ++ line ∷ []) old new before after
  more (Ok None) says same =
      subst (λ (s : EngineState). Serves (so_far.lines ++ line ∷ []) old s before after) (sym same.0)
      (subst (λ (w : Option (List ℕ)). Serves (so_far.lines ++ line ∷ []) old mid before w) (sym same.1)
      (served_silent so_far.lines line old before mid text so_far.served says))
  more (Ok (Some (order.Call event))) says answers =
      served_call so_far.lines line old before mid new text after event answers.said so_far.served says answers.made
      answers.written
  more (Ok (Some (order.Command command))) says takes =
      served_command so_far.lines line old before mid new text after command takes.told so_far.served says takes.made
      takes.written
  more (Err why) says bad =
      subst (λ (s : EngineState). Serves (so_far.lines ++ line ∷ []) old s before after) (sym bad.0)
      (served_bad so_far.lines line old before mid text after why so_far.served says
      (subst (λ (n : ℕ). WritesBad n why text after) so_far.counted bad.1))

  -- one more line was taken
  pub served_more : (said : Result (Option Order) LineTrouble) → LineSays line said
      → Takes number said mid new entries is_stored text after
      → HasServed start left (number + 1) old new before after
  served_more said says takes = record {
    lines = so_far.lines ++ line ∷ [];
    counted = omega (arith, so_far.counted, length-append so_far.lines (line ∷ []));
    taken = one_taken start reached left so_far.lines line so_far.taken taken;
    served = more said says takes;
  }

  last : (said : Result (Option Order) LineTrouble) → LineSays line said → (fault : ServeFault)
      → LeavesTaken number said mid new entries is_stored text after fault
      → LeavesLast line (1 + length so_far.lines) mid new text after fault
  last (Ok None) says fault left = absurd left
  last (Ok (Some (order.Call event))) says fault left = not_told event left.said says left.made left.left
  last (Ok (Some (order.Command command))) says fault left = command_not_told command left.told says left.made left.left
  last (Err why) says fault left =
      bad_not_told why says left.0 (subst (λ (n : ℕ). LeavesBad n why text after fault) so_far.counted left.1)

  -- one was left
  pub left_more : (said : Result (Option Order) LineTrouble) → LineSays line said → (fault : ServeFault)
      → LeavesTaken number said mid new entries is_stored text after fault
      → LeavesServed start old new before after fault
  left_more said says fault was = record {
    lines = so_far.lines;
    engine = mid;
    written = text;
    served = so_far.served;
    next = next_left line (first_lines start left (so_far.lines ++ line ∷ [])
        (one_taken start reached left so_far.lines line so_far.taken taken)) (last said says fault was);
  }

-- one was left for want of memory
pub left_untaken : (start reached left : Option (List ℕ)) (number : ℕ) (old new : EngineState)
    (before after : Option (List ℕ)) (line : Line) → HasServed start reached number old new before after
    → IsTaken reached left line → LeavesServed start old new before after OutOfMemory
left_untaken start reached left number old new before after line so_far taken = record {
  lines = so_far.lines;
  engine = new;
  written = after;
  served = so_far.served;
  next = next_left line (first_lines start left (so_far.lines ++ line ∷ [])
      (one_taken start reached left so_far.lines line so_far.taken taken)) (not_taken refl refl refl);
}

-- no other one was read
pub left_unread : (start reached : Option (List ℕ)) (number : ℕ) (old new : EngineState)
    (before after : Option (List ℕ)) → HasServed start reached number old new before after
    → LeavesServed start old new before after ReadFault
left_unread start reached number old new before after so_far = record {
  lines = so_far.lines;
  engine = new;
  written = after;
  served = so_far.served;
  next = not_read (first_lines start reached so_far.lines so_far.taken) refl refl refl;
}

-- all were taken
pub served_all : (start reached : Option (List ℕ)) (number : ℕ) (old new : EngineState)
    (before after : Option (List ℕ)) → HasServed start reached number old new before after
    → IfSome reached (λ input. IsOver (lines_in input)) → ServesAll start old new before after
served_all start reached number old new before after so_far over = record {
  lines = so_far.lines;
  all = all_lines start reached so_far.lines so_far.taken over;
  served = so_far.served;
}

-- ---- runs

served_lives : (lines : List Line) (old new : EngineState) (before after : Option (List ℕ))
    → Serves lines old new before after → Lives old new
served_lives lines old new before after served = record {
  events = served.events;
  replies = served.replies;
  calls = served.fit;
  answers = All-from_unit served.replies;
  run = served.run;
}

made_lives : (event : Event) (old new : EngineState) (said : Said) → Makes event old said new → Lives old new
made_lives event old new said made = record {
  events = made.events;
  replies = made.replies;
  calls = made.fit;
  answers = All-from_unit made.replies;
  run = made.run;
}

command_lives : (command : OperatorCommand) (old new : EngineState) (told : Told) → MakesCommand command old told new → Lives old new
command_lives command old new told made = record {
  events = made.events;
  replies = made.replies;
  calls = made.fit;
  answers = All-from_unit made.replies;
  run = made.run;
}

same_lives : (old new : EngineState) → new ≡ old → Lives old new
same_lives old new is =
    subst (λ (s : EngineState). Lives old s) (sym is) (runs_none EventFits IsAnyReply old)

last_lives : (line : Line) (number : ℕ) (old new : EngineState) (before after : Option (List ℕ)) (fault : ServeFault)
    → LeavesLast line number old new before after fault → Lives old new
last_lives line number old new before after fault (not_taken why is same) = same_lives old new is
last_lives line number old new before after fault (not_told event said says made left) =
    made_lives event old new said made
last_lives line number old new before after fault (command_not_told command told says made left) =
    command_lives command old new told made
last_lives line number old new before after fault (bad_not_told why says is left) = same_lives old new is

next_lives : (input : Option (List ℕ)) (lines : List Line) (old new : EngineState) (before after : Option (List ℕ))
    (fault : ServeFault) → LeavesNext input lines old new before after fault → Lives old new
next_lives input lines old new before after fault (not_read first why is same) = same_lives old new is
next_lives input lines old new before after fault (next_left line first last) =
    last_lives line (1 + length lines) old new before after fault last

left_lives : (input : Option (List ℕ)) (old new : EngineState) (before after : Option (List ℕ)) (fault : ServeFault)
    → LeavesServed input old new before after fault → Lives old new
left_lives input old new before after fault left =
    runs_then EventFits IsAnyReply old left.engine new
    (served_lives left.lines old left.engine before left.written left.served)
    (next_lives input left.lines left.engine new left.written after fault left.next)

-- ---- a session

kept_bytes : (known : Option (List ℕ)) → Keeps known known
kept_bytes None = tt
kept_bytes (Some bytes) = refl

module _ (first : List ℕ) (input : Option (List ℕ)) where
  -- there was no memory for the lines, and nothing was done
  pub no_lines : (s : EngineState) (known : Option (List ℕ)) → ServesLines first input s s known known
  no_lines s known = not_begun OutOfMemory refl (kept_bytes known)

  -- the first line was not written, or not all of it
  pub no_first : (s : EngineState) (before after : Option (List ℕ)) (fault : ServeFault)
      → LeavesLine before after first fault → ServesLines first input s s before after
  no_first s before after fault left = not_begun fault refl left

  pub some_lines : (old new : EngineState) (before told after : Option (List ℕ)) (r : Result Unit ServeFault)
      → Appends before told first → OnOk r (ServesAll input old new told after)
      → IfErr r (LeavesServed input old new told after) → ServesLines first input old new before after
  some_lines old new before told after (Ok x) tells served left = all_served told tells served
  some_lines old new before told after (Err fault) tells served left = one_left told fault tells left

  lines_live : (old new : EngineState) (before after : Option (List ℕ))
      → ServesLines first input old new before after → Lives old new
  lines_live old new before after (all_served told tells all) =
      served_lives all.lines old new told after all.served
  lines_live old new before after (one_left told fault tells left) = left_lives input old new told after fault left
  lines_live old new before after (not_begun fault is left) = same_lives old new is

  pub by_lines : (old end new : EngineState) (before after : Option (List ℕ))
      → ServesLines first input old end before after → RunsBy IsOfClosing IsAnyReply end new
      → LivesByLines first input old new before after
  by_lines old end new before after served closed = record {
    end = end;
    served = served;
    closed = closed;
  }

  pub begins_all : (old new : EngineState) (before told after : Option (List ℕ)) (r : Result Unit ServeFault)
      → Appends before told first → OnOk r (ServesAll input old new told after)
      → OnOk r (ServesAllLines first input old new before after)
  begins_all old new before told after (Ok x) tells served = record { told = told; begun = tells; served = served }
  begins_all old new before told after (Err fault) tells served = tt

  -- what failed is not forgotten, so all lines were taken where nothing failed
  pub by_all_lines : (old end new : EngineState) (before after : Option (List ℕ)) (r : Result Unit ServeFault)
      (has_failed : Bool) → OnOk r (ServesAllLines first input old end before after)
      → OnErr r (has_failed ≡ true) → has_failed ≡ false → ClosesWell end new
      → LivesByAllLines first input old new before after
  by_all_lines old end new before after (Ok x) has_failed served failed well closed = record {
    end = end;
    served = served;
    closed = closed;
  }
  by_all_lines old end new before after (Err fault) has_failed served failed well closed =
      let wrong : true ≡ false = sym failed ∙ well in cc

  pub by_lines_lives : (old end new : EngineState) (before after : Option (List ℕ))
      → ServesLines first input old end before after → RunsBy IsOfClosing IsAnyReply end new → Lives old new
  by_lines_lives old end new before after served closed =
      runs_then EventFits IsAnyReply old end new (lines_live old end before after served)
      (closing_lives end new closed)

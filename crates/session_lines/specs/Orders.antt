-- What a line of an open database says.
use Rattle.std.specs.Prelude.{ℕ, ◌≡◌, ◌+◌, List, [], ◌∷◌, ◌++◌, Option, Some, None, Result, Ok, Err}
use Rattle.std.specs.Prelude.{codes}
use Rattle.std.specs.Fmt.{decimal}
use Rattle.engine_calls.specs.declared.event.Event.{Event}
use Rattle.event_script.specs.Read.{IsText}
use Rattle.event_script.specs.Script.{IsFirstBad, said_in}
use Rattle.event_script.specs.Words.{lines_of}
use Rattle.event_script.specs.declared.script.LastRestore.{LastRestore}
use Rattle.session_lines.specs.Lines.{Line, too_long, unended, whole}
use Rattle.session_lines.specs.Commands.{BeginsAsCommand, IsNoCommand, Spells}
use Rattle.session_lines.specs.declared.bad_call.LineTrouble.{LineTrouble}
use Rattle.session_lines.specs.declared.bad_call.LineTrouble.TheVariants as trouble
use Rattle.session_lines.specs.declared.line_reader.TheConstants.{MOST_LINE}
use Rattle.session_lines.specs.declared.order.Order.{Order}
use Rattle.session_lines.specs.declared.order.Order.TheVariants as order
use Rattle.session_lines.specs.declared.operator_command.OperatorCommand.{OperatorCommand}

-- ---- one line

-- the first of some events
abbrev pub first_of : List Event → Option Event
first_of [] = None
first_of (event ∷ events) = Some event

-- a line, read as a script, says this call, or nothing
pub record SaysCall (line : List ℕ) (event : Option Event) : Type 0 where
  pub events : List Event
  pub read : said_in (lines_of line) ≡ Some (events, None)
  pub first : event ≡ first_of events

-- a line says a call, a command of an operator, or nothing
abbrev pub Says : List ℕ → Option Order → Type 0
Says line None = SaysCall line None
Says line (Some (order.Call event)) = SaysCall line (Some event)
Says line (Some (order.Command command)) = Spells line command

-- a line says no call: read as a script it is bad, or a restore, which an open database has not; or
-- it is no text; or it begins as a command of an operator
abbrev pub IsNoCall : List ℕ → LineTrouble → Type 0
IsNoCall line (trouble.Bad why) = (number : ℕ) × IsFirstBad (lines_of line) number
IsNoCall line trouble.Restore =
    (events : List Event) × (last : LastRestore)
    × (said_in (lines_of line) ≡ Some (events, Some last))
IsNoCall line trouble.NoText = ¬ IsText line
IsNoCall line trouble.NotAlone = BeginsAsCommand line
IsNoCall line trouble.NoCopyCommand = BeginsAsCommand line
IsNoCall line trouble.TooLong = ⊥
IsNoCall line trouble.Unended = ⊥

-- a line is no order, for this reason: it says no call, and no command either
abbrev pub IsNoOrder : List ℕ → LineTrouble → Type 0
IsNoOrder line why = IsNoCall line why × IsNoCommand line

-- what was read as a line says this, or is no order for this reason: one that is whole an order or
-- nothing, and one that no line feed ends nothing
abbrev pub LineSays : Line → Result (Option Order) LineTrouble → Type 0
LineSays (whole bytes) (Ok said) = Says bytes said
LineSays (whole bytes) (Err why) = IsNoOrder bytes why
LineSays (unended bytes) (Ok None) = SaysCall bytes None
LineSays (unended bytes) (Ok (Some order)) = ⊥
LineSays (unended bytes) (Err why) = why ≡ trouble.Unended
LineSays too_long (Ok said) = ⊥
LineSays too_long (Err why) = why ≡ trouble.TooLong

-- what is told of a line that is no call, for this reason; that of a bad line of a script depends
-- on the line's own words, and is not said here
abbrev pub words_for : LineTrouble → Option (List ℕ)
words_for (trouble.Bad why) = None
words_for trouble.NoText = Some (codes "not UTF-8")
words_for trouble.TooLong = Some (codes "over " ++ (decimal MOST_LINE ++ codes " bytes"))
words_for trouble.Unended = Some (codes "it has no line feed, and was not made")
words_for trouble.Restore = Some (codes "an open database has no `restore`")
words_for trouble.NotAlone = Some (codes "this word stands alone")
words_for trouble.NoCopyCommand = Some (codes "this word is `copy` or `copy on N`, of a copy N")

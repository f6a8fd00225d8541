-- Why a line is bad, and how that is told to a person.
use Rattle.std.specs.Prelude.{ℕ, ◌++◌, ◌||◌, List, [], ◌∷◌, codes, length, nat_eq, Option, Some}
use Rattle.std.specs.Prelude.{None}
use Rattle.std.specs.Prelude.{if◌then◌else◌}
use Rattle.std.specs.Fmt.{decimal}
use Rattle.std.specs.Option.{is_some}
use Rattle.std.specs.Str.{bytes_eq}
use Rattle.event_script.specs.declared.call.Args.TheVariants.{Nothing, One, Two, Four}
use Rattle.event_script.specs.declared.line_fault.LineFault.{LineFault}
use Rattle.event_script.specs.declared.line_fault.LineFault.TheVariants.{NoCall, UnknownCall}
use Rattle.event_script.specs.declared.line_fault.LineFault.TheVariants.{WordCount, BadNumber}
use Rattle.event_script.specs.declared.line_fault.LineFault.TheVariants.{BehindRestore}
use Rattle.event_script.specs.Script.{call_of, parsed_line}
use Rattle.event_script.specs.Words.{without_return, words_of}

-- how many words follow the name of a call: with so many zeros it is one
abbrev pub words_behind : List ℕ → Option ℕ
words_behind name =
    if is_some (call_of name Nothing) then Some 0
    else if is_some (call_of name (One 0)) then Some 1
    else if is_some (call_of name (Two 0 0)) || bytes_eq name (codes "restore") then Some 2
    else if is_some (call_of name (Four 0 0 0 0)) then Some 4
    else None

-- what is wrong with the words behind a name that so many words follow
abbrev pub fault_behind : Option ℕ → List (List ℕ) → LineFault
fault_behind None words = UnknownCall
fault_behind (Some count) words =
    if nat_eq (length words) count then BadNumber else WordCount count

-- what is wrong with the words of a line that says nothing
abbrev pub fault_in : List (List ℕ) → LineFault
fault_in [] = NoCall
fault_in (name ∷ words) = fault_behind (words_behind name) words

-- why a line may not stand where it stands: a line that says something follows a restore
abbrev pub why_bad : List ℕ → LineFault
why_bad line =
    if is_some (parsed_line line) then BehindRestore else fault_in (words_of (without_return line))

abbrev pub text_of_fault : LineFault → List ℕ
text_of_fault NoCall = codes "it has spaces alone"
text_of_fault UnknownCall = codes "unknown call"
text_of_fault (WordCount count) =
    codes "after this call's name stand " ++ decimal count ++ codes " words"
text_of_fault BadNumber = codes "a number is misspelled or too large"
text_of_fault BehindRestore = codes "nothing may follow a restore"

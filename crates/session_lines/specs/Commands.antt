-- The commands of an operator: how they are spelled, and what is told of them.
use Rattle.std.specs.Prelude.{ℕ, ◌≡◌, codes, List, [], ◌∷◌, None, Some, ◌<◌, ◌++◌}
use Rattle.session_lines.specs.Said.{IsAnswer, line_of_said}
use Rattle.session_lines.specs.declared.operator_command.OperatorCommand.TheVariants.{Checkpoint, Copy, Flush, Help}
use Rattle.session_lines.specs.declared.operator_command.OperatorCommand.TheVariants.{Status}
use Rattle.session_lines.specs.declared.command_said.CommandSaid.{CommandSaid}
use Rattle.session_lines.specs.declared.command_said.CommandSaid.TheVariants.{Call, Copied, Flushed}
use Rattle.std.specs.Fmt.{decimal}
use Rattle.std.specs.List.{Contains}
use Rattle.std.specs.Str.{IsTrimAscii}
use Rattle.event_script.specs.Words.{number_of}
use Rattle.session_lines.specs.declared.operator_command.OperatorCommand.{OperatorCommand}

-- what is told of a command is no refusal, and of no file that is not in place
abbrev pub IsToldWell : CommandSaid → Type 0
IsToldWell (Call said) = IsAnswer said
IsToldWell (Flushed count) = Unit {0}
IsToldWell (Copied id pages taken) = Unit {0}

-- it is told that the copy of this id was made
abbrev pub IsCopied : ℕ → CommandSaid → Type 0
IsCopied id said = (pages : ℕ) × (taken : ℕ) × (said ≡ Copied id pages taken)

-- ---- how commands are spelled

-- this text is a command
abbrev pub IsSpelled : List ℕ → OperatorCommand → Type 0
IsSpelled text Checkpoint = text ≡ codes "checkpoint"
IsSpelled text Flush = text ≡ codes "flush"
IsSpelled text (Copy None) = text ≡ codes "copy"
IsSpelled text (Copy (Some parent)) =
    (digits : List ℕ) × (text ≡ codes "copy on " ++ digits)
    × (number_of digits ≡ Some parent) × (parent < 4294967296)
IsSpelled text Status = text ≡ codes "status"
IsSpelled text Help = text ≡ codes "help"

-- a line has this text, and white space around it at most
abbrev pub SpellsText : List ℕ → List ℕ → Type 0
SpellsText line text = IsTrimAscii line text

-- and a command
abbrev pub Spells : List ℕ → OperatorCommand → Type 0
Spells line command = (text : List ℕ) × SpellsText line text × IsSpelled text command

-- a line spells no command
abbrev pub IsNoCommand : List ℕ → Type 0
IsNoCommand line = (command : OperatorCommand) → ¬ Spells line command

-- the first words of the commands
abbrev pub first_words : List (List ℕ)
first_words =
    codes "checkpoint" ∷ codes "flush" ∷ codes "copy" ∷ codes "status" ∷ codes "help"
    ∷ codes "quit" ∷ []

-- a text is this, or begins with it and a space
pub data HasFirstWord : List ℕ → List ℕ → Type 0 where
  alone : (first : List ℕ) → HasFirstWord first first
  goes_on : (first rest : List ℕ) → HasFirstWord (first ++ 32 ∷ rest) first

-- a line begins as a command does
pub record BeginsAsCommand (line : List ℕ) : Type 0 where
  pub text : List ℕ
  pub spelled : SpellsText line text
  pub first : List ℕ
  pub is_first : Contains first_words first
  pub begins : HasFirstWord text first

-- ---- what is told

-- the line of what is said of a command
abbrev pub line_of_command : CommandSaid → List ℕ
line_of_command (Call said) = line_of_said said
line_of_command (Flushed count) = codes "flushed " ++ decimal count
line_of_command (Copied id pages taken) =
    codes "copy " ++ decimal id ++ codes " pages " ++ decimal pages ++ codes " taken " ++ decimal taken

-- one line is told of a command, of its calls; or lines of the database or of the commands
pub data Told : Type 0 where
  one_line : (said : CommandSaid) → Told
  lines : (text : List ℕ) → Told

abbrev pub text_of : Told → List ℕ
text_of (one_line said) = line_of_command said ++ 10 ∷ []
text_of (lines text) = text

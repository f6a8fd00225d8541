-- What an open database says of a call.
use Rattle.std.specs.Prelude.{ℕ, ◌≡◌, ◌⊎◌, List, [], ◌∷◌, ◌++◌, Result, Ok, Err, ◌+◌, ◌<◌, Option}
use Rattle.std.specs.Prelude.{length, take}
use Rattle.engine_calls.specs.declared.event.Answer.{Answer}
use Rattle.engine_calls.specs.declared.refusal.Refusal.{Refusal}
use Rattle.engine_rules.specs.Step.{IsByDevice, IsByStore, IsFaultReply}
use Rattle.event_script.specs.Reply.{line_of_reply}
use Rattle.saved_files.specs.FileFault.{line_of as line_of_fault}
use Rattle.session_lines.specs.declared.said.Said.{Said}
use Rattle.session_lines.specs.declared.said.Said.TheVariants.{Reply, Unplaced}
use Rattle.std.specs.Io.KnownBytes.{Appends, Keeps}
use Rattle.session_lines.specs.declared.serve_fault.ServeFault.{ServeFault}
use Rattle.session_lines.specs.declared.serve_fault.ServeFault.TheVariants.{OutOfMemory, ReadFault}
use Rattle.session_lines.specs.declared.serve_fault.ServeFault.TheVariants.{WriteFault}

-- what is printed of it
abbrev pub line_of_said : Said → List ℕ
line_of_said (Reply reply) = line_of_reply reply
line_of_said (Unplaced fault) = line_of_fault fault

-- that line of what is said, with its line feed
abbrev pub said_line : Said → List ℕ
said_line said = line_of_said said ++ 10 ∷ []

-- what may be said of a reply to a call that makes a file: an answer, or that the file is not in
-- place; where the engine has made the call before, that is said which had to be said then
abbrev pub IsSaidOf : Result Answer Refusal → Refusal → Said → Type 0
IsSaidOf (Ok answer) again (Reply said) = said ≡ Ok answer
IsSaidOf (Err why) again (Reply (Err said)) = said ≡ why
IsSaidOf (Err why) again (Reply (Ok answer)) = why ≡ again
IsSaidOf (Ok answer) again (Unplaced fault) = Unit {0}
IsSaidOf (Err why) again (Unplaced fault) = why ≡ again

-- a file failed: one of the engine's, or the one that the call makes
abbrev pub IsFault : Said → Type 0
IsFault (Reply reply) = IsFaultReply IsByDevice reply ⊎ IsFaultReply IsByStore reply
IsFault (Unplaced fault) = Unit {0}

-- a call was accepted
abbrev pub IsAnswer : Said → Type 0
IsAnswer (Reply (Ok answer)) = Unit {0}
IsAnswer (Reply (Err why)) = ⊥
IsAnswer (Unplaced fault) = ⊥

-- what the engine replied is said, and no file was to be put in place
abbrev pub IsReply : Said → Type 0
IsReply (Reply said) = Unit {0}
IsReply (Unplaced fault) = ⊥

-- this is answered, or that a file is not in place
abbrev pub IsAnswerOr : Answer → Said → Type 0
IsAnswerOr answer (Reply said) = said ≡ Ok answer
IsAnswerOr answer (Unplaced fault) = Unit {0}

-- nothing of a line was written, for want of memory, or just so many of its first bytes
abbrev pub LeavesLine : Option (List ℕ) → Option (List ℕ) → List ℕ → ServeFault → Type 0
LeavesLine old new line OutOfMemory = Keeps old new
LeavesLine old new line ReadFault = ⊥
LeavesLine old new line (WriteFault done) =
    (done < length line) × Appends old new (take done line)

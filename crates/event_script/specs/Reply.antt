-- What is printed of a reply.
use Rattle.std.specs.Prelude.{ℕ, ◌++◌, List, codes, Result, Ok, Err}
use Rattle.std.specs.Fmt.{decimal}
use Rattle.engine_calls.specs.declared.event.Answer.{Answer}
use Rattle.engine_calls.specs.declared.event.Answer.TheVariants.{Began, Logged, Number, Undid, Ended}
use Rattle.engine_calls.specs.declared.event.Answer.TheVariants.{Forced, Writing, Written, More, Done}
use Rattle.engine_calls.specs.declared.event.Answer.TheVariants.{Point, Copied, Taken, Kept, Sealed}
use Rattle.engine_calls.specs.declared.event.Answer.TheVariants.{Dropped, Repaired, Saved, Reached}
use Rattle.engine_calls.specs.declared.refusal.Refusal.{Refusal}
use Rattle.engine_calls.specs.Refusal.{line_of as line_of_refusal}

abbrev pub line_of_answer : Answer → List ℕ
line_of_answer (Began txn lsn) = codes "began " ++ decimal txn ++ codes " at " ++ decimal lsn
line_of_answer (Logged lsn) = codes "lsn " ++ decimal lsn
line_of_answer (Number number) = codes "value " ++ decimal number
line_of_answer (Undid lsn) = codes "undid " ++ decimal lsn
line_of_answer (Ended lsn) = codes "ended " ++ decimal lsn
line_of_answer (Saved lsn) = codes "saved " ++ decimal lsn
line_of_answer Reached = codes "reached"
line_of_answer (Forced lsn) = codes "forced " ++ decimal lsn
line_of_answer (Writing lsn) = codes "writing " ++ decimal lsn
line_of_answer (Written lsn) = codes "written " ++ decimal lsn
line_of_answer More = codes "more"
line_of_answer Done = codes "done"
line_of_answer (Point begin end redo) =
    codes "point " ++ decimal begin ++ codes " " ++ decimal end ++ codes " " ++ decimal redo
line_of_answer (Copied id) = codes "copy " ++ decimal id
line_of_answer (Taken lsn) = codes "taken " ++ decimal lsn
line_of_answer Kept = codes "kept"
line_of_answer (Sealed count) = codes "sealed " ++ decimal count
line_of_answer Dropped = codes "dropped"
line_of_answer (Repaired lsn) = codes "repaired " ++ decimal lsn

abbrev pub line_of_reply : Result Answer Refusal → List ℕ
line_of_reply (Ok answer) = line_of_answer answer
line_of_reply (Err refusal) = line_of_refusal refusal

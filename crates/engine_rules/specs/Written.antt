-- The LSNs of the last writes, by events and replies alone.
use Rattle.std.specs.Prelude.{ℕ, ◌-◌, ◌++◌, List, [], ◌∷◌, length, replicate, slice_set, Result, Ok}
use Rattle.engine_calls.specs.declared.event.Answer.{Answer}
use Rattle.engine_calls.specs.declared.event.Answer.TheVariants as answer
use Rattle.engine_calls.specs.declared.event.Event.{Event}
use Rattle.engine_calls.specs.declared.event.Event.TheVariants as event
use Rattle.engine_calls.specs.declared.refusal.Refusal.{Refusal}

-- an accepted end of a write, or repair, answers the LSN that the page was written with
abbrev pub with_write : List ℕ → Event → Result Answer Refusal → List ℕ
with_write written (event.WriteEnd page) (Ok (answer.Written lsn)) = slice_set written page lsn
with_write written (event.Repair copy page) (Ok (answer.Repaired lsn)) = slice_set written page lsn
-- a volume that grows has pages more that were never written
with_write written (event.Extend count) (Ok answer) =
    written ++ replicate (count - length written) 0
with_write written event reply = written

abbrev pub written_from : List ℕ → List Event → List (Result Answer Refusal) → List ℕ
written_from written [] replies = written
written_from written (event ∷ events) [] = written
written_from written (event ∷ events) (reply ∷ replies) =
    written_from (with_write written event reply) events replies

-- of each page the LSN in the last accepted end of a write or repair of it, or 0
abbrev pub written_by : ℕ → List Event → List (Result Answer Refusal) → List ℕ
written_by pages events replies = written_from (replicate pages 0) events replies

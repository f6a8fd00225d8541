-- Whether the gather of a checkpoint has ended, and which checkpoint ended last, by events and
-- replies alone.
use Rattle.std.specs.Prelude.{ℕ, Bool, true, false, List, [], ◌∷◌, Option, Some, None, Result, Ok}
use Rattle.fuzzy_ckpt.specs.declared.point.Point.{Point}
use Rattle.engine_calls.specs.declared.event.Answer.{Answer}
use Rattle.engine_calls.specs.declared.event.Answer.TheVariants as answer
use Rattle.engine_calls.specs.declared.event.Event.{Event}
use Rattle.engine_calls.specs.declared.event.Event.TheVariants as event
use Rattle.engine_calls.specs.declared.refusal.Refusal.{Refusal}

-- an accepted begin of a checkpoint starts a gather, and an answer of Done ends it
abbrev pub with_gather : Bool → Event → Result Answer Refusal → Bool
with_gather done event.CkptBegin (Ok answer) = false
with_gather done event.CkptGather (Ok answer.Done) = true
with_gather done event reply = done

abbrev pub gather_from : Bool → List Event → List (Result Answer Refusal) → Bool
gather_from done [] replies = done
gather_from done (event ∷ events) [] = done
gather_from done (event ∷ events) (reply ∷ replies) =
    gather_from (with_gather done event reply) events replies

-- a gather was answered Done since the last accepted begin of a checkpoint
abbrev pub gather_ended : List Event → List (Result Answer Refusal) → Bool
gather_ended events replies = gather_from false events replies

-- ---- the checkpoint that ended last

-- the page count of a volume, and what it was at the last accepted begin of a checkpoint
pub record VolumeSize : Type 0 where
  pub now : ℕ
  pub begun : ℕ

abbrev pub new_size : ℕ → VolumeSize
new_size pages = record { now = pages; begun = pages }

abbrev pub with_size : VolumeSize → Event → Result Answer Refusal → VolumeSize
with_size size event.CkptBegin (Ok answer) = record size { begun = size.now }
with_size size (event.Extend count) (Ok answer) = record size { now = count }
with_size size event reply = size

-- an accepted end of a checkpoint answers what it is as a Point, whose page count is the one at its
-- begin
abbrev pub with_point : VolumeSize → Option Point → Event → Result Answer Refusal → Option Point
with_point size point event.CkptEnd (Ok (answer.Point begin end redo)) =
    Some (record { begin = begin; end = end; redo = redo; pages = size.begun })
with_point size point event reply = point

abbrev pub point_from : VolumeSize → Option Point → List Event → List (Result Answer Refusal)
    → Option Point
point_from size point [] replies = point
point_from size point (event ∷ events) [] = point
point_from size point (event ∷ events) (reply ∷ replies) =
    point_from (with_size size event reply) (with_point size point event reply) events replies

-- the last Point that was answered, of a volume that began with so many pages
abbrev pub last_point : ℕ → List Event → List (Result Answer Refusal) → Option Point
last_point pages events replies = point_from (new_size pages) None events replies

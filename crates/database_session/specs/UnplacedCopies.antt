-- Which complete copies wait for their files, and which checkpoint for its master record.
use Rattle.std.specs.Prelude.{ℕ, ◌≡◌, ◌≢◌, IsSomeAnd, List, None, Option, slice_index_or, Ok, Err}
use Rattle.engine_calls.specs.declared.event.Answer.{Answer}
use Rattle.engine_calls.specs.declared.event.Answer.TheVariants.{Point}
use Rattle.database_session.specs.declared.unplaced_copies.Stage.{Stage}
use Rattle.database_session.specs.declared.unplaced_copies.Stage.TheVariants.{Placed, WaitsAlone}
use Rattle.session_lines.specs.declared.said.Said.{Said}
use Rattle.session_lines.specs.declared.said.Said.TheVariants.{Reply, Unplaced}
use Rattle.database_session.specs.declared.unplaced_point.UnplacedPoint.{UnplacedPoint}

-- the copy of an id waits, in the list of stages by ids
abbrev pub Waits : List Stage → ℕ → Type 0
Waits stages id = slice_index_or stages id Placed ≢ Placed

-- it waits, and nothing else has its name
abbrev pub WaitsFree : List Stage → ℕ → Type 0
WaitsFree stages id = slice_index_or stages id Placed ≡ WaitsAlone

-- each copy but this one waits as before
abbrev pub KeepsOthers : ℕ → List Stage → List Stage → Type 0
KeepsOthers id old new =
    (other : ℕ) → other ≢ id → slice_index_or new other Placed ≡ slice_index_or old other Placed

-- a copy that is answered as complete does not wait, and it does where its file is not in place
abbrev pub WaitsUnlessPlaced : ℕ → Said → List Stage → Type 0
WaitsUnlessPlaced id (Reply (Ok answer)) stages = ¬ Waits stages id
WaitsUnlessPlaced id (Reply (Err why)) stages = Unit {0}
WaitsUnlessPlaced id (Unplaced fault) stages = Waits stages id

-- the answer of the call that ended a checkpoint
abbrev pub answer_of : UnplacedPoint → Answer
answer_of point = Point point.begin point.end point.redo

-- the checkpoint of this answer waits for its master record
abbrev pub PointWaits : Option UnplacedPoint → Answer → Type 0
PointWaits waiting answer = IsSomeAnd waiting (λ it. answer ≡ answer_of it)

-- where a checkpoint is answered, none waits; one does where its master record is not in place; and
-- where its end is refused, what waited before does still
abbrev pub PointWaitsUnlessPlaced : Option UnplacedPoint → Said → Option UnplacedPoint → Type 0
PointWaitsUnlessPlaced old (Reply (Ok answer)) new = new ≡ None
PointWaitsUnlessPlaced old (Reply (Err why)) new = new ≡ old
PointWaitsUnlessPlaced old (Unplaced fault) new = new ≢ None

-- The files that a call makes, which are in place before it is answered.
use Rattle.std.specs.Prelude.{ℕ, ◌≡◌, ◌⊎◌, List, [], Option, Some, None, Ok, Err, Result}
use Rattle.std.specs.Io.KnownBytes.{Appends}
use Rattle.std.specs.List.{Contains}
use Rattle.copy_vault.specs.CopyWrite.{WritesCopy}
use Rattle.copy_vault.specs.Vault.{CopyState, complete}
use Rattle.page_decisions.specs.Decisions.{taken_count}
use Rattle.engine_calls.specs.declared.event.Answer.{Answer}
use Rattle.engine_calls.specs.declared.event.Answer.TheVariants.{Copied, Point, Sealed}
use Rattle.engine_calls.specs.declared.event.Event.{Event}
use Rattle.engine_calls.specs.declared.event.Event.TheVariants.{CkptEnd, CopyFull, CopyInc, Seal}
use Rattle.engine_calls.specs.declared.refusal.Refusal.{Refusal}
use Rattle.engine_calls.specs.declared.refusal.Refusal.TheVariants.{CopyNotComplete}
use Rattle.engine_rules.specs.EngineState.{EngineState}
use Rattle.engine_rules.specs.Step.{Step}
use Rattle.log_store.specs.Master.{master_bytes}
use Rattle.saved_files.specs.Folder.{Entries}
use Rattle.saved_files.specs.PutFault.{bytes_by}
use Rattle.saved_files.specs.Saved.{name_of}
use Rattle.saved_files.specs.declared.saved_name.SavedName.TheVariants as saved
use Rattle.database_session.specs.Calls.{IsAnyReply, MakesOne, RunsBy}
use Rattle.database_session.specs.PageWrites.{HasNoDirtyPage}
use Rattle.database_session.specs.UnplacedCopies.{PointWaits, Waits, WaitsUnlessPlaced}
use Rattle.session_lines.specs.Said.{IsAnswer, IsAnswerOr, IsSaidOf}
use Rattle.database_session.specs.CommandCopies.{BeginsAndFills, EndsBySeal, IsPointNew}
use Rattle.database_session.specs.CommandCalls.{GathersClean, IsOfCheckpoint, IsSaidOnce, MakesCommand}
use Rattle.database_session.specs.CommandCalls.{Runs}
use Rattle.session_lines.specs.Commands.{Told, one_line}
use Rattle.database_session.specs.declared.unplaced_copies.Stage.{Stage}
use Rattle.session_lines.specs.declared.said.Said.{Said}
use Rattle.session_lines.specs.declared.said.Said.TheVariants.{Reply, Unplaced}
use Rattle.database_session.specs.declared.unplaced_point.UnplacedPoint.{UnplacedPoint}
use Rattle.session_lines.specs.declared.operator_command.OperatorCommand.{OperatorCommand}
use Rattle.session_lines.specs.declared.operator_command.OperatorCommand.TheVariants.{Checkpoint, Copy, Flush}
use Rattle.session_lines.specs.declared.command_said.CommandSaid.{CommandSaid}
use Rattle.session_lines.specs.declared.command_said.CommandSaid.TheVariants as command_said
use Rattle.database_files.specs.DatabaseFolder.{HasFile}

-- the engine made this call, and that is said of its reply; it refuses the call, where it has made
-- it before, in this way
abbrev pub StepsAndSays : EngineState → Event → Refusal → Said → EngineState → Type 0
StepsAndSays old event again said new =
    (reply : Result Answer Refusal) × Step old event reply new × IsSaidOf reply again said

-- the engine made the call that ends a checkpoint, and that is said of its reply
abbrev pub EndsCheckpoint : EngineState → Said → EngineState → Type 0
EndsCheckpoint old said new =
    (reply : Result Answer Refusal) × Step old CkptEnd reply new × IsSaidOnce reply said

-- pages were written until none was dirty, and then a checkpoint was gathered and ended, of which
-- that is said
abbrev pub EndsClean : EngineState → Said → EngineState → Type 0
EndsClean old said new =
    (gathered : EngineState) × GathersClean old gathered × EndsCheckpoint gathered said new

-- a checkpoint that is answered is the one that the engine has ended now, or the one that waited
abbrev pub IsEndedOrWaited : EngineState → Option UnplacedPoint → Said → EngineState → Type 0
IsEndedOrWaited old waiting (Reply (Ok answer)) new =
    Step old CkptEnd (Ok answer) new ⊎ PointWaits waiting answer
IsEndedOrWaited old waiting said new = Unit {0}

-- these bytes are the master record of a checkpoint
abbrev pub is_master : ℕ → ℕ → List ℕ → Type 0
is_master begin end =
    bytes_by (λ old new. Appends old new (master_bytes (record { begin = begin; end = end })))

-- where a checkpoint is answered, this holds of its begin and its end
abbrev pub IfPoint : Said → (ℕ → ℕ → Type 0) → Type 0
IfPoint said holds = (begin end redo : ℕ) → said ≡ Reply (Ok (Point begin end redo)) → holds begin end

-- where a new copy is answered, this holds of its id
abbrev pub IsCopy : Said → (ℕ → Type 0) → Type 0
IsCopy said holds = (id : ℕ) → said ≡ Reply (Ok (Copied id)) → holds id

-- a copy that is answered as complete has its file in place, and a checkpoint its master record
abbrev pub IsInPlace : Event → Said → EngineState → Option Entries → Type 0
IsInPlace (Seal id) said engine entries =
    IsAnswer said → HasFile (name_of (saved.Copy id)) (bytes_by (WritesCopy engine.copies id)) entries
IsInPlace CkptEnd said engine entries =
    IfPoint said (λ begin end. HasFile (name_of saved.Master) (is_master begin end) entries)
IsInPlace other said engine entries = Unit {0}

-- and the names of the folder are stored
abbrev pub IsStoredFor : Event → Said → Type 0 → Type 0
IsStoredFor (Seal id) said is_stored = IsAnswer said → is_stored
IsStoredFor CkptEnd said is_stored = IfPoint said (λ _ _. is_stored)
IsStoredFor other said is_stored = Unit {0}

-- so it is with a copy that is told of a command
abbrev pub IsCopyInPlace : CommandSaid → EngineState → Option Entries → Type 0
IsCopyInPlace (command_said.Copied id pages taken) engine entries =
    HasFile (name_of (saved.Copy id)) (bytes_by (WritesCopy engine.copies id)) entries
IsCopyInPlace other engine entries = Unit {0}

abbrev pub IsCopyStored : CommandSaid → Type 0 → Type 0
IsCopyStored (command_said.Copied id pages taken) is_stored = is_stored
IsCopyStored other is_stored = Unit {0}

-- and with what is told of each command: a checkpoint that is answered has its master record in
-- place
abbrev pub HasPlaced : OperatorCommand → Told → EngineState → Option Entries → Type 0
HasPlaced Checkpoint (one_line (command_said.Call said)) engine entries =
    IsInPlace CkptEnd said engine entries
HasPlaced (Copy parent) (one_line said) engine entries = IsCopyInPlace said engine entries
HasPlaced command told engine entries = Unit {0}

abbrev pub HasStored : OperatorCommand → Told → Type 0 → Type 0
HasStored Checkpoint (one_line (command_said.Call said)) is_stored = IsStoredFor CkptEnd said is_stored
HasStored (Copy parent) (one_line said) is_stored = IsCopyStored said is_stored
HasStored command told is_stored = Unit {0}

-- where a flush is answered, no page is dirty; where a checkpoint is, none was when it was begun,
-- or gone on with
abbrev pub IsCleanFor : OperatorCommand → EngineState → Told → EngineState → Type 0
IsCleanFor Flush old (one_line (command_said.Flushed count)) new = HasNoDirtyPage new
IsCleanFor Checkpoint old (one_line (command_said.Call said)) new =
    IfPoint said (λ _ _. EndsClean old said new)
IsCleanFor command old told new = Unit {0}

-- a copy that was made complete waits for its file, where that is not in place
abbrev pub WaitsFor : Event → Said → List Stage → Type 0
WaitsFor (Seal id) said stages = WaitsUnlessPlaced id said stages
WaitsFor other said stages = Unit {0}

-- of a complete copy whose file was not in place, its pages are told once more, or that it still is
-- not
abbrev pub IsSealedAgain : CopyState → Said → Type 0
IsSealedAgain (complete copy) said = IsAnswerOr (Sealed (taken_count copy.pages)) said
IsSealedAgain other said = Unit {0}

-- a new copy has no id of a file that could not be read
abbrev pub IsGiven : Event → Said → List ℕ → Type 0
IsGiven CopyFull said unread = IsCopy said (λ id. ¬ Contains unread id)
IsGiven (CopyInc parent) said unread = IsCopy said (λ id. ¬ Contains unread id)
IsGiven other said unread = Unit {0}

-- no copy stands on one that waits for its file
abbrev pub StandsOnPlaced : Event → Said → List Stage → Type 0
StandsOnPlaced (CopyInc parent) said stages =
    Waits stages parent → said ≡ Reply (Err CopyNotComplete)
StandsOnPlaced other said stages = Unit {0}

-- where each file of a copy could be read, a copy is begun by one call, whose reply is said
abbrev pub IsBegunAtOnce
    : Event → List ℕ → List Stage → EngineState → Said → EngineState → Type 0
IsBegunAtOnce CopyFull unread stages old said new = unread ≡ [] → MakesOne CopyFull old said new
IsBegunAtOnce (CopyInc parent) unread stages old said new =
    unread ≡ [] → ¬ Waits stages parent → MakesOne (CopyInc parent) old said new
IsBegunAtOnce other unread stages old said new = Unit {0}

-- ---- the copy of a command

-- a copy that is told does not wait for its file; where that is not in place, the copy that the
-- last call made complete does
abbrev pub WaitsUnlessCopied : ℕ → CommandSaid → List Stage → EngineState → EngineState → Type 0
WaitsUnlessCopied id (command_said.Copied other pages taken) stages old new =
    (other ≡ id) × ¬ Waits stages id
WaitsUnlessCopied id (command_said.Call (Unplaced fault)) stages old new =
    Waits stages id × Runs (EndsBySeal id) old new
WaitsUnlessCopied id (command_said.Call (Reply reply)) stages old new = Unit {0}
WaitsUnlessCopied id (command_said.Flushed count) stages old new = Unit {0}

abbrev pub SomeCopyWaits : CommandSaid → List Stage → EngineState → EngineState → Type 0
SomeCopyWaits said stages old new = (id : ℕ) × WaitsUnlessCopied id said stages old new

-- a copy waits for its file where that is not in place; or the master record of the checkpoint
-- before it is not in place
abbrev pub ItsFileWaits : CommandSaid → List Stage → EngineState → EngineState → Type 0
ItsFileWaits said stages old new =
    SomeCopyWaits said stages old new ⊎ MakesCommand Checkpoint old (one_line said) new

-- no copy is told
abbrev pub TellsNoCopy : CommandSaid → Type 0
TellsNoCopy (command_said.Copied id pages taken) = ⊥
TellsNoCopy (command_said.Call said) = Unit {0}
TellsNoCopy (command_said.Flushed count) = Unit {0}

-- no copy stands on one that waits for its file: no call is made then but those of a checkpoint
abbrev pub CopyStandsOnPlaced
    : Option ℕ → CommandSaid → List Stage → EngineState → EngineState → Type 0
CopyStandsOnPlaced None said stages old new = Unit {0}
CopyStandsOnPlaced (Some parent) said stages old new =
    Waits stages parent → TellsNoCopy said × RunsBy IsOfCheckpoint IsAnyReply old new

-- the copy that is told has no id of a file that could not be read
abbrev pub IsCopyGiven : CommandSaid → List ℕ → Type 0
IsCopyGiven (command_said.Copied id pages taken) unread = ¬ Contains unread id
IsCopyGiven (command_said.Call said) unread = Unit {0}
IsCopyGiven (command_said.Flushed count) unread = Unit {0}

-- behind which checkpoint a copy is begun: the last one, where that is new, and its master record
-- is in place; or another one, which was made before, and answered; or that was not, and none is
-- begun
pub data IsBehindPoint (parent : Option ℕ) (point : Option UnplacedPoint) (old : EngineState)
    (said : CommandSaid) (new : EngineState) : Type 0 where
  behind_last : IsPointNew old → point ≡ None
      → Runs (λ events replies. BeginsAndFills parent events replies said) old new
      → IsBehindPoint parent point old said new
  behind_another : (mid : EngineState) (call : Said) → IsAnswer call
      → MakesCommand Checkpoint old (one_line (command_said.Call call)) mid
      → IsCleanFor Checkpoint old (one_line (command_said.Call call)) mid
      → Runs (λ events replies. BeginsAndFills parent events replies said) mid new
      → IsBehindPoint parent point old said new
  not_behind : (call : Said) → ¬ IsAnswer call → said ≡ command_said.Call call
      → MakesCommand Checkpoint old (one_line (command_said.Call call)) new
      → IsBehindPoint parent point old said new

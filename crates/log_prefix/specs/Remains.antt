-- Records behind the front of a log's file, and which of them were forced.
use Rattle.std.specs.Prelude.{ℕ, ◌≡◌, ◌+◌, ◌<◌, List, slice_range}
use Rattle.log_records.specs.declared.limits.TheConstants.{RECORD_BYTES}
use Rattle.log_records.specs.declared.record.Record.{Record}
use Rattle.log_records.specs.declared.record.Record.TheVariants.{Begin, Update, Comp, Commit, Abort}
use Rattle.log_records.specs.declared.record.Record.TheVariants.{End, BeginChkpt, ChkptPages}
use Rattle.log_records.specs.declared.record.Record.TheVariants.{ChkptTxns, EndChkpt, Extend}
use Rattle.log_records.specs.Record.{SpellsRecord, own_lsn}

-- the record stands there, whatever stands before it: its own LSN is its place
pub record StandsAlone (bytes : List ℕ) (at : ℕ) (r : Record) : Type 0 where
  pub lsn : own_lsn r ≡ at
  pub spells : SpellsRecord r (slice_range bytes at (at + RECORD_BYTES))

-- an engine forces the log through such a record before it appends the next one
abbrev pub IsForcedAtOnce : Record → Type 0
IsForcedAtOnce (Begin lsn txn) = ⊥
IsForcedAtOnce (Update lsn txn prev page slot change) = ⊥
IsForcedAtOnce (Comp lsn txn prev undo_next page slot change) = ⊥
IsForcedAtOnce (Commit lsn txn prev) = Unit {0}
IsForcedAtOnce (Abort lsn txn prev) = ⊥
IsForcedAtOnce (End lsn txn prev) = ⊥
IsForcedAtOnce (BeginChkpt lsn) = ⊥
IsForcedAtOnce (ChkptPages lsn begin pages) = ⊥
IsForcedAtOnce (ChkptTxns lsn begin txn state last undo_next) = ⊥
IsForcedAtOnce (EndChkpt lsn begin redo) = Unit {0}
IsForcedAtOnce (Extend lsn pages) = ⊥

-- a force of the log ends with the record that stands there
pub record EndsForce (bytes : List ℕ) (at : ℕ) : Type 0 where
  pub it : Record
  pub stands : StandsAlone bytes at it
  pub at_once : IsForcedAtOnce it

-- a record stands behind that place
pub record HasBehind (bytes : List ℕ) (at : ℕ) : Type 0 where
  pub later : ℕ
  pub behind : at < later
  pub next : Record
  pub stands : StandsAlone bytes later next

-- the record that stands there was forced, since a record was appended behind it
pub record WasForced (bytes : List ℕ) (at : ℕ) : Type 0 where
  pub ends : EndsForce bytes at
  pub appended : HasBehind bytes at

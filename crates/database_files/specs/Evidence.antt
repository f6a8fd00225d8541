-- What shows that a log was longer once.
use Rattle.std.specs.Prelude.{ℕ, ◌≡◌, ◌↔◌, ◌<◌, ◌≤◌, ◌⊎◌, ◌++◌, List, [], ◌∷◌, codes, length, take}
use Rattle.std.specs.Prelude.{IfSome, None, Option, Some}
use Rattle.std.specs.List.{All, Contains}
use Rattle.page_decisions.specs.Decisions.{PageDecision, decision_at, kept, taken, undecided}
use Rattle.copy_vault.specs.Copy.{CopyView}
use Rattle.log_prefix.specs.Remains.{WasForced}
use Rattle.log_store.specs.declared.master.Master.{Master}
use Rattle.manifest.specs.declared.entry.FileSum.{FileSum}
use Rattle.manifest.specs.Entries.{Listed, file_of}
use Rattle.manifest.specs.Sums.{HasSummed, IsSumOf}
use Rattle.manifest.specs.declared.sums.Sums.{Sums}
use Rattle.database_files.specs.declared.closed_note.ClosedNote.{ClosedNote}
use Rattle.database_files.specs.declared.evidence.ForcedEndClaim.{ForcedEndClaim}
use Rattle.database_files.specs.declared.evidence.Witness.{Witness}
use Rattle.database_files.specs.declared.evidence.Witness.TheVariants as witness
use Rattle.database_files.specs.declared.found_copies.CopyFile.{CopyFile}
use Rattle.database_files.specs.declared.found_copies.FoundCopy.{FoundCopy}
use Rattle.database_files.specs.declared.found_copies.FoundCopy.TheVariants as found

-- a log that ends here lacks what a witness knows to have been forced: bytes before the place where
-- the log ended, or the record at the place; or the bytes before the place are other ones
abbrev pub Misses : ℕ → Witness → ℕ → Type 0
Misses end witness.Closed at = end < at
Misses end witness.Manifest at = end < at
Misses end witness.Changed at = Unit {0}
Misses end witness.Master at = end ≤ at
Misses end (witness.Begin copy) at = end ≤ at
Misses end (witness.Page copy page) at = end ≤ at
Misses end witness.Record at = end ≤ at

abbrev pub IsMissed : ForcedEndClaim → ℕ → Type 0
IsMissed claim end = Misses end claim.witness claim.at

-- a copy has no page with a change at the log's end or past it
abbrev pub KnowsBelow : ℕ → PageDecision → Type 0
KnowsBelow end undecided = Unit {0}
KnowsBelow end (taken page) = page.lsn < end
KnowsBelow end kept = Unit {0}

-- a copy began in the log, and knows of nothing past its end
pub record IsWithin (end : ℕ) (copy : CopyView) : Type 0 where
  pub begin : copy.begin < end
  pub pages : (p : ℕ) → p < length copy.pages → KnowsBelow end (decision_at copy.pages p)

-- so does what stands under the name of a copy, if it spells one
abbrev pub IsFoundWithin : ℕ → FoundCopy → Type 0
IsFoundWithin end (found.Whole copy) = IsWithin end copy
IsFoundWithin end (found.Wrong why) = Unit {0}
IsFoundWithin end (found.Unread why) = Unit {0}

abbrev pub IsFileWithin : ℕ → CopyFile → Type 0
IsFileWithin end file = IsFoundWithin end file.found

-- what a manifest says of the log
abbrev pub log_line : Option Listed → Option FileSum
log_line None = None
log_line (Some it) = file_of (codes "log") it.entries

-- these bytes begin with those that are named
abbrev pub BeginsAs : FileSum → List ℕ → Type 0
BeginsAs file bytes = IsSumOf file.sum file.bytes (take file.bytes bytes)

-- a log that ends here, in these bytes, begins with those that are named
pub record IsBegunIn (end : ℕ) (bytes : List ℕ) (file : FileSum) : Type 0 where
  pub within : file.bytes ≤ end
  pub same : BeginsAs file bytes

-- just the bytes are summed that a manifest names of a log, which begins with them
abbrev pub HaveSummedNamed : ℕ → List ℕ → Option FileSum → Option Sums → Type 0
HaveSummedNamed end bytes line None = Unit {0}
HaveSummedNamed end bytes None (Some sums) = ⊥
HaveSummedNamed end bytes (Some line) (Some sums) =
    HasSummed sums (take line.bytes bytes) × IsBegunIn end bytes line

-- nothing that was found knows of a forced record that a log which ends here lacks, and the log
-- begins with the bytes that the manifest names
pub record LacksNothing (end : ℕ) (note : Option ClosedNote) (manifest : Option Listed)
    (master : Option Master) (copies : List CopyFile) (bytes : List ℕ) : Type 0 where
  pub closed : IfSome note (λ it. it.end ≤ end)
  pub listed : IfSome (log_line manifest) (IsBegunIn end bytes)
  pub named : IfSome master (λ it. it.end < end)
  pub copied : All (IsFileWithin end) copies
  pub behind : (at : ℕ) → end ≤ at → ¬ WasForced bytes at

-- ---- the claims that are noted

-- a claim is noted behind the older ones just where the log lacks what it says
abbrev pub NotesMissed : ℕ → ForcedEndClaim → List ForcedEndClaim → List ForcedEndClaim → Type 0
NotesMissed end claim old new = (IsMissed claim end × (new ≡ old ++ claim ∷ []))
    ⊎ ((¬ IsMissed claim end) × (new ≡ old))

-- claims of this kind are noted behind the older ones; and none is, just where this holds
pub record Weighs (is_so : ForcedEndClaim → Type 0) (old new : List ForcedEndClaim) (holds : Type 0) : Type 0 where
  pub more : List ForcedEndClaim
  pub behind : new ≡ old ++ more
  pub each : All is_so more
  pub none : (more ≡ []) ↔ holds

-- a claim is one of this witness
abbrev pub IsBy : Witness → ForcedEndClaim → Type 0
IsBy witness claim = claim.witness ≡ witness

-- of the manifest
abbrev pub IsByManifest : ForcedEndClaim → Type 0
IsByManifest claim = IsBy witness.Manifest claim ⊎ IsBy witness.Changed claim

-- of the copy that stands under the name of this id
abbrev pub IsOfCopy : ℕ → ForcedEndClaim → Type 0
IsOfCopy id claim = IsBy (witness.Begin id) claim ⊎ ((page : ℕ) × IsBy (witness.Page id page) claim)

-- of the file of one of these copies, which knows of more than a log that ends here has
abbrev pub IsOfLongerCopy : ℕ → List CopyFile → ForcedEndClaim → Type 0
IsOfLongerCopy end copies claim = (file : CopyFile) × Contains copies file
    × (¬ IsFileWithin end file) × IsOfCopy file.id claim

-- the file of a copy knows of no more than the log has, or one of the claims names it by its id
abbrev pub IsWeighed : ℕ → List ForcedEndClaim → CopyFile → Type 0
IsWeighed end claims file = IsFileWithin end file
    ⊎ ((claim : ForcedEndClaim) × Contains claims claim × IsOfCopy file.id claim)

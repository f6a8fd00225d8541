-- A volume that stood where a new one is made.
use Rattle.std.proofs.Common.{◌≡◌, ◌≢◌, ◌∙◌, ◌+◌, ◌++◌, ℕ, Bool, List, ap, arith, length, length-append, refl, subst, sym}
use Rattle.std.specs.Prelude.{codes, Err, IfOk, IfSome, None, Ok, OnOk, Option, Result, Some}
use Rattle.engine_rules.specs.EngineState.{EngineState}
use Rattle.saved_files.specs.Folder.{Changes, Entries, FolderEntry, IsSame, absent, stored, unsynced}
use Rattle.database_files.specs.Found.{HasNoOrphan}
use Rattle.database_files.specs.LeftOut.{IsKept}
use Rattle.database_files.specs.Standing.{IsUnfinished, KeepsFinished}
use Rattle.database_files.proofs.Public.{log_finished}
use Rattle.database_opening.specs.OldVolume.{IsHeldAside, IsOldVolumeIn, KeepsButLogAndVolume, KeepsOldVolume, KeepsOldVolumeOfNew}
use Rattle.database_opening.specs.Opened.{GoesOnFromFile}
use Rattle.database_opening.specs.declared.first_line.FirstLine.{FirstLine}
use Rattle.database_opening.specs.declared.first_line.FirstLine.TheVariants.{New, Restarted}

IsNothing : FolderEntry → Type 0
IsNothing absent = Unit {0}
IsNothing unsynced = ⊥
IsNothing (stored bytes) = ⊥

not_stored : (bytes : List ℕ) → absent ≢ stored bytes
unfolding IsNothing
not_stored bytes same = subst IsNothing same tt

-- its name is shorter than the mark of an unfinished file
volume_finished : ¬ IsUnfinished (codes "volume")
volume_finished it =
    let behind = codes ".unfinished-" ++ it.1 in
    let sizes : 6 ≡ length it.0 + length behind = ap length it.2 ∙ length-append it.0 behind in
    let mark : length behind ≡ 12 + length it.1 = length-append (codes ".unfinished-") it.1 in
    absurd (omega (arith, sizes, mark))

-- the file that the volume's bytes have stays there while the new database is made
kept_there : (bytes : List ℕ) (a b c d : Entries) → HasNoOrphan a → a (codes "volume") ≡ stored bytes → KeepsFinished a b
    → IsKept (Some b) bytes (Some c) → KeepsButLogAndVolume c d → (name : List ℕ) × (d name ≡ stored bytes)
kept_there bytes a b c d none is finished aside others =
    let name = aside.0 in
    let free : b name ≡ absent = aside.2 in
    let volume : name ≢ codes "volume" = λ same. not_stored bytes
    (sym free ∙ ap b same ∙ finished (codes "volume") volume_finished ∙ is) in
    let log : name ≢ codes "log" = λ same. not_stored bytes (sym (none.volume
    (sym (finished (codes "log") log_finished) ∙ sym (ap b same) ∙ free)) ∙ is) in
    (name, others name log volume ∙ aside.3.put ∙ ap stored aside.3.right)

pub old_volume_kept : (is_salvage : Bool) (held : Option (List ℕ)) (a b c d : Option Entries) → IfSome a HasNoOrphan
    → IsOldVolumeIn is_salvage a held → Changes KeepsFinished a b → IsHeldAside held b c
    → Changes KeepsButLogAndVolume c d → KeepsOldVolume is_salvage a d
old_volume_kept is_salvage held None b c d none old cleared aside begun = tt
old_volume_kept is_salvage held (Some a) None c d none old cleared aside begun = absurd cleared
old_volume_kept is_salvage held (Some a) (Some b) c None none old cleared aside begun =
    λ bytes is changed. ((old bytes is changed).0, tt)
old_volume_kept is_salvage held (Some a) (Some b) None (Some d) none old cleared aside begun = absurd begun
old_volume_kept is_salvage held (Some a) (Some b) (Some c) (Some d) none old cleared aside begun =
    λ bytes is changed.
    let it = old bytes is changed in (
      it.0,
      kept_there bytes a b c d none is cleared
          (subst (λ (h : Option (List ℕ)). IsHeldAside h (Some b) (Some c)) it.1 aside) begun,
    )

-- ---- whichever way a database is opened

pub of_new : {T E : Type 0} (r : Result T E) (first : T → FirstLine) (is_salvage : Bool) (old new : Option Entries)
    → OnOk r (KeepsOldVolume is_salvage old new) → IfOk r (λ it. KeepsOldVolumeOfNew (first it) is_salvage old new)
of_new (Ok it) first is_salvage old new kept = λ pages is. kept
of_new (Err why) first is_salvage old new kept = tt

IsNewLine : FirstLine → Type 0
IsNewLine (New pages) = Unit {0}
IsNewLine (Restarted cut taken_back records) = ⊥

-- one that goes on is no new one
pub of_resumed : {T E : Type 0} (r : Result T E) (first : T → FirstLine) (state : T → EngineState)
    (entries : Option Entries) (is_salvage : Bool) (count : ℕ) (ids : List ℕ) (pages : Option ℕ) (frames : ℕ)
    (old new : Option Entries)
    → IfOk r (λ it. GoesOnFromFile entries is_salvage count ids pages frames (first it) (state it))
    → IfOk r (λ it. KeepsOldVolumeOfNew (first it) is_salvage old new)
unfolding IsNewLine
of_resumed (Ok it) first state entries is_salvage count ids pages frames old new on =
    λ made is. absurd (subst IsNewLine (sym is ∙ on.told) tt)
of_resumed (Err why) first state entries is_salvage count ids pages frames old new on = tt

kept_behind : (is_salvage : Bool) (old mid new : Option Entries) → Changes IsSame old mid
    → KeepsOldVolume is_salvage mid new → KeepsOldVolume is_salvage old new
kept_behind is_salvage None mid new same kept = tt
kept_behind is_salvage (Some old) None new same kept = absurd same
kept_behind is_salvage (Some old) (Some mid) new same kept =
    λ bytes is changed. kept bytes (same (codes "volume") ∙ is) changed

-- behind a claim that left the folder as it was
pub volume_in : {T E : Type 0} (r : Result T E) (first : T → FirstLine) (is_salvage : Bool)
    (old mid new : Option Entries) → Changes IsSame old mid
    → IfOk r (λ it. KeepsOldVolumeOfNew (first it) is_salvage mid new)
    → IfOk r (λ it. KeepsOldVolumeOfNew (first it) is_salvage old new)
volume_in (Ok it) first is_salvage old mid new same kept =
    λ pages is. kept_behind is_salvage old mid new same (kept pages is)
volume_in (Err why) first is_salvage old mid new same kept = tt

-- The files that a restore or an audit reads.
use Rattle.std.specs.Prelude.{ℕ, ◌-◌, ◌==◌, if◌then◌else◌, IfSome, List, map, Option, option_map}
use Rattle.std.specs.Prelude.{codes, slice_get, Some}
use Rattle.copy_audit.specs.Audited.{AreAudited}
use Rattle.media_restore.specs.MasterCheck.{IsRightMaster}
use Rattle.file_inputs.specs.declared.input_names.InputNames.{InputNames}

-- the name of the file at a place: that of the log, of the master record, and then of the archives
abbrev pub name_at : InputNames → ℕ → Option (List ℕ)
name_at names place =
    if place == 0 then Some names.log.now
    else if place == 1 then option_map (λ name. name.now) names.master
    else option_map (λ name. name.now) (slice_get names.archives.now (place - 2))

-- as what the file at a place is read
abbrev pub role_of : ℕ → List ℕ
role_of place =
    if place == 0 then codes "log"
    else if place == 1 then codes "master record"
    else codes "image copy"

-- the master record is right by the log, if one is named
abbrev pub HasRightMaster : (List ℕ → Option (List ℕ)) → InputNames → Type 0
HasRightMaster bytes names =
    IfSome names.master (λ name. IsRightMaster (bytes names.log.now) (bytes name.now))

-- so it is, and the archives are sound by the log, all of them
pub record IsAudited (bytes : List ℕ → Option (List ℕ)) (names : InputNames) : Type 0 where
  pub master : HasRightMaster bytes names
  pub sound : AreAudited (bytes names.log.now) (map (λ name. bytes name.now) names.archives.now)

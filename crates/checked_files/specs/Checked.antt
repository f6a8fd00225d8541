-- What is read of files that are checked.
use Rattle.std.specs.Prelude.{ℕ, List, Option, None, Some, IfSome}
use Rattle.std.specs.List.{AllByRecursion}
use Rattle.manifest.specs.declared.entry.FileSum.{FileSum}
use Rattle.manifest.specs.Checking.{IsNamed, checked}
use Rattle.saved_files.specs.declared.restore_names.RestoreNames.{RestoreNames}
use Rattle.checked_files.specs.declared.checked_files.Watched.{Watched}
use Rattle.checked_files.specs.declared.checked_files.Watched.TheVariants.{Checked, Plain}
use Rattle.checked_files.specs.declared.expected.Expected.{Expected}
use Rattle.checked_files.specs.Expected.{sum_of}

-- the bytes that a reader gives of a file, of which this is known
abbrev pub checked_by : Option FileSum → Option (List ℕ) → Option (List ℕ)
checked_by None bytes = bytes
checked_by (Some file) bytes = checked file bytes bytes

-- the bytes under each name, of files that are checked where they are expected
abbrev pub bytes_by : (List ℕ → Option (List ℕ)) → List Expected → List ℕ → Option (List ℕ)
bytes_by bytes expected name = checked_by (sum_of name expected) (bytes name)

-- what an open file has left
abbrev pub left_of : {F : Type 0} → (F → Option (List ℕ)) → Watched F → Option (List ℕ)
left_of remaining (Plain file) = remaining file
left_of remaining (Checked reader) =
    checked reader.file (remaining reader.begun) (remaining reader.reached)

-- a file that is expected, and whose bytes are known, is the one that is named
abbrev pub IsRight : Option FileSum → Option (List ℕ) → Type 0
IsRight expected bytes = IfSome expected (λ file. IfSome bytes (IsNamed file))

-- so is that of a name
abbrev pub IsRightIn : (List ℕ → Option (List ℕ)) → List Expected → List ℕ → Type 0
IsRightIn bytes expected name = IsRight (sum_of name expected) (bytes name)

-- and so are all that a restore reads
pub record AreRight (bytes : List ℕ → Option (List ℕ)) (expected : List Expected)
    (names : RestoreNames) : Type 0 where
  pub log : IsRightIn bytes expected names.log.now
  pub master : IsRightIn bytes expected names.master.now
  pub archives : AllByRecursion (λ name. IsRightIn bytes expected name.now) names.archives.now

-- Files that a command writes.
use Rattle.std.specs.Prelude.{ℕ, ◌≡◌, false, List, None, Option, Some, ⊤}
use Rattle.file_inputs.specs.Paths.{parts_in}
use Rattle.file_outputs.specs.declared.limits.OutputFault.{OutputFault}
use Rattle.file_outputs.specs.declared.limits.OutputFault.TheVariants.{Folder, InUse, Irregular}
use Rattle.file_outputs.specs.declared.limits.OutputFault.TheVariants.{Kept, Manifest, System}
use Rattle.file_outputs.specs.declared.limits.Limits.{Limits}
use Rattle.file_outputs.specs.declared.output_folder.OutputFolder.{OutputFolder}
use Rattle.file_outputs.specs.Unfinished.{NamesUnfinished}

-- the fault is of what stands under the output's name, and not of its folder or a call
abbrev pub IsOfName : OutputFault → Type 0
IsOfName Irregular = ⊤
IsOfName (Kept kept) = ⊤
IsOfName Manifest = ⊤
IsOfName InUse = ⊥
IsOfName (Folder why) = ⊥
IsOfName System = ⊥

-- an output that nothing was done with yet: its folder and its name are those of the path, and it
-- may replace what these limits leave
pub record IsOutputOf (path : List ℕ) (limits : Limits) (it : OutputFolder) : Type 0 where
  pub parts : parts_in path ≡ Some (it.folder.now, it.name.now)
  pub limits_are : it.limits ≡ limits
  pub alone : it.is_shared ≡ false
  pub right : it.fault ≡ None

-- a path that no output gets: that of a folder, or one with the name of an unfinished file
abbrev pub IsRefused : Option (List ℕ × List ℕ) → Type 0
IsRefused None = ⊤
IsRefused (Some parts) = NamesUnfinished parts.1

-- it is the same output: its path, its folder, its name and what it may replace
pub record IsSameOutput (old new : OutputFolder) : Type 0 where
  pub path : new.path ≡ old.path
  pub folder : new.folder ≡ old.folder
  pub name : new.name ≡ old.name
  pub limits : new.limits ≡ old.limits
  pub is_shared : new.is_shared ≡ old.is_shared

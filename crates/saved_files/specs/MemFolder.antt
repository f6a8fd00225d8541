-- What stands in a folder in memory.
use Rattle.std.specs.Prelude.{ℕ, ◌≡◌, ◌⊎◌, List, [], ◌∷◌, Option, Some, None, String}
use Rattle.std.specs.BTreeMap.{BTreeMap, get_by_text}
use Rattle.std.specs.String.{string_bytes}
use Rattle.saved_files.specs.declared.mem_entry.Earlier.{Earlier}
use Rattle.saved_files.specs.declared.mem_entry.MemEntry.{MemEntry}
use Rattle.saved_files.specs.declared.mem_entry.MemEntry.TheVariants.{Unsynced, Stored}
use Rattle.saved_files.specs.Folder.{Entries, FolderEntry, KeepsOthers, Remains, absent}
use Rattle.saved_files.specs.Folder.{stored, unsynced}

-- what a file is for who looks at the folder
abbrev pub entry_of : MemEntry → FolderEntry
entry_of (Unsynced number) = unsynced
entry_of (Stored number bytes) = stored bytes.items

-- and nothing, where there is none
abbrev pub entry_at : Option MemEntry → FolderEntry
entry_at None = absent
entry_at (Some file) = entry_of file

-- what stands under each name
abbrev pub entries_of : {Y : Type 0} → BTreeMap (String Y) MemEntry → Entries
entries_of files n = entry_at (get_by_text files n)

-- this stands under the name, and the other names are as before
pub record IsPut (name : List ℕ) (entry : FolderEntry) (old new : Entries) : Type 0 where
  pub put : new name ≡ entry
  pub others : KeepsOthers name old new

-- a name had this before one of these changes
abbrev pub HadBefore : List Earlier → Remains
HadBefore [] n e = ⊥
HadBefore (it ∷ past) n e =
    ((n ≡ string_bytes it.name) × (e ≡ entry_at it.file)) ⊎ HadBefore past n e

-- a crash may leave what a name has, or had before a change that is not stored
abbrev pub remains_of : {Y : Type 0} → BTreeMap (String Y) MemEntry → List Earlier → Remains
remains_of files past n e = (e ≡ entries_of files n) ⊎ HadBefore past n e

-- Files that are summed.
use Rattle.std.specs.Prelude.{ℕ, ◌≡◌, ◌<◌, IsOkAnd, IsTrue, List, Option, length, map, string_bytes}
use Rattle.std.specs.List.{slice_index_or}
use Rattle.manifest.specs.Entries.{Listed}
use Rattle.saved_files.specs.Folder.{Entries}
use Rattle.folder_reports.specs.Named.{IsAsSaid, said_at}
use Rattle.folder_reports.specs.declared.summed_files.SummedFile.{SummedFile}

-- these are the files that a manifest names, each with what it says of it
pub record AreFilesOf (manifest : Listed) (log : Option ℕ) (files : List SummedFile) : Type 0 where
  pub names : map (λ it. string_bytes it.name) files ≡ map (λ entry. entry.name) manifest.entries
  pub known : map (λ it. it.known) files ≡ map (λ entry. said_at manifest log entry.name) manifest.entries

-- it was found that the file is as the manifest says
abbrev pub IsRight : SummedFile → Type 0
IsRight it = IsOkAnd it.done IsTrue

-- a file was summed: what it is called and what is said of it stay, and it is found to be so only
-- where it is
pub record Sums (entries : Option Entries) (old new : SummedFile) : Type 0 where
  pub name : string_bytes new.name ≡ string_bytes old.name
  pub known : new.known ≡ old.known
  pub right : IsRight new → IsAsSaid entries (string_bytes old.name) old.known

-- so was each of these
pub record AreSummed (entries : Option Entries) (old new : List SummedFile) : Type 0 where
  pub many : length new ≡ length old
  pub each : (k : ℕ) (d : SummedFile) → k < length old
      → Sums entries (slice_index_or old k d) (slice_index_or new k d)

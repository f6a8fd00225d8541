-- Bytes behind a log that are put aside.
use Rattle.std.specs.Prelude.{ℕ, ◌≡◌, ◌≢◌, ◌≤◌, IfSome, List, codes, drop, length, Option}
use Rattle.std.specs.List.{Any}
use Rattle.engine_restart.specs.declared.log_file.FoundLog.{FoundLog}
use Rattle.log_prefix.specs.Front.{end_of}
use Rattle.log_records.specs.declared.limits.TheConstants.{RECORD_BYTES}
use Rattle.saved_files.specs.Folder.{Changes, Entries, Puts, stored}
use Rattle.database_files.specs.MovedAside.{IsFree}

-- the bytes behind a log in its file
abbrev pub behind : {T : Type 0} → FoundLog T → List ℕ
behind found = drop (end_of found.front.log) found.bytes.items

-- they are as many as a record has, and not zeros alone
pub record IsWorthKeeping (bytes : List ℕ) : Type 0 where
  pub enough : RECORD_BYTES ≤ length bytes
  pub some : Any (λ byte. byte ≢ 0) bytes

-- a file of a folder has just these bytes, stored, under some name that nothing had and that is not
-- the one of the note of a closing; every other name is as before
abbrev pub IsKept : Option Entries → List ℕ → Option Entries → Type 0
IsKept old bytes new = (name : List ℕ) × (name ≢ codes "closed") × IsFree name old
    × Changes (Puts name (λ it. it ≡ bytes)) old new

-- such a file stands in a folder, where it is known what stands there
abbrev pub WasKept : List ℕ → Option Entries → Type 0
WasKept bytes entries = IfSome entries (λ it. (name : List ℕ) × (it name ≡ stored bytes))

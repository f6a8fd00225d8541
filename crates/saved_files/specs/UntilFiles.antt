-- Files of which the log counts up to one of its records.
use Rattle.std.specs.Prelude.{ℕ, List, Option, None, Some, if◌then◌else◌}
use Rattle.std.specs.Io.Cursor.{cursor_remaining}
use Rattle.std.specs.Io.Take.{take_remaining}
use Rattle.std.specs.Str.{bytes_eq}
use Rattle.log_store.specs.declared.master.Master.{Master}
use Rattle.log_store.specs.Master.{master_bytes}
use Rattle.media_restore.specs.Until.{bytes_until}
use Rattle.saved_files.specs.declared.until_files.UntilFile.{UntilFile}
use Rattle.saved_files.specs.declared.until_files.UntilFile.TheVariants.{Cut, Made, Whole}

-- what such a file has left
abbrev pub left_of : {F : Type 0} → (F → Option (List ℕ)) → UntilFile F → Option (List ℕ)
left_of remaining (Cut front) = take_remaining remaining front
left_of remaining (Made bytes) = cursor_remaining Some bytes
left_of remaining (Whole file) = remaining file

-- under the name of the master record stand the bytes of this one, where a name is told
abbrev pub with_master : (List ℕ → Option (List ℕ)) → Option (List ℕ) → Master → List ℕ
    → Option (List ℕ)
with_master bytes None point name = bytes name
with_master bytes (Some master) point name =
    if bytes_eq name master then Some (master_bytes point) else bytes name

-- and under that of the log its bytes up to the end of the record at an LSN
abbrev pub bytes_of : (List ℕ → Option (List ℕ)) → List ℕ → Option (List ℕ) → ℕ → Master → List ℕ
    → Option (List ℕ)
bytes_of bytes log master lsn point name =
    if bytes_eq name log then bytes_until lsn (bytes name) else with_master bytes master point name

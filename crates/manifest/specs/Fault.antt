-- Why a manifest is refused, and why an entry is.
use Rattle.std.specs.Prelude.{ℕ, ◌≡◌, ◌≤◌, ◌+◌, ◌^◌, ◌++◌, List, codes, count_by, length, nat_eq, take}
use Rattle.std.specs.Prelude.{Result, Ok, Err, decimal}
use Rattle.manifest.specs.declared.fault.LineFault.{LineFault}
use Rattle.manifest.specs.declared.fault.LineFault.TheVariants as line
use Rattle.manifest.specs.declared.fault.ManifestFault.{ManifestFault}
use Rattle.manifest.specs.declared.fault.ManifestFault.TheVariants.{OutOfMemory, BadLine}
use Rattle.manifest.specs.declared.fault.NoteFault.{NoteFault}
use Rattle.manifest.specs.declared.fault.NoteFault.TheVariants as note
use Rattle.manifest.specs.Entries.{IsName, Lacks, Listed, Noted}

-- why an entry is refused
abbrev pub Refuses : Listed → Noted → NoteFault → Type 0
Refuses it entry note.OutOfMemory = Unit {0}
Refuses it entry note.BadName = ¬ IsName entry.name
Refuses it entry note.TooLong = 2 ^ 63 ≤ entry.file.bytes
Refuses it entry note.TooMany = Lacks entry.name it.entries × (length it.entries ≡ 4096)

-- what is read is this manifest, unless memory ran out
abbrev pub Reads : Listed → Result Listed ManifestFault → Type 0
Reads wanted (Ok it) = it ≡ wanted
Reads wanted (Err OutOfMemory) = Unit {0}
Reads wanted (Err (BadLine number why)) = ⊥

-- the number of the line that begins behind so many bytes
abbrev pub line_at : List ℕ → ℕ → ℕ
line_at bytes offset = count_by (nat_eq 10) (take offset bytes) + 1

abbrev pub text_of_line_fault : LineFault → List ℕ
text_of_line_fault line.Head = codes "no head of a manifest of format 1"
text_of_line_fault line.Length = codes "neither '# whole' nor '# first' with a length"
text_of_line_fault line.Sum = codes "no sum and name"
text_of_line_fault line.Twice = codes "a name stands twice"
text_of_line_fault line.TooMany = codes "more than 4096 entries"

abbrev pub text_of_fault : ManifestFault → List ℕ
text_of_fault OutOfMemory = codes "out of memory"
text_of_fault (BadLine number why) =
    codes "line " ++ (decimal number ++ (codes ": " ++ text_of_line_fault why))

abbrev pub text_of_note_fault : NoteFault → List ℕ
text_of_note_fault note.OutOfMemory = codes "out of memory"
text_of_note_fault note.BadName = codes "a name that a manifest cannot have"
text_of_note_fault note.TooLong = codes "more bytes than a manifest can have"
text_of_note_fault note.TooMany = codes "more than 4096 entries"

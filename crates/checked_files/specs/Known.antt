-- Which manifest counts, and what it says of a file that a command reads.
use Rattle.std.specs.Prelude.{ℕ, ◌≡◌, ◌≤◌, ◌&&◌, Bool, true, false, List, Option, None, Some, codes, nat_lt}
use Rattle.std.specs.Prelude.{if◌then◌else◌}
use Rattle.std.specs.Borrow.{Bor}
use Rattle.std.specs.Str.{bytes_eq}
use Rattle.manifest.specs.declared.entry.Extent.{Extent}
use Rattle.manifest.specs.declared.entry.Extent.TheVariants.{First, Whole}
use Rattle.manifest.specs.declared.entry.FileSum.{FileSum}
use Rattle.manifest.specs.Entries.{Listed, file_of}
use Rattle.checked_files.specs.declared.known.Known.{Known}
use Rattle.checked_files.specs.declared.known.Known.TheVariants.{Named, Nothing, Unnamed}
use Rattle.checked_files.specs.declared.known.ManifestUse.{ManifestUse}
use Rattle.checked_files.specs.declared.known.ManifestUse.TheVariants.{Aside, Beside, Told}
use Rattle.checked_files.specs.declared.known.ReadFile.{ReadFile}

-- what the words of a command say: a file and none are not said at once
abbrev pub use_of : Option (Bor (List ℕ)) → Bool → Option ManifestUse
use_of None false = Some Beside
use_of None true = Some Aside
use_of (Some file) false = Some (Told file)
use_of (Some file) true = None

-- more bytes are there than the first ones that are named
abbrev pub has_more : Extent → ℕ → ℕ → Bool
has_more First named bytes = nat_lt named bytes
has_more Whole named bytes = false

-- so it is of a log
abbrev pub has_grown : Option FileSum → Option ℕ → Bool
has_grown None bytes = false
has_grown (Some log) None = false
has_grown (Some log) (Some bytes) = has_more log.extent log.bytes bytes

-- the master record beside a log that has grown: a newer one may have taken its place since
abbrev pub is_behind : Listed → ReadFile → Bool
is_behind manifest it =
    bytes_eq it.name.now (codes "master") && has_grown (file_of (codes "log") manifest.entries) it.log

-- what an entry says, if there is one, of a file that may be behind
abbrev pub said_by : Option FileSum → Bool → Known
said_by None behind = Unnamed
said_by (Some file) true = Nothing
said_by (Some file) false = Named file

-- what a manifest says of a file, if there is one
abbrev pub said_of : Option Listed → ReadFile → Known
said_of None it = Nothing
said_of (Some manifest) it = if it.in_part then Nothing
    else said_by (file_of it.name.now manifest.entries) (is_behind manifest it)

-- what is known of a file
abbrev pub known_of : ManifestUse → Option Listed → ReadFile → Known
known_of Beside stands it = said_of stands it
known_of (Told file) stands it = said_of stands it
known_of Aside stands it = Nothing

-- a file of so many bytes may be the one that is named
abbrev pub Fits : Extent → ℕ → ℕ → Type 0
Fits Whole named bytes = bytes ≡ named
Fits First named bytes = named ≤ bytes

abbrev pub FitsLength : FileSum → ℕ → Type 0
FitsLength file bytes = Fits file.extent file.bytes bytes

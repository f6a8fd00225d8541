-- What a manifest says: of which database it is, and what is known of each file.
use Rattle.std.specs.Prelude.{ℕ, ◌≡◌, ◌≢◌, ◌<◌, ◌≤◌, ◌^◌, ◌&&◌, Bool, true, not, filter, List, [], ◌∷◌}
use Rattle.std.specs.Prelude.{length, nat_eq, nat_le, slice_index, Option, Some, None}
use Rattle.std.specs.Prelude.{if◌then◌else◌}
use Rattle.std.specs.List.{AllByRecursion}
use Rattle.std.specs.Str.{bytes_eq}
use Rattle.manifest.specs.declared.entry.FileSum.{FileSum}

-- an entry: a file's name, and what is known of its bytes
pub record Noted : Type 0 where
  pub name : List ℕ
  pub file : FileSum

pub record Listed : Type 0 where
  pub database : List ℕ
  pub entries : List Noted

-- so many bytes
pub record IsOctets (count : ℕ) (xs : List ℕ) : Type 0 where
  pub many : length xs ≡ count
  pub bytes : (i : ℕ) → slice_index xs i < 256

-- printable ASCII, and no space, no slash and no backslash
abbrev pub is_name_byte : ℕ → Bool
is_name_byte byte =
    (nat_le 33 byte && nat_le byte 126) && (not (nat_eq byte 47) && not (nat_eq byte 92))

pub record IsName (name : List ℕ) : Type 0 where
  pub some : 0 < length name
  pub short : length name ≤ 255
  pub plain : AllByRecursion (λ byte. is_name_byte byte ≡ true) name

pub record IsNoted (entry : Noted) : Type 0 where
  pub name : IsName entry.name
  pub bytes : entry.file.bytes < 2 ^ 63
  pub sum : IsOctets 32 entry.file.sum.0

-- no entry has the name
abbrev pub Lacks : List ℕ → List Noted → Type 0
Lacks name entries = AllByRecursion (λ entry. entry.name ≢ name) entries

-- no two entries have one name
abbrev pub AreApart : List Noted → Type 0
AreApart [] = Unit {0}
AreApart (entry ∷ entries) = Lacks entry.name entries × AreApart entries

pub record IsManifest (it : Listed) : Type 0 where
  pub database : IsOctets 16 it.database
  pub few : length it.entries ≤ 4096
  pub each : AllByRecursion IsNoted it.entries
  pub apart : AreApart it.entries

-- what is known of the file of a name
abbrev pub file_of : List ℕ → List Noted → Option FileSum
file_of name [] = None
file_of name (entry ∷ entries) =
    if bytes_eq entry.name name then Some entry.file else file_of name entries

-- the entries after one is noted: it stands in the place of that of its name, or at the end
abbrev pub noted : Noted → List Noted → List Noted
noted new [] = new ∷ []
noted new (entry ∷ entries) =
    if bytes_eq entry.name new.name then new ∷ entries else entry ∷ noted new entries

-- the entries without those of a name
abbrev pub without : List ℕ → List Noted → List Noted
without name entries = filter (λ entry. not (bytes_eq entry.name name)) entries

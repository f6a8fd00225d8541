-- What the folder of a database tells of a name.
use Rattle.std.specs.Prelude.{ℕ, ◌≡◌, ◌≢◌, ◌↔◌, ◌<◌, ◌≤◌, ◌⊎◌, Bool, true, false, codes, IfSome}
use Rattle.std.specs.Prelude.{length, List, None, Option, Some, slice_index_or, take}
use Rattle.std.specs.List.{All, Contains}
use Rattle.log_records.specs.declared.limits.TheConstants.{HEADER_BYTES}
use Rattle.saved_files.specs.Folder.{Entries, FolderEntry, absent, stored, unsynced}
use Rattle.database_files.specs.declared.database_folder.Standing.{Standing}
use Rattle.database_files.specs.declared.database_folder.Standing.TheVariants.{File, NotAFile}
use Rattle.database_files.specs.declared.database_folder.Standing.TheVariants.{Absent}
use Rattle.database_files.specs.declared.log_file.LogFile.{LogFile}

-- it is told whether something has the name, as far as that is known
abbrev pub Tells : Option Entries → List ℕ → Bool → Type 0
Tells None name has = Unit {0}
Tells (Some entries) name true = entries name ≢ absent
Tells (Some entries) name false = entries name ≡ absent

-- these names are those under which something stands, as far as that is known
abbrev pub ListsAll : Option Entries → List (List ℕ) → Type 0
ListsAll entries names = IfSome entries (λ it. (n : List ℕ) → it n ≢ absent ↔ Contains names n)

-- these bytes are read of what stands there: those that are stored; of a file that was not synced
-- it is not known which
abbrev pub AreOf : FolderEntry → Option (List ℕ) → Type 0
AreOf absent bytes = ⊥
AreOf unsynced bytes = Unit {0}
AreOf (stored all) bytes = bytes ≡ Some all

-- what stands there may be no regular file: no bytes are known to be stored of it
abbrev pub MayBeNotAFile : FolderEntry → Type 0
MayBeNotAFile absent = ⊥
MayBeNotAFile unsynced = Unit {0}
MayBeNotAFile (stored all) = ⊥

-- what is given of a name, whose bytes are these, is what stands there
abbrev pub OpensIn : {T : Type 0} → Standing T → (T → Option (List ℕ)) → FolderEntry → Type 0
OpensIn Absent bytes there = there ≡ absent
OpensIn NotAFile bytes there = MayBeNotAFile there
OpensIn (File it) bytes there = AreOf there (bytes it)

-- so it is as far as that is known
abbrev pub Opens : {T : Type 0} → Standing T → (T → Option (List ℕ)) → Option Entries → List ℕ → Type 0
Opens given bytes None name = Unit {0}
Opens given bytes (Some entries) name = OpensIn given bytes (entries name)

-- these are all bytes of what stands there
abbrev pub HasBytes : Option Entries → List ℕ → List ℕ → Type 0
HasBytes entries name bytes = IfSome entries (λ it. AreOf (it name) (Some bytes))

-- what was read of a name, if a file has it, is what stands there
abbrev pub ReadsIn : {T : Type 0} → Option T → (T → List ℕ) → FolderEntry → Type 0
ReadsIn None bytes there = there ≡ absent
ReadsIn (Some it) bytes there = AreOf there (Some (bytes it))

-- so it is as far as that is known
abbrev pub Reads : {T : Type 0} → Option T → (T → List ℕ) → Option Entries → List ℕ → Type 0
Reads given bytes entries name = IfSome entries (λ it. ReadsIn given bytes (it name))

-- so many bytes were read of what stands there: its first ones, as many as there is room for in
-- these
abbrev pub AreReadOf : FolderEntry → List ℕ → ℕ → Type 0
AreReadOf absent bytes len = ⊥
AreReadOf unsynced bytes len = Unit {0}
AreReadOf (stored all) bytes len = take len bytes ≡ take (length bytes) all

-- what is given of a name, with so many of its first bytes in these, is what stands there
abbrev pub BeginsIn : Standing ℕ → List ℕ → FolderEntry → Type 0
BeginsIn Absent bytes there = there ≡ absent
BeginsIn NotAFile bytes there = MayBeNotAFile there
BeginsIn (File len) bytes there = (len ≤ length bytes) × AreReadOf there bytes len

-- ---- the file of the log

-- it has so many bytes, where it is known which are stored
abbrev pub HasLength : FolderEntry → ℕ → Type 0
HasLength absent len = ⊥
HasLength unsynced len = Unit {0}
HasLength (stored all) len = len ≡ length all

-- no log stands in a folder, as far as that is known
abbrev pub IsWithoutLog : Option Entries → Type 0
IsWithoutLog entries = IfSome entries (λ it. it (codes "log") ≡ absent)

-- these are the bytes of the log that stands there
abbrev pub HasLogBytes : Option Entries → List ℕ → Type 0
HasLogBytes entries bytes = IfSome entries (λ it. AreOf (it (codes "log")) (Some bytes))

-- a log of so many bytes stands there
abbrev pub HasLogOf : Option Entries → ℕ → Type 0
HasLogOf entries len = IfSome entries (λ it. HasLength (it (codes "log")) len)

-- this file, of which its bytes are known so, is that of the log that stands there
abbrev pub IsLogIn : {L : Type 0} → Option Entries → (L → Option (List ℕ)) → LogFile L → Type 0
IsLogIn entries held log =
    IfSome entries (λ it. AreOf (it (codes "log")) (held log.file)) × HasLogOf entries log.len

-- that file is opened; or none is, and none stands there
abbrev pub OpensLog : {L : Type 0} → Option Entries → (L → Option (List ℕ)) → Option (LogFile L)
    → Type 0
OpensLog entries held None = IsWithoutLog entries
OpensLog entries held (Some log) = IsLogIn entries held log

-- a file begins with these bytes, where it is known which it has
abbrev pub AreFirstOf : Option (List ℕ) → List ℕ → Type 0
AreFirstOf held bytes = IfSome held (λ all. bytes ≡ take (length bytes) all)

-- these bytes are all zeros
abbrev pub AreZeros : List ℕ → Type 0
AreZeros bytes = All (λ byte. byte ≡ 0) bytes

-- the file of a log, of which these bytes are known, and which has so many, has no header: it has
-- fewer bytes than that, or zeros alone
abbrev pub IsHeadless : Option (List ℕ) → ℕ → Type 0
IsHeadless held len =
    (len < HEADER_BYTES) ⊎ IfSome held (λ all. AreZeros (take len all))

-- so it is with what stands there as the log, where it is known which bytes are stored
abbrev pub IsHeadlessAt : FolderEntry → Type 0
IsHeadlessAt absent = Unit {0}
IsHeadlessAt unsynced = Unit {0}
IsHeadlessAt (stored all) = (length all < HEADER_BYTES) ⊎ AreZeros all

abbrev pub HasHeadlessLog : Option Entries → Type 0
HasHeadlessLog entries = IfSome entries (λ it. IsHeadlessAt (it (codes "log")))

-- ---- the file of the volume

-- these bytes begin as a volume does, with the number of page 0 and that of the format, or with
-- zeros in their place, as far as they go
abbrev pub BeginsAsVolume : List ℕ → Type 0
BeginsAsVolume bytes = (k : ℕ) → k < 8 → k < length bytes
    → (slice_index_or bytes k 0 ≡ 0) ⊎ ((k ≡ 4) × (slice_index_or bytes k 0 ≡ 1))

-- what stands there is no other file; of one that was not synced that is not known
abbrev pub IsVolume : FolderEntry → Type 0
IsVolume absent = Unit {0}
IsVolume unsynced = Unit {0}
IsVolume (stored bytes) = BeginsAsVolume bytes

-- nothing but a volume has the volume's name in a folder, as far as that is known
abbrev pub HasNoOtherVolume : Option Entries → Type 0
HasNoOtherVolume entries = IfSome entries (λ it. IsVolume (it (codes "volume")))

-- a file of such bytes stands in a folder under this name, whole and stored, where it is known what
-- stands there
abbrev pub HasFile : List ℕ → (List ℕ → Type 0) → Option Entries → Type 0
HasFile name fits entries =
    IfSome entries (λ it. (bytes : List ℕ) × fits bytes × (it name ≡ stored bytes))

-- What is read of the files of a folder.
use Rattle.std.specs.Prelude.{ℕ, ◌≡◌, ◌≤◌, ◌++◌, IfSome, List, [], None, Option, Some, codes, length}
use Rattle.copy_audit.specs.Audit.{IsOfLog}
use Rattle.file_view.specs.CopyHeader.{IsHeaderOf}
use Rattle.file_view.specs.declared.copy_header.CopyHeader.{CopyHeader}
use Rattle.log_records.specs.Log.{Log}
use Rattle.saved_files.specs.Folder.{Entries, FolderEntry, absent, stored, unsynced}
use Rattle.database_files.specs.DatabaseFolder.{HasLength, MayBeNotAFile}
use Rattle.database_files.specs.declared.database_folder.Standing.{Standing}
use Rattle.database_files.specs.declared.database_folder.Standing.TheVariants.{Absent, File, NotAFile}

-- so many bytes are told of what stands there
abbrev pub MeasuresIn : Standing ℕ → FolderEntry → Type 0
MeasuresIn Absent there = there ≡ absent
MeasuresIn NotAFile there = MayBeNotAFile there
MeasuresIn (File len) there = HasLength there len

-- so it is as far as it is known what stands there
abbrev pub Measures : Standing ℕ → Option Entries → List ℕ → Type 0
Measures given entries name = IfSome entries (λ it. MeasuresIn given (it name))

-- the bytes that stand there, as far as these are known: where nothing stands there are none
abbrev pub bytes_at : FolderEntry → Option (List ℕ)
bytes_at absent = Some []
bytes_at unsynced = None
bytes_at (stored bytes) = Some bytes

-- the bytes under each name
abbrev pub bytes_in : Option Entries → List ℕ → Option (List ℕ)
bytes_in None name = None
bytes_in (Some entries) name = bytes_at (entries name)

-- something stands there
abbrev pub IsThere : FolderEntry → Type 0
IsThere absent = ⊥
IsThere unsynced = Unit {0}
IsThere (stored bytes) = Unit {0}

-- so it is under a name, as far as that is known
abbrev pub IsThereIn : Option Entries → List ℕ → Type 0
IsThereIn entries name = IfSome entries (λ there. IsThere (there name))

-- nothing stands under a name, as far as that is known
abbrev pub IsAbsentIn : Option Entries → List ℕ → Type 0
IsAbsentIn entries name = IfSome entries (λ there. there name ≡ absent)

-- what is opened of what stands there: a file that has just those bytes left
abbrev pub OpensAt : {T : Type 0} → Standing T → (T → Option (List ℕ)) → FolderEntry → Type 0
OpensAt Absent left there = there ≡ absent
OpensAt NotAFile left there = MayBeNotAFile there
OpensAt (File it) left there = IsThere there × (left it ≡ bytes_at there)

-- of a file of which nothing is known it is not known what it has left
abbrev pub IsUnknown : {T : Type 0} → Standing T → (T → Option (List ℕ)) → Type 0
IsUnknown Absent left = Unit {0}
IsUnknown NotAFile left = Unit {0}
IsUnknown (File it) left = left it ≡ None

-- what is opened under a name of a folder
abbrev pub OpensFile : {T : Type 0} → Standing T → (T → Option (List ℕ)) → Option Entries → List ℕ → Type 0
OpensFile given left None name = IsUnknown given left
OpensFile given left (Some entries) name = OpensAt given left (entries name)

-- what is given of a folder's name is a file that is there, and these are its bytes
pub record IsFileIn (entries : Option Entries) (name : List ℕ) (bytes : Option (List ℕ)) : Type 0 where
  pub there : IsThereIn entries name
  pub same : bytes ≡ bytes_in entries name

-- the bytes begin so, as far as they are known
abbrev pub BeginsWith : Option (List ℕ) → List ℕ → Type 0
BeginsWith known front = IfSome known (λ all. (rest : List ℕ) × (all ≡ front ++ rest))

-- ---- the log

-- these bytes are a log to their end, as far as they are known
abbrev pub IsWhole : Option (List ℕ) → Type 0
IsWhole bytes = (log : Log) × IsOfLog bytes log

-- so many bytes are told of the log of a folder, if its length is known
abbrev pub IsLogLength : Option Entries → Option ℕ → Type 0
IsLogLength entries len =
    IfSome len (λ count. IfSome entries (λ there. HasLength (there (codes "log")) count))

-- the log has so many bytes at least
abbrev pub HasAtLeast : FolderEntry → ℕ → Type 0
HasAtLeast absent count = ⊥
HasAtLeast unsynced count = Unit {0}
HasAtLeast (stored bytes) count = count ≤ length bytes

-- ---- copies

-- what stands there begins with this header
abbrev pub IsHeaderAt : FolderEntry → CopyHeader → Type 0
IsHeaderAt absent header = ⊥
IsHeaderAt unsynced header = Unit {0}
IsHeaderAt (stored bytes) header = IsHeaderOf bytes header

-- so it is under a name, as far as that is known
abbrev pub IsHeaderIn : Option Entries → List ℕ → CopyHeader → Type 0
IsHeaderIn entries name header = IfSome entries (λ there. IsHeaderAt (there name) header)

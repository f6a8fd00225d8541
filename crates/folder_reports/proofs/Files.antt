-- What is read of files, and what stands there then.
use Rattle.std.proofs.Common.{◌≡◌, ◌<◌, ◌≤◌, ◌∙◌, ℕ, List, ap, arith, length, length-append, refl, subst, sym, take}
use Rattle.std.specs.Prelude.{codes, IfSome, None, Option, option_map, Some}
use Rattle.log_prefix.specs.Front.{IsCut, IsFrontOf}
use Rattle.log_prefix.specs.declared.cut.Cut.{Cut}
use Rattle.log_records.specs.Log.{Log, SpellsLog}
use Rattle.log_records.specs.declared.limits.TheConstants.{MAX_LOG_BYTES}
use Rattle.std.specs.Io.KnownBytes.{Consumes}
use Rattle.std.proofs.lemmas.List.{length-take, take-append-le, take_all}
use Rattle.database_files.proofs.Public.{is_few}
use Rattle.database_files.specs.Closed.{SpellsNote}
use Rattle.database_files.specs.DatabaseFolder.{HasLength}
use Rattle.database_files.specs.Found.{IsFoundAt, IsFoundIn, IsReadOf}
use Rattle.database_files.specs.declared.closed_note.ClosedNote.{ClosedNote}
use Rattle.file_view.specs.CopyHeader.{IsHeaderOf}
use Rattle.file_view.specs.declared.copy_header.CopyHeader.{CopyHeader}
use Rattle.saved_files.specs.Folder.{Entries, FolderEntry, absent, stored, unsynced}
use Rattle.folder_reports.specs.Reading.{BeginsWith, HasAtLeast, IsAbsentIn, IsFileIn, IsHeaderAt, IsHeaderIn, IsLogLength, IsThere, bytes_at}
use Rattle.folder_reports.specs.Sound.{HasAllOf}

-- where nothing stands, nothing is found
pub none_found : {T : Type 0} (spells : T → List ℕ → Type 0) (entries : Option Entries) (name : List ℕ)
    → IsAbsentIn entries name → IsFoundIn spells entries name None
none_found spells None name none = tt
none_found spells (Some there) name none = subst (λ (e : FolderEntry). IsFoundAt spells e None) (sym none) refl

found_at : {T : Type 0} (spells : T → List ℕ → Type 0) (it : Option T) (e : FolderEntry) (known : Option (List ℕ))
    → IsThere e → known ≡ bytes_at e → IfSome known (λ bytes. IsReadOf spells bytes it) → IsFoundAt spells e it
found_at spells it absent known there same read = absurd there
found_at spells it unsynced known there same read = tt
found_at spells it (stored bytes) known there same read =
    subst (λ (k : Option (List ℕ)). IfSome k (λ all. IsReadOf spells all it)) same read

-- what is read of the bytes of a file is found there
pub found : {T : Type 0} (spells : T → List ℕ → Type 0) (entries : Option Entries) (name : List ℕ) (known : Option (List ℕ))
    (it : Option T) → IsFileIn entries name known → IfSome known (λ bytes. IsReadOf spells bytes it)
    → IsFoundIn spells entries name it
found spells None name known it file read = tt
found spells (Some there) name known it file read = found_at spells it (there name) known file.there file.same read

-- ---- the note of a closing

-- all bytes are few where the first ones are
pub all_few : (count : ℕ) (all : List ℕ) → length (take count all) < count → take count all ≡ all
all_few count all few = take_all count all (omega (arith, few, length-take count all))

-- the first bytes are a note where all bytes are
pub note_in_all : (all front : List ℕ) (it : Option ClosedNote) → front ≡ take 32 all → IsReadOf SpellsNote front it
    → IsReadOf SpellsNote all it
note_in_all all front None is read = λ note spells.
    let few : length all < 32 = is_few note all spells in
    read note (subst (SpellsNote note) (sym (is ∙ take_all 32 all (omega (arith, few)))) spells)
note_in_all all front (Some note) is read =
    let few : length front < 32 = is_few note front read in
    let same : take 32 all ≡ all = all_few 32 all (subst (λ (bytes : List ℕ). length bytes < 32) is few) in
    subst (SpellsNote note) (is ∙ same) read

pub front_of : (known : Option (List ℕ)) (front : List ℕ) → BeginsWith (option_map (take 32) known) front
    → (length front ≤ MAX_LOG_BYTES → IfSome (option_map (take 32) known) (λ all. front ≡ all))
    → IfSome known (λ all. front ≡ take 32 all)
front_of None front given whole = tt
front_of (Some all) front given whole =
    whole (omega (arith, ap (length {A = ℕ}) given.1, length-append front given.0, length-take 32 all))

pub note_found : (known : Option (List ℕ)) (front : List ℕ) (it : Option ClosedNote)
    → IfSome known (λ all. front ≡ take 32 all) → IsReadOf SpellsNote front it
    → IfSome known (λ all. IsReadOf SpellsNote all it)
note_found None front it is read = tt
note_found (Some all) front it is read = note_in_all all front it is read

-- ---- the log

at_least : (e : FolderEntry) (count end : ℕ) → HasLength e count → end ≤ count → HasAtLeast e end
at_least absent count end has le = absurd has
at_least unsynced count end has le = tt
at_least (stored bytes) count end has le = omega (arith, has, le)

-- the log has all that a note tells of, if its length is as large
pub has_all : (entries : Option Entries) (note : ClosedNote) (count : ℕ) → IsLogLength entries (Some count)
    → note.end ≤ count → HasAllOf entries note
has_all None note count is le = tt
has_all (Some there) note count is le = at_least (there (codes "log")) count note.end is le

-- ---- headers

header_of : (all buf : List ℕ) (left : Option (List ℕ)) (header : CopyHeader) → Consumes (Some all) left buf
    → length buf ≡ 64 → IsHeaderOf buf header → IsHeaderOf all header
header_of all buf None header given many is = absurd given
header_of all buf (Some rest) header given many is = record {
  header = is.header;
  valid = is.valid;
  spelled = ap (take 64) given ∙ take-append-le 64 buf rest (omega (arith, many)) ∙ is.spelled;
  same = is.same;
}

header_at : (e : FolderEntry) (known left : Option (List ℕ)) (buf : List ℕ) (header : CopyHeader) → IsThere e
    → known ≡ bytes_at e → Consumes known left buf → length buf ≡ 64 → IsHeaderOf buf header → IsHeaderAt e header
header_at absent known left buf header there same given many is = absurd there
header_at unsynced known left buf header there same given many is = tt
header_at (stored all) known left buf header there same given many is =
    header_of all buf left header (subst (λ (k : Option (List ℕ)). Consumes k left buf) same given) many is

-- a file begins with the header that its first bytes are
pub header_in : (entries : Option Entries) (name : List ℕ) (known left : Option (List ℕ)) (buf : List ℕ) (header : CopyHeader)
    → IsFileIn entries name known → Consumes known left buf → length buf ≡ 64 → IsHeaderOf buf header
    → IsHeaderIn entries name header
header_in None name known left buf header file given many is = tt
header_in (Some there) name known left buf header file given many is =
    header_at (there name) known left buf header file.there file.same given many is

-- a front that is not cut is a log to its end
pub not_cut : (input : Option (List ℕ)) (log : Log) (cut : Option Cut) → cut ≡ None
    → IfSome input (λ bytes. IsFrontOf bytes (record { log = log; cut = cut })) → IfSome input (SpellsLog log)
not_cut None log cut none front = tt
not_cut (Some bytes) log cut none front = subst (IsCut bytes log) none front.cut

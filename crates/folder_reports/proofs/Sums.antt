-- Files that are summed.
use Rattle.std.proofs.Common.{◌≡◌, ◌∙◌, ◌<◌, ◌++◌, ◌∷◌, [], ℕ, List, ap, arith, get_or, length, subst, sym}
use Rattle.std.specs.Prelude.{IfSome, None, Option, Some, string_bytes}
use Rattle.std.specs.List.{All}
use Rattle.std.specs.Io.KnownBytes.{IsAtEnd}
use Rattle.std.proofs.lemmas.List.{append-nil, get_or-map, length-map}
use Rattle.manifest.specs.Checking.{IsNamed, part_of, summed_of}
use Rattle.manifest.specs.Entries.{Listed}
use Rattle.manifest.specs.Sums.{IsSumOf, IsSumOfGiven}
use Rattle.manifest.specs.declared.entry.Extent.{Extent}
use Rattle.manifest.specs.declared.entry.FileSum.{FileSum}
use Rattle.manifest.specs.declared.sum.Sum.{Sum}
use Rattle.checked_files.specs.declared.known.Known.{Known}
use Rattle.saved_files.specs.Folder.{Entries, FolderEntry, absent, stored, unsynced}
use Rattle.folder_reports.specs.Named.{AreNamed, IsAsSaid, IsNamedAt, IsNamedIn, said_at}
use Rattle.folder_reports.specs.Reading.{IsFileIn, IsLogLength, IsThere, bytes_at}
use Rattle.folder_reports.specs.Summed.{AreFilesOf, AreSummed, IsRight}
use Rattle.folder_reports.specs.declared.summed_files.SummedFile.{SummedFile}

-- the sum of all that a reader gave is that of its bytes
given_all : (all : List ℕ) (left : Option (List ℕ)) (sum : Sum) (count : ℕ) → IsSumOfGiven (Some all) left sum count
    → IsAtEnd left → IsSumOf sum count all
given_all all None sum count it end = absurd it.left
given_all all (Some rest) sum count it end =
    let same : it.given ≡ all = sym (it.left ∙ ap (λ (xs : List ℕ). it.given ++ xs) end ∙ append-nil it.given) in
    subst (IsSumOf sum count) same it.is

pub sum_of_all : (known left : Option (List ℕ)) (sum : Sum) (count : ℕ) → IsSumOfGiven known left sum count → IsAtEnd left
    → IfSome known (IsSumOf sum count)
sum_of_all None left sum count it end = tt
sum_of_all (Some all) left sum count it end = given_all all left sum count it end

-- that part of a file is summed which is named
pub sum_of_part : (file : FileSum) (extent : Extent) (known : Option (List ℕ)) (sum : Sum) (count : ℕ) → file.extent ≡ extent
    → IfSome known (λ all. IsSumOf sum count (summed_of extent file.bytes all))
    → IfSome known (λ all. IsSumOf sum count (part_of file all))
sum_of_part file extent None sum count is it = tt
sum_of_part file extent (Some all) sum count is it =
    subst (λ (e : Extent). IsSumOf sum count (summed_of e file.bytes all)) (sym is) it

pub agreed : (file : FileSum) (known : Option (List ℕ)) (sum : Sum) (count : ℕ)
    → IfSome known (λ all. IsSumOf sum count (part_of file all)) → sum ≡ file.sum → count ≡ file.bytes
    → IfSome known (IsNamed file)
agreed file None sum count it same many = tt
agreed file (Some all) sum count it same many =
    subst (λ (n : ℕ). IsSumOf file.sum n (part_of file all)) many
    (subst (λ (s : Sum). IsSumOf s count (part_of file all)) same it)

named_at : (file : FileSum) (e : FolderEntry) (known : Option (List ℕ)) → IsThere e → known ≡ bytes_at e
    → IfSome known (IsNamed file) → IsNamedAt file e
named_at file absent known there same is = absurd there
named_at file unsynced known there same is = tt
named_at file (stored bytes) known there same is = subst (λ (k : Option (List ℕ)). IfSome k (IsNamed file)) same is

-- the file under a name is the one that is named
pub named_in : (entries : Option Entries) (file : FileSum) (name : List ℕ) (known : Option (List ℕ))
    → IsFileIn entries name known → IfSome known (IsNamed file) → IsNamedIn entries file name
named_in None file name known it is = tt
named_in (Some there) file name known it is = named_at file (there name) known it.there it.same is

-- ---- all files

-- some file is there to be named
some_file : (files : List SummedFile) (k : ℕ) → k < length files → SummedFile
some_file [] k lt = absurd (omega (arith, lt))
some_file (it ∷ rest) k lt = it

count_of : (manifest : Listed) (log : Option ℕ) (files : List SummedFile) → AreFilesOf manifest log files
    → length files ≡ length manifest.entries
count_of manifest log files are =
    sym (length-map files (λ it. string_bytes it.name)) ∙ ap length are.names
    ∙ length-map manifest.entries (λ entry. entry.name)

pub are_named : (entries : Option Entries) (manifest : Listed) (log : Option ℕ) (files summed : List SummedFile)
    → IsLogLength entries log → AreFilesOf manifest log files → AreSummed entries files summed → All IsRight summed
    → AreNamed entries manifest
are_named entries manifest log files summed measured are sums right = record {
  log = log;
  measured = measured;
  each = λ k entry lt.
      let within : k < length files = omega (arith, lt, count_of manifest log files are) in
      let it = some_file files k within in
      let said = (sums.each k it within).right (right k it (omega (arith, within, sums.many))) in
      let name : string_bytes (get_or files k it).name ≡ (get_or manifest.entries k entry).name =
      sym (get_or-map (λ f. string_bytes f.name) files k it (string_bytes it.name) within)
      ∙ ap (λ (ns : List (List ℕ)). get_or ns k (string_bytes it.name)) are.names
      ∙ get_or-map (λ e. e.name) manifest.entries k entry (string_bytes it.name) lt in
      let known : (get_or files k it).known ≡ said_at manifest log (get_or manifest.entries k entry).name =
      sym (get_or-map (λ f. f.known) files k it it.known within)
      ∙ ap (λ (ks : List Known). get_or ks k it.known) are.known
      ∙ get_or-map (λ e. said_at manifest log e.name) manifest.entries k entry it.known lt in
      subst (λ (n : List ℕ). IsAsSaid entries n (said_at manifest log (get_or manifest.entries k entry).name)) name
      (subst (IsAsSaid entries (string_bytes (get_or files k it).name)) known said);
}

-- The header of an archive, which is read as an archive whose pages are missing.
use Rattle.std.proofs.Common.{◌≡◌, ◌∙◌, ℕ, ◌+◌, ◌<◌, ◌≤◌, inl, inr, List, [], ◌++◌, length, take, get_or, refl, sym, ap, subst, arith}
use Rattle.std.specs.Prelude.{slice_range, Result, Ok, Err, IfErr, OnOk}
use Rattle.std.specs.Result.{IsErrAnd}
use Rattle.std.specs.Int.{w32, w64, to_le_bytes}
use Rattle.std.proofs.lemmas.List.{append-nil, length-append, length-take, nil_from_length, take-take}
use Rattle.page_core.specs.declared.format.Format.{Format}
use Rattle.page_core.specs.declared.page.Page.{Page}
use Rattle.page_core.specs.Format.{digit_of}
use Rattle.page_core.specs.Page.{volume_bytes}
use Rattle.copy_vault.specs.declared.copy_id.CopyKind.{CopyKind}
use Rattle.copy_vault.specs.declared.copy_id.CopyKind.TheVariants.{Full, Inc}
use Rattle.page_decisions.specs.Decisions.{taken_pages}
use Rattle.copy_vault.specs.Copy.{CopyView}
use Rattle.copy_vault.specs.declared.archive_fault.ArchiveFault.{ArchiveFault}
use Rattle.copy_vault.specs.declared.archive_fault.ArchiveFault.TheVariants.{BadArchive, CountDiffers, OutOfMemory, ReadFault}
use Rattle.copy_vault.specs.declared.header.ArchiveHeader.{ArchiveHeader}
use Rattle.copy_vault.specs.Archive.{IsHeader, IsKindOf, SpellsCopy, front_bytes, header_bytes, header_in, header_of}
use Rattle.copy_vault.specs.Archive.{parent_of}
use Rattle.copy_vault.specs.ArchiveFault.{Begins, Refuses, SpellsHeader}
use Rattle.file_view.specs.CopyHeader.{RefusesHeader}

-- ---- the bytes of a header

pub header_length : (h : ArchiveHeader) → length (header_bytes h) ≡ 64
unfolding header_bytes
header_length h = refl

pub digit_at : (h : ArchiveHeader) → get_or (header_bytes h) 7 0 ≡ digit_of h.format
unfolding header_bytes
digit_at h = refl

pub pages_at : (h : ArchiveHeader) → slice_range (header_bytes h) 8 12 ≡ to_le_bytes w32 h.pages
unfolding header_bytes
pages_at h = refl

pub id_at : (h : ArchiveHeader) → slice_range (header_bytes h) 12 16 ≡ to_le_bytes w32 h.id
unfolding header_bytes
id_at h = refl

pub parent_at : (h : ArchiveHeader) → slice_range (header_bytes h) 20 24 ≡ to_le_bytes w32 (parent_of h.kind)
unfolding header_bytes
parent_at h = refl

pub begin_at : (h : ArchiveHeader) → slice_range (header_bytes h) 24 32 ≡ to_le_bytes w64 h.begin
unfolding header_bytes
begin_at h = refl

pub redo_at : (h : ArchiveHeader) → slice_range (header_bytes h) 32 40 ≡ to_le_bytes w64 h.redo
unfolding header_bytes
redo_at h = refl

pub taken_at : (h : ArchiveHeader) → slice_range (header_bytes h) 40 44 ≡ to_le_bytes w32 h.taken
unfolding header_bytes
taken_at h = refl

-- each number fits its bytes
parent_fits : (h : ArchiveHeader) (kind : CopyKind) → IsKindOf kind h → h.id ≤ 1024 → parent_of kind ≤ 1024
parent_fits h Full it few = omega arith
parent_fits h (Inc parent) it few = omega (arith, it.1)

taken_fits : (h : ArchiveHeader) (kind : CopyKind) → IsKindOf kind h → h.taken ≤ h.pages
taken_fits h Full it = omega (arith, it)
taken_fits h (Inc parent) it = it.2

pub record AreSmall (h : ArchiveHeader) : Type 0 where
  pub parent : parent_of h.kind ≤ 1024
  pub taken : h.taken ≤ 65536

pub small : (h : ArchiveHeader) → IsHeader h → AreSmall h
small h it = record {
  parent = parent_fits h h.kind it.kind it.most_id;
  taken = omega (arith, taken_fits h h.kind it.kind, it.few_pages);
}

-- ---- an archive of which nothing but its header is there

-- nothing follows it
alone : (h : ArchiveHeader) (bytes rest : List ℕ) → length bytes ≡ 64 → bytes ≡ header_bytes h ++ rest → bytes ≡ header_bytes h
alone h bytes rest short is =
    let both : length bytes ≡ length (header_bytes h) + length rest = ap length is ∙ length-append (header_bytes h) rest in
    let head = header_length h in
    let none : rest ≡ [] = nil_from_length rest (omega (arith, both, head, short)) in
    is ∙ ap (λ (r : List ℕ). header_bytes h ++ r) none ∙ append-nil (header_bytes h)

-- so few bytes have no page behind it
no_more : (bytes : List ℕ) (h : ArchiveHeader) (pages : List Page) (rest : List ℕ) → length bytes ≡ 64
    → Begins bytes h pages rest → length rest ≡ 0
no_more bytes h pages rest short it =
    let whole : length bytes ≡ length (front_bytes h pages) + length rest =
    ap length it.spelled ∙ length-append (front_bytes h pages) rest in
    let front : length (front_bytes h pages) ≡ length (header_bytes h) + length (volume_bytes pages) =
    length-append (header_bytes h) (volume_bytes pages) in
    let head = header_length h in
    omega (arith, whole, front, head, short)

-- the header of a copy in whatever format
kind_in : (kind : CopyKind) (format : Format) (copy : CopyView) → IsKindOf kind (header_of copy)
    → IsKindOf kind (header_in format copy)
kind_in Full format copy it = it
kind_in (Inc parent) format copy it = it

pub of_copy : (copy : CopyView) (bytes : List ℕ) → length bytes ≡ 64 → SpellsCopy copy bytes → SpellsHeader bytes
of_copy copy bytes short it =
    let valid = it.valid.header in
    record {
      header = header_in it.format copy;
      valid = record {
        some_pages = valid.some_pages;
        few_pages = valid.few_pages;
        least_id = valid.least_id;
        most_id = valid.most_id;
        kind = kind_in copy.kind it.format copy valid.kind;
        begin_fits = valid.begin_fits;
        begin_at_record = valid.begin_at_record;
        redo_at_record = valid.redo_at_record;
        redo_past_header = valid.redo_past_header;
        redo_first = valid.redo_first;
      };
      spelled = alone (header_in it.format copy) bytes (volume_bytes (taken_pages copy.pages)) short it.spelled;
    }

-- the pages are missing
pub of_missing : (bytes : List ℕ) → length bytes ≡ 64 → Refuses bytes CountDiffers → SpellsHeader bytes
of_missing bytes short (inl it) = absurd (omega (arith, no_more bytes it.header it.pages it.rest short it.begins, it.some))
of_missing bytes short (inr it) = record {
  header = it.header;
  valid = it.begins.front.header;
  spelled = alone it.header bytes (volume_bytes it.pages) short (it.begins.spelled ∙ append-nil _);
}

-- there is no header
pub of_none : (bytes : List ℕ) (at : ℕ) → length bytes ≡ 64 → Refuses bytes (BadArchive at) → RefusesHeader bytes (BadArchive at)
of_none bytes at short (inl (inl it)) = (it.0, it.2)
of_none bytes at short (inl (inr it)) =
    absurd (omega (arith, no_more bytes it.header it.pages it.rest short it.begins, it.whole))
of_none bytes at short (inr (inl it)) = absurd (omega (arith, it.1, short))
of_none bytes at short (inr (inr it)) =
    absurd (omega (arith, no_more bytes it.header it.pages it.rest short it.begins, it.some))

pub refused : (bytes : List ℕ) (fault : ArchiveFault) → length bytes ≡ 64 → Refuses bytes fault
    → ((fault ≡ CountDiffers) → ⊥) → RefusesHeader bytes fault
refused bytes (BadArchive at) short it other = of_none bytes at short it
refused bytes CountDiffers short it other = absurd (other refl)
refused bytes OutOfMemory short it other = tt
refused bytes ReadFault short it other = tt

-- what was read of so few bytes
pub found_by : {X : Type 0} (bytes : List ℕ) (fault : ArchiveFault) (r : Result X ArchiveFault) → length bytes ≡ 64
    → Refuses bytes fault → OnOk r (fault ≡ CountDiffers) → OnOk r (SpellsHeader bytes)
found_by bytes fault (Ok x) short it same = of_missing bytes short (subst (λ f. Refuses bytes f) same it)
found_by bytes fault (Err e) short it same = tt

pub refused_by : {X : Type 0} (bytes : List ℕ) (fault : ArchiveFault) (r : Result X ArchiveFault) → length bytes ≡ 64
    → Refuses bytes fault → IfErr r (λ e. (e ≡ fault) × ((fault ≡ CountDiffers) → ⊥)) → IfErr r (RefusesHeader bytes)
refused_by bytes fault (Ok x) short it other = tt
refused_by bytes fault (Err e) short it other =
    subst (λ f. RefusesHeader bytes f) (sym other.0) (refused bytes fault short it other.1)

-- there are too few bytes for one
pub too_short : (bytes : List ℕ) → length bytes < 64 → RefusesHeader bytes (BadArchive 0)
too_short bytes short = (
  refl,
  λ it.
      let taken : length (take 64 bytes) ≡ length (header_bytes it.header) = ap length it.spelled in
      let few = length-take 64 bytes in
      let head = header_length it.header in
      omega (arith, taken, few, head, short),
)

-- of the first bytes, which are a header or none, too
pub of_front : (bytes : List ℕ) (fault : ArchiveFault) → RefusesHeader (take 64 bytes) fault → RefusesHeader bytes fault
of_front bytes (BadArchive at) it =
    (it.0, λ spelled. it.1 (subst (λ bs. SpellsHeader bs) (sym (take-take 64 64 bytes (omega arith))) spelled))
of_front bytes CountDiffers it = absurd it
of_front bytes OutOfMemory it = tt
of_front bytes ReadFault it = tt

-- and so a fault is handed on
pub refused_on : {X : Type 0} (r : Result X ArchiveFault) (fault : ArchiveFault) (bytes : List ℕ)
    → IsErrAnd r (λ e. e ≡ fault) → RefusesHeader bytes fault → IfErr r (RefusesHeader bytes)
refused_on (Ok x) fault bytes same it = tt
refused_on (Err e) fault bytes same it = subst (λ f. RefusesHeader bytes f) (sym same) it

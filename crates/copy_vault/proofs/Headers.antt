-- The bytes of an archive's header, field by field.
use Rattle.std.proofs.Common.{◌≡◌, ℕ, ◌<◌, ◌≤◌, List, ◌++◌, length, take, drop, refl, sym, ap, ◌∙◌, arith}
use Rattle.std.proofs.Common.{lit<, get_or}
use Rattle.std.specs.Prelude.{slice_range}
use Rattle.std.specs.Int.{w32, w64, to_le_bytes, from_le_bytes}
use Rattle.std.proofs.lemmas.List.{take_at, drop_at}
use Rattle.std.proofs.lemmas.Nat.{from_le_bytes-to_le_bytes_4, from_le_bytes-to_le_bytes_8}
use Rattle.page_core.specs.Format.{digit_of}
use Rattle.page_core.proofs.Public.{same_format}
use Rattle.copy_vault.specs.declared.copy_id.CopyKind.{CopyKind}
use Rattle.copy_vault.specs.declared.copy_id.CopyKind.TheVariants.{Full, Inc}
use Rattle.copy_vault.specs.declared.header.ArchiveHeader.{ArchiveHeader}
use Rattle.copy_vault.specs.Archive.{IsHeader, IsKindOf, header_bytes, kind_number, parent_of}

pub length-header_bytes : (h : ArchiveHeader) → length (header_bytes h) ≡ 64
unfolding header_bytes
length-header_bytes h = refl

pub pages_at : (h : ArchiveHeader) → slice_range (header_bytes h) 8 12 ≡ to_le_bytes w32 h.pages
unfolding header_bytes
pages_at h = refl

pub digit_at : (h : ArchiveHeader) → get_or (header_bytes h) 7 0 ≡ digit_of h.format
unfolding header_bytes
digit_at h = refl

pub id_at : (h : ArchiveHeader) → slice_range (header_bytes h) 12 16 ≡ to_le_bytes w32 h.id
unfolding header_bytes
id_at h = refl

pub kind_at : (h : ArchiveHeader) → slice_range (header_bytes h) 16 20 ≡ to_le_bytes w32 (kind_number h.kind)
unfolding header_bytes
kind_at h = refl

pub parent_at : (h : ArchiveHeader) → slice_range (header_bytes h) 20 24 ≡ to_le_bytes w32 (parent_of h.kind)
unfolding header_bytes
parent_at h = refl

pub begin_at : (h : ArchiveHeader) → slice_range (header_bytes h) 24 32 ≡ to_le_bytes w64 h.begin
unfolding header_bytes
begin_at h = refl

pub redo_at : (h : ArchiveHeader) → slice_range (header_bytes h) 32 40 ≡ to_le_bytes w64 h.redo
unfolding header_bytes
redo_at h = refl

pub taken_at : (h : ArchiveHeader) → slice_range (header_bytes h) 40 44 ≡ to_le_bytes w32 h.taken
unfolding header_bytes
taken_at h = refl

-- each number fits its bytes
kind_fits : (kind : CopyKind) → kind_number kind < 4294967296
kind_fits Full = lit< tt
kind_fits (Inc parent) = lit< tt

parent_fits : (h : ArchiveHeader) (kind : CopyKind) → IsKindOf kind h → h.id ≤ 1024 → parent_of kind < 4294967296
parent_fits h Full k few = lit< tt
parent_fits h (Inc parent) k few = omega (arith, k.1)

pub taken_within : (h : ArchiveHeader) (kind : CopyKind) → IsKindOf kind h → h.taken ≤ h.pages
taken_within h Full k = omega (arith, k)
taken_within h (Inc parent) k = k.2

pub record Fit (h : ArchiveHeader) : Type 0 where
  pub pages : h.pages < 4294967296
  pub id : h.id < 4294967296
  pub kind : kind_number h.kind < 4294967296
  pub parent : parent_of h.kind < 4294967296
  pub begin : h.begin < 18446744073709551616
  pub redo : h.redo < 18446744073709551616
  pub taken : h.taken < 4294967296

pub fit : (h : ArchiveHeader) → IsHeader h → Fit h
fit h valid = record {
  pages = omega (arith, valid.few_pages);
  id = omega (arith, valid.most_id);
  kind = kind_fits h.kind;
  parent = parent_fits h h.kind valid.kind valid.most_id;
  begin = omega (arith, valid.begin_fits);
  redo = omega (arith, valid.begin_fits, valid.redo_first);
  taken = omega (arith, valid.few_pages, taken_within h h.kind valid.kind);
}

-- a kind is known by its number and parent
pub same_kind : (a b : CopyKind) → kind_number a ≡ kind_number b → parent_of a ≡ parent_of b → a ≡ b
same_kind Full Full e p = refl
same_kind Full (Inc parent) e p = absurd (omega (arith, e))
same_kind (Inc parent) Full e p = absurd (omega (arith, e))
same_kind (Inc a) (Inc b) e p = ap Inc p

same_u32 : (bs cs : List ℕ) (m n : ℕ) → m < 4294967296 → n < 4294967296 → bs ≡ to_le_bytes w32 m
    → cs ≡ to_le_bytes w32 n → bs ≡ cs → m ≡ n
same_u32 bs cs m n m_fits n_fits m_is n_is e =
    sym (from_le_bytes-to_le_bytes_4 m m_fits) ∙ ap (from_le_bytes w32) (sym m_is ∙ e ∙ n_is)
    ∙ from_le_bytes-to_le_bytes_4 n n_fits

same_u64 : (bs cs : List ℕ) (m n : ℕ) → m < 18446744073709551616 → n < 18446744073709551616
    → bs ≡ to_le_bytes w64 m → cs ≡ to_le_bytes w64 n → bs ≡ cs → m ≡ n
same_u64 bs cs m n m_fits n_fits m_is n_is e =
    sym (from_le_bytes-to_le_bytes_8 m m_fits) ∙ ap (from_le_bytes w64) (sym m_is ∙ e ∙ n_is)
    ∙ from_le_bytes-to_le_bytes_8 n n_fits

-- no two headers have the same bytes
pub same_header : (a b : ArchiveHeader) → IsHeader a → IsHeader b → header_bytes a ≡ header_bytes b → a ≡ b
same_header a b a_valid b_valid e =
    let f = fit a a_valid in
    let g = fit b b_valid in
    let part : (i j : ℕ) → slice_range (header_bytes a) i j ≡ slice_range (header_bytes b) i j =
    λ i j. ap (λ (bs : List ℕ). slice_range bs i j) e in
    let format : a.format ≡ b.format =
    same_format a.format b.format
    (sym (digit_at a) ∙ ap (λ (bs : List ℕ). get_or bs 7 0) e ∙ digit_at b) in
    let pages : a.pages ≡ b.pages = same_u32 _ _ _ _ f.pages g.pages (pages_at a) (pages_at b) (part 8 12) in
    let id : a.id ≡ b.id = same_u32 _ _ _ _ f.id g.id (id_at a) (id_at b) (part 12 16) in
    let kinds : kind_number a.kind ≡ kind_number b.kind =
    same_u32 _ _ _ _ f.kind g.kind (kind_at a) (kind_at b) (part 16 20) in
    let parents : parent_of a.kind ≡ parent_of b.kind =
    same_u32 _ _ _ _ f.parent g.parent (parent_at a) (parent_at b) (part 20 24) in
    let kind : a.kind ≡ b.kind = same_kind a.kind b.kind kinds parents in
    let begin : a.begin ≡ b.begin = same_u64 _ _ _ _ f.begin g.begin (begin_at a) (begin_at b) (part 24 32) in
    let redo : a.redo ≡ b.redo = same_u64 _ _ _ _ f.redo g.redo (redo_at a) (redo_at b) (part 32 40) in
    let taken : a.taken ≡ b.taken = same_u32 _ _ _ _ f.taken g.taken (taken_at a) (taken_at b) (part 40 44) in
    rw (format, pages, id, kind, begin, redo, taken) refl

-- nor if something follows them
pub same_front : (a b : ArchiveHeader) (x y : List ℕ) → IsHeader a → IsHeader b
    → header_bytes a ++ x ≡ header_bytes b ++ y → (a ≡ b) × (x ≡ y)
same_front a b x y a_valid b_valid e = (
  same_header a b a_valid b_valid
      (sym (take_at (header_bytes a) x 64 (length-header_bytes a)) ∙ ap (take 64) e
      ∙ take_at (header_bytes b) y 64 (length-header_bytes b)),
  sym (drop_at (header_bytes a) x 64 (length-header_bytes a)) ∙ ap (drop 64) e
      ∙ drop_at (header_bytes b) y 64 (length-header_bytes b),
)

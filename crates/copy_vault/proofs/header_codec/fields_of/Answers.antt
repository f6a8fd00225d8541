use Rattle.std.proofs.Common.{◌≡◌, ◌∙◌, refl, sym, ap, List, ℕ, get_or}
use Rattle.std.specs.Prelude.{slice_range}
use Rattle.std.proofs.lemmas.Option.{none-some, same_Some}
use Rattle.copy_vault.specs.Archive.{header_bytes, kind_number, parent_of}
use Rattle.copy_vault.proofs.Headers.{digit_at, fit, pages_at, id_at, kind_at, parent_at, begin_at, redo_at, taken_at}
use Rattle.copy_vault.proofs.header_codec.fields_of.Goals as goal

pub returns-in_err-kind : goal.returns-in_err-kind
returns-in_err-kind c = record {
  only = λ h valid e.
      let f = fit h valid in
      let part : (i j : ℕ) → slice_range c.args.bytes.now i j ≡ slice_range (header_bytes h) i j =
      λ i j. ap (λ (bs : List ℕ). slice_range bs i j) e in
      let kind = c.u32_at.ensures.only (kind_number h.kind) f.kind (sym (part 16 20 ∙ kind_at h)) in
      let parent = c.u32_at-2.ensures.only (parent_of h.kind) f.parent (sym (part 20 24 ∙ parent_at h)) in
      let found = c.kind_of.ensures.only h.kind kind parent in
      absurd (none-some h.kind (sym c.in_err-kind.was ∙ found));
}

pub returns-in_err-format : goal.returns-in_err-format
returns-in_err-format c = record {
  only = λ h valid e.
      let found = c.format_of.ensures.only h.format (ap (λ (bs : List ℕ). get_or bs 7 0) e ∙ digit_at h) in
      absurd (none-some h.format (sym c.in_err-format.was ∙ found));
}

pub returns : goal.returns
returns c = record {
  only = λ h valid e.
      let f = fit h valid in
      let part : (i j : ℕ) → slice_range c.args.bytes.now i j ≡ slice_range (header_bytes h) i j =
      λ i j. ap (λ (bs : List ℕ). slice_range bs i j) e in
      let number = c.u32_at.ensures.only (kind_number h.kind) f.kind (sym (part 16 20 ∙ kind_at h)) in
      let parent = c.u32_at-2.ensures.only (parent_of h.kind) f.parent (sym (part 20 24 ∙ parent_at h)) in
      let found = c.kind_of.ensures.only h.kind number parent in
      let kind : c.in_ok-kind.kind ≡ h.kind = same_Some _ _ (sym c.in_ok-kind.was ∙ found) in
      let pages = c.u32_at-3.ensures.only h.pages f.pages (sym (part 8 12 ∙ pages_at h)) in
      let id = c.u32_at-4.ensures.only h.id f.id (sym (part 12 16 ∙ id_at h)) in
      let begin = c.u64_at.ensures.only h.begin f.begin (sym (part 24 32 ∙ begin_at h)) in
      let redo = c.u64_at-2.ensures.only h.redo f.redo (sym (part 32 40 ∙ redo_at h)) in
      let taken = c.u32_at-5.ensures.only h.taken f.taken (sym (part 40 44 ∙ taken_at h)) in
      let format : c.in_ok-format.format ≡ h.format =
      same_Some _ _ (sym c.in_ok-format.was ∙ c.format_of.ensures.only h.format
      (ap (λ (bs : List ℕ). get_or bs 7 0) e ∙ digit_at h)) in
      rw (format, pages, id, kind, begin, redo, taken) refl;
}

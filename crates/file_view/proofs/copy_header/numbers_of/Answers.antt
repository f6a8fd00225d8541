use Rattle.std.proofs.Common.{◌≡◌, ◌∙◌, refl, sym, ap, arith, List, ℕ, get_or}
use Rattle.std.specs.Prelude.{slice_range}
use Rattle.copy_vault.specs.Archive.{header_bytes, parent_of}
use Rattle.file_view.proofs.CopyHeaders.{begin_at, digit_at, id_at, pages_at, parent_at, redo_at, small, taken_at}
use Rattle.file_view.proofs.copy_header.numbers_of.Goals as goal

pub returns : goal.returns
returns c = λ it valid is.
    let few = small it valid in
    let part : (i j : ℕ) → slice_range c.args.front.now i j ≡ slice_range (header_bytes it) i j =
    λ i j. ap (λ (bs : List ℕ). slice_range bs i j) is in
    let format = c.format_of.ensures it.format (ap (λ (bs : List ℕ). get_or bs 7 0) is ∙ digit_at it) in
    let pages = c.u32_at.ensures.only it.pages (omega (arith, valid.few_pages)) (sym (part 8 12 ∙ pages_at it)) in
    let id = c.u32_at-2.ensures.only it.id (omega (arith, valid.most_id)) (sym (part 12 16 ∙ id_at it)) in
    let parent = c.u32_at-3.ensures.only (parent_of it.kind) (omega (arith, few.parent)) (sym (part 20 24 ∙ parent_at it)) in
    let begin = c.u64_at.ensures.only it.begin valid.begin_fits (sym (part 24 32 ∙ begin_at it)) in
    let redo = c.u64_at-2.ensures.only it.redo (omega (arith, valid.begin_fits, valid.redo_first)) (sym (part 32 40 ∙ redo_at it)) in
    let taken = c.u32_at-4.ensures.only it.taken (omega (arith, few.taken)) (sym (part 40 44 ∙ taken_at it)) in
    rw (format, pages, id, parent, begin, redo, taken) refl

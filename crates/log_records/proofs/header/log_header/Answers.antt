use Rattle.std.proofs.Common.{◌≡◌, ◌∙◌, ap, refl, subst, sym, true≢false, arith, List, ℕ, length, take}
use Rattle.std.specs.Prelude.{slice_range, Some}
use Rattle.std.proofs.lemmas.List.{length-take}
use Rattle.std.proofs.lemmas.Option.{none-some, same_Some}
use Rattle.log_records.specs.Record.{IsPageCount}
use Rattle.log_records.specs.Log.{header_in}
use Rattle.log_records.proofs.Logs.{length-header, pages_at}
use Rattle.log_records.proofs.header.log_header.Goals as goal

pub returns-then-bytes-lt-HEADER_BYTES-clause-only : goal.returns-then-bytes-lt-HEADER_BYTES-clause-only
returns-then-bytes-lt-HEADER_BYTES-clause-only c = λ f pages has.
    absurd (omega (arith, length-take 64 c.args.bytes.now, ap length has.spelled ∙ length-header f pages))

pub u32_at-pages-requires : goal.u32_at-pages-requires
u32_at-pages-requires c = omega (arith, length-take 64 c.args.bytes.now)

pub returns-in_err-format-clause-only : goal.returns-in_err-format-clause-only
returns-in_err-format-clause-only c = λ f pages has.
    let read : c.u32_at-pages.result ≡ pages =
    c.u32_at-pages.ensures.only pages (let few = has.count.most in omega arith)
    (sym (ap (λ (bs : List ℕ). slice_range bs 8 12) has.spelled ∙ pages_at f pages)) in
    let found = c.format_of.ensures.only f (has.spelled ∙ ap (header_in f) (sym read)) in
    absurd (none-some f (sym c.in_err-format.was ∙ found))

pub returns-then-is_page_count-clause-only : goal.returns-then-is_page_count-clause-only
returns-then-is_page_count-clause-only c = λ f pages has.
    let read : c.u32_at-pages.result ≡ pages =
    c.u32_at-pages.ensures.only pages (let few = has.count.most in omega arith)
    (sym (ap (λ (bs : List ℕ). slice_range bs 8 12) has.spelled ∙ pages_at f pages)) in
    let found = c.format_of.ensures.only f (has.spelled ∙ ap (header_in f) (sym read)) in
    let format : c.in_ok-format.format ≡ f = same_Some _ _ (sym c.in_ok-format.was ∙ found) in
    rw (format, read) refl

pub returns-else-is_page_count-clause-only : goal.returns-else-is_page_count-clause-only
returns-else-is_page_count-clause-only c = λ f pages has.
    let read : c.u32_at-pages.result ≡ pages =
    c.u32_at-pages.ensures.only pages (let few = has.count.most in omega arith)
    (sym (ap (λ (bs : List ℕ). slice_range bs 8 12) has.spelled ∙ pages_at f pages)) in
    let count : IsPageCount c.u32_at-pages.result = subst IsPageCount (sym read) has.count in
    absurd (true≢false (sym (c.if-is_page_count.ensures.1 count)))

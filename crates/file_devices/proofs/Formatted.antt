-- Formatted pages that are written one after another.
use Rattle.std.proofs.Common.{◌≡◌, ℕ, ◌+◌, ◌-◌, ◌<◌, ◌≤◌, List, [], ◌∷◌, ◌++◌, map, ap, sym, ◌∙◌, arith}
use Rattle.std.specs.List.{range_with_len}
use Rattle.std.proofs.lemmas.List.{append_assoc, map-append}
use Rattle.std.proofs.lemmas.Option.{slice_get_read}
use Rattle.std.proofs.lemmas.List.FromFn.{get_or-map-range_with_len, length-map-range_with_len, map-range_with_len_more, take-map-range_with_len}
use Rattle.page_core.specs.declared.page.Page.{Page}
use Rattle.page_core.specs.Page.{formatted}
use Rattle.file_devices.specs.Calls.{done, failed}
use Rattle.file_devices.specs.FileStore.{WritesFail, formatted_between, page_write, writes_of}
use Rattle.file_devices.specs.declared.calls.FileCall.{FileCall}

-- one page more is written
pub writes_more : (old : List FileCall) (from number : ℕ) → from ≤ number
    → old ++ writes_of (formatted_between from number) ++ done (page_write (formatted number)) ∷ []
    ≡ old ++ writes_of (formatted_between from (number + 1))
writes_more old from number le =
    let more : number + 1 - from ≡ number - from + 1 = omega arith in
    append_assoc old (writes_of (formatted_between from number)) (done (page_write (formatted number)) ∷ [])
    ∙ ap (λ calls. old ++ calls)
    (sym (map-append (λ (page : Page). done (page_write page)) (formatted_between from number) (formatted number ∷ []))
    ∙ ap writes_of (sym (map-range_with_len_more formatted from (number - from) number (omega arith))
    ∙ ap (λ k. map formatted (range_with_len from k)) (sym more)))

-- the write of a page failed
pub writes_fail : (old new : List FileCall) (from number to : ℕ) → from ≤ number → number < to
    → new ≡ old ++ writes_of (formatted_between from number) ++ failed (page_write (formatted number)) ∷ []
    → WritesFail old (formatted_between from to) new
writes_fail old new from number to le lt e = record {
  count = number - from;
  next = formatted number;
  there = slice_get_read (formatted_between from to) (to - from) (number - from) (formatted number)
      (sym (length-map-range_with_len formatted from (to - from))) (omega arith)
      (sym (get_or-map-range_with_len formatted from (to - from) (number - from) number (formatted number)
      (omega arith) (omega arith)));
  calls = e ∙ ap (λ pages. old ++ writes_of pages ++ failed (page_write (formatted number)) ∷ [])
      (sym (take-map-range_with_len formatted from (to - from) (number - from) (omega arith)));
}

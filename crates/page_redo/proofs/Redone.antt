-- Redo by the page's LSN, one record after another.
use Rattle.std.proofs.Common.{◌≡◌, ℕ, ◌+◌, ◌<◌, Bool, true, false, cond, List, [], ◌∷◌, ◌++◌, length, get_or, take}
use Rattle.std.proofs.Common.{refl, sym, ap, ◌∙◌}
use Rattle.std.specs.List.{filter}
use Rattle.std.proofs.lemmas.List.{take_more}
use Rattle.std.proofs.lemmas.List.Elements.{filter-append}
use Rattle.page_core.specs.declared.page.Page.{Page}
use Rattle.log_records.specs.declared.record.Record.{Record}
use Rattle.log_records.specs.Image.{image_from, with_record}
use Rattle.log_records.proofs.Public.{image_from-append}
use Rattle.log_store.specs.PageHistory.{is_above}

-- one record more is redone if it is above the LSN
pub filter-more : (lsn : ℕ) (rs : List Record) (i : ℕ) (d : Record) → i < length rs
    → filter (is_above lsn) (take (i + 1) rs) ≡ filter (is_above lsn) (take i rs)
    ++ cond (is_above lsn (get_or rs i d)) (get_or rs i d ∷ []) []
filter-more lsn rs i d lt =
    ap (filter (is_above lsn)) (take_more rs i d lt) ∙ filter-append (is_above lsn) (take i rs) (get_or rs i d ∷ [])

pub redo-more : (page : Page) (lsn : ℕ) (rs : List Record) (i : ℕ) (d : Record) → i < length rs
    → image_from page (filter (is_above lsn) (take (i + 1) rs))
    ≡ cond (is_above lsn (get_or rs i d)) (with_record (image_from page (filter (is_above lsn) (take i rs)))
    (get_or rs i d)) (image_from page (filter (is_above lsn) (take i rs)))
redo-more page lsn rs i d lt =
    let before = filter (is_above lsn) (take i rs) in
    let r = get_or rs i d in
    ap (image_from page) (filter-more lsn rs i d lt)
    ∙ image_from-append page before (cond (is_above lsn r) (r ∷ []) [])
    ∙ last (is_above lsn r) (image_from page before) r
  where
    last : (b : Bool) (page : Page) (r : Record)
        → image_from page (cond b (r ∷ []) []) ≡ cond b (with_record page r) page
    last true page r = refl
    last false page r = refl

pub redo-step : (page : Page) (lsn : ℕ) (rs : List Record) (i : ℕ) (r : Record) → i < length rs → r ≡ get_or rs i r
    → (now next : Page) → now ≡ image_from page (filter (is_above lsn) (take i rs))
    → next ≡ cond (is_above lsn r) (with_record now r) now
    → next ≡ image_from page (filter (is_above lsn) (take (i + 1) rs))
redo-step page lsn rs i r lt e now next before step =
    let so_far = image_from page (filter (is_above lsn) (take i rs)) in
    step ∙ ap (λ (q : Page). cond (is_above lsn r) (with_record q r) q) before
    ∙ ap (λ (s : Record). cond (is_above lsn s) (with_record so_far s) so_far) e ∙ sym (redo-more page lsn rs i r lt)

-- Redo of a page by the list of its records.
use Rattle.std.proofs.Common.{◌≡◌, ℕ, Bool, true, false, cond, eqb, List, [], ◌∷◌}
use Rattle.std.proofs.Common.{refl, sym, ap, ◌∙◌}
use Rattle.std.specs.Prelude.{Option, Some, None, ◌&&◌, nat_le, nat_lt}
use Rattle.std.specs.List.{filter}
use Rattle.std.specs.Option.{option_map_or}
use Rattle.page_core.specs.declared.page.Page.{Page}
use Rattle.page_core.specs.Page.{put}
use Rattle.log_records.specs.declared.page_change.PageChange.{PageChange}
use Rattle.log_records.specs.declared.record.Record.{Record}
use Rattle.log_records.specs.Coverage.{changes, is_resumed, resume}
use Rattle.log_records.specs.Image.{image_from, with_change, with_record}
use Rattle.log_records.specs.Record.{change_of, own_lsn}
use Rattle.log_records.proofs.Public.{number-with_record}
use Rattle.page_redo.specs.PageRecords.{is_on, numbers_on}
use Rattle.log_store.specs.PageHistory.{is_above, records_at}
use Rattle.page_redo.specs.Redo.{redone}
use Rattle.page_redo.proofs.Counted.{records_of_numbers}

-- ---- a record that does not change the page

quiet : (page : Page) (r : Record) (p : ℕ) → page.number ≡ p → changes p r ≡ false → with_record page r ≡ page
quiet page r p number none = by_change (own_lsn r) (change_of r) none
  where
    by_change : (lsn : ℕ) (o : Option PageChange) → option_map_or (λ c. eqb c.page p) o false ≡ false
        → option_map_or (with_change page lsn) o page ≡ page
    by_change lsn None e = refl
    by_change lsn (Some c) e =
        ap (λ (n : ℕ). cond (eqb c.page n) (put page lsn c.slot c.change) page) number
        ∙ ap (λ (b : Bool). cond b (put page lsn c.slot c.change) page) e

-- ---- the records above an LSN, of those on the page and of all

moved : (page : Page) (r : Record) (xs : List Record) (b : Bool)
    → image_from page (cond b (r ∷ xs) xs) ≡ image_from (cond b (with_record page r) page) xs
moved page r xs true = refl
moved page r xs false = refl

pub of_the_page : (rs : List Record) (from lsn p : ℕ) (page : Page) → page.number ≡ p
    → image_from page (filter (is_above lsn) (filter (is_on from p) rs)) ≡ image_from page (filter (is_resumed from lsn) rs)
of_the_page [] from lsn p page number = refl
of_the_page (r ∷ rs) from lsn p page number =
    one (nat_le from (own_lsn r)) (changes p r) (nat_lt lsn (own_lsn r)) refl refl
    (of_the_page rs from lsn p page number)
    (of_the_page rs from lsn p (with_record page r) (number-with_record page r ∙ number))
  where
    one : (low on above : Bool) → changes p r ≡ on → nat_lt lsn (own_lsn r) ≡ above
        → image_from page (filter (is_above lsn) (filter (is_on from p) rs))
        ≡ image_from page (filter (is_resumed from lsn) rs)
        → image_from (with_record page r) (filter (is_above lsn) (filter (is_on from p) rs))
        ≡ image_from (with_record page r) (filter (is_resumed from lsn) rs)
        → image_from page (filter (is_above lsn)
        (cond (low && on) (r ∷ filter (is_on from p) rs) (filter (is_on from p) rs)))
        ≡ image_from page (cond (low && above) (r ∷ filter (is_resumed from lsn) rs) (filter (is_resumed from lsn) rs))
    one false on above e above_is stays goes = stays
    one true true true e above_is stays goes =
        ap (λ (b : Bool). image_from page (cond b (r ∷ filter (is_above lsn) (filter (is_on from p) rs))
        (filter (is_above lsn) (filter (is_on from p) rs)))) above_is ∙ goes
    one true true false e above_is stays goes =
        ap (λ (b : Bool). image_from page (cond b (r ∷ filter (is_above lsn) (filter (is_on from p) rs))
        (filter (is_above lsn) (filter (is_on from p) rs)))) above_is ∙ stays
    one true false true e above_is stays goes =
        stays ∙ ap (λ (q : Page). image_from q (filter (is_resumed from lsn) rs)) (sym (quiet page r p number e))
    one true false false e above_is stays goes = stays

-- the redo of the list of a page
pub redone_list : (rs : List Record) (from p : ℕ) (page : Page) → page.number ≡ p
    → redone page (records_at rs (numbers_on rs from p)) ≡ resume page rs from
redone_list rs from p page number =
    ap (redone page) (records_of_numbers rs from p) ∙ of_the_page rs from page.lsn p page number

-- The changes of a page, and the numbers of the records that make them.
use Rattle.std.proofs.Common.{◌≡◌, ◌∙◌, ℕ, zero, suc, ◌+◌, ◌*◌, ◌<◌, ◌≤◌, Bool, true, false, cond, eqb, List, [], ◌∷◌}
use Rattle.std.proofs.Common.{◌++◌, length, get_or, map, take, refl, sym, ap, subst, arith}
use Rattle.std.specs.Prelude.{Option, Some, None, slice_get}
use Rattle.std.specs.List.{cons_option, range_with_len}
use Rattle.std.specs.Option.{option_map, option_map_or}
use Rattle.std.proofs.lemmas.Bool.{le-leb}
use Rattle.std.proofs.lemmas.List.{get_or-map, length-map, map-append, take_all, take_more}
use Rattle.std.proofs.lemmas.List.Elements.{filter-append, filter_map-append, filter_passes}
use Rattle.std.proofs.lemmas.Option.{slice_get-get_or}
use Rattle.page_core.specs.declared.change.Change.{Change}
use Rattle.page_core.specs.declared.change.Change.TheVariants.{Set, Add}
use Rattle.page_core.specs.declared.page.Page.{Page}
use Rattle.page_core.specs.Change.{changed}
use Rattle.page_core.specs.Page.{put}
use Rattle.log_records.specs.declared.page_change.PageChange.{PageChange}
use Rattle.log_records.specs.declared.record.Record.{Record}
use Rattle.log_records.specs.declared.record.Record.TheVariants.{Begin}
use Rattle.log_records.specs.Coverage.{changes}
use Rattle.log_records.specs.Image.{with_change, with_record}
use Rattle.log_records.specs.Record.{change_of, own_lsn}
use Rattle.log_records.specs.Log.{Log}
use Rattle.log_records.specs.declared.limits.TheConstants.{MAX_RECORDS}
use Rattle.std.proofs.lemmas.List.FromFn.{get_or-map-range_with_len}
use Rattle.loser_undo.specs.Kept.{Kept}
use Rattle.page_redo.specs.Placed.{Placed, placed_at, placed_by, placed_in, redo_part}
use Rattle.page_redo.specs.PageRecords.{first_numbers_on, is_on, number_is_on, numbers_on}
use Rattle.page_redo.proofs.Public.{numbers_more}
use Rattle.copy_audit.specs.Changes.{AreChangesOf, IsKeptOf}
use Rattle.copy_audit.specs.Places.{at_places, on_page, places_on}
use Rattle.copy_audit.proofs.AtPlaces.{all_on_page}
use Rattle.copy_audit.proofs.Traces.{all_below, changes_there}

-- ---- what was kept of one record

change_or : Option Placed → Placed
change_or None = record { lsn = 0; page = 0; slot = 0; change = Add 0 }
change_or (Some c) = c

-- what was kept of the record of a number
change_at : List Record → ℕ → Placed
change_at rs n = change_or (placed_by (get_or rs n (Begin 0 0)))

-- the number that a Set replaces does not matter to redo
same_number : (c : Change) (number : ℕ) → changed (redo_part c) number ≡ changed c number
same_number (Set before after) number = refl
same_number (Add amount) number = refl

put_at : (o : Option PageChange) (lsn p : ℕ) (page : Page) → page.number ≡ p
    → option_map_or (λ (c : PageChange). eqb c.page p) o false ≡ true
    → put page (change_or (option_map (placed_at lsn) o)).lsn (change_or (option_map (placed_at lsn) o)).slot
    (change_or (option_map (placed_at lsn) o)).change ≡ option_map_or (with_change page lsn) o page
unfolding change_or
put_at None lsn p page number on = absurd (cc)
put_at (Some c) lsn p page number on =
    same ∙ sym (ap (λ (b : Bool). cond b (put page lsn c.slot c.change) page)
    (ap (eqb c.page) number ∙ on))
  where
    same : put page lsn c.slot (redo_part c.change) ≡ put page lsn c.slot c.change
    same = rw same_number refl

lsn_at : (o : Option PageChange) (lsn p : ℕ) → option_map_or (λ (c : PageChange). eqb c.page p) o false ≡ true
    → (change_or (option_map (placed_at lsn) o)).lsn ≡ lsn
unfolding change_or
lsn_at None lsn p on = absurd (cc)
lsn_at (Some c) lsn p on = refl

-- ---- and of one after another

one_change : (o : Option PageChange) (lsn p n : ℕ) (f : ℕ → Placed)
    → f n ≡ change_or (option_map (placed_at lsn) o)
    → on_page (cons_option (option_map (placed_at lsn) o) []) p
    ≡ map f (cond (option_map_or (λ (c : PageChange). eqb c.page p) o false) (n ∷ []) [])
unfolding change_or
one_change None lsn p n f is = refl
one_change (Some c) lsn p n f is = by_page (eqb c.page p)
  where
    by_page : (b : Bool) → cond b (placed_at lsn c ∷ []) [] ≡ map f (cond b (n ∷ []) [])
    by_page true = ap (λ (x : Placed). x ∷ []) (sym is)
    by_page false = refl

number_on : (rs : List Record) (p n : ℕ) (d : Record) → n < length rs
    → number_is_on rs 0 p n ≡ changes p (get_or rs n d)
number_on rs p n d lt =
    ap (λ (o : Option Record). option_map_or (is_on 0 p) o false) (slice_get-get_or rs n d lt)
    ∙ rw (le-leb 0 (own_lsn (get_or rs n d)) (omega arith)) refl

of_numbers : (rs : List Record) (p n : ℕ) → n ≤ length rs
    → on_page (placed_in (take n rs)) p ≡ map (change_at rs) (first_numbers_on rs 0 n p)
unfolding change_at
of_numbers rs p zero le = refl
of_numbers rs p (suc n) le =
    let d : Record = Begin 0 0 in
    let r = get_or rs n d in
    let lt : n < length rs = omega arith in
    let next : n + 1 ≡ suc n = omega arith in
    let test = λ (c : Placed). eqb c.page p in
    let one : on_page (cons_option (placed_by r) []) p ≡ map (change_at rs) (cond (number_is_on rs 0 p n) (n ∷ []) []) =
    one_change (change_of r) (own_lsn r) p n (change_at rs) refl
    ∙ ap (λ (b : Bool). map (change_at rs) (cond b (n ∷ []) [])) (sym (number_on rs p n d lt)) in
    subst (λ (k : ℕ). on_page (placed_in (take k rs)) p ≡ map (change_at rs) (first_numbers_on rs 0 k p)) next
    (ap (λ (xs : List Record). on_page (placed_in xs) p) (take_more rs n d lt)
    ∙ ap (λ (cs : List Placed). on_page cs p) (filter_map-append placed_by (take n rs) (r ∷ []))
    ∙ filter-append test (placed_in (take n rs)) (cons_option (placed_by r) [])
    ∙ ap (λ (cs : List Placed). cs ++ on_page (cons_option (placed_by r) []) p) (of_numbers rs p n (omega arith))
    ∙ ap (λ (cs : List Placed). map (change_at rs) (first_numbers_on rs 0 n p) ++ cs) one
    ∙ sym (ap (map (change_at rs)) (numbers_more rs 0 n p)
    ∙ map-append (change_at rs) (first_numbers_on rs 0 n p) (cond (number_is_on rs 0 p n) (n ∷ []) [])))

numbered : (rs : List Record) (p : ℕ) → on_page (placed_in rs) p ≡ map (change_at rs) (numbers_on rs 0 p)
numbered rs p =
    ap (λ (xs : List Record). on_page (placed_in xs) p) (sym (take_all (length rs) rs (omega arith)))
    ∙ of_numbers rs p (length rs) (omega arith)

-- ---- the changes of a page

pub same_length : (rs : List Record) (p all : ℕ) (cs : List Placed) → AreChangesOf rs p all cs
    → length cs ≡ length (numbers_on rs 0 p)
same_length rs p all cs of =
    ap length (of.made ∙ numbered rs p) ∙ length-map (numbers_on rs 0 p) (change_at rs)

-- a change of the page, and its record
pub record IsChangeOf (rs : List Record) (p n : ℕ) (c : Placed) : Type 0 where
  pub lsn : c.lsn ≡ 64 * (n + 1)
  pub there : slice_get rs n ≡ Some (get_or rs n (Begin 0 0))
  pub made : (page : Page) → page.number ≡ p
      → put page c.lsn c.slot c.change ≡ with_record page (get_or rs n (Begin 0 0))

pub change_is : (rs : List Record) (p all i : ℕ) (cs : List Placed) (d : Placed) → AreChangesOf rs p all cs → i < length cs
    → IsChangeOf rs p (get_or (numbers_on rs 0 p) i 0) (get_or cs i d)
unfolding change_at
change_is rs p all i cs d of lt =
    let ns = numbers_on rs 0 p in
    let n = get_or ns i 0 in
    let r = get_or rs n (Begin 0 0) in
    let some : i < length ns = omega (arith, same_length rs p all cs of) in
    let below : n < length rs = all_below rs p (length rs) i some in
    let on : number_is_on rs 0 p n ≡ true =
    filter_passes (number_is_on rs 0 p) (range_with_len 0 (length rs)) i 0 some in
    let changed : changes p r ≡ true = changes_there rs p n (Begin 0 0) below on in
    let at : get_or cs i d ≡ change_at rs n =
    ap (λ (xs : List Placed). get_or xs i d) (of.made ∙ numbered rs p)
    ∙ get_or-map (change_at rs) ns i 0 d some in
    subst (IsChangeOf rs p n) (sym at) (record {
      lsn = lsn_at (change_of r) (own_lsn r) p changed ∙ (of.valid.records n (Begin 0 0) below).lsn;
      there = slice_get-get_or rs n (Begin 0 0) below;
      made = λ page number. put_at (change_of r) (own_lsn r) p page number changed;
    })

-- ---- the changes that were kept of a log

fewer : (rs : List Record) → length (placed_in rs) ≤ length rs
fewer [] = omega arith
fewer (r ∷ rs) = by_change (placed_by r) (fewer rs)
  where
    by_change : (o : Option Placed) → length (placed_in rs) ≤ length rs
        → length (cons_option o (placed_in rs)) ≤ length (r ∷ rs)
    by_change None few = omega arith
    by_change (Some c) few = omega arith

pub few_kept : (log : Log) (kept : Kept) → IsKeptOf log kept → length kept.changes ≤ MAX_RECORDS
few_kept log kept is =
    omega (arith, ap (λ (k : Kept). length k.changes) is.same, fewer log.records, is.valid.count)

-- those that are listed of a page
pub listed_of : (log : Log) (kept : Kept) (cs all listed : List Placed) (links : List (List ℕ)) (count pages page : ℕ)
    → IsKeptOf log kept → all ≡ kept.changes → cs ≡ kept.changes → links ≡ map (places_on all) (range_with_len 0 pages)
    → page < pages → listed ≡ at_places cs (get_or links page []) → count ≡ kept.count
    → AreChangesOf log.records page count listed
listed_of log kept cs all listed links count pages page is all_are are linked within made many = record {
  pages = log.pages;
  valid = is.valid;
  count_is = many ∙ ap (λ (k : Kept). k.count) is.same;
  made =
      made ∙ ap (λ (ls : List (List ℕ)). at_places cs (get_or ls page [])) linked
      ∙ ap (at_places cs) (get_or-map-range_with_len (places_on all) 0 pages page page [] within (omega arith))
      ∙ ap (λ (xs : List Placed). at_places cs (places_on xs page)) (all_are ∙ sym are)
      ∙ all_on_page cs page
      ∙ ap (λ (xs : List Placed). on_page xs page) (are ∙ ap (λ (k : Kept). k.changes) is.same);
}

-- What a log says of one slot: the number in it, the committed one, and the pending changes of it.
use Rattle.std.proofs.Common.{◌≡◌, ℕ, ◌<◌, Bool, true, false, cond, ◌&&◌, not, eqb, List, [], ◌∷◌, ◌++◌, length, get_or}
use Rattle.std.proofs.Common.{set, map, slice_index, sym, refl, ap, ap₂, ◌∙◌, inl, inr, arith, append_assoc, eq-eqb}
use Rattle.std.proofs.Common.{ne_eqb}
use Rattle.std.specs.Prelude.{Option, Some, None}
use Rattle.std.specs.List.{filter, list_any}
use Rattle.std.specs.Option.{option_map_or}
use Rattle.std.proofs.lemmas.Bool.{cases_eq, not-false, or_parts}
use Rattle.std.proofs.lemmas.List.{append-nil, get_or-set_other, get_or-set_same, length-replicate, length-set}
use Rattle.std.proofs.lemmas.List.{map-append}
use Rattle.std.proofs.lemmas.List.Elements.{All-cons, All-nil, filter-append}
use Rattle.page_core.specs.declared.change.Change.{Change}
use Rattle.page_core.specs.declared.page.Page.{Page}
use Rattle.page_core.specs.declared.page.TheConstants.{SLOTS}
use Rattle.page_core.specs.Change.{changed, kind_of}
use Rattle.page_core.specs.Page.{formatted, put}
use Rattle.log_records.specs.declared.page_change.PageChange.{PageChange}
use Rattle.log_rules.specs.declared.pending_change.PendingChange.{PendingChange}
use Rattle.log_records.specs.declared.record.Record.{Record}
use Rattle.log_records.specs.Record.{change_of, own_lsn}
use Rattle.log_records.specs.Image.{image, image_from, with_change, with_record}
use Rattle.log_rules.specs.Transactions.{is_add, keeps_out}
use Rattle.log_rules.specs.Linked.{number_in}
use Rattle.log_rules.specs.Committed.{Values, committed, committed_from, with_changes, with_commit, zeros}
use Rattle.log_records.proofs.Public.{image_from-append, number-image, with_record-has}
use Rattle.log_rules.proofs.Chains.{AddsWith, AreAdds, changed_by}

-- ---- the number in a slot after one more record

pub slots_of_image : (rs : List Record) (page : ℕ) → length (image rs page).slots ≡ SLOTS
unfolding formatted
slots_of_image rs page = over (formatted page) rs (length-replicate {A = ℕ} SLOTS 0)
  where
    over : (q : Page) (xs : List Record) → length q.slots ≡ SLOTS → length (image_from q xs).slots ≡ SLOTS
    over q [] long = long
    over q (r ∷ xs) long =
        let HasSlots : Page → Type 0 = λ w. length w.slots ≡ SLOTS in
        over (with_record q r) xs (with_record-has HasSlots q r long (λ c e. length-set q.slots c.slot _ ∙ long))

-- the number, if this is the change of another slot, and the changed one if it is of this slot
abbrev pub after_change : ℕ → ℕ → ℕ → PageChange → ℕ
after_change page slot number c = cond (eqb c.page page && eqb c.slot slot) (changed c.change number) number

number_after_set : (ns : List ℕ) (i j : ℕ) (f : ℕ → ℕ) → j < length ns
    → get_or (set ns i (f (get_or ns i 0))) j 0 ≡ cond (eqb i j) (f (get_or ns j 0)) (get_or ns j 0)
number_after_set ns i j f within =
    let at_j = λ (b : Bool). cond b (f (get_or ns j 0)) (get_or ns j 0) in
    elim (cases_eq i j) [
      | inl same ↦
          rw same (get_or-set_same ns j (f (get_or ns j 0)) 0 within ∙ ap at_j (sym (eq-eqb j j refl)))
      | inr other ↦
          get_or-set_other ns i j (f (get_or ns i 0)) 0 (λ same. other (sym same)) ∙ ap at_j (sym (ne_eqb i j other))
    ]

number_with : (q : Page) (r : Record) (slot : ℕ) → slot < length q.slots
    → slice_index (with_record q r).slots slot
    ≡ option_map_or (after_change q.number slot (slice_index q.slots slot)) (change_of r) (slice_index q.slots slot)
number_with q r slot within = by_change (change_of r)
  where
    on_page : (c : PageChange) (b : Bool)
        → slice_index (cond b (put q (own_lsn r) c.slot c.change) q).slots slot
        ≡ cond (b && eqb c.slot slot) (changed c.change (slice_index q.slots slot)) (slice_index q.slots slot)
    on_page c true = number_after_set q.slots c.slot slot (changed c.change) within
    on_page c false = refl

    by_change : (o : Option PageChange)
        → slice_index (option_map_or (with_change q (own_lsn r)) o q).slots slot
        ≡ option_map_or (after_change q.number slot (slice_index q.slots slot)) o (slice_index q.slots slot)
    by_change None = refl
    by_change (Some c) = on_page c (eqb c.page q.number)

pub number_in_push : (rs : List Record) (r : Record) (page slot : ℕ) → slot < SLOTS
    → number_in (rs ++ r ∷ []) page slot
    ≡ option_map_or (after_change page slot (number_in rs page slot)) (change_of r) (number_in rs page slot)
number_in_push rs r page slot within =
    let q = image rs page in
    let number = number_in rs page slot in
    let inside : slot < length q.slots = omega (arith, slots_of_image rs page) in
    ap (λ (w : Page). slice_index w.slots slot) (image_from-append (formatted page) rs (r ∷ []))
    ∙ number_with q r slot inside
    ∙ ap (λ n. option_map_or (after_change n slot number) (change_of r) number) (number-image rs page)

-- ---- the committed number after one more record

committed_from_push : (before : List Record) (values : Values) (rs : List Record) (r : Record)
    → committed_from before values (rs ++ r ∷ []) ≡ with_commit (before ++ rs) (committed_from before values rs) r
committed_from_push before values [] r = ap (λ xs. with_commit xs values r) (sym (append-nil before))
committed_from_push before values (x ∷ xs) r =
    committed_from_push (before ++ x ∷ []) (with_commit before values x) xs r
    ∙ ap
    (λ ys. with_commit ys (committed_from (before ++ x ∷ []) (with_commit before values x) xs) r)
    (append_assoc before (x ∷ []) xs)

pub committed_push : (rs : List Record) (r : Record) → committed (rs ++ r ∷ []) ≡ with_commit rs (committed rs) r
committed_push rs r = committed_from_push [] zeros rs r

-- ---- the changes of one slot

abbrev pub is_on : ℕ → ℕ → PendingChange → Bool
is_on page slot p = eqb p.page page && eqb p.slot slot

abbrev pub changes_on : ℕ → ℕ → List PendingChange → List Change
changes_on page slot ps = map (λ p. p.change) (filter (is_on page slot) ps)

-- a filter keeps the first one, or does not
abbrev with_first : Bool → PendingChange → List PendingChange → List PendingChange
with_first b p ps = cond b (p ∷ ps) ps

pub changes_on-append : (page slot : ℕ) (ps qs : List PendingChange)
    → changes_on page slot (ps ++ qs) ≡ changes_on page slot ps ++ changes_on page slot qs
changes_on-append page slot ps qs =
    let change = λ (p : PendingChange). p.change in
    ap (map change) (filter-append (is_on page slot) ps qs)
    ∙ map-append change (filter (is_on page slot) ps) (filter (is_on page slot) qs)

eqb_flip : (m n : ℕ) → eqb m n ≡ eqb n m
eqb_flip m n = elim (cases_eq m n) [
  | inl same ↦ eq-eqb m n same ∙ sym (eq-eqb n m (sym same))
  | inr other ↦ ne_eqb m n other ∙ sym (ne_eqb n m (λ same. other (sym same)))
]

pub with_changes_on : (ps : List PendingChange) (values : Values) (page slot : ℕ)
    → with_changes values ps page slot ≡ changed_by (changes_on page slot ps) (values page slot)
with_changes_on [] values page slot = refl
with_changes_on (p ∷ ps) values page slot =
    let number = values page slot in
    let after = λ (b : Bool). changed_by (changes_on page slot ps) (cond b (changed p.change number) number) in
    with_changes_on ps _ page slot ∙ ap₂ (λ a b. after (a && b)) (eqb_flip page p.page) (eqb_flip slot p.slot)
    ∙ taken (is_on page slot p)
  where
    taken : (b : Bool)
        → changed_by (changes_on page slot ps) (cond b (changed p.change (values page slot)) (values page slot))
        ≡ changed_by (map (λ q. q.change) (with_first b p (filter (is_on page slot) ps))) (values page slot)
    taken true = refl
    taken false = refl

-- no pending change of the slot keeps out a change that none of these holds it against
pub apart_from_free : (page slot : ℕ) (c : Change) (ps : List PendingChange)
    → list_any (keeps_out page slot (kind_of c)) ps ≡ false → AddsWith (changes_on page slot ps) c
apart_from_free page slot c [] free = All-nil (AreAdds c)
apart_from_free page slot c (p ∷ ps) free =
    let parts = or_parts (keeps_out page slot (kind_of c) p) (list_any (keeps_out page slot (kind_of c)) ps) free in
    with_one (is_on page slot p) parts.0 (apart_from_free page slot c ps parts.1)
  where
    with_one : (b : Bool) → (b && not (is_add (kind_of c) && is_add (kind_of p.change))) ≡ false
        → AddsWith (changes_on page slot ps) c
        → AddsWith (map (λ q. q.change) (with_first b p (filter (is_on page slot) ps))) c
    with_one true here rest = All-cons (AreAdds c) p.change (changes_on page slot ps) (not-false _ here) rest
    with_one false here rest = rest

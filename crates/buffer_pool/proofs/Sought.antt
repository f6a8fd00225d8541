-- The search for a clean page, which passes over none.
use Rattle.std.proofs.Common.{◌≡◌, ◌≢◌, ◌∙◌, ℕ, ◌+◌, ◌<◌, ◌≤◌, Bool, true, false, cond, List, [], ◌∷◌, ◌++◌, length}
use Rattle.std.proofs.Common.{get_or, map, set, refl, sym, ap, subst, inl, inr, arith, true≢false}
use Rattle.std.specs.Prelude.{Option, Some, None, is_none, nat_lt, position}
use Rattle.std.specs.List.{position_or_len}
use Rattle.std.proofs.lemmas.Bool.{cases_eq, cases_lt, le-ltb, lt-ltb}
use Rattle.std.proofs.lemmas.Grind.{get_or-set_at}
use Rattle.std.proofs.lemmas.Option.{same_Some}
use Rattle.std.proofs.lemmas.List.{get_or-map, get_or-set_other, get_or-set_same, get_or_append_left, get_or_default, length-map}
use Rattle.std.proofs.lemmas.List.{length-set, length_push}
use Rattle.std.proofs.lemmas.List.Sums.{position_or_len_is}
use Rattle.page_core.specs.declared.page.Page.{Page}
use Rattle.log_records.specs.declared.record.Record.{Record}
use Rattle.log_records.specs.Log.{Log}
use Rattle.log_records.proofs.Public.{number-with_record}
use Rattle.buffer_pool.specs.Frames.{is_resident}
use Rattle.buffer_pool.specs.Marks.{IsPassed, MarksView, PassesNone, has_clean}
use Rattle.buffer_pool.specs.Pool.{IsPoolOf, IsWhole, PageState, PoolView, is_clean_in, unwritten}
use Rattle.buffer_pool.specs.Slots.{IsPlace, IsTrimmed, pages_in}
use Rattle.buffer_pool.proofs.Fetching.{room_kept}
use Rattle.buffer_pool.proofs.Placed.{redone, resident_at}

-- ---- the slots that a search has seen

-- before this slot no page is clean
abbrev pub AreSeen : (ℕ → Bool) → List (Option Page) → ℕ → Type 0
AreSeen clean slots place = (k : ℕ) (d : Option Page) → k < place → k < length slots
    → has_clean clean (get_or slots k d) ≡ false

pub seen_first : (clean : ℕ → Bool) (slots : List (Option Page)) (marks : MarksView) (next : ℕ)
    → PassesNone clean slots marks → ((k : ℕ) → 0 ≤ k → k < next → IsPassed marks k) → AreSeen clean slots next
seen_first clean slots marks next sought passed = λ k d lt there. sought k d there (passed k (omega arith) lt)

pub seen_more : (clean : ℕ → Bool) (slots : List (Option Page)) (marks : MarksView) (place next : ℕ) (b : Bool)
    → PassesNone clean slots marks → ((k : ℕ) → place + 1 ≤ k → k < next → IsPassed marks k)
    → ((d : Option Page) → place < length slots → b ≡ has_clean clean (get_or slots place d)) → b ≡ false
    → AreSeen clean slots place → AreSeen clean slots next
seen_more clean slots marks place next b sought passed here not_clean seen = λ k d lt there. elim (cases_lt k place) [
  | inl before ↦ seen k d before there
  | inr after ↦ elim (cases_eq k place) [
    | inl same ↦
        ap (λ (i : ℕ). has_clean clean (get_or slots i d)) same ∙ sym (here d (omega (arith, same, there))) ∙ not_clean
    | inr other ↦ sought k d there (passed k (omega (arith, after, other)) lt)
  ]
]

found_first : {X : Type 0} (p : X → Bool) (xs : List X) (i : ℕ) (d : X) → i < length xs
    → p (get_or xs i d) ≡ true → ((k : ℕ) → k < i → p (get_or xs k d) ≡ false)
    → position p xs ≡ Some i
found_first p xs i d there here before =
    let is : position_or_len p xs ≡ i = position_or_len_is p xs i d (omega arith) before (λ _. here) in
    ap (λ (n : ℕ). cond (nat_lt n (length xs)) (Some n) None) is
    ∙ ap (λ (b : Bool). cond b (Some i) None) (lt-ltb i (length xs) there)

pub found_at : (clean : ℕ → Bool) (slots : List (Option Page)) (place : ℕ) (b : Bool) → place < length slots
    → ((d : Option Page) → place < length slots → b ≡ has_clean clean (get_or slots place d)) → b ≡ true
    → AreSeen clean slots place → position (has_clean clean) slots ≡ Some place
found_at clean [] place b there here is_clean seen = let no : ⊥ = omega arith in absurd no
found_at clean (slot ∷ slots) place b there here is_clean seen =
    found_first (has_clean clean) (slot ∷ slots) place slot there (sym (here slot there) ∙ is_clean)
    (λ k lt. seen k slot lt (omega (arith, lt, there)))

pub found_none : {X : Type 0} (p : X → Bool) (xs : List X)
    → ((k : ℕ) (d : X) → k < length xs → p (get_or xs k d) ≡ false) → position p xs ≡ None
found_none p [] none = refl
found_none p (x ∷ xs) none =
    let n = length (x ∷ xs) in
    let is : position_or_len p (x ∷ xs) ≡ n =
    position_or_len_is p (x ∷ xs) n x (omega arith) (λ k lt. none k x lt)
    (λ lt. let no : ⊥ = omega arith in absurd no) in
    ap (λ (m : ℕ). cond (nat_lt m n) (Some m) None) is ∙ ap (λ (b : Bool). cond b (Some n) None) (le-ltb n n (omega arith))

-- ---- a page that may have become clean, or is not any more

-- of each other page the second test says no more than the first
abbrev pub OthersStay : ℕ → (ℕ → Bool) → (ℕ → Bool) → Type 0
OthersStay n clean now = (m : ℕ) → m ≢ n → clean m ≡ false → now m ≡ false

pub noted_set : (n : ℕ) (clean now : ℕ → Bool) (slots : List (Option Page)) (place : ℕ) (old marks : MarksView)
    → IsPlace slots n place → PassesNone clean slots old → OthersStay n clean now
    → ((k : ℕ) → IsPassed marks k → IsPassed old k × (k ≢ place)) → PassesNone now slots marks
noted_set n clean now slots place old marks is sought others less = λ k d there passed.
    let it = less k passed in
    by k d there it.1 (get_or slots k d) refl (sought k d there it.0)
  where
    by : (k : ℕ) (d : Option Page) → k < length slots → k ≢ place → (slot : Option Page)
        → get_or slots k d ≡ slot → has_clean clean slot ≡ false → has_clean now slot ≡ false
    by k d there other None at dirty = refl
    by k d there other (Some page) at dirty =
        others page.number
        (λ same. other (is.only k page (get_or_default slots k None d there ∙ at) same))
        dirty

pub noted_cleared : (n : ℕ) (clean now : ℕ → Bool) (slots : List (Option Page)) (place : ℕ) (old marks : MarksView)
    → IsPlace slots n place → now n ≡ false → PassesNone clean slots old → OthersStay n clean now
    → ((k : ℕ) → IsPassed marks k → k ≢ place → IsPassed old k) → PassesNone now slots marks
noted_cleared n clean now slots place old marks is dirty sought others more = λ k d there passed.
    by k d there (λ other. sought k d there (more k passed other)) (get_or slots k d) refl
  where
    number_at : (page : Page) → get_or slots place None ≡ Some page → page.number ≡ n
    number_at page at =
        ap (λ (x : Page). x.number) (sym (same_Some is.here.0 page (sym is.here.1.0 ∙ at))) ∙ is.here.1.1

    by : (k : ℕ) (d : Option Page) → k < length slots → (k ≢ place → has_clean clean (get_or slots k d) ≡ false)
        → (slot : Option Page) → get_or slots k d ≡ slot → has_clean now slot ≡ false
    by k d there before None at = refl
    by k d there before (Some page) at = elim (cases_eq page.number n) [
      | inl same ↦ ap now same ∙ dirty
      | inr other ↦
          others page.number other (sym (ap (has_clean clean) at) ∙ before (λ eq.
          other (number_at page
          (ap (λ (i : ℕ). get_or slots i None) (sym eq) ∙ get_or_default slots k None d there ∙ at))))
    ]

pub noted_absent : (n : ℕ) (clean now : ℕ → Bool) (slots : List (Option Page)) (marks : MarksView)
    → is_resident (pages_in slots) n ≡ false → PassesNone clean slots marks → OthersStay n clean now
    → PassesNone now slots marks
noted_absent n clean now slots marks absent sought others = λ k d there passed.
    by k d there (get_or slots k d) refl (sought k d there passed)
  where
    by : (k : ℕ) (d : Option Page) → k < length slots → (slot : Option Page) → get_or slots k d ≡ slot
        → has_clean clean slot ≡ false → has_clean now slot ≡ false
    by k d there None is dirty = refl
    by k d there (Some page) is dirty =
        others page.number
        (λ same. true≢false (sym (resident_at slots k page (get_or_default slots k None d there ∙ is))
        ∙ ap (is_resident (pages_in slots)) same ∙ absent))
        dirty

-- a state of one page says nothing of the others
pub others_set : (states after : List PageState) (n : ℕ) (s : PageState) → after ≡ set states n s
    → OthersStay n (is_clean_in states) (is_clean_in after)
others_set states after n s is = λ m other dirty.
    ap (λ (ss : List PageState). is_clean_in ss m) is
    ∙ ap (λ (x : PageState). is_none x.rec_lsn) (get_or-set_other states n m s unwritten other) ∙ dirty

-- by its state a page is not clean
pub dirty_set : (states after : List PageState) (n lsn : ℕ) (s : PageState) → after ≡ set states n s → n < length states
    → s.rec_lsn ≡ Some lsn → is_clean_in after n ≡ false
dirty_set states after n lsn s is there dirty =
    ap (λ (ss : List PageState). is_clean_in ss n) is
    ∙ ap (λ (x : PageState). is_none x.rec_lsn) (get_or-set_same states n s unwritten there)
    ∙ ap (λ (o : Option ℕ). is_none o) dirty

pub sought_still : (n : ℕ) (clean now : ℕ → Bool) (slots : List (Option Page)) (marks : MarksView)
    → PassesNone clean slots marks → OthersStay n clean now → now n ≡ false → PassesNone now slots marks
sought_still n clean now slots marks sought others dirty = λ k d there passed.
    by (get_or slots k d) (sought k d there passed)
  where
    by : (slot : Option Page) → has_clean clean slot ≡ false → has_clean now slot ≡ false
    by None before = refl
    by (Some page) before = elim (cases_eq page.number n) [
      | inl same ↦ ap now same ∙ dirty
      | inr other ↦ others page.number other before
    ]

-- ---- pages that come and go

pub sought_empty : (clean : ℕ → Bool) (slots : List (Option Page)) (marks : MarksView) → slots ≡ []
    → PassesNone clean slots marks
sought_empty clean slots marks none = λ k d there passed.
    let long : length slots ≡ 0 = ap length none in
    let no : ⊥ = omega (arith, long, there) in absurd no

-- where it passes over no page at all
pub sought_all : (clean : ℕ → Bool) (slots : List (Option Page)) (marks : MarksView) → PassesNone (λ _. true) slots marks
    → PassesNone clean slots marks
sought_all clean slots marks all = λ k d there passed. by (get_or slots k d) (all k d there passed)
  where
    by : (slot : Option Page) → has_clean (λ _. true) slot ≡ false → has_clean clean slot ≡ false
    by None none = refl
    by (Some page) none = absurd (true≢false none)

pub sought_redone : (clean : ℕ → Bool) (next : Record) (old slots : List (Option Page)) (marks : MarksView)
    → slots ≡ map (redone next) old → PassesNone clean old marks → PassesNone clean slots marks
sought_redone clean next old slots marks is sought =
    subst (λ (ss : List (Option Page)). PassesNone clean ss marks) (sym is) (λ k d there passed.
    let here : k < length old = omega (arith, there, length-map old (redone next)) in
    ap (has_clean clean) (get_or-map (redone next) old k d d here)
    ∙ by (get_or old k d) ∙ sought k d here passed)
  where
    by : (slot : Option Page) → has_clean clean (redone next slot) ≡ has_clean clean slot
    by None = refl
    by (Some page) = ap clean (number-with_record page next)

pub sought_more : (clean : ℕ → Bool) (slots now : List (Option Page)) (slot : Option Page) (old marks : MarksView)
    → now ≡ slots ++ slot ∷ [] → PassesNone clean slots old
    → ((k : ℕ) → IsPassed marks k → IsPassed old k × (k ≢ length slots)) → PassesNone clean now marks
sought_more clean slots now slot old marks is sought less =
    subst (λ (ss : List (Option Page)). PassesNone clean ss marks) (sym is) (λ k d there passed.
    let it = less k passed in
    let other : k ≢ length slots = it.1 in
    let here : k < length slots = omega (arith, there, other, length_push slots slot) in
    ap (has_clean clean) (get_or_append_left slots (slot ∷ []) d k here) ∙ sought k d here it.0)

-- a hole has no clean page
pub sought_less : (clean : ℕ → Bool) (slots now : List (Option Page)) (place : ℕ) (old marks : MarksView)
    → now ≡ set slots place None → PassesNone clean slots old
    → ((k : ℕ) → IsPassed marks k → k ≢ place → IsPassed old k) → PassesNone clean now marks
sought_less clean slots now place old marks is sought more =
    subst (λ (ss : List (Option Page)). PassesNone clean ss marks) (sym is) (λ k d there passed.
    let here : k < length slots = omega (arith, there, length-set slots place None) in
    elim (cases_eq k place) [
      | inl same ↦ ap (has_clean clean) (get_or-set_at slots place k None d same (omega (arith, same, here)))
      | inr other ↦
          ap (has_clean clean) (get_or-set_other slots place k None d other) ∙ sought k d here (more k passed other)
    ])

-- nor does it where the last hole is taken away
pub sought_trimmed : (clean : ℕ → Bool) (old slots : List (Option Page)) (marks : MarksView) → IsTrimmed old slots
    → PassesNone clean old marks → PassesNone clean slots marks
sought_trimmed clean old slots marks (inl same) sought =
    subst (λ (ss : List (Option Page)). PassesNone clean ss marks) (sym same) sought
sought_trimmed clean old slots marks (inr less) sought = λ k d there passed.
    let before : k < length old = omega (arith, there, ap (length {A = Option Page}) less, length_push slots None) in
    ap (has_clean clean) (sym (get_or_append_left slots (None ∷ []) d k there)
    ∙ ap (λ (ss : List (Option Page)). get_or ss k d) (sym less))
    ∙ sought k d before passed

-- ---- marks that are made anew

-- before this slot the search passes over no clean page
abbrev pub AreMarkedTo : (ℕ → Bool) → List (Option Page) → MarksView → ℕ → Type 0
AreMarkedTo clean slots marks place = (k : ℕ) (d : Option Page) → k < place → k < length slots → IsPassed marks k
    → has_clean clean (get_or slots k d) ≡ false

pub marked_more : (clean : ℕ → Bool) (slots now : List (Option Page)) (old marks : MarksView) (place : ℕ)
    → now ≡ slots → ((k : ℕ) → IsPassed marks k → k ≢ place → IsPassed old k)
    → ((d : Option Page) → place < length now → IsPassed marks place → has_clean clean (get_or now place d) ≡ false)
    → AreMarkedTo clean slots old place → AreMarkedTo clean now marks (place + 1)
marked_more clean slots now old marks place same others here marked = λ k d lt there passed.
    elim (cases_eq k place) [
      | inl eq ↦
          ap (λ (i : ℕ). has_clean clean (get_or now i d)) eq
          ∙ here d (omega (arith, eq, there)) (subst (IsPassed marks) eq passed)
      | inr other ↦
          ap (λ (ss : List (Option Page)). has_clean clean (get_or ss k d)) same
          ∙ marked k d (omega (arith, lt, other)) (omega (arith, there, ap length same)) (others k passed other)
    ]

-- ---- a pool whose marks are others

pub whole_states : (stored : List Page) (states after : List PageState) → length after ≡ length states
    → IsWhole stored states → IsWhole stored after
whole_states stored states after count whole = record {
  few = omega (arith, count, whole.few);
  enough = omega (arith, whole.enough, count);
  stored_numbers = whole.stored_numbers;
}

pub pool_noted : {S : Type 0} (stored_in : S → List Page) (log : Log) (pool : PoolView S) (room : ℕ) (pages : List Page)
    → pages ≡ pool.resident → IsPoolOf stored_in log pool
    → IsPoolOf stored_in log (record pool { room = room; resident = pages })
pool_noted stored_in log pool room pages same is =
    subst (λ (ps : List Page). IsPoolOf stored_in log (record pool { room = room; resident = ps })) (sym same)
    (room_kept stored_in log pool room is)

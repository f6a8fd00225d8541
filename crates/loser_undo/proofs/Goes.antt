-- Undo of a log that undo has begun goes on to the same log: record by record, until no transaction is open.
use Rattle.std.proofs.Common.{◌≡◌, ◌≢◌, ◌⊎◌, ℕ, suc, ◌<◌, Bool, true, false, cond, ◌&&◌, ◌||◌, not, eqb, List, [], ◌∷◌, ◌++◌}
use Rattle.std.proofs.Common.{length, map, sym, refl, ap, ap₂, subst, ◌∙◌, inl, inr, arith, eq-eqb, ne_eqb, append-nil, eqb-true}
use Rattle.std.specs.Prelude.{Some, None, reverse}
use Rattle.std.specs.List.{All, AllByRecursion, AllPairs, cons_option, filter, filter_map, fold, list_any}
use Rattle.std.proofs.lemmas.Bool.{and_parts, cases_eq}
use Rattle.std.proofs.lemmas.List.{reverse-reverse}
use Rattle.std.proofs.lemmas.List.Elements.{All-filter, All-head, All-map, All-tail, filter_agree, filter_passes}
use Rattle.std.proofs.lemmas.List.Elements.{recursion_from_All}
use Rattle.std.proofs.lemmas.List.Folds.{list_any-append}
use Rattle.std.proofs.lemmas.Map.Views.{any-filter_same}
use Rattle.std.proofs.Math.Bool.{and-false, and-true}
use mathlib.Core.List.{reverse-cons}
use Rattle.log_records.specs.declared.record.Record.{Record}
use Rattle.log_records.specs.declared.record.Record.TheVariants.{Update}
use Rattle.log_records.specs.Log.{IsLog, Log}
use Rattle.log_rules.specs.declared.pending_change.PendingChange.{PendingChange}
use Rattle.log_rules.specs.Linked.{IsLinked, MayFollow}
use Rattle.log_rules.specs.Transactions.{begun, is_open, last_of, open_in, pending, without_last}
use Rattle.log_rules.proofs.Public.{All-last_of}
use Rattle.log_rules.proofs.Public.{open_has_begun}
use Rattle.log_rules.proofs.Public.{filter-filter, filter_agree_but, filter_map_push, filter_push_out}
use Rattle.log_rules.proofs.Public.{linked_push}
use Rattle.log_rules.proofs.Public.{is_open_push, is_open_push_other, open_in_push_last, open_in_push_same, pending_push}
use Rattle.log_rules.proofs.Public.{not_among}
use Rattle.loser_undo.specs.Undo.{LostChange, after_undo, comp_of, end_of, is_lost, is_undone, lost_by, lost_changes}
use Rattle.loser_undo.specs.Undo.{spent, with_comp, with_end, taken_back}
use Rattle.loser_undo.proofs.Falling.{all_reverse, lost_fall, lost_of_open}
use Rattle.loser_undo.proofs.Lost.{changes_of, has_lsn, none_has, of_txn, pending_is_lost}
use Rattle.loser_undo.proofs.Phases.{changes_of_other, changes_of_own, closed_by_end, comp_follows, end_follows}
use Rattle.loser_undo.proofs.Phases.{last_of_push, no_length, pending_other, rising_open, rising_spent, without_last_push}
use Rattle.loser_undo.proofs.Rising.{ArePlaced, IsRising, log_placed, placed_push, placed_rise}

-- ---- an End of the first that has nothing pending

pub record IsIdle (rs : List Record) (t : ℕ) : Type 0 where
  pub still : is_open rs t ≡ true
  pub none : pending rs t ≡ []

pub first_idle : (rs : List Record) (t : ℕ) (ts : List ℕ) → spent rs ≡ t ∷ ts → IsIdle rs t
first_idle rs t ts is =
    let both = λ (n : ℕ). is_open rs n && is_undone rs n in
    let passes = subst (All (λ n. both n ≡ true)) (sym (filter-filter (is_open rs) (is_undone rs) (begun rs)) ∙ is)
    (filter_passes both (begun rs)) in
    let parts = and_parts (is_open rs t) (is_undone rs t) (All-head (λ n. both n ≡ true) t ts passes) in
    record { still = parts.0; none = no_length (pending rs t) (eqb-true (length (pending rs t)) 0 parts.1) }

without_it : (t : ℕ) (ts : List ℕ) → AllByRecursion (λ m. t < m) ts → filter (λ o. not (eqb o t)) ts ≡ ts
without_it t [] above = refl
without_it t (m ∷ ms) above =
    let lt = above.0 in
    let rest = filter (λ o. not (eqb o t)) ms in
    ap (λ b. cond (not b) (m ∷ rest) rest) (ne_eqb m t (omega arith)) ∙ ap (λ xs. m ∷ xs) (without_it t ms above.1)

pub spent_with_end : (rs : List Record) (t : ℕ) (ts : List ℕ) → IsLinked rs → spent rs ≡ t ∷ ts
    → spent (with_end rs t) ≡ ts
spent_with_end rs t ts linked is =
    ap (filter (is_undone (with_end rs t))) (open_in_push_last rs r refl refl)
    ∙ filter_agree_but t (is_undone (with_end rs t)) (is_undone rs)
    (λ n other. ap (λ (ps : List PendingChange). eqb (length ps) 0) (pending_other rs r n (λ same. other (sym same))))
    (filter others (open_in rs)) (not_among others t out (open_in rs))
    ∙ filter-filter others (is_undone rs) (open_in rs)
    ∙ filter_agree (λ n. others n && is_undone rs n) (λ n. is_undone rs n && others n)
    (λ n. swap (others n) (is_undone rs n)) (open_in rs)
    ∙ sym (filter-filter (is_undone rs) others (open_in rs))
    ∙ ap (filter others) is
    ∙ ap (λ b. cond b (t ∷ filter others ts) (filter others ts)) out
    ∙ without_it t ts (subst IsRising is (rising_spent rs linked)).0
  where
    r : Record
    r = end_of rs t

    others : ℕ → Bool
    others o = not (eqb o t)

    out : others t ≡ false
    out = ap not (eq-eqb t t refl)

    swap : (a b : Bool) → (a && b) ≡ (b && a)
    swap true true = refl
    swap true false = refl
    swap false true = refl
    swap false false = refl

lost_agree : (rs after xs : List Record) → ((u lsn : ℕ) → is_lost after u lsn ≡ is_lost rs u lsn)
    → filter_map (lost_by after) xs ≡ filter_map (lost_by rs) xs
lost_agree rs after [] same = refl
lost_agree rs after (Update lsn u prev page slot change ∷ xs) same =
    let l : LostChange = record {
      txn = u;
      change = record { lsn = lsn; prev = prev; page = page; slot = slot; change = change };
    } in
    ap₂ (λ b ls. cons_option (cond b (Some l) None) ls) (same u lsn) (lost_agree rs after xs same)
lost_agree rs after (r ∷ xs) same = lost_agree rs after xs same

pub lost_with_end : (rs : List Record) (t : ℕ) → pending rs t ≡ [] → lost_changes (with_end rs t) ≡ lost_changes rs
lost_with_end rs t none =
    ap reverse (filter_map_push (lost_by (with_end rs t)) rs (end_of rs t)
    ∙ append-nil (filter_map (lost_by (with_end rs t)) rs) ∙ lost_agree rs (with_end rs t) rs same)
  where
    any : ℕ → List PendingChange → Bool
    any lsn ps = list_any (λ p. eqb p.lsn lsn) ps

    same : (u lsn : ℕ) → is_lost (with_end rs t) u lsn ≡ is_lost rs u lsn
    same u lsn = elim (cases_eq t u) [
      | inl it ↦
          ap (λ a. a && any lsn (pending (with_end rs t) u)) (closed_by_end rs t u it)
          ∙ sym (ap (λ ps. is_open rs u && any lsn ps) (ap (pending rs) (sym it) ∙ none) ∙ and-false (is_open rs u))
      | inr other ↦
          ap₂ (λ a ps. a && any lsn ps) (is_open_push_other rs (end_of rs t) u other)
          (pending_other rs (end_of rs t) u other)
    ]

pub goes_end : (rs : List Record) (t : ℕ) (ts : List ℕ) → IsLinked rs → spent rs ≡ t ∷ ts
    → after_undo (with_end rs t) ≡ after_undo rs
unfolding after_undo
goes_end rs t ts linked is =
    ap₂ (λ us ls. fold taken_back (fold with_end (with_end rs t) us) ls) (spent_with_end rs t ts linked is)
    (lost_with_end rs t (first_idle rs t ts is).none)
    ∙ sym (ap (λ us. fold taken_back (fold with_end rs us) (lost_changes rs)) is)

-- ---- the compensation of the last change of all

none_above : (p q : ℕ → Bool) (t : ℕ) → ((o : ℕ) → t ≢ o → q o ≡ p o) → (ts : List ℕ)
    → AllByRecursion (λ m. t < m) ts → filter p ts ≡ [] → filter q ts ≡ []
none_above p q t agree [] above none = refl
none_above p q t agree (x ∷ xs) above none = by (p x) refl none (none_above p q t agree xs above.1)
  where
    by : (b : Bool) → p x ≡ b → cond b (x ∷ filter p xs) (filter p xs) ≡ [] → (filter p xs ≡ [] → filter q xs ≡ [])
        → filter q (x ∷ xs) ≡ []
    by true holds left rest = absurd (cc)
    by false fails left rest =
        let lt = above.0 in
        let apart : t ≢ x = λ e. absurd (omega (arith, lt, e)) in
        ap (λ c. cond c (x ∷ filter q xs) (filter q xs)) (agree x apart ∙ fails) ∙ rest left

only_it : (p q : ℕ → Bool) (t : ℕ) → ((o : ℕ) → t ≢ o → q o ≡ p o) → (ts : List ℕ) → IsRising ts → filter p ts ≡ []
    → filter q ts ≡ cond (list_any (λ n. eqb n t) ts && q t) (t ∷ []) []
only_it p q t agree [] rising none = refl
only_it p q t agree (x ∷ xs) rising none = first (p x) refl none (only_it p q t agree xs rising.1)
  where
    first : (b : Bool) → p x ≡ b → cond b (x ∷ filter p xs) (filter p xs) ≡ []
        → (filter p xs ≡ [] → filter q xs ≡ cond (list_any (λ n. eqb n t) xs && q t) (t ∷ []) [])
        → cond (q x) (x ∷ filter q xs) (filter q xs) ≡ cond ((eqb x t || list_any (λ n. eqb n t) xs) && q t) (t ∷ []) []
    first true is left rest = absurd (cc)
    first false is left rest = elim (cases_eq t x) [
      | inl same ↦
          let above = subst (λ n. AllByRecursion (λ m. n < m) xs) (sym same) rising.0 in
          ap (λ ys. cond (q x) (x ∷ ys) ys) (none_above p q t agree xs above left)
          ∙ ap (λ n. cond (q n) (n ∷ []) []) (sym same)
          ∙ sym (ap (λ b. cond ((b || list_any (λ n. eqb n t) xs) && q t) (t ∷ []) []) (eq-eqb x t (sym same)))
      | inr other ↦
          ap (λ b. cond b (x ∷ filter q xs) (filter q xs)) (agree x other ∙ is)
          ∙ rest left
          ∙ sym (ap (λ b. cond ((b || list_any (λ n. eqb n t) xs) && q t) (t ∷ []) []) (ne_eqb x t (λ e. other (sym e))))
    ]

below_first : (l : LostChange) (ls : List LostChange) → AllPairs (λ x y. y.change.lsn < x.change.lsn) (l ∷ ls)
    → All (λ k. k.change.lsn < l.change.lsn) ls
below_first l ls falling = λ k d lt. falling 0 (suc k) d (omega arith) (omega (arith, lt))

module _ (rs : List Record) (l : LostChange) (ls : List LostChange) (linked : IsLinked rs) (placed : ArePlaced rs)
    (lost : lost_changes rs ≡ l ∷ ls) where
  abbrev t : ℕ
  t = l.txn

  abbrev ks : List LostChange
  ks = reverse ls

  abbrev r : Record
  r = comp_of rs l

  abbrev mid : List Record
  mid = with_comp rs l

  all : filter_map (lost_by rs) rs ≡ ks ++ l ∷ []
  all = sym (reverse-reverse (filter_map (lost_by rs) rs)) ∙ ap reverse lost ∙ reverse-cons l ls

  pub still : is_open rs l.txn ≡ true
  still =
      All-head (λ k. is_open rs k.txn ≡ true) l ls (subst (All (λ k. is_open rs k.txn ≡ true)) lost (lost_of_open rs))

  before : pending rs t ≡ changes_of t ks ++ l.change ∷ []
  before = pending_is_lost rs (placed_rise rs placed) t still ∙ ap (changes_of t) all ∙ changes_of_own t ks l refl

  pub last : last_of (pending rs l.txn) ≡ Some l.change
  last = ap last_of before ∙ last_of_push (changes_of t ks) l.change

  pub may : MayFollow rs (comp_of rs l)
  may = comp_follows rs l still last

  below : All (λ k. k.change.lsn < l.change.lsn) ks
  below =
      all_reverse (λ k. k.change.lsn < l.change.lsn) ls (below_first l ls
      (subst (AllPairs (λ x y. y.change.lsn < x.change.lsn)) lost (lost_fall rs (placed_rise rs placed))))

  below_of : (u : ℕ) → All (λ q. q.lsn < l.change.lsn) (changes_of u ks)
  below_of u =
      All-map (λ (q : PendingChange). q.lsn < l.change.lsn) (λ (k : LostChange). k.change) (filter (of_txn u) ks)
      (All-filter (of_txn u) (λ k. k.change.lsn < l.change.lsn) ks below)

  -- the last change of another transaction has a lower LSN
  pub other_below : (u : ℕ) (p : PendingChange) → l.txn ≢ u → is_open rs u ≡ true → last_of (pending rs u) ≡ Some p
      → p.lsn < l.change.lsn
  other_below u p other live is =
      All-last_of (λ q. q.lsn < l.change.lsn) (changes_of u ks) p (below_of u)
      (sym (ap last_of (pending_is_lost rs (placed_rise rs placed) u live ∙ ap (changes_of u) all
      ∙ changes_of_other u ks l other)) ∙ is)

  same_open : (o : ℕ) → is_open mid o ≡ is_open rs o
  same_open o = is_open_push rs r refl false refl o ∙ kept (is_open rs o) (eqb o t)
    where
      kept : (a b : Bool) → (a && not (b && false)) ≡ a
      kept true true = refl
      kept true false = refl
      kept false b = refl

  now : pending mid t ≡ changes_of t ks
  now = pending_push rs r t refl ∙ ap without_last before ∙ without_last_push (changes_of t ks) l.change

  -- it is lost no more, and the others are as before
  abbrev apart : LostChange → Bool
  apart k = not (eqb k.txn t && eqb k.change.lsn l.change.lsn)

  lost_now : (u lsn : ℕ) → is_lost mid u lsn ≡ (is_lost rs u lsn && not (eqb u t && eqb lsn l.change.lsn))
  lost_now u lsn = elim (cases_eq u t) [
    | inl same ↦
        ap (λ n. is_lost mid n lsn) same
        ∙ ap₂ (λ a ps. a && any ps) (same_open t ∙ still) now
        ∙ own (cases_eq lsn l.change.lsn)
        ∙ sym (ap₂ (λ a ps. (a && any ps) && not (eqb lsn l.change.lsn)) still before)
        ∙ sym (ap (λ b. is_lost rs t lsn && not (b && eqb lsn l.change.lsn)) (eq-eqb t t refl))
        ∙ ap (λ n. is_lost rs n lsn && not (eqb n t && eqb lsn l.change.lsn)) (sym same)
    | inr other ↦
        ap₂ (λ a ps. a && any ps) (same_open u) (pending_other rs r u (λ e. other (sym e)))
        ∙ sym (and-true (is_lost rs u lsn))
        ∙ sym (ap (λ b. is_lost rs u lsn && not (b && eqb lsn l.change.lsn)) (ne_eqb u t other))
  ]
    where
      any : List PendingChange → Bool
      any ps = list_any (has_lsn lsn) ps

      differ : AllByRecursion (λ m. m ≢ l.change.lsn) (map (λ (p : PendingChange). p.lsn) (changes_of t ks))
      differ = each (changes_of t ks) (recursion_from_All (λ q. q.lsn < l.change.lsn) (changes_of t ks) (below_of t))
        where
          each : (ps : List PendingChange) → AllByRecursion (λ q. q.lsn < l.change.lsn) ps
              → AllByRecursion (λ m. m ≢ l.change.lsn) (map (λ (p : PendingChange). p.lsn) ps)
          each [] low = tt
          each (p ∷ ps) low = let lt = low.0 in ((λ e. absurd (omega (arith, lt, e))), each ps low.1)

      own : (lsn ≡ l.change.lsn) ⊎ (lsn ≢ l.change.lsn)
          → any (changes_of t ks) ≡ (any (changes_of t ks ++ l.change ∷ []) && not (eqb lsn l.change.lsn))
      own (inl it) =
          ap (λ n. list_any (has_lsn n) (changes_of t ks)) it ∙ none_has l.change.lsn (changes_of t ks) differ
          ∙ sym (ap (λ b. any (changes_of t ks ++ l.change ∷ []) && not b) (eq-eqb lsn l.change.lsn it)
          ∙ and-false (any (changes_of t ks ++ l.change ∷ [])))
      own (inr not_it) =
          sym (ap (λ b. any (changes_of t ks ++ l.change ∷ []) && not b) (ne_eqb lsn l.change.lsn not_it)
          ∙ and-true (any (changes_of t ks ++ l.change ∷ []))
          ∙ list_any-append (has_lsn lsn) (changes_of t ks) (l.change ∷ [])
          ∙ ap (λ b. any (changes_of t ks) || (b || false)) (ne_eqb l.change.lsn lsn (λ e. not_it (sym e)))
          ∙ or_none (any (changes_of t ks)))
        where
          or_none : (a : Bool) → (a || (false || false)) ≡ a
          or_none true = refl
          or_none false = refl

  lost_apart : (xs : List Record) → filter_map (lost_by mid) xs ≡ filter apart (filter_map (lost_by rs) xs)
  lost_apart [] = refl
  lost_apart (Update lsn u prev page slot change ∷ xs) =
      let k : LostChange = record {
        txn = u;
        change = record { lsn = lsn; prev = prev; page = page; slot = slot; change = change };
      } in
      ap₂ (λ b ys. cons_option (cond b (Some k) None) ys) (lost_now u lsn) (lost_apart xs)
      ∙ one k (is_lost rs u lsn) (filter_map (lost_by rs) xs)
    where
      one : (k : LostChange) (a : Bool) (rest : List LostChange)
          → cons_option (cond (a && apart k) (Some k) None) (filter apart rest)
          ≡ filter apart (cons_option (cond a (Some k) None) rest)
      one k false rest = refl
      one k true rest = last_one (apart k)
        where
          last_one : (b : Bool) → cons_option (cond b (Some k) None) (filter apart rest)
              ≡ cond b (k ∷ filter apart rest) (filter apart rest)
          last_one true = refl
          last_one false = refl
  lost_apart (x ∷ xs) = lost_apart xs

  all_apart : (js : List LostChange) → All (λ k. k.change.lsn < l.change.lsn) js → filter apart js ≡ js
  all_apart [] low = refl
  all_apart (k ∷ js) low =
      let lt = All-head (λ (k : LostChange). k.change.lsn < l.change.lsn) k js low in
      let other : eqb k.change.lsn l.change.lsn ≡ false = ne_eqb k.change.lsn l.change.lsn (λ e. absurd (omega (arith, lt, e))) in
      ap (λ b. cond (not (eqb k.txn t && b)) (k ∷ filter apart js) (filter apart js)) other
      ∙ ap (λ b. cond (not b) (k ∷ filter apart js) (filter apart js)) (and-false (eqb k.txn t))
      ∙ ap (λ ys. k ∷ ys) (all_apart js (All-tail (λ (k : LostChange). k.change.lsn < l.change.lsn) k js low))

  pub lost_with_comp : lost_changes (with_comp rs l) ≡ ls
  lost_with_comp =
      let out : apart l ≡ false =
      ap₂ (λ a b. not (a && b)) (eq-eqb t t refl) (eq-eqb l.change.lsn l.change.lsn refl) in
      ap reverse (filter_map_push (lost_by mid) rs r ∙ append-nil (filter_map (lost_by mid) rs) ∙ lost_apart rs
      ∙ ap (filter apart) all ∙ filter_push_out apart ks l out ∙ all_apart ks below)
      ∙ reverse-reverse ls

  module _ (none : spent rs ≡ []) where
    spent_with_comp : spent mid ≡ cond (is_undone mid t) (t ∷ []) []
    spent_with_comp =
        let among : list_any (λ n. eqb n t) (open_in rs) ≡ true =
        any-filter_same (λ n. eqb n t) (is_open rs) true
        (λ n same. ap (is_open rs) (eqb-true n t same) ∙ still) (begun rs) ∙ open_has_begun rs t still in
        ap (filter (is_undone mid)) (open_in_push_same rs r refl refl)
        ∙ only_it (is_undone rs) (is_undone mid) t
        (λ o other. ap (λ (ps : List PendingChange). eqb (length ps) 0) (pending_other rs r o other)) (open_in rs)
        (rising_open rs linked) none
        ∙ ap (λ b. cond (b && is_undone mid t) (t ∷ []) []) among

    pub goes_comp : after_undo (with_comp rs l) ≡ after_undo rs
    unfolding after_undo taken_back
    goes_comp =
        ap₂ (λ us ks. fold taken_back (fold with_end mid us) ks) spent_with_comp lost_with_comp
        ∙ ap (λ ys. fold taken_back ys ls) (ended (is_undone mid t))
        ∙ sym (ap₂ (λ us ks. fold taken_back (fold with_end rs us) ks) none lost)
      where
        ended : (b : Bool) → fold with_end mid (cond b (t ∷ []) []) ≡ cond b (with_end mid t) mid
        ended true = refl
        ended false = refl

-- ---- nothing is left

pub none_open : (rs : List Record) → ArePlaced rs → spent rs ≡ [] → lost_changes rs ≡ [] → open_in rs ≡ []
none_open rs placed none lost = by (open_in rs) refl
  where
    by : (os : List ℕ) → open_in rs ≡ os → open_in rs ≡ []
    by [] is = is
    by (o ∷ os) is =
        let still = All-head (λ n. is_open rs n ≡ true) o os
        (subst (All (λ n. is_open rs n ≡ true)) is (filter_passes (is_open rs) (begun rs))) in
        let nothing : pending rs o ≡ [] =
        pending_is_lost rs (placed_rise rs placed) o still
        ∙ ap (changes_of o) (sym (reverse-reverse (filter_map (lost_by rs) rs)) ∙ ap reverse lost) in
        let idle : is_undone rs o ≡ true = ap (λ (ps : List PendingChange). eqb (length ps) 0) nothing in
        let some : o ∷ filter (is_undone rs) os ≡ [] =
        sym (ap (λ b. cond b (o ∷ filter (is_undone rs) os) (filter (is_undone rs) os)) idle)
        ∙ ap (filter (is_undone rs)) (sym is) ∙ none in
        absurd (cc)

pub goes_nowhere : (rs : List Record) → spent rs ≡ [] → lost_changes rs ≡ [] → after_undo rs ≡ rs
unfolding after_undo
goes_nowhere rs none lost = ap₂ (λ us ls. fold taken_back (fold with_end rs us) ls) none lost

-- ---- what each record of undo keeps, holds of the log after undo

pub record Finished (P : List Record → Type 0) (rs : List Record) : Type 0 where
  pub linked : IsLinked rs
  pub has : P rs
  pub closed : open_in rs ≡ []

module _ (P : List Record → Type 0)
    (ends : (rs : List Record) (t : ℕ) → IsLinked rs → MayFollow rs (end_of rs t) → P rs → P (with_end rs t))
    (comps : (rs : List Record) (l : LostChange) → IsLinked rs → MayFollow rs (comp_of rs l)
    → last_of (pending rs l.txn) ≡ Some l.change → P rs → P (with_comp rs l)) where
  abbrev Leaves : List LostChange → Type 0
  Leaves ls = (rs : List Record) → IsLinked rs → ArePlaced rs → P rs → spent rs ≡ [] → lost_changes rs ≡ ls
      → Finished P (after_undo rs)

  after_ends : (ls : List LostChange) → Leaves ls → (ts : List ℕ) (rs : List Record) → IsLinked rs → ArePlaced rs
      → P rs → spent rs ≡ ts → lost_changes rs ≡ ls → Finished P (after_undo rs)
  after_ends ls rest [] rs linked placed has idle lost = rest rs linked placed has idle lost
  after_ends ls rest (t ∷ ts) rs linked placed has idle lost =
      let it = first_idle rs t ts idle in
      let follows = end_follows rs t it.still it.none in
      subst (Finished P) (goes_end rs t ts linked idle)
      (after_ends ls rest ts (with_end rs t) (linked_push rs (end_of rs t) linked follows)
      (placed_push rs (end_of rs t) placed refl) (ends rs t linked follows has) (spent_with_end rs t ts linked idle)
      (lost_with_end rs t it.none ∙ lost))

  after_comps : (ls : List LostChange) → Leaves ls
  after_comps [] rs linked placed has none lost =
      subst (Finished P) (sym (goes_nowhere rs none lost))
      (record { linked = linked; has = has; closed = none_open rs placed none lost })
  after_comps (l ∷ ls) rs linked placed has none lost =
      let follows = may rs l ls linked placed lost in
      let final = last rs l ls linked placed lost in
      subst (Finished P) (goes_comp rs l ls linked placed lost none)
      (after_ends ls (after_comps ls) (spent (with_comp rs l)) (with_comp rs l)
      (linked_push rs (comp_of rs l) linked follows) (placed_push rs (comp_of rs l) placed refl)
      (comps rs l linked follows final has) refl (lost_with_comp rs l ls linked placed lost))

  pub all_undone : (log : Log) → IsLog log → IsLinked log.records → P log.records → Finished P (after_undo log.records)
  all_undone log valid linked has =
      let rs = log.records in
      after_ends (lost_changes rs) (after_comps (lost_changes rs)) (spent rs) rs linked (log_placed log valid) has refl
      refl

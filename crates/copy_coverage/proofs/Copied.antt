-- The copies of a volume go on with its log, its stored pages and one another.
use Rattle.std.proofs.Common.{◌≡◌, ℕ, ◌+◌, ◌-◌, ◌/◌, ◌<◌, ◌≤◌, List, [], ◌∷◌, ◌++◌, length, get_or, set, reverse, refl}
use Rattle.std.proofs.Common.{sym, ap}
use Rattle.std.proofs.Common.{subst, ◌∙◌, arith, cond, inl, inr, replicate, take}
use Rattle.std.specs.Prelude.{Some, None, Bool, true, false, nat_lt}
use Rattle.std.proofs.lemmas.Bool.{cases_eq}
use Rattle.std.proofs.Math.ListN.{get_or-eq_default}
use Rattle.std.proofs.lemmas.Bool.{cases_lt, ltb-true}
use Rattle.std.proofs.lemmas.List.{get_or-set_other, get_or-set_same, length-append}
use Rattle.std.proofs.lemmas.List.{length-replicate, length-set}
use Rattle.std.proofs.lemmas.List.{get_or-replicate}
use Rattle.std.proofs.lemmas.List.Elements.{All-weaker}
use Rattle.page_core.specs.declared.page.Page.{Page}
use Rattle.log_records.specs.declared.record.Record.{Record}
use Rattle.log_records.specs.Coverage.{Covers, IsPast, changes_on}
use Rattle.log_records.specs.Log.{IsLog, Log, lsn_of, page_count_below, with_next}
use Rattle.log_records.specs.Record.{own_lsn}
use Rattle.log_records.proofs.Public.{covers_later}
use Rattle.log_records.proofs.Public.{number-image}
use Rattle.log_records.proofs.Public.{page_count_at-append}
use Rattle.copy_vault.specs.declared.copy_id.CopyKind.{CopyKind}
use Rattle.copy_vault.specs.declared.copy_id.CopyKind.TheVariants.{Full, Inc}
use Rattle.copy_vault.specs.declared.copy_id.TheConstants.{MAX_COPIES}
use Rattle.copy_vault.specs.declared.copy_id.Decision.{Decision}
use Rattle.copy_vault.specs.declared.copy_id.Decision.TheVariants.{Taken, Kept}
use Rattle.copy_vault.specs.Chain.{content}
use Rattle.page_decisions.specs.Decisions.{AreDecidedBelow, AreInPlace, PageDecision}
use Rattle.copy_vault.specs.Copy.{CopyView, KeepsOfParent, answer_of}
use Rattle.page_decisions.specs.Decisions.{decision_at, kept, least_undecided, taken, undecided}
use Rattle.copy_vault.specs.Copy.{decided_by, new_copy}
use Rattle.copy_vault.specs.Copy.{with_decision}
use Rattle.page_decisions.proofs.Public.{all_decided, none_counted}
use Rattle.copy_vault.specs.Vault.{CopyState, HasParent, complete, decided, decided_in, dropped, opened, reading}
use Rattle.copy_vault.specs.Vault.{redo_of}
use Rattle.copy_vault.specs.Vault.{sealed, sealed_in, since_of, state_of, with_state, without}
use Rattle.copy_coverage.specs.Copied.{AreCopied, AreRestorable, IsCopyOf, IsCovered, IsDecidedIn, IsPoint, StandsOn}
use Rattle.copy_coverage.specs.Copied.{copy_in}
use Rattle.copy_coverage.proofs.Contents.{content_by, content_over, decided_over}
use Rattle.copy_coverage.proofs.OneCopy.{complete_same, copied_changed, opened_changes, set_changes}
use Rattle.copy_coverage.proofs.LaterPages.{count_below-rises, formatted_is_past, later_covers, lsn_of_formatted}

-- ---- the log goes on

pub covered_later : (rs : List Record) (next : Record) (f redo p : ℕ) (page : Page) → redo ≤ own_lsn next
    → IsCovered rs f redo p page → IsCovered (rs ++ next ∷ []) f redo p page
covered_later rs next f redo p page low is = record {
  covers = covers_later rs next p page redo low is.covers;
  stable = is.stable;
}

pub copied_later : (log : Log) (next : Record) (f : ℕ) (stored : List Page) (copies : List CopyState)
    → own_lsn next ≡ lsn_of (length log.records) → f ≤ own_lsn next → AreCopied log f stored copies
    → AreCopied (with_next log (next ∷ [])) f stored copies
copied_later log next f stored copies own high are = record {
  few = are.few;
  each = λ id copy is.
      let here = are.each id copy is in
      let early = here.early in
      let same : page_count_below (with_next log (next ∷ [])) copy.begin ≡ page_count_below log copy.begin =
      page_count_at-append log (next ∷ []) ((copy.begin - 1) / 64) (omega arith) in
      record {
        named = here.named;
        noted = here.noted;
        early = here.early;
        whole = here.whole ∙ sym same;
        parent = here.parent;
        in_place = here.in_place;
        keeps = here.keeps;
      };
  decided = are.decided;
  read = λ id copy is p d lt. covers_later log.records next p (get_or stored p d) copy.redo (low id copy (ap copy_in is))
      (are.read id copy is p d lt);
  covered = λ id copy older is on p done.
      covered_later log.records next f copy.redo p (content (reverse (copy ∷ older)) p) (low id copy is)
      (are.covered id copy older is on p done);
}
  where
    low : (id : ℕ) (copy : CopyView) → copy_in (state_of copies id) ≡ Some copy → copy.redo ≤ own_lsn next
    low id copy is =
        let here = are.each id copy is in
        let early = here.early in
        let order = here.noted.order in
        omega arith

pub copied_forced : (log : Log) (f g : ℕ) (stored : List Page) (copies : List CopyState) → f ≤ g
    → AreCopied log f stored copies → AreCopied log g stored copies
copied_forced log f g stored copies le are = record {
  few = are.few;
  each = λ id copy is.
      let here = are.each id copy is in
      let early = here.early in
      record {
        named = here.named;
        noted = here.noted;
        early = omega arith;
        whole = here.whole;
        parent = here.parent;
        in_place = here.in_place;
        keeps = here.keeps;
      };
  decided = are.decided;
  read = are.read;
  covered = λ id copy older is on p done.
      let here = are.covered id copy older is on p done in
      let low = here.stable in
      record { covers = here.covers; stable = omega arith };
}

-- ---- a newer page is stored

pub covers_newer : (rs : List Record) (p : ℕ) (old new : Page) (bound : ℕ) → IsPast rs p new → old.lsn ≤ new.lsn
    → Covers rs p old bound → Covers rs p new bound
covers_newer rs p old new bound past le covers = record {
  past = past;
  reached = All-weaker (λ lsn. lsn < bound → lsn ≤ old.lsn) (λ lsn. lsn < bound → lsn ≤ new.lsn)
      (λ lsn h below. let here = h below in omega arith) (changes_on rs p) covers.reached;
}

pub copied_stored : (log : Log) (f : ℕ) (stored : List Page) (copies : List CopyState) (n : ℕ) (image : Page)
    → AreCopied log f stored copies → n < length stored → IsPast log.records n image
    → ((d : Page) → (get_or stored n d).lsn ≤ image.lsn) → AreCopied log f (set stored n image) copies
copied_stored log f stored copies n image are there past newer = record {
  few = are.few;
  each = are.each;
  decided = are.decided;
  read = λ id copy is p d lt.
      let below : p < length stored = omega (arith, length-set stored n image) in
      elim (cases_eq p n) [
        | inl same ↦
            let here : get_or (set stored n image) p d ≡ image =
            ap (λ (k : ℕ). get_or (set stored n image) k d) same ∙ get_or-set_same stored n image d there in
            let now : Covers log.records n image copy.redo =
            covers_newer log.records n (get_or stored n d) image copy.redo past (newer d) (are.read id copy is n d there) in
            rw (here, same) now
        | inr other ↦ rw (get_or-set_other stored n p image d other) (are.read id copy is p d below)
      ];
  covered = are.covered;
}

-- ---- a copy begins

not_taken : (page : Page) → ¬ (undecided ≡ taken page)
not_taken page e = cc

not_kept : ¬ (undecided ≡ kept)
not_kept e = cc

reading_not_complete : (a b : CopyView) → ¬ (reading a ≡ complete b)
reading_not_complete a b e = cc

reading_same : (a b : CopyView) → reading a ≡ reading b → a ≡ b
reading_same a b e = cc

some_same : (a b : CopyView) → Some a ≡ Some b → a ≡ b
some_same a b e = cc

-- what a copy stands on has a page of the log's past, also where the volume did not have the page yet
older_is_past : (log : Log) (f p : ℕ) (stored : List Page) (copies : List CopyState) (kind : CopyKind)
    (older : List CopyView) → AreCopied log f stored copies → 0 < f → StandsOn copies kind older
    → IsPast log.records p (content (reverse older) p) × ((content (reverse older) p).lsn < f)
older_is_past log f p stored copies Full older are some on =
    rw on (formatted_is_past log.records p, omega (arith, some, lsn_of_formatted p))
older_is_past log f p stored copies (Inc parent) [] are some on = absurd on
older_is_past log f p stored copies (Inc parent) (copy ∷ older) are some on =
    let has = are.covered parent copy older (ap copy_in on.0) on.1 p (are.decided parent copy on.0 p) in
    (has.covers.past, has.stable)

-- a page that the volume did not have yet when the copy began
later_covered : (log : Log) (f p : ℕ) (stored : List Page) (copies : List CopyState) (kind : CopyKind)
    (older : List CopyView) (begin redo : ℕ) → IsLog log → AreCopied log f stored copies → IsPoint begin redo
    → begin < f → StandsOn copies kind older → page_count_below log begin ≤ p
    → IsCovered log.records f redo p (content (reverse older) p)
later_covered log f p stored copies kind older begin redo valid are noted early on later =
    let past = older_is_past log f p stored copies kind older are (omega arith) on in
    record {
      covers = later_covers log p redo (content (reverse older) p) valid
          (omega (arith, later, count_below-rises log redo begin noted.order)) past.0;
      stable = past.1;
    }

none_decided : (n p : ℕ) → decision_at (replicate n undecided) p ≡ undecided
none_decided n p = elim (cases_lt p n) [
  | inl lt ↦ get_or-replicate n p undecided undecided lt
  | inr le ↦ get_or-eq_default (replicate n undecided) undecided (omega (arith, length-replicate n undecided))
]

pub copied_opened : (log : Log) (f : ℕ) (stored : List Page) (copies : List CopyState) (kind : CopyKind)
    (begin redo : ℕ) → IsLog log → AreCopied log f stored copies → length copies < MAX_COPIES → IsPoint begin redo
    → begin < f → HasParent copies (length copies + 1) kind
    → ((p : ℕ) (d : Page) → p < length stored → Covers log.records p (get_or stored p d) redo)
    → AreCopied log f stored (opened copies kind (page_count_below log begin) begin redo)
copied_opened log f stored copies kind begin redo valid are few noted early parent covers =
    let count = page_count_below log begin in
    let new = new_copy (length copies + 1) kind count begin redo in
    copied_changed log f stored copies (opened copies kind count begin redo) (length copies + 1) (reading new)
    (opened_changes copies (reading new)) (omega (arith, length-append copies (reading new ∷ []))) are (record {
      each = λ copy is. subst (IsCopyOf log f copies (length copies + 1)) (some_same new copy is) (record {
        named = refl;
        noted = noted;
        early = early;
        whole = length-replicate count undecided;
        parent = parent;
        in_place = λ p page is. absurd (not_taken page (sym (none_decided count p) ∙ is));
        keeps = λ full p is. absurd (not_kept (sym (none_decided count p) ∙ is));
      });
      decided = λ copy is. absurd (reading_not_complete new copy is);
      read = λ copy is p d lt. subst (λ (c : CopyView). Covers log.records p (get_or stored p d) c.redo)
          (reading_same new copy is)
          (covers p d lt);
      covered = λ copy older is. subst (λ (c : CopyView). StandsOn copies c.kind older → (p : ℕ) → IsDecidedIn c.pages p
          → IsCovered log.records f c.redo p (content (reverse (c ∷ older)) p)) (some_same new copy is)
          (λ on p done. elim (cases_lt p count) [
            | inl lt ↦
                let within : p < length new.pages = omega (arith, lt, length-replicate count undecided) in
                absurd (done within (none_decided count p))
            | inr later ↦
                rw (content_by new older p undecided (none_decided count p))
                (later_covered log f p stored copies kind older begin redo valid are noted early on later)
          ]);
    })

-- ---- a copy that is being read goes on, or ends

-- the parent's page serves a copy that keeps it: the stored page has no change that the parent's lacks
kept_covers : (rs : List Record) (f p since redo : ℕ) (stored page : Page) → Covers rs p stored redo
    → stored.lsn < since → IsCovered rs f since p page → IsCovered rs f redo p page
kept_covers rs f p since redo stored page covers low is = record {
  covers = record {
    past = is.covers.past;
    reached = λ i d lt below.
        let first = covers.reached i d lt below in
        is.covers.reached i d lt (omega arith);
  };
  stable = is.stable;
}

kept_from : (log : Log) (f p : ℕ) (stored : List Page) (copies : List CopyState) (redo : ℕ) (page : Page)
    (kind : CopyKind) (older : List CopyView) → AreCopied log f stored copies → Covers log.records p page redo
    → StandsOn copies kind older → nat_lt page.lsn (since_of copies kind) ≡ true
    → IsCovered log.records f redo p (content (reverse older) p)
kept_from log f p stored copies redo page Full older are covers on low = absurd (no_less page.lsn low)
  where
    no_less : (n : ℕ) → ¬ (nat_lt n 0 ≡ true)
    no_less n e = let lt : n < 0 = ltb-true n 0 e in omega arith
kept_from log f p stored copies redo page (Inc parent) [] are covers on low = absurd on
kept_from log f p stored copies redo page (Inc parent) (copy ∷ older) are covers on low =
    let since : since_of copies (Inc parent) ≡ copy.redo = ap redo_of on.0 in
    let below : page.lsn < copy.redo = ltb-true page.lsn copy.redo (ap (nat_lt page.lsn) (sym since) ∙ low) in
    kept_covers log.records f p copy.redo redo page (content (reverse (copy ∷ older)) p) covers below
    (are.covered parent copy older (ap copy_in on.0) on.1 p (are.decided parent copy on.0 p))

-- each page that was taken still stands at its number
placed_with : (pages : List PageDecision) (p : ℕ) (decision : PageDecision) → AreInPlace pages
    → ((page : Page) → decision ≡ taken page → page.number ≡ p) → AreInPlace (set pages p decision)
placed_with pages p decision placed here q page is = elim (cases_eq q p) [
  | inl same ↦ elim (cases_lt p (length pages)) [
    | inl lt ↦
        here page (sym (get_or-set_same pages p decision undecided lt)
        ∙ ap (decision_at (set pages p decision)) (sym same) ∙ is) ∙ sym same
    | inr le ↦ absurd (not_taken page
        (sym (get_or-eq_default (set pages p decision) undecided (omega (arith, length-set pages p decision))) ∙ is))
  ]
  | inr other ↦ placed q page (sym (get_or-set_other pages p q decision undecided other) ∙ is)
]

-- a full copy still keeps none
kept_with : (kind : CopyKind) (pages : List PageDecision) (p : ℕ) (decision : PageDecision)
    → KeepsOfParent kind pages → (kind ≡ Full → ¬ (decision ≡ kept)) → KeepsOfParent kind (set pages p decision)
kept_with kind pages p decision keeps here full q is = elim (cases_eq q p) [
  | inl same ↦ elim (cases_lt p (length pages)) [
    | inl lt ↦
        here full (sym (get_or-set_same pages p decision undecided lt)
        ∙ ap (decision_at (set pages p decision)) (sym same) ∙ is)
    | inr le ↦ absurd (not_kept
        (sym (get_or-eq_default (set pages p decision) undecided (omega (arith, length-set pages p decision))) ∙ is))
  ]
  | inr other ↦ keeps full q (sym (get_or-set_other pages p q decision undecided other) ∙ is)
]

taken_same : (a b : Page) → taken a ≡ taken b → a ≡ b
taken_same a b e = cc

kept_not_taken : (page : Page) → ¬ (kept ≡ taken page)
kept_not_taken page e = cc

taken_not_kept : (page : Page) → ¬ (taken page ≡ kept)
taken_not_kept page e = cc

-- 0 stands for the redo point of a parent where there is none: each page is taken
all_taken : (lsn : ℕ) → cond (nat_lt lsn 0) Kept Taken ≡ Taken
all_taken lsn = by_test (nat_lt lsn 0) refl
  where
    by_test : (b : Bool) → nat_lt lsn 0 ≡ b → cond b Kept Taken ≡ Taken
    by_test true e = absurd (let lt : lsn < 0 = ltb-true lsn 0 e in omega arith)
    by_test false e = refl

number_of_past : (rs : List Record) (p : ℕ) (page : Page) → IsPast rs p page → page.number ≡ p
number_of_past rs p page past = ap (λ (q : Page). q.number) past.made ∙ number-image (take past.count rs) p

few_still : (copies : List CopyState) (id : ℕ) (state : CopyState) → length copies ≤ MAX_COPIES
    → length (with_state copies id state) ≤ MAX_COPIES
few_still copies id state few = omega (arith, length-set copies (id - 1) state)

pub copied_decided : (log : Log) (f : ℕ) (stored : List Page) (copies : List CopyState) (id p : ℕ)
    (copy : CopyView) (page : Page) → AreCopied log f stored copies → state_of copies id ≡ reading copy
    → p < length copy.pages → p < length stored → page ≡ get_or stored p page → page.lsn < f
    → AreCopied log f stored (decided copies id p page)
copied_decided log f stored copies id p copy page are is there lt same stable =
    let since = since_of copies copy.kind in
    let decision = decided_by (answer_of since page) page in
    let next = with_decision copy p decision in
    let covers : Covers log.records p page copy.redo = subst (λ (q : Page). Covers log.records p q copy.redo) (sym same)
    (are.read id copy is p page lt) in
    let made : decided copies id p page ≡ with_state copies id (reading next) =
    ap (λ (s : CopyState). with_state copies id (decided_in copies s p page)) is in
    let count : length next.pages ≡ length copy.pages = length-set copy.pages p decision in
    subst (AreCopied log f stored) (sym made)
    (copied_changed log f stored copies (with_state copies id (reading next)) id (reading next)
    (set_changes copies id copy (reading next) is) (few_still copies id (reading next) are.few) are (record {
      each = λ c e. subst (IsCopyOf log f copies id) (some_same next c e)
          (let here = are.each id copy (ap copy_in is) in record {
            named = here.named;
            noted = here.noted;
            early = here.early;
            whole = count ∙ here.whole;
            parent = here.parent;
            in_place = placed_with copy.pages p decision here.in_place (decided_at (answer_of since page));
            keeps = kept_with copy.kind copy.pages p decision here.keeps (λ full. taken_in_full full);
          });
      decided = λ c e. absurd (reading_not_complete next c e);
      read = λ c e q d below. subst (λ (c : CopyView). Covers log.records q (get_or stored q d) c.redo)
          (reading_same next c e) (are.read id copy is q d below);
      covered = λ c older e. subst (λ (c : CopyView). StandsOn copies c.kind older → (q : ℕ) → IsDecidedIn c.pages q
          → IsCovered log.records f c.redo q (content (reverse (c ∷ older)) q)) (some_same next c e)
          (λ on q done. elim (cases_eq q p) [
            | inl here ↦
                let at : decision_at next.pages p ≡ decision =
                get_or-set_same copy.pages p decision undecided there in
                rw (here, content_by next older p decision at) (by_answer older covers on (nat_lt page.lsn since) refl)
            | inr other ↦
                let at : decision_at next.pages q ≡ decision_at copy.pages q =
                get_or-set_other copy.pages p q decision undecided other in
                rw (content_by next older q (decision_at copy.pages q) at ∙ sym (content_over copy older q))
                (are.covered id copy older (ap copy_in is) on q
                (λ within none. done (omega (arith, within, count)) (at ∙ none)))
          ]);
    }))
  where
    decided_at : (answer : Decision) (q : Page) → decided_by answer page ≡ taken q → q.number ≡ p
    decided_at Taken q e =
        let taken_is : page ≡ q = taken_same page q e in
        ap (λ (x : Page). x.number) (sym taken_is) ∙ number_of_past log.records p page
        (subst (IsPast log.records p) (sym same) (are.read id copy is p page lt).past)
    decided_at Kept q e = absurd (kept_not_taken q e)

    taken_in_full : copy.kind ≡ Full → ¬ (decided_by (answer_of (since_of copies copy.kind) page) page ≡ kept)
    taken_in_full full e =
        let at : answer_of (since_of copies copy.kind) page ≡ Taken =
        ap (λ (kind : CopyKind). answer_of (since_of copies kind) page) full ∙ all_taken page.lsn in
        taken_not_kept page (sym (ap (λ (a : Decision). decided_by a page) at) ∙ e)

    by_answer : (older : List CopyView) → Covers log.records p page copy.redo → StandsOn copies copy.kind older
        → (b : Bool) → nat_lt page.lsn (since_of copies copy.kind) ≡ b
        → IsCovered log.records f copy.redo p
        (decided_over (content (reverse older) p) (decided_by (cond b Kept Taken) page))
    by_answer older covers on true e = kept_from log f p stored copies copy.redo page copy.kind older are covers on e
    by_answer older covers on false e = record { covers = covers; stable = stable }

complete_not_reading : (a b : CopyView) → ¬ (complete a ≡ reading b)
complete_not_reading a b e = cc

pub copied_sealed : (log : Log) (f : ℕ) (stored : List Page) (copies : List CopyState) (id : ℕ)
    (copy : CopyView) → AreCopied log f stored copies → state_of copies id ≡ reading copy
    → least_undecided copy.pages ≡ None → AreCopied log f stored (sealed copies id)
copied_sealed log f stored copies id copy are is all =
    let made : sealed copies id ≡ with_state copies id (complete copy) =
    ap (λ (s : CopyState). with_state copies id (sealed_in s)) is in
    subst (AreCopied log f stored) (sym made)
    (copied_changed log f stored copies (with_state copies id (complete copy)) id (complete copy)
    (set_changes copies id copy (complete copy) is) (few_still copies id (complete copy) are.few) are (record {
      each = λ c e. are.each id c (ap copy_in is ∙ e);
      decided = λ c e. subst (λ (c : CopyView). AreDecidedBelow (length c.pages) c.pages) (complete_same copy c e)
          (all_decided copy.pages (none_counted copy.pages all));
      read = λ c e p d lt. absurd (complete_not_reading copy c e);
      covered = λ c older e on p done. are.covered id c older (ap copy_in is ∙ e) on p done;
    }))

none_some : (copy : CopyView) → ¬ (None ≡ Some copy)
none_some copy e = cc

dropped_not_complete : (copy : CopyView) → ¬ (dropped ≡ complete copy)
dropped_not_complete copy e = cc

dropped_not_reading : (copy : CopyView) → ¬ (dropped ≡ reading copy)
dropped_not_reading copy e = cc

pub copied_dropped : (log : Log) (f : ℕ) (stored : List Page) (copies : List CopyState) (id : ℕ)
    (copy : CopyView) → AreCopied log f stored copies → state_of copies id ≡ reading copy
    → AreCopied log f stored (without copies id)
copied_dropped log f stored copies id copy are is =
    copied_changed log f stored copies (without copies id) id dropped
    (set_changes copies id copy dropped is) (few_still copies id dropped are.few) are (record {
      each = λ c e. absurd (none_some c e);
      decided = λ c e. absurd (dropped_not_complete c e);
      read = λ c e p d lt. absurd (dropped_not_reading c e);
      covered = λ c older e on p. absurd (none_some c e);
    })

-- ---- what may be restored

pub restorable : (log : Log) (f : ℕ) (stored : List Page) (copies : List CopyState)
    → AreCopied log f stored copies → AreRestorable log f copies
restorable log f stored copies are = record {
  few = are.few;
  each = λ id copy is. are.each id copy (ap copy_in is);
  decided = are.decided;
  covered = λ id copy older is on p. are.covered id copy older (ap copy_in is) on p (are.decided id copy is p);
}

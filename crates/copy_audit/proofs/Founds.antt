-- What is found row by row is what an audit asks of the chain.
use Rattle.std.proofs.Common.{◌≡◌, ℕ, zero, suc, ◌+◌, ◌<◌, ◌≤◌, List, [], ◌∷◌, ◌++◌, length, get_or, take, map}
use Rattle.std.proofs.Common.{refl, sym, ap, subst, ◌∙◌, arith, inl, inr, ◌⊎◌}
use Rattle.std.specs.Prelude.{Option, Some, None}
use Rattle.std.specs.List.{flat_map}
use Rattle.std.proofs.lemmas.Bool.{cases_lt}
use Rattle.std.proofs.lemmas.List.{get_or-map, get_or_append_left, length-append, length-map, take_more, append-nil}
use Rattle.std.proofs.lemmas.List.FromFn.{get_or-map-range_with_len, length-map-range_with_len}
use Rattle.std.proofs.lemmas.Grind.{flat_map-append}
use Rattle.std.proofs.Math.Seq.{get_or-append_seam}
use Rattle.page_core.specs.declared.page.Page.{Page}
use Rattle.page_core.specs.Page.{formatted}
use Rattle.log_records.specs.declared.record.Record.{Record}
use Rattle.log_records.specs.Coverage.{Covers}
use Rattle.log_records.specs.Log.{Log, page_count}
use Rattle.copy_vault.specs.ChainEach.{place_list}
use Rattle.copy_vault.specs.Chain.{content, last_of, last_redo, takings}
use Rattle.copy_vault.specs.Chain.{row, rows}
use Rattle.copy_vault.specs.ChainReading.{AreWithinLog}
use Rattle.page_decisions.specs.Decisions.{decision_at, page_of}
use Rattle.copy_vault.specs.Copy.{CopyView}
use Rattle.copy_audit.specs.declared.found.Found.{Found}
use Rattle.copy_audit.specs.Audit.{IsAudited, IsFirstUnsound, IsSoundAt, chain_to, end_of}
use Rattle.copy_audit.specs.declared.reach.Reach.{Reach}
use Rattle.copy_audit.specs.ByLsn.{IsSeenIn}
use Rattle.copy_audit.specs.Rows.{AreFound, IsFirstIn, IsLeastIn, IsSoundIn, content_in}
use Rattle.copy_audit.specs.Trace.{IsReach}

-- ---- one row

-- the pages that the first copies have of a row
takings_in_row : (copies : List CopyView) (p m : ℕ)
    → flat_map (λ (pages : List Page). pages) (take m (row copies p)) ≡ takings (take m copies) p
takings_in_row copies p zero = refl
takings_in_row [] p (suc m) = refl
takings_in_row (c ∷ copies) p (suc m) =
    ap (λ (ps : List Page). page_of (decision_at c.pages p) ++ ps) (takings_in_row copies p m)

content_of_row : (copies : List CopyView) (p m : ℕ) → content_in p (row copies p) m ≡ content (take m copies) p
content_of_row copies p m = ap (last_of (formatted p)) (takings_in_row copies p m)

point_of_member : (copies : List CopyView) (k : ℕ) → k < length copies
    → get_or (map (λ (c : CopyView). c.redo) copies) k 0 ≡ last_redo (take (k + 1) copies)
point_of_member [] k lt = absurd (omega arith)
point_of_member (c ∷ copies) zero lt = refl
point_of_member (c ∷ []) (suc k) lt = absurd (omega arith)
point_of_member (c ∷ d ∷ copies) (suc k) lt =
    let next : suc k + 1 ≡ suc (suc k) = omega arith in
    let one : k + 1 ≡ suc k = omega arith in
    point_of_member (d ∷ copies) k (omega arith)
    ∙ ap (λ (n : ℕ). last_redo (take n (d ∷ copies))) one
    ∙ sym (ap (λ (n : ℕ). last_redo (take n (c ∷ d ∷ copies))) next)

-- ---- all rows

row_at : (copies : List CopyView) (n p : ℕ) → p < n → get_or (rows copies n) p [] ≡ row copies p
row_at copies n p lt = get_or-map-range_with_len (row copies) 0 n p p [] lt (omega arith)

content_at : (copies : List CopyView) (n k p : ℕ) → p < n
    → content_in p (get_or (rows copies n) p []) (k + 1) ≡ content (chain_to copies k) p
content_at copies n k p page =
    ap (λ (r : List (List Page)). content_in p r (k + 1)) (row_at copies n p page) ∙ content_of_row copies p (k + 1)

-- the redo points of the copies
abbrev pub redo_points : List CopyView → List ℕ
redo_points copies = map (λ c. c.redo) copies

-- in rows and in the chain the same is said of a page up to a member
pub to_chain : (log : Log) (copies : List CopyView) (n k p : ℕ) → k < length copies → p < n
    → IsSoundIn log.records p (get_or (rows copies n) p []) (redo_points copies) k → IsSoundAt log copies k p
to_chain log copies n k p member page sound =
    subst (λ (q : Page). Covers log.records p q (last_redo (chain_to copies k))) (content_at copies n k p page)
    (subst (Covers log.records p (content_in p (get_or (rows copies n) p []) (k + 1))) (point_of_member copies k member) sound)

pub to_rows : (log : Log) (copies : List CopyView) (n k p : ℕ) → k < length copies → p < n
    → IsSoundAt log copies k p → IsSoundIn log.records p (get_or (rows copies n) p []) (redo_points copies) k
to_rows log copies n k p member page sound =
    subst (Covers log.records p (content_in p (get_or (rows copies n) p []) (k + 1))) (sym (point_of_member copies k member))
    (subst (λ (q : Page). Covers log.records p q (last_redo (chain_to copies k))) (sym (content_at copies n k p page)) sound)

pub count_rows : (copies : List CopyView) (n : ℕ) → length (rows copies n) ≡ n
count_rows copies n = length-map-range_with_len (row copies) 0 n

pub nothing_found : (log : Log) (copies : List CopyView) (points : List ℕ) (given : List (List (List Page)))
    → points ≡ redo_points copies → given ≡ rows copies (page_count log) → AreWithinLog (end_of log) copies
    → AreFound log.records points (length points) given None → IsAudited log copies
nothing_found log copies points given of_points of_given within none = record {
  within = within;
  covering = λ k member p page.
      let many : k < length points = omega (arith, ap length of_points, length-map copies (λ (c : CopyView). c.redo), member) in
      let long : p < length given = omega (arith, ap length of_given, count_rows copies (page_count log), page) in
      to_chain log copies (page_count log) k p member page
      (subst (λ (g : List (List (List Page))). IsSoundIn log.records p (get_or g p []) (redo_points copies) k) of_given
      (subst (λ (ps : List ℕ). IsSoundIn log.records p (get_or given p []) ps k) of_points (none k p many long)));
}

pub one_found : (log : Log) (copies : List CopyView) (ids points : List ℕ) (given : List (List (List Page))) (found : Found)
    → ids ≡ map (λ (c : CopyView). c.id) copies → points ≡ redo_points copies → given ≡ rows copies (page_count log)
    → AreFound log.records points (length points) given (Some found)
    → IsFirstUnsound log copies (get_or ids found.member 0) found.page
one_found log copies ids points given found of_ids of_points of_given some =
    let many : length points ≡ length copies = ap length of_points ∙ length-map copies (λ (c : CopyView). c.redo) in
    let long : length given ≡ page_count log = ap length of_given ∙ count_rows copies (page_count log) in
    let there : found.member < length copies = omega (arith, some.there, many) in
    let within : found.page < page_count log = omega (arith, some.within, long) in
    let same : (k p : ℕ) → IsSoundIn log.records p (get_or given p []) points k
    → IsSoundIn log.records p (get_or (rows copies (page_count log)) p []) (redo_points copies) k = λ k p sound.
    subst (λ (g : List (List (List Page))). IsSoundIn log.records p (get_or g p []) (redo_points copies) k) of_given
    (subst (λ (ps : List ℕ). IsSoundIn log.records p (get_or given p []) ps k) of_points sound) in
    let back : (k p : ℕ) → IsSoundIn log.records p (get_or (rows copies (page_count log)) p []) (redo_points copies) k
    → IsSoundIn log.records p (get_or given p []) points k = λ k p sound.
    subst (λ (ps : List ℕ). IsSoundIn log.records p (get_or given p []) ps k) (sym of_points)
    (subst (λ (g : List (List (List Page))). IsSoundIn log.records p (get_or g p []) (redo_points copies) k) (sym of_given)
    sound) in
    record {
      at = found.member;
      there = there;
      named = λ d. ap (λ (ns : List ℕ). get_or ns found.member 0) of_ids
          ∙ get_or-map (λ (c : CopyView). c.id) copies found.member d 0 there;
      within = within;
      members = λ k p before page. to_chain log copies (page_count log) k p (omega arith) page
          (same k p (some.members_before k p before (omega (arith, page, long))));
      pages = λ p before. to_chain log copies (page_count log) found.member p there (omega arith)
          (same found.member p (some.pages_before p before));
      unsound = λ sound. some.here (back found.member found.page
          (to_rows log copies (page_count log) found.member found.page there within sound));
    }

-- ---- one row more

pub old_row : (given : List (List (List Page))) (next : List (List Page)) (p : ℕ) → p < length given
    → get_or given p [] ≡ get_or (given ++ next ∷ []) p []
old_row given next p lt = sym (get_or_append_left given (next ∷ []) [] p lt)

pub new_row : (given : List (List (List Page))) (next : List (List Page)) (p : ℕ) → length given ≡ p
    → next ≡ get_or (given ++ next ∷ []) p []
new_row given next p is =
    sym (subst (λ (n : ℕ). get_or (given ++ next ∷ []) n [] ≡ next) is (get_or-append_seam given next [] []))

-- of the members before this one all pages are sound, if those of this row are
all_before : (rs : List Record) (points : List ℕ) (given : List (List (List Page))) (next : List (List Page))
    (n most k p : ℕ) → length given ≡ n
    → ((j q : ℕ) → j < most → q < length given → IsSoundIn rs q (get_or given q []) points j)
    → ((j : ℕ) → j < most → IsSoundIn rs n next points j) → k < most → p < length (given ++ next ∷ [])
    → IsSoundIn rs p (get_or (given ++ next ∷ []) p []) points k
all_before rs points given next n most k p count old here member page = elim (cases_lt p (length given)) [
  | inl less ↦
      subst (λ (r : List (List Page)). IsSoundIn rs p r points k) (old_row given next p less) (old k p member less)
  | inr past ↦
      let last : n ≡ p = omega (arith, length-append given (next ∷ []), page) in
      subst (λ (q : ℕ). IsSoundIn rs q (get_or (given ++ next ∷ []) q []) points k) last
      (subst (λ (r : List (List Page)). IsSoundIn rs n r points k) (new_row given next n count) (here k member))
]

-- a member that is found in the last row, before all that were found in those before it
pub found_now : (rs : List Record) (points : List ℕ) (members n most : ℕ) (given : List (List (List Page)))
    (next : List (List Page)) (new : Found) → length given ≡ n → most ≤ members
    → ((j q : ℕ) → j < most → q < length given → IsSoundIn rs q (get_or given q []) points j)
    → IsFirstIn rs n next points most new.member → new.page ≡ n
    → IsLeastIn rs points members (given ++ next ∷ []) new
found_now rs points members n most given next new count within old first page =
    let there = first.there in
    record {
      there = omega arith;
      within = omega (arith, length-append given (next ∷ []), count, page);
      members_before = λ k p before lt.
          all_before rs points given next n new.member k p count
          (λ j q less in_rows. old j q (omega arith) in_rows) first.before before lt;
      pages_before = λ p before.
          let less : p < length given = omega (arith, count, page) in
          subst (λ (r : List (List Page)). IsSoundIn rs p r points new.member) (old_row given next p less)
          (old new.member p there less);
      here = λ sound. first.here
          (subst (λ (r : List (List Page)). IsSoundIn rs n r points new.member) (sym (new_row given next n count))
          (subst (λ (q : ℕ). IsSoundIn rs q (get_or (given ++ next ∷ []) q []) points new.member) page sound));
    }

-- nothing new in the last row
pub none_now : (rs : List Record) (points : List ℕ) (members n : ℕ) (given : List (List (List Page)))
    (next : List (List Page)) → length given ≡ n → AreFound rs points members given None
    → ((j : ℕ) → j < members → IsSoundIn rs n next points j) → AreFound rs points members (given ++ next ∷ []) None
none_now rs points members n given next count old here = λ k p member page.
    all_before rs points given next n members k p count old here member page

pub found_before : (rs : List Record) (points : List ℕ) (members n : ℕ) (given : List (List (List Page)))
    (next : List (List Page)) (found : Found) → length given ≡ n → IsLeastIn rs points members given found
    → ((j : ℕ) → j < found.member → IsSoundIn rs n next points j)
    → IsLeastIn rs points members (given ++ next ∷ []) found
found_before rs points members n given next found count old here =
    let within = old.within in
    record {
      there = old.there;
      within = omega (arith, length-append given (next ∷ []), within);
      members_before = λ k p before lt.
          all_before rs points given next n found.member k p count old.members_before here before lt;
      pages_before = λ p before.
          subst (λ (r : List (List Page)). IsSoundIn rs p r points found.member)
          (old_row given next p (omega arith)) (old.pages_before p before);
      here = λ sound. old.here
          (subst (λ (r : List (List Page)). IsSoundIn rs found.page r points found.member)
          (sym (old_row given next found.page within)) sound);
    }

-- ---- members of a row, one after another

content_before : (number : ℕ) (row : List (List Page)) (m : ℕ) → m < length row
    → content_in number row (m + 1) ≡ last_of (content_in number row m) (get_or row m [])
content_before number row m lt =
    ap (λ (pss : List (List Page)). last_of (formatted number) (flat_map (λ (ps : List Page). ps) pss))
    (take_more row m [] lt)
    ∙ ap (last_of (formatted number)) (flat_map-append (λ (ps : List Page). ps) (take m row) (get_or row m [] ∷ []))
    ∙ ap (λ (ps : List Page). last_of (formatted number) (flat_map (λ (qs : List Page). qs) (take m row) ++ ps))
    (append-nil (get_or row m []))
    ∙ last_of_both (formatted number) (flat_map (λ (ps : List Page). ps) (take m row)) (get_or row m [])
  where
    last_of_both : (page : Page) (xs ys : List Page) → last_of page (xs ++ ys) ≡ last_of (last_of page xs) ys
    last_of_both page [] ys = refl
    last_of_both page (x ∷ xs) ys = last_of_both x xs ys

pub content_taken : (number : ℕ) (row : List (List Page)) (m : ℕ) (page : Page) → m < length row
    → get_or row m [] ≡ page ∷ [] → content_in number row (m + 1) ≡ page
content_taken number row m page lt is =
    content_before number row m lt ∙ ap (last_of (content_in number row m)) is

pub content_kept : (number : ℕ) (row : List (List Page)) (m : ℕ) → m < length row
    → get_or row m [] ≡ [] → content_in number row (m + 1) ≡ content_in number row m
content_kept number row m lt is =
    content_before number row m lt ∙ ap (last_of (content_in number row m)) is

-- ---- how far the page of the chain reaches, with one member more

pub reach_taken : (rs : List Record) (p : ℕ) (row : List (List Page)) (m : ℕ) (page : Page) (now seen : Reach)
    → m < length row → get_or row m [] ≡ page ∷ [] → now ≡ seen → IsReach rs p page seen
    → IsReach rs p (content_in p row (m + 1)) now
reach_taken rs p row m page now seen lt here is reach =
    subst (IsReach rs p (content_in p row (m + 1))) (sym is)
    (subst (λ (q : Page). IsReach rs p q seen) (sym (content_taken p row m page lt here)) reach)

pub reach_kept : (rs : List Record) (p : ℕ) (row : List (List Page)) (m : ℕ) (now old : Reach)
    → m < length row → get_or row m [] ≡ [] → now ≡ old → IsReach rs p (content_in p row m) old
    → IsReach rs p (content_in p row (m + 1)) now
reach_kept rs p row m now old lt here is reach =
    subst (IsReach rs p (content_in p row (m + 1))) (sym is)
    (subst (λ (q : Page). IsReach rs p q old) (sym (content_kept p row m lt here)) reach)

pub no_page : (place : Option Page) → ((page : Page) → place ≡ Some page → ⊥) → place_list place ≡ []
no_page None none = refl
no_page (Some page) none = absurd (none page refl)

-- how far it reaches where members were seen in another order
pub reach_next : (rs : List Record) (p : ℕ) (row : List (Option Page)) (m : ℕ) (seen : Option Reach) (now old : Reach)
    → m < length row → IsSeenIn rs p (get_or row m None) seen → IsReach rs p (content_in p (map place_list row) m) old
    → (seen ≡ Some now) ⊎ ((seen ≡ None) × (now ≡ old)) → IsReach rs p (content_in p (map place_list row) (m + 1)) now
reach_next rs p row m seen now old lt is before next = by_place (get_or row m None) seen refl is next
  where
    here : (place : Option Page) → get_or row m None ≡ place → get_or (map place_list row) m [] ≡ place_list place
    here place at = get_or-map place_list row m None [] lt ∙ ap place_list at

    by_place : (place : Option Page) (it : Option Reach) → get_or row m None ≡ place → IsSeenIn rs p place it
        → (it ≡ Some now) ⊎ ((it ≡ None) × (now ≡ old)) → IsReach rs p (content_in p (map place_list row) (m + 1)) now
    by_place None it at none (inl some) = let both = sym none ∙ some in cc
    by_place None it at none (inr kept) =
        reach_kept rs p (map place_list row) m now old (omega (arith, length-map row place_list)) (here None at) kept.1 before
    by_place (Some page) None at none next = absurd none
    by_place (Some page) (Some reach) at right (inl some) =
        let same : now ≡ reach = cc in
        reach_taken rs p (map place_list row) m page now reach (omega (arith, length-map row place_list))
        (here (Some page) at) same right
    by_place (Some page) (Some reach) at right (inr kept) = let never = kept.0 in cc

pub none_first : (first : Option ℕ) → ((member : ℕ) → first ≡ Some member → ⊥) → first ≡ None
none_first None none = refl
none_first (Some member) none = absurd (none member refl)

-- ---- a row more, whatever was found before

-- so many members are looked at in the next row
abbrev pub IsMost : ℕ → Option Found → ℕ → Type 0
IsMost members None most = most ≡ members
IsMost members (Some found) most = found.member < members → most ≡ found.member

pub row_found : (rs : List Record) (points : List ℕ) (members n most : ℕ) (given : List (List (List Page)))
    (next : List (List Page)) (found : Option Found) (new : Found) → length given ≡ n → IsMost members found most
    → AreFound rs points members given found → IsFirstIn rs n next points most new.member → new.page ≡ n
    → IsLeastIn rs points members (given ++ next ∷ []) new
row_found rs points members n most given next None new count is old first page =
    found_now rs points members n most given next new count (omega (arith, is))
    (λ j q less in_rows. old j q (omega (arith, is, less)) in_rows) first page
row_found rs points members n most given next (Some found) new count is old first page =
    let there = old.there in
    let same : most ≡ found.member = is there in
    found_now rs points members n most given next new count (omega arith)
    (λ j q less in_rows. old.members_before j q (omega arith) in_rows) first page

pub row_clean : (rs : List Record) (points : List ℕ) (members n most : ℕ) (given : List (List (List Page)))
    (next : List (List Page)) (found : Option Found) → length given ≡ n → IsMost members found most
    → AreFound rs points members given found → ((j : ℕ) → j < most → IsSoundIn rs n next points j)
    → AreFound rs points members (given ++ next ∷ []) found
row_clean rs points members n most given next None count is old here =
    none_now rs points members n given next count old (λ j less. here j (omega (arith, is, less)))
row_clean rs points members n most given next (Some found) count is old here =
    let same : most ≡ found.member = is old.there in
    found_before rs points members n given next found count old (λ j less. here j (omega arith))

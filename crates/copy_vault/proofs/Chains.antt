-- Chains of copies, and the pages that they have.
use Rattle.std.proofs.Common.{◌≡◌, ℕ, ◌+◌, ◌-◌, ◌<◌, ◌≤◌, List, [], ◌∷◌, ◌++◌, length, get_or, take, drop}
use Rattle.std.proofs.Common.{reverse, refl, sym, ap}
use Rattle.std.proofs.Common.{◌∙◌, subst, arith, suc, false}
use Rattle.std.specs.Bool.{◌==◌}
use Rattle.std.specs.Borrow.{Bor}
use Rattle.std.specs.List.{AllByRecursion}
use Rattle.std.proofs.Math.ListN.{get_or-map}
use Rattle.std.proofs.lemmas.List.{at_drop_more, map-append, reverse-append, take-append-drop}
use Rattle.std.proofs.lemmas.List.{drop_more, take_all, take_more}
use Rattle.std.proofs.lemmas.List.Concat.{flat_map-append}
use Rattle.page_core.specs.declared.page.Page.{Page}
use Rattle.std.proofs.lemmas.List.FromFn.{get_or-map-range_with_len, length-map-range_with_len}
use Rattle.page_core.specs.Page.{formatted}
use Rattle.page_core.specs.PageCounts.{PageCounts}
use Rattle.page_core.specs.Volume.{AreNumbered}
use Rattle.copy_vault.specs.declared.copy_id.CopyKind.{CopyKind}
use Rattle.copy_vault.specs.declared.copy_id.CopyKind.TheVariants.{Full, Inc}
use Rattle.page_decisions.specs.Decisions.{PageDecision, undecided, taken, kept, decision_at, page_of}
use Rattle.copy_vault.specs.Copy.{CopyView, IsComplete}
use Rattle.page_decisions.proofs.Public.{all_push}
use Rattle.copy_vault.specs.Chain.{FitFrom, Fits, IsBrokenAt, kind_after}
use Rattle.copy_vault.specs.Chain.{Follow, IsChain, content, contents, last_of, last_one, last_redo, lent}
use Rattle.copy_vault.specs.Chain.{newest, takings}

all_append : {X : Type 0} (P : X → Type 0) (xs ys : List X) → AllByRecursion P xs → AllByRecursion P ys
    → AllByRecursion P (xs ++ ys)
all_append P [] ys one two = two
all_append P (x ∷ xs) ys one two = (one.0, all_append P xs ys one.1 two)

-- ---- references to copies

pub at_ref : {T : Type 0} (refs : List (Bor T)) (k : ℕ) (r : Bor T) → r ≡ get_or refs k r
    → get_or (lent refs) k r.now ≡ r.now
at_ref {T} refs k r is = get_or-map (λ (b : Bor T). b.now) refs k r ∙ ap (λ (b : Bor T). b.now) (sym is)

pub lent_push : {T : Type 0} (refs : List (Bor T)) (r : Bor T) → lent (refs ++ r ∷ []) ≡ lent refs ++ r.now ∷ []
lent_push {T} refs r = map-append (λ (b : Bor T). b.now) refs (r ∷ [])

lent_reverse : {T : Type 0} (refs : List (Bor T)) → lent (reverse refs) ≡ reverse (lent refs)
lent_reverse [] = refl
lent_reverse (r ∷ refs) =
    ap lent (reverse-append (r ∷ []) refs) ∙ lent_push (reverse refs) r
    ∙ ap (λ xs. xs ++ r.now ∷ []) (lent_reverse refs) ∙ sym (reverse-append (r.now ∷ []) (lent refs))

-- the last one first
pub reversed : {T : Type 0} (refs : List (Bor T)) (r : Bor T)
    → lent (reverse (refs ++ r ∷ [])) ≡ r.now ∷ reverse (lent refs)
reversed refs r =
    lent_reverse (refs ++ r ∷ []) ∙ ap reverse (lent_push refs r) ∙ reverse-append (lent refs) (r.now ∷ [])

pub lent_back : {T : Type 0} (refs : List (Bor T)) (r : Bor T)
    → reverse (lent (refs ++ r ∷ [])) ≡ r.now ∷ reverse (lent refs)
lent_back refs r = ap reverse (lent_push refs r) ∙ reverse-append (lent refs) (r.now ∷ [])

-- ---- the redo point

pub last_redo_at : (members : List CopyView) (d : CopyView) → 0 < length members
    → (get_or members (length members - 1) d).redo ≡ last_redo members
last_redo_at [] d some = absurd (omega arith)
last_redo_at (copy ∷ []) d some = refl
last_redo_at (copy ∷ next ∷ more) d some =
    let back : length (copy ∷ next ∷ more) - 1 ≡ suc (length (next ∷ more) - 1) = omega arith in
    ap (λ n. (get_or (copy ∷ next ∷ more) n d).redo) back ∙ last_redo_at (next ∷ more) d (omega arith)

-- ---- members of a chain

pub some_members : (members : List CopyView) → IsChain members → 0 < length members
some_members members chain = omega (arith, ap length chain.is)

-- ---- the content of a page

takings_more : (members : List CopyView) (k p : ℕ) (d : CopyView) → k < length members
    → takings (drop k members) p ≡ page_of (decision_at (get_or members k d).pages p)
    ++ takings (drop (k + 1) members) p
takings_more members k p d lt = at_drop_more (λ (ms : List CopyView). takings ms p) members k d lt

pub none_later : (members : List CopyView) (k p : ℕ) (d : CopyView) → k < length members
    → page_of (decision_at (get_or members k d).pages p) ≡ [] → takings (drop (k + 1) members) p ≡ []
    → takings (drop k members) p ≡ []
none_later members k p d lt none later =
    takings_more members k p d lt ∙ ap (λ (ps : List Page). ps ++ takings (drop (k + 1) members) p) none ∙ later

last_of_push : (page last : Page) (pages : List Page) → last_of page (pages ++ last ∷ []) ≡ last
last_of_push page last [] = refl
last_of_push page last (next ∷ pages) = last_of_push next last pages

-- the last copy that took the page has it
takings_at : (members : List CopyView) (k p : ℕ) (d : CopyView) (page : Page) → k < length members
    → takings (drop (k + 1) members) p ≡ [] → page_of (decision_at (get_or members k d).pages p) ≡ page ∷ []
    → takings members p ≡ takings (take k members) p ++ page ∷ []
takings_at members k p d page lt later here =
    let piece : CopyView → List Page = λ copy. page_of (decision_at copy.pages p) in
    ap (λ (ms : List CopyView). takings ms p) (sym (take-append-drop k members))
    ∙ flat_map-append piece (take k members) (drop k members)
    ∙ ap (λ (ps : List Page). takings (take k members) p ++ ps)
    (takings_more members k p d lt ∙ ap (λ (ps : List Page). ps ++ takings (drop (k + 1) members) p) here
    ∙ ap (λ (ps : List Page). page ∷ ps) later)

pub content_at : (members : List CopyView) (k p : ℕ) (d : CopyView) (page : Page) → k < length members
    → takings (drop (k + 1) members) p ≡ [] → page_of (decision_at (get_or members k d).pages p) ≡ page ∷ []
    → content members p ≡ page
content_at members k p d page lt later here =
    ap (last_of (formatted p)) (takings_at members k p d page lt later here)
    ∙ last_of_push (formatted p) page (takings (take k members) p)

pub last_one_push : (pages : List Page) (last : Page) → last_one (pages ++ last ∷ []) ≡ last ∷ []
last_one_push [] last = refl
last_one_push (page ∷ more) last = ap (λ (p : Page). p ∷ []) (last_of_push page last more)

pub newest_at : (members : List CopyView) (k p : ℕ) (d : CopyView) (page : Page) → k < length members
    → takings (drop (k + 1) members) p ≡ [] → page_of (decision_at (get_or members k d).pages p) ≡ page ∷ []
    → newest members p ≡ page ∷ []
newest_at members k p d page lt later here =
    ap last_one (takings_at members k p d page lt later here) ∙ last_one_push (takings (take k members) p) page

-- the content of a page is the newest one, and the formatted one where none took it
last_of_one : (page : Page) (pages : List Page) → last_of page (last_one pages) ≡ last_of page pages
last_of_one page [] = refl
last_of_one page (next ∷ more) = refl

pub content_newest : (members : List CopyView) (p : ℕ) → last_of (formatted p) (newest members p) ≡ content members p
content_newest members p = last_of_one (formatted p) (takings members p)

-- ---- the numbers of the pages

number_of : (d : PageDecision) (p : ℕ) → ((page : Page) → d ≡ taken page → page.number ≡ p)
    → AllByRecursion (λ (page : Page). page.number ≡ p) (page_of d)
number_of undecided p here = tt
number_of (taken page) p here = (here page refl, tt)
number_of kept p here = tt

numbers_of : (members : List CopyView) (p : ℕ) → AllByRecursion (λ copy. IsComplete copy.kind copy.pages) members
    → AllByRecursion (λ (page : Page). page.number ≡ p) (takings members p)
numbers_of [] p all = tt
numbers_of (copy ∷ more) p all =
    all_append (λ (page : Page). page.number ≡ p) (page_of (decision_at copy.pages p)) (takings more p)
    (number_of (decision_at copy.pages p) p (all.0.in_place p)) (numbers_of more p all.1)

last_number : (page : Page) (pages : List Page) (p : ℕ) → page.number ≡ p
    → AllByRecursion (λ (page : Page). page.number ≡ p) pages → (last_of page pages).number ≡ p
last_number page [] p here all = here
last_number page (next ∷ more) p here all = last_number next more p all.0 all.1

formatted_number : (p : ℕ) → (formatted p).number ≡ p
unfolding formatted
formatted_number p = refl

pub content_number : (members : List CopyView) (p : ℕ) → AllByRecursion (λ copy. IsComplete copy.kind copy.pages) members
    → (content members p).number ≡ p
content_number members p all =
    last_number (formatted p) (takings members p) p (formatted_number p) (numbers_of members p all)

pub contents_numbered : (members : List CopyView) (n : ℕ) → IsChain members → AreNumbered (contents members n)
contents_numbered members n chain k d lt =
    let below : k < n = omega (arith, length-map-range_with_len (content members) 0 n) in
    ap (λ (page : Page). page.number) (get_or-map-range_with_len (content members) 0 n k k d below (omega arith))
    ∙ content_number members k chain.complete

pub is_full : (kind : CopyKind) → ((parent : ℕ) → ¬ (kind ≡ Inc parent)) → kind ≡ Full
is_full Full none = refl
is_full (Inc parent) none = absurd (none parent refl)

-- ---- copies that are given

pub fit_push : (counts : PageCounts) (kind : CopyKind) (xs : List CopyView) (x : CopyView) → FitFrom counts kind xs
    → Fits counts (kind_after kind xs) x → FitFrom counts kind (xs ++ x ∷ [])
fit_push counts kind [] x fit here = (here, tt)
fit_push counts kind (y ∷ ys) x fit here = (fit.0, fit_push counts (Inc y.id) ys x fit.1 here)

pub after_push : (kind : CopyKind) (xs : List CopyView) (x : CopyView) → kind_after kind (xs ++ x ∷ []) ≡ Inc x.id
after_push kind [] x = refl
after_push kind (y ∷ ys) x = after_push (Inc y.id) ys x

fit_follow : (counts : PageCounts) (copy : CopyView) (more : List CopyView) → FitFrom counts (Inc copy.id) more
    → Follow copy more
fit_follow counts copy [] fit = tt
fit_follow counts copy (next ∷ more) fit = (fit.0.same_kind, fit_follow counts next more fit.1)

pub fit_chain : (counts : PageCounts) (copies : List CopyView) → FitFrom counts Full copies → 0 < length copies
    → AllByRecursion (λ copy. IsComplete copy.kind copy.pages) copies → IsChain copies
fit_chain counts [] fit some all = absurd (omega arith)
fit_chain counts (first ∷ more) fit some all = record {
  first = first;
  more = more;
  is = refl;
  full = fit.0.same_kind;
  linked = fit_follow counts first more fit.1;
  complete = all;
}

pub not_empty : {T : Type 0} (xs : List T) → false ≡ (length xs == 0) → 0 < length xs
not_empty [] e = cc
not_empty (x ∷ xs) e = omega arith

-- the copies up to here, and the next one
pub record FitUpTo (counts : PageCounts) (copies : List CopyView) (k : ℕ) (kind : CopyKind) : Type 0 where
  pub fit : FitFrom counts Full (take k copies)
  pub next : kind ≡ kind_after Full (take k copies)
  pub all : AllByRecursion (λ copy. IsComplete copy.kind copy.pages) (take k copies)

pub fit_more : (counts : PageCounts) (copies : List CopyView) (k : ℕ) (kind : CopyKind) (copy : CopyView)
    → FitUpTo counts copies k kind → k < length copies → copy ≡ get_or copies k copy → Fits counts kind copy
    → IsComplete copy.kind copy.pages → FitUpTo counts copies (k + 1) (Inc copy.id)
fit_more counts copies k kind copy up lt is here whole =
    let more : take (k + 1) copies ≡ take k copies ++ copy ∷ [] =
    take_more copies k copy lt ∙ ap (λ (c : CopyView). take k copies ++ c ∷ []) (sym is) in
    let all : CopyView → Type 0 = λ copy. IsComplete copy.kind copy.pages in
    record {
      fit = subst (FitFrom counts Full) (sym more) (fit_push counts Full (take k copies) copy up.fit
          (record { same_kind = here.same_kind ∙ up.next; whole = here.whole }));
      next = sym (ap (kind_after Full) more ∙ after_push Full (take k copies) copy);
      all = subst (AllByRecursion all) (sym more) (all_push all (take k copies) copy up.all whole);
    }

pub fit_all : (counts : PageCounts) (copies : List CopyView) (k : ℕ) (kind : CopyKind) → FitUpTo counts copies k kind
    → length copies ≤ k → FitUpTo counts copies (length copies) kind
fit_all counts copies k kind up past =
    let same : take k copies ≡ take (length copies) copies = take_all k copies past
    ∙ sym (take_all (length copies) copies (omega arith)) in
    record {
      fit = subst (FitFrom counts Full) same up.fit;
      next = up.next ∙ ap (kind_after Full) same;
      all = subst (AllByRecursion (λ copy. IsComplete copy.kind copy.pages)) same up.all;
    }

pub broken_at : (counts : PageCounts) (copies : List CopyView) (k : ℕ) (kind : CopyKind) (copy : CopyView) (id : ℕ)
    → FitUpTo counts copies k kind → k < length copies → copy ≡ get_or copies k copy → id ≡ copy.id
    → (¬ Fits counts kind copy) → IsBrokenAt counts copies id
broken_at counts copies k kind copy id up lt is same misfit = record {
  before = take k copies;
  copy = copy;
  after = drop (k + 1) copies;
  is = sym (take-append-drop k copies)
      ∙ ap (λ (cs : List CopyView). take k copies ++ cs)
      (drop_more copies k copy lt ∙ ap (λ (c : CopyView). c ∷ drop (k + 1) copies) (sym is));
  fit = up.fit;
  misfit = λ here. misfit (record { same_kind = here.same_kind ∙ sym up.next; whole = here.whole });
  id_is = same;
}

-- What shows that a log was longer, claim by claim.
use Rattle.std.proofs.Common.{◌≡◌, ◌∙◌, ◌↔◌, ◌+◌, ◌<◌, ◌≤◌, ◌++◌, ◌∷◌, ℕ, List, [], add-one, ap, append-nil, append_assoc, arith, inl, inr, length, refl, subst, sym, take, get_or}
use Rattle.std.specs.Prelude.{◌⊎◌, Err, Ok, OnOk, Result, Some}
use Rattle.std.specs.List.{All, Contains}
use Rattle.std.proofs.lemmas.List.Elements.{All-append, All-cons, All-more, All-nil, All-pop, All-weaker}
use Rattle.std.proofs.lemmas.List.Elements.{Contains-append_left, Contains-append_right, Contains-get_or}
use Rattle.std.proofs.Math.Seq.{take-suc}
use Rattle.std.proofs.Math.Nat.{lt_of_not-le, not-le_of_lt}
use Rattle.page_core.specs.declared.page.Page.{Page}
use Rattle.page_decisions.specs.Decisions.{PageDecision, decision_at, kept, page_of, taken, undecided}
use Rattle.copy_vault.specs.Copy.{CopyView}
use Rattle.database_files.specs.Evidence.{Weighs, IsFileWithin, IsFoundWithin, IsWeighed, IsMissed, IsOfCopy, IsOfLongerCopy}
use Rattle.database_files.specs.Evidence.{IsWithin, KnowsBelow, NotesMissed}
use Rattle.database_files.specs.declared.evidence.ForcedEndClaim.{ForcedEndClaim}
use Rattle.database_files.specs.declared.evidence.Witness.TheVariants as witness
use Rattle.database_files.specs.declared.found_copies.CopyFile.{CopyFile}
use Rattle.database_files.specs.declared.found_copies.FoundCopy.{FoundCopy}
use Rattle.database_files.specs.declared.found_copies.FoundCopy.TheVariants as found

one_is_some : (claim : ForcedEndClaim) → ¬ ((claim ∷ []) ≡ [])
one_is_some claim e = absurd (omega (arith, ap (length {A = ForcedEndClaim}) e))

nil_left : (a b : List ForcedEndClaim) → a ++ b ≡ [] → a ≡ []
nil_left [] b e = refl
nil_left (x ∷ a) b e = absurd (omega (arith, ap (length {A = ForcedEndClaim}) e))

nil_right : (a b : List ForcedEndClaim) → a ++ b ≡ [] → b ≡ []
nil_right [] b e = e
nil_right (x ∷ a) b e = absurd (omega (arith, ap (length {A = ForcedEndClaim}) e))

nil_both : (a b : List ForcedEndClaim) → a ≡ [] → b ≡ [] → a ++ b ≡ []
nil_both a b p q = ap (λ (l : List ForcedEndClaim). l ++ b) p ∙ q

-- nothing is noted, and nothing is missed
pub weighs_none : (is_so : ForcedEndClaim → Type 0) (old new : List ForcedEndClaim) (holds : Type 0) → new ≡ old → holds
    → Weighs is_so old new holds
weighs_none is_so old new holds same it = record {
  more = [];
  behind = same ∙ sym (append-nil old);
  each = All-nil is_so;
  none = (λ _. it, λ _. refl);
}

-- one claim is noted
pub weighs_one : (is_so : ForcedEndClaim → Type 0) (old new : List ForcedEndClaim) (claim : ForcedEndClaim) (holds : Type 0)
    → new ≡ old ++ claim ∷ [] → is_so claim → ¬ holds → Weighs is_so old new holds
weighs_one is_so old new claim holds added so not = record {
  more = claim ∷ [];
  behind = added;
  each = All-cons is_so claim [] so (All-nil is_so);
  none = (λ e. absurd (one_is_some claim e), λ it. absurd (not it));
}

-- it is noted just where it is missed
pub weighs_noted : (is_so : ForcedEndClaim → Type 0) (end : ℕ) (claim : ForcedEndClaim) (old new : List ForcedEndClaim) (holds : Type 0)
    → NotesMissed end claim old new → is_so claim → (holds → ¬ IsMissed claim end) → (¬ IsMissed claim end → holds)
    → Weighs is_so old new holds
weighs_noted is_so end claim old new holds noted so whole missed = elim noted [
  | inl is ↦ weighs_one is_so old new claim holds is.1 so (λ it. whole it is.0)
  | inr is ↦ weighs_none is_so old new holds is.1 (missed is.0)
]

-- one after another
pub weighs_then : (is_so : ForcedEndClaim → Type 0) (a b c : List ForcedEndClaim) (P Q : Type 0) → Weighs is_so a b P → Weighs is_so b c Q
    → Weighs is_so a c (P × Q)
weighs_then is_so a b c P Q p q = record {
  more = p.more ++ q.more;
  behind = q.behind ∙ ap (λ (l : List ForcedEndClaim). l ++ q.more) p.behind ∙ append_assoc a p.more q.more;
  each = All-append is_so p.more q.more p.each q.each;
  none = (
    λ e. (p.none.0 (nil_left p.more q.more e), q.none.0 (nil_right p.more q.more e)),
    λ both. nil_both p.more q.more (p.none.1 both.0) (q.none.1 both.1),
  );
}

-- said otherwise
pub weighs_as : (is_so is : ForcedEndClaim → Type 0) (a b : List ForcedEndClaim) (P Q : Type 0) → ((claim : ForcedEndClaim) → is_so claim → is claim)
    → P ↔ Q → Weighs is_so a b P → Weighs is a b Q
weighs_as is_so is a b P Q imply same it = record {
  more = it.more;
  behind = it.behind;
  each = All-weaker is_so is imply it.more it.each;
  none = (λ e. same.0 (it.none.0 e), λ holds. it.none.1 (same.1 holds));
}

-- each claim that is noted shows that this does not hold
pub weighs_not : (is_so : ForcedEndClaim → Type 0) (a b : List ForcedEndClaim) (P : Type 0) → Weighs is_so a b P
    → Weighs (λ claim. (¬ P) × is_so claim) a b P
weighs_not is_so a b P it = record {
  more = it.more;
  behind = it.behind;
  each = each it.more it.none.1 it.each;
  none = it.none;
}
  where
    each : (more : List ForcedEndClaim) → (P → more ≡ []) → All is_so more → All (λ claim. (¬ P) × is_so claim) more
    each [] none all = All-nil (λ claim. (¬ P) × is_so claim)
    each (claim ∷ more) none all = All-weaker is_so (λ claim. (¬ P) × is_so claim) (λ c so. (λ p. absurd (omega (arith, ap (length {A = ForcedEndClaim}) (none p))), so)) (claim ∷ more) all

-- no claim is noted where this holds, and else one that is of this kind
pub weighs_some : (is_so : ForcedEndClaim → Type 0) (a b : List ForcedEndClaim) (P : Type 0) → Weighs is_so a b P
    → P ⊎ ((claim : ForcedEndClaim) × Contains b claim × is_so claim)
weighs_some is_so a b P it = some it.more it.none.0 it.each it.behind
  where
    some : (more : List ForcedEndClaim) → (more ≡ [] → P) → All is_so more → b ≡ a ++ more
        → P ⊎ ((claim : ForcedEndClaim) × Contains b claim × is_so claim)
    some [] none all behind = inl (none refl)
    some (claim ∷ more) none all behind = inr (
      claim,
      subst (λ (l : List ForcedEndClaim). Contains l claim) (sym behind)
          (Contains-append_right a (claim ∷ more) claim (0, omega arith, refl)),
      all 0 claim (omega arith),
    )

-- what was claimed still is
pub weighs_kept : (is_so : ForcedEndClaim → Type 0) (a b : List ForcedEndClaim) (P : Type 0) (claim : ForcedEndClaim) → Weighs is_so a b P
    → Contains a claim → Contains b claim
weighs_kept is_so a b P claim it there =
    subst (λ (l : List ForcedEndClaim). Contains l claim) (sym it.behind) (Contains-append_left a it.more claim there)

-- where none is noted now, none was before, and this holds; and the other way round
pub none_weighed : (is_so : ForcedEndClaim → Type 0) (a b : List ForcedEndClaim) (P : Type 0) → Weighs is_so a b P
    → (b ≡ []) ↔ ((a ≡ []) × P)
none_weighed is_so a b P it = (
  λ e. let both = sym it.behind ∙ e in (nil_left a it.more both, it.none.0 (nil_right a it.more both)),
  λ both. it.behind ∙ nil_both a it.more both.0 (it.none.1 both.1),
)

-- the second one of two shows that this does not hold
pub weighs_two : (is_so : ForcedEndClaim → Type 0) (end : ℕ) (first last : ForcedEndClaim) (a b c : List ForcedEndClaim) (holds : Type 0)
    → NotesMissed end first a b → is_so first → NotesMissed end last b c → is_so last → IsMissed last end → ¬ holds
    → Weighs is_so a c holds
weighs_two is_so end first last a b c holds one so two so_last missed not =
    weighs_as is_so is_so a c ((¬ IsMissed first end) × ⊥) holds (λ claim it. it)
    (λ both. absurd both.1, λ it. absurd (not it))
    (weighs_then is_so a b c (¬ IsMissed first end) ⊥
    (weighs_noted is_so end first a b (¬ IsMissed first end) one so (λ it. it) (λ it. it))
    (weighs_noted is_so end last b c ⊥ two so_last (λ it. absurd it) (λ it. absurd (it missed))))

-- ---- copies

-- so many of these copies are weighed
pub record Weighing (end : ℕ) (copies : List CopyFile) (count : ℕ) (begun now : List ForcedEndClaim) : Type 0 where
  pub weighed : Weighs (IsOfLongerCopy end copies) begun now (All (IsFileWithin end) (take count copies))
  pub each : All (IsWeighed end now) (take count copies)

pub weighing_none : (end : ℕ) (copies : List CopyFile) (begun : List ForcedEndClaim) → Weighing end copies 0 begun begun
weighing_none end copies begun = record {
  weighed = weighs_none (IsOfLongerCopy end copies) begun begun (All (IsFileWithin end) []) refl (All-nil (IsFileWithin end));
  each = All-nil (IsWeighed end begun);
}

copy_more : (end : ℕ) (copies : List CopyFile) (i : ℕ) (file : CopyFile) (begun old new : List ForcedEndClaim)
    → i < length copies → file ≡ get_or copies i file
    → Weighs (IsOfLongerCopy end copies) begun old (All (IsFileWithin end) (take i copies))
    → Weighs (IsOfCopy file.id) old new (IsFileWithin end file)
    → Weighs (IsOfLongerCopy end copies) begun new (All (IsFileWithin end) (take (i + 1) copies))
copy_more end copies i file begun old new lt is far it =
    let P = IsFileWithin end file in
    let Far = All (IsFileWithin end) (take i copies) in
    let Kind = IsOfLongerCopy end copies in
    let there : Contains copies file =
    subst (Contains copies) (sym is) (Contains-get_or copies i file lt) in
    let one : Weighs Kind old new P =
    weighs_as (λ claim. (¬ P) × IsOfCopy file.id claim) Kind old new P P (λ claim so. (file, there, so.0, so.1))
    (λ p. p, λ p. p) (weighs_not (IsOfCopy file.id) old new P it) in
    let all : take (i + 1) copies ≡ take i copies ++ get_or copies i file ∷ [] =
    ap (λ (n : ℕ). take n copies) (add-one i) ∙ take-suc copies i file lt in
    weighs_as Kind Kind begun new (Far × P) (All (IsFileWithin end) (take (i + 1) copies)) (λ claim so. so) (
      λ both. All-more (IsFileWithin end) copies i file lt both.0 (subst (IsFileWithin end) is both.1),
      λ every. let parts = All-pop (IsFileWithin end) (take (i + 1) copies) (take i copies) (Some (get_or copies i file)) all every in
          (parts.0, subst (IsFileWithin end) (sym is) parts.1),
    )
    (weighs_then Kind begun old new Far P far one)

each_more : (end : ℕ) (copies : List CopyFile) (i : ℕ) (file : CopyFile) (old new : List ForcedEndClaim)
    → i < length copies → file ≡ get_or copies i file → All (IsWeighed end old) (take i copies)
    → Weighs (IsOfCopy file.id) old new (IsFileWithin end file) → All (IsWeighed end new) (take (i + 1) copies)
each_more end copies i file old new lt is far it =
    All-more (IsWeighed end new) copies i file lt
    (All-weaker (IsWeighed end old) (IsWeighed end new) (λ f weighed. elim weighed [
      | inl within ↦ inl within
      | inr named ↦ inr (named.0, weighs_kept (IsOfCopy file.id) old new (IsFileWithin end file) named.0 it named.1, named.2)
    ]) (take i copies) far)
    (subst (IsWeighed end new) is (weighs_some (IsOfCopy file.id) old new (IsFileWithin end file) it))

-- one more copy is weighed
pub weighing_more : (end : ℕ) (copies : List CopyFile) (i : ℕ) (file : CopyFile) (begun old new : List ForcedEndClaim)
    → i < length copies → file ≡ get_or copies i file → Weighing end copies i begun old
    → Weighs (IsOfCopy file.id) old new (IsFoundWithin end file.found) → Weighing end copies (i + 1) begun new
weighing_more end copies i file begun old new lt is far it = record {
  weighed = copy_more end copies i file begun old new lt is far.weighed it;
  each = each_more end copies i file old new lt is far.each it;
}

-- what is no copy knows of nothing
pub no_copy_within : (end : ℕ) (it : FoundCopy) → ((copy : CopyView) → ¬ (it ≡ found.Whole copy)) → IsFoundWithin end it
no_copy_within end (found.Whole copy) not = absurd (not copy refl)
no_copy_within end (found.Wrong why) not = tt
no_copy_within end (found.Unread why) not = tt

-- ---- what a copy knows

-- a copy of whose pages none knows of more is noted just where it begins at the end or past it
pub weighs_begin : (end id : ℕ) (copy : CopyView) (old new : List ForcedEndClaim)
    → NotesMissed end (record { witness = witness.Begin id; at = copy.begin }) old new
    → ((p : ℕ) → p < length copy.pages → KnowsBelow end (decision_at copy.pages p))
    → Weighs (IsOfCopy id) old new (IsWithin end copy)
weighs_begin end id copy old new noted below =
    weighs_noted (IsOfCopy id) end (record { witness = witness.Begin id; at = copy.begin }) old new (IsWithin end copy)
    noted (inl refl) (λ within. not-le_of_lt within.begin) (λ not. record { begin = lt_of_not-le not; pages = below })

page_past : (end : ℕ) (page : Page) (decided : PageDecision) → page ∷ [] ≡ page_of decided → end ≤ page.lsn
    → ¬ KnowsBelow end decided
page_past end page undecided is past = absurd (omega (arith, ap (length {A = Page}) is))
page_past end page (taken it) is past = λ below.
    let same : page.lsn ≡ it.lsn = ap (λ (l : List Page). (get_or l 0 page).lsn) is in
    omega (arith, same, past, below)
page_past end page kept is past = absurd (omega (arith, ap (length {A = Page}) is))

-- one with a page that knows of more is noted
pub weighs_page : (end id p : ℕ) (copy : CopyView) (page : Page) (old mid new : List ForcedEndClaim)
    → NotesMissed end (record { witness = witness.Begin id; at = copy.begin }) old mid
    → NotesMissed end (record { witness = witness.Page id p; at = page.lsn }) mid new
    → p < length copy.pages → page ∷ [] ≡ page_of (decision_at copy.pages p) → end ≤ page.lsn
    → Weighs (IsOfCopy id) old new (IsWithin end copy)
weighs_page end id p copy page old mid new one two low is past =
    weighs_two (IsOfCopy id) end (record { witness = witness.Begin id; at = copy.begin })
    (record { witness = witness.Page id p; at = page.lsn }) old mid new (IsWithin end copy) one (inl refl) two
    (inr (p, refl)) past (λ within. page_past end page (decision_at copy.pages p) is past (within.pages p low))

-- where a call went well, this holds too
pub holds_if_ok : {T E : Type 0} (r : Result T E) (P Q : Type 0) → (P → Q) → OnOk r P → OnOk r Q
holds_if_ok (Ok it) P Q more holds = more holds
holds_if_ok (Err why) P Q more holds = tt

-- What checkpoints and copies answered, one after another.
use Rattle.std.proofs.Common.{ℕ, ◌≡◌, ◌+◌, ◌<◌, ◌≤◌, ◌++◌, Bool, false, List, [], ◌∷◌}
use Rattle.std.proofs.Common.{length, take, drop, replicate, slice_index_or, arith, refl, sym}
use Rattle.std.proofs.Common.{◌∙◌, ap, subst, if◌then◌else◌, inl, inr, Option, Some, None}
use Rattle.std.specs.List.{All, filter_map}
use Rattle.std.proofs.lemmas.List.{get_or_default}
use Rattle.std.proofs.lemmas.List.{take-append-drop, take_more}
use Rattle.std.proofs.lemmas.List.Elements.{All-append, All-cons, All-nil, filter_map-append}
use Rattle.fuzzy_ckpt.specs.declared.point.Point.{Point}
use Rattle.copy_vault.specs.declared.copy_id.CopyKind.{CopyKind}
use Rattle.settlement.specs.Marks.{AreMarked}
use Rattle.settlement.specs.Receipt.{times}
use Rattle.settlement.specs.Sessions.{AreApart}
use Rattle.settlement.proofs.Public.{times-append}
use Rattle.settlement.proofs.Public.{at_most_one, none_marked, times_one}
use Rattle.engine_run.specs.Given.{AreGiven}
use Rattle.engine_run.specs.Settled.{Evidence, HasBadWork, IsWorkBad, IsWorkWrongAt, WorkStands}
use Rattle.engine_run.specs.Settled.{begin_of, copies_of, copy_of}
use Rattle.engine_run.specs.declared.work.Work.{Work}
use Rattle.engine_run.specs.declared.work.Work.TheVariants.{Copied, Pointed}

-- ---- ids of copies that are marked

pub fresh_ids : (n : ℕ) → AreGiven (replicate n false) []
fresh_ids n id = sym (ap (λ (b : Bool). if b then 1 else 0) (none_marked n id))

pub given_apart : (marks : List Bool) (ids : List ℕ) → AreGiven marks ids → AreApart ids
given_apart marks ids m id =
    let few = at_most_one (slice_index_or marks id false) in
    let count = m id in
    omega arith

-- ---- one Point or copy more

pub named_more : (name : Work → Option ℕ) (works : List Work) (i : ℕ) (d : Work)
    → i < length works
    → filter_map name (take (i + 1) works)
    ≡ filter_map name (take i works) ++ filter_map name (slice_index_or works i d ∷ [])
named_more name works i d within =
    ap (filter_map name) (take_more works i d within)
    ∙ filter_map-append name (take i works) (slice_index_or works i d ∷ [])

pub times_named : (name : Work → Option ℕ) (x n : ℕ) (works : List Work)
    → times x (filter_map name (take n works)) ≤ times x (filter_map name works)
times_named name x n works =
    let both : times x (filter_map name works) ≡ times x (filter_map name (take n works)) + times x (filter_map name (drop n works)) =
    ap (λ ws. times x (filter_map name ws)) (sym (take-append-drop n works))
    ∙ ap (times x) (filter_map-append name (take n works) (drop n works))
    ∙ times-append x (filter_map name (take n works)) (filter_map name (drop n works)) in
    omega arith

-- a name that is there already, and one that has it again
named_twice : (name : Work → Option ℕ) (lsns : List ℕ) (works : List Work) (i x : ℕ) (w : Work)
    → i < length works → w ≡ slice_index_or works i w → filter_map name (w ∷ []) ≡ x ∷ []
    → 0 < times x (lsns ++ filter_map name (take i works))
    → 1 < times x (lsns ++ filter_map name works)
named_twice name lsns works i x w within is named some =
    let before = filter_map name (take i works) in
    let split = times-append x lsns before in
    let whole = times-append x lsns (filter_map name works) in
    let more : times x (filter_map name (take (i + 1) works)) ≡ times x before + 1 =
    ap (times x) (named_more name works i w within)
    ∙ ap (λ (v : Work). times x (before ++ filter_map name (v ∷ []))) (sym is)
    ∙ ap (λ (xs : List ℕ). times x (before ++ xs)) named
    ∙ times-append x before (x ∷ [])
    ∙ ap (λ (n : ℕ). times x before + n) (times_one x) in
    let part = times_named name x (i + 1) works in
    omega arith

bad_here : (e : Evidence) (works : List Work) (i : ℕ) (w : Work) (begin : Option ℕ)
    → i < length works → w ≡ slice_index_or works i w → begin_of w ≡ begin
    → (¬ WorkStands e w) → HasBadWork e works begin
bad_here e works i w begin within is place bad =
    let same : (d : Work) → w ≡ slice_index_or works i d =
    λ d. is ∙ get_or_default works i w d within in
    record {
      index = i;
      within = within;
      place = λ d. ap begin_of (sym (same d)) ∙ place;
      bad = λ d. subst (λ (v : Work). ¬ WorkStands e v) (same d) bad;
    }

-- what is wrong of one of them is wrong of the run
pub wrong_work : (e : Evidence) (marks given : List Bool) (lsns : List ℕ) (works : List Work)
    (i at : ℕ) (w : Work) → i < length works → w ≡ slice_index_or works i w
    → AreMarked marks (lsns ++ filter_map begin_of (take i works))
    → AreGiven given (copies_of (take i works)) → IsWorkBad e marks given w at
    → IsWorkWrongAt e lsns works at
wrong_work e marks given lsns works i at (Pointed point) within is m g (place, inl bad) =
    inl (bad_here e works i (Pointed point) (Some at) within is (ap (λ (n : ℕ). Some n) (sym place)) bad)
wrong_work e marks given lsns works i at (Pointed point) within is m g (place, inr taken) =
    inr (inl (subst (λ (n : ℕ). 1 < times n (lsns ++ filter_map begin_of works)) (sym place)
    (named_twice begin_of lsns works i point.begin (Pointed point) within is refl
    (taken (lsns ++ filter_map begin_of (take i works)) m))))
wrong_work e marks given lsns works i at (Copied id kind taken) within is m g (place, inl bad) =
    inr (inr (place, inl (bad_here e works i (Copied id kind taken) None within is refl bad)))
wrong_work e marks given lsns works i at (Copied id kind taken) within is m g (place, inr again) =
    inr (inr (
      place,
      inr (
        id,
        named_twice copy_of [] works i id (Copied id kind taken) within is
            refl (again (copies_of (take i works)) g),
      ),
    ))

-- ---- what is named, the LSNs of Points and the ids of copies, none of which is below a bound

-- the name of one of them is among those of all
pub named_there : (name : Work → Option ℕ) (works : List Work) (i x : ℕ) (w : Work) → i < length works
    → w ≡ slice_index_or works i w → filter_map name (w ∷ []) ≡ x ∷ [] → 0 < times x (filter_map name works)
named_there name works i x w within is one =
    let before = filter_map name (take i works) in
    let both : times x (filter_map name (take (i + 1) works)) ≡ times x before + 1 =
    ap (times x) (named_more name works i w within)
    ∙ ap (λ (v : Work). times x (before ++ filter_map name (v ∷ []))) (sym is)
    ∙ ap (λ (xs : List ℕ). times x (before ++ xs)) one
    ∙ times-append x before (x ∷ [])
    ∙ ap (λ (n : ℕ). times x before + n) (times_one x) in
    let part = times_named name x (i + 1) works in
    omega arith

pub newer_point : (P : ℕ → Type 0) (w : Work) → ((point : Point) → w ≡ Pointed point → P point.begin)
    → All P (filter_map begin_of (w ∷ []))
newer_point P (Pointed point) each = All-cons P point.begin [] (each point refl) (All-nil P)
newer_point P (Copied id kind taken) each = All-nil P

pub newer_copy : (P : ℕ → Type 0) (w : Work) → ((id : ℕ) (kind : CopyKind) (taken : ℕ) → w ≡ Copied id kind taken → P id)
    → All P (filter_map copy_of (w ∷ []))
newer_copy P (Pointed point) each = All-nil P
newer_copy P (Copied id kind taken) each = All-cons P id [] (each id kind taken refl) (All-nil P)

pub newer_more : (name : Work → Option ℕ) (P : ℕ → Type 0) (works : List Work) (i : ℕ) (w : Work) → i < length works
    → w ≡ slice_index_or works i w → All P (filter_map name (take i works))
    → All P (filter_map name (w ∷ [])) → All P (filter_map name (take (i + 1) works))
newer_more name P works i w within is so_far one =
    subst (All P) (sym (named_more name works i w within))
    (All-append P (filter_map name (take i works)) (filter_map name (slice_index_or works i w ∷ [])) so_far
    (subst (λ (v : Work). All P (filter_map name (v ∷ []))) is one))

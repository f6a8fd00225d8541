-- Chains of copies.
use Rattle.std.proofs.Common.{◌≡◌, ◌∙◌, ◌<◌, ◌≤◌, ℕ, Bool, true, false, List, [], ◌∷◌, ◌++◌, Some, ap, arith, get_or, length}
use Rattle.std.proofs.Common.{None, Option, inl, inr, refl, subst, suc, sym, ◌⊎◌}
use Rattle.std.specs.Prelude.{Err, IfOk, MatchOption, Ok, Result, if◌then◌else◌, nat_eq, slice_get}
use Rattle.std.specs.Cmp.{unsigned_Decides}
use Rattle.std.proofs.lemmas.Option.{none-some, same_Some}
use Rattle.file_inputs.specs.CopyChain.{HasChain, IsNewestChain, IsWholeChain, LeadTo, StandsOn, first_or, parent_of}
use Rattle.file_view.specs.declared.copy_header.CopyHeader.{CopyHeader}

-- one copy more, which stands on `below`
pub lead_on : (headers : List CopyHeader) (chain : List ℕ) (next below : ℕ) → LeadTo headers chain next
    → StandsOn headers next below → LeadTo headers (chain ++ next ∷ []) below
lead_on headers [] next below lead on = (on, tt)
lead_on headers (id ∷ []) next below lead on = (lead.0, lead_on headers [] next below lead.1 on)
lead_on headers (id ∷ other ∷ rest) next below lead on =
    (lead.0, lead_on headers (other ∷ rest) next below lead.1 on)

pub first_stays : (chain : List ℕ) (next below : ℕ) → first_or (chain ++ next ∷ []) below ≡ first_or chain next
first_stays [] next below = refl
first_stays (id ∷ rest) next below = refl

pub first_is : (chain : List ℕ) (id other : ℕ) → (chain ≡ [] → ⊥) → first_or chain other ≡ id
    → slice_get chain 0 ≡ Some id
first_is [] id other some is = absurd (some refl)
first_is (one ∷ rest) id other some is = ap Some is

-- the copy of a chain stands on another one, or on 0
pub chain_stands : (headers : List CopyHeader) (id : ℕ) → HasChain headers id → (on : ℕ) × StandsOn headers id on
chain_stands headers id ([], whole) = absurd (none-some _ whole.first)
chain_stands headers id (one ∷ rest, whole) =
    (first_or rest 0, subst (λ n. StandsOn headers n (first_or rest 0)) (same_Some _ _ whole.first) whole.down.0)

pub no_chain_of_0 : (headers : List CopyHeader) → HasChain headers 0 → ⊥
no_chain_of_0 headers has =
    let low : (chain_stands headers 0 has).0 < 0 = (chain_stands headers 0 has).1.1 in
    omega arith

-- the one that it stands on has a chain, too
pub chain_goes_on : (headers : List CopyHeader) (id on : ℕ) → StandsOn headers id on → (on ≡ 0 → ⊥)
    → HasChain headers id → HasChain headers on
chain_goes_on headers id on stands some ([], whole) = absurd (none-some _ whole.first)
chain_goes_on headers id on stands some (one ∷ [], whole) =
    absurd (some (same_Some _ _ (sym stands.0
    ∙ (ap (parent_of headers) (sym (same_Some _ _ whole.first)) ∙ whole.down.0.0))))
chain_goes_on headers id on stands some (one ∷ next ∷ rest, whole) = (
  next ∷ rest,
  record {
    first = sym whole.down.0.0 ∙ (ap (parent_of headers) (same_Some _ _ whole.first) ∙ stands.0);
    down = whole.down.1;
  },
)

-- the header that names the parent
pub header_at : (headers : List CopyHeader) (id on : ℕ) → parent_of headers id ≡ Some on
    → (k : ℕ) × (it : CopyHeader) × (k < length headers) × ((get_or headers k it).id ≡ id)
header_at [] id on is = absurd (none-some _ is)
header_at (header ∷ rest) id on is = at (nat_eq header.id id) refl is (λ found. header_at rest id on found)
  where
    at : (same : Bool) → nat_eq header.id id ≡ same
        → (if same then Some header.parent else parent_of rest id) ≡ Some on
        → (parent_of rest id ≡ Some on
        → (k : ℕ) × (it : CopyHeader) × (k < length rest) × ((get_or rest k it).id ≡ id))
        → (k : ℕ) × (it : CopyHeader) × (k < length (header ∷ rest)) × ((get_or (header ∷ rest) k it).id ≡ id)
    at true same found later = (0, header, omega arith, (unsigned_Decides header.id id).0 same)
    at false same found later =
        let low : (later found).0 < length rest = (later found).2 in
        (suc (later found).0, (later found).1, omega arith, (later found).3)

-- a copy with a chain has a header, so none is above the highest one of a header that has one
at_most : (headers : List CopyHeader) (newest : ℕ)
    → ((k : ℕ) (it : CopyHeader) → k < length headers → HasChain headers (get_or headers k it).id
    → (get_or headers k it).id ≤ newest)
    → (other : ℕ) → HasChain headers other → other ≤ newest
at_most headers newest most other has =
    let stands = chain_stands headers other has in
    let it = header_at headers other stands.0 stands.1.0 in
    subst (λ id. id ≤ newest) it.3
    (most it.0 it.1 it.2 (subst (HasChain headers) (sym it.3) has))

pub newest_of : {T E : Type 0} (items : T → List ℕ) (headers : List CopyHeader) (newest : ℕ) (r : Result (Option T) E)
    → (newest ≡ 0) ⊎ HasChain headers newest
    → ((k : ℕ) (it : CopyHeader) → k < length headers → HasChain headers (get_or headers k it).id
    → (get_or headers k it).id ≤ newest)
    → IfOk r (λ found. MatchOption found
    (HasChain headers newest → ⊥) (λ chain. IsWholeChain headers newest (items chain)))
    → IfOk r (λ found. MatchOption found
    ((id : ℕ) → HasChain headers id → ⊥) (λ chain. IsNewestChain headers (items chain)))
newest_of items headers newest (Err fault) there most is = tt
newest_of items headers newest (Ok None) (inr has) most is = absurd (is has)
newest_of items headers newest (Ok None) (inl zero) most is = λ id has.
    let on : (chain_stands headers id has).0 < id = (chain_stands headers id has).1.1 in
    let low : id ≤ newest = at_most headers newest most id has in
    omega arith
newest_of items headers newest (Ok (Some chain)) there most is = record {
  id = newest;
  whole = is;
  newest = at_most headers newest most;
}

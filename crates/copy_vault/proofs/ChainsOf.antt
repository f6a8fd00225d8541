-- A chain of a vault's copies, gone back from its last one.
use Rattle.std.proofs.Common.{◌≡◌, ℕ, List, [], ◌∷◌, refl, sym, ap, ◌∙◌, subst}
use Rattle.std.specs.Prelude.{Some, None}
use Rattle.std.specs.List.{AllByRecursion}
use Rattle.copy_vault.specs.declared.copy_id.CopyKind.TheVariants.{Full, Inc}
use Rattle.copy_vault.specs.Copy.{CopyView, IsComplete}
use Rattle.copy_vault.specs.Chain.{Follow, IsChain}
use Rattle.copy_vault.specs.declared.fault.CopyFault.{CopyFault}
use Rattle.copy_vault.specs.ChainOf.{IsChainOf}
use Rattle.copy_vault.specs.Vault.{CopyState, HasParent, IsOfId, IsParent, complete, complete_refusal, state_of}

-- ---- a chain that is gone back

-- what was seen of the chain from its last copy back to this one
pub record IsTail (copies : List CopyState) (id : ℕ) (copy : CopyView) (later : List CopyView) : Type 0 where
  pub of_chain : IsChainOf copies id (copy ∷ later)
  pub linked : Follow copy later
  pub complete : AllByRecursion (λ copy. IsComplete copy.kind copy.pages) later

pub tail_start : (copies : List CopyState) (id : ℕ) (copy : CopyView) → state_of copies id ≡ complete copy
    → copy.id ≡ id → IsTail copies id copy []
tail_start copies id copy is same = record {
  of_chain = record {
    before = [];
    last = copy;
    is = refl;
    of_id = is;
    of_vault = (ap (state_of copies) same ∙ is, tt);
  };
  linked = tt;
  complete = tt;
}

pub tail_more : (copies : List CopyState) (id : ℕ) (parent copy : CopyView) (later : List CopyView)
    → IsTail copies id copy later → IsComplete copy.kind copy.pages → copy.kind ≡ Inc parent.id
    → state_of copies parent.id ≡ complete parent → IsTail copies id parent (copy ∷ later)
tail_more copies id parent copy later tail whole next is =
    let all = tail.of_chain in
    record {
      of_chain = record {
        before = parent ∷ all.before;
        last = all.last;
        is = ap (λ (ms : List CopyView). parent ∷ ms) all.is;
        of_id = all.of_id;
        of_vault = (is, all.of_vault);
      };
      linked = (next, tail.linked);
      complete = (whole, tail.complete);
    }

-- at a full copy the chain is whole
pub tail_whole : (copies : List CopyState) (id : ℕ) (copy : CopyView) (later : List CopyView)
    → IsTail copies id copy later → IsComplete copy.kind copy.pages → copy.kind ≡ Full → IsChain (copy ∷ later)
tail_whole copies id copy later tail whole full = record {
  first = copy;
  more = later;
  is = refl;
  full = full;
  linked = tail.linked;
  complete = (whole, tail.complete);
}

-- ---- a copy and its parent

pub known_here : (copies : List CopyState) (id : ℕ) (copy : CopyView) → IsOfId copies id copy
    → IsOfId copies copy.id copy
known_here copies id copy known = subst (λ n. IsOfId copies n copy) (sym known.id_is) known

pub parent_of : (copies : List CopyState) (copy : CopyView) (parent : ℕ) → IsOfId copies copy.id copy
    → copy.kind ≡ Inc parent → IsParent copies parent copy.id
parent_of copies copy parent known is = subst (HasParent copies copy.id) is known.parent

pub is_there : (copies : List CopyState) (parent id : ℕ) (fault : CopyFault) → IsParent copies parent id
    → ¬ (complete_refusal (state_of copies parent) ≡ Some fault)
is_there copies parent id fault is refused =
    let none : None ≡ Some fault = ap complete_refusal (sym is.is_complete) ∙ refused in cc

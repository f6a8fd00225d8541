-- A complete copy can be restored, by what holds of copies alone.
use Rattle.std.proofs.Common.{◌≡◌, ℕ, zero, suc, ◌<◌, ◌≤◌, List, [], ◌∷◌, reverse, refl, sym, subst, arith}
use Rattle.log_records.specs.Log.{IsLog, Log}
use Rattle.copy_vault.specs.declared.copy_id.CopyKind.{CopyKind}
use Rattle.copy_vault.specs.declared.copy_id.CopyKind.TheVariants.{Full, Inc}
use Rattle.copy_vault.specs.Chain.{content}
use Rattle.copy_vault.specs.Copy.{CopyView, IsComplete}
use Rattle.copy_vault.specs.Vault.{CopyState, HasParent, complete, state_of}
use Rattle.copy_coverage.specs.Copied.{AreRestorable, Restores, StandsOn}
use Rattle.copy_coverage.specs.Kept.{IsKeptOf}
use Rattle.copy_coverage.proofs.Kept.{restored}

-- a complete copy is one by what it has decided
pub complete_alone : (log : Log) (f : ℕ) (copies : List CopyState) (id : ℕ) (copy : CopyView)
    → AreRestorable log f copies → state_of copies id ≡ complete copy → IsComplete copy.kind copy.pages
complete_alone log f copies id copy are is = record {
  decided = are.decided id copy is;
  in_place = (are.each id copy is).in_place;
  keeps = (are.each id copy is).keeps;
}

-- what a copy stands on is there
stands_on : (bound : ℕ) (log : Log) (f : ℕ) (copies : List CopyState) (id : ℕ) (copy : CopyView) → id ≤ bound
    → AreRestorable log f copies → state_of copies id ≡ complete copy
    → (older : List CopyView) × StandsOn copies copy.kind older
stands_on zero log f copies zero copy le are is = cc
stands_on zero log f copies (suc id) copy le are is = absurd (omega arith)
stands_on (suc bound) log f copies id copy le are is =
    by_kind copy.kind refl (are.each id copy is).parent
    (λ parent before older has. stands_on bound log f copies parent older (omega arith) are has)
  where
    by_kind : (kind : CopyKind) → copy.kind ≡ kind → HasParent copies id kind
        → ((parent : ℕ) → parent < id → (older : CopyView) → state_of copies parent ≡ complete older
        → (more : List CopyView) × StandsOn copies older.kind more)
        → (older : List CopyView) × StandsOn copies copy.kind older
    by_kind Full full has before = ([], subst (λ kind. StandsOn copies kind []) (sym full) refl)
    by_kind (Inc parent) inc has before =
        let below = before parent has.before has.copy has.is_complete in (
          has.copy ∷ below.0,
          subst (λ kind. StandsOn copies kind (has.copy ∷ below.0)) (sym inc) (has.is_complete, below.1),
        )

pub restores_alone : (log kept : Log) (f : ℕ) (copies : List CopyState) (id : ℕ) (copy : CopyView) → IsLog log
    → AreRestorable log f copies → IsKeptOf log f kept → state_of copies id ≡ complete copy
    → Restores copies copy kept.records
restores_alone log rest f copies id copy valid are crash is =
    let on = stands_on id log f copies id copy (omega arith) are is in
    record {
      older = on.0;
      stands = on.1;
      restored = λ p. restored log f rest p copy.redo (content (reverse (copy ∷ on.0)) p) valid crash
          (are.covered id copy on.0 is on.1 p);
    }

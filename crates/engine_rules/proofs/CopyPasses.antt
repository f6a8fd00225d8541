-- When calls on copies, and a repair, are not refused.
use Rattle.std.proofs.Common.{◌≡◌, ℕ, ◌<◌, Bool, true, false, length}
use Rattle.std.proofs.Common.{refl, subst}
use Rattle.std.specs.Prelude.{Option, Some, None, IsSome, is_none, nat_le, nat_lt}
use Rattle.std.specs.Prelude.{List, if◌then◌else◌}
use Rattle.std.specs.Option.{option_map, option_or}
use Rattle.std.proofs.lemmas.Bool.{leb-false, ltb-true}
use Rattle.fuzzy_ckpt.specs.declared.point.Point.{Point}
use Rattle.copy_vault.specs.declared.fault.CopyFault.{CopyFault}
use Rattle.copy_vault.specs.declared.copy_id.TheConstants.{MAX_COPIES}
use Rattle.copy_vault.specs.declared.fault.CopyFault.TheVariants as fault
use Rattle.copy_vault.specs.declared.fault.CopyFault.TheVariants.{PagesLeft}
use Rattle.page_decisions.specs.Decisions.{least_undecided}
use Rattle.copy_vault.specs.Copy.{CopyView}
use Rattle.copy_vault.specs.Vault.{CopyState, complete, complete_refusal, drop_refusal, dropped}
use Rattle.copy_vault.specs.Vault.{open_refusal, reading, seal_refusal, state_of}
use Rattle.engine_calls.specs.declared.event.Event.TheVariants as event
use Rattle.engine_calls.specs.declared.refusal.Refusal.TheVariants.{NoMaster}
use Rattle.engine_calls.specs.declared.refusal.Refusal.TheVariants.{PageOut}
use Rattle.engine_rules.specs.EngineState.{EngineState, image_of}
use Rattle.engine_rules.specs.EngineState.{volume_pages}
use Rattle.engine_rules.specs.Refusal.{copy_refusal}
use Rattle.engine_rules.specs.Refusal.{refused_if, refusal, pages_in}
use Rattle.engine_calls.specs.Refusal.{of_vault}
use Rattle.engine_rules.proofs.Refusals.{none_by_test, none_of_both, not_refused}

-- a copy that is to be read on is being read
vault_passes : (o : Option CopyFault) → option_map of_vault o ≡ None → o ≡ None
vault_passes None none = refl
vault_passes (Some f) none = cc

reading_if_drop : (state : CopyState) → drop_refusal state ≡ None → (copy : CopyView) × (state ≡ reading copy)
reading_if_drop (reading copy) none = (copy, refl)
reading_if_drop (complete copy) none = cc
reading_if_drop dropped none = cc

none_mapped : (f : ℕ → CopyFault) (o : Option ℕ) → option_map f o ≡ None → o ≡ None
none_mapped f None none = refl
none_mapped f (Some n) none = cc

reading_if_seal : (state : CopyState) → seal_refusal state ≡ None
    → (copy : CopyView) × (state ≡ reading copy) × (least_undecided copy.pages ≡ None)
reading_if_seal (reading copy) none = (copy, refl, none_mapped PagesLeft (least_undecided copy.pages) none)
reading_if_seal (complete copy) none = cc
reading_if_seal dropped none = cc

complete_if : (state : CopyState) → complete_refusal state ≡ None → (copy : CopyView) × (state ≡ complete copy)
complete_if (reading copy) none = cc
complete_if (complete copy) none = (copy, refl)
complete_if dropped none = cc

pub drop_passes : (s : EngineState) (copy : ℕ) → copy_refusal s copy ≡ None
    → (c : CopyView) × (state_of s.copies copy ≡ reading c)
drop_passes s copy none = reading_if_drop (state_of s.copies copy) (vault_passes _ none)

pub seal_passes : (s : EngineState) (copy : ℕ) → refusal s (event.Seal copy) ≡ None
    → (c : CopyView) × (state_of s.copies copy ≡ reading c) × (least_undecided c.pages ≡ None)
seal_passes s copy none = reading_if_seal (state_of s.copies copy) (vault_passes _ none)

or_none : (a b : Option CopyFault) → option_or a b ≡ None → a ≡ None
or_none None b none = refl
or_none (Some f) b none = cc

or_none_next : (a b : Option CopyFault) → option_or a b ≡ None → b ≡ None
or_none_next None b none = none
or_none_next (Some f) b none = absurd (cc)

few_ids : (copies : List CopyState) → open_refusal copies ≡ None → length copies < MAX_COPIES
few_ids copies none = by_test (nat_lt (length copies) MAX_COPIES) refl none
  where
    by_test : (few : Bool) → nat_lt (length copies) MAX_COPIES ≡ few
        → (if few then None else Some fault.TooManyCopies) ≡ None → length copies < MAX_COPIES
    by_test true is e = ltb-true (length copies) MAX_COPIES is
    by_test false is e = cc

pub inc_passes : (s : EngineState) (parent : ℕ) → refusal s (event.CopyInc parent) ≡ None
    → (c : CopyView) × (state_of s.copies parent ≡ complete c)
inc_passes s parent none =
    complete_if (state_of s.copies parent)
    (or_none (complete_refusal (state_of s.copies parent)) (open_refusal s.copies) (vault_passes _ none))

pub inc_is_few : (s : EngineState) (parent : ℕ) → refusal s (event.CopyInc parent) ≡ None
    → length s.copies < MAX_COPIES
inc_is_few s parent none =
    few_ids s.copies
    (or_none_next (complete_refusal (state_of s.copies parent)) (open_refusal s.copies) (vault_passes _ none))

pub record TakePasses (s : EngineState) (copy page : ℕ) : Type 0 where
  pub view : CopyView
  pub is_read : state_of s.copies copy ≡ reading view
  pub within : page < length view.pages

pub take_passes : (s : EngineState) (copy page : ℕ) → refusal s (event.Take copy page) ≡ None → TakePasses s copy page
take_passes s copy page none =
    let both = none_of_both (copy_refusal s copy) _ none in
    let there = drop_passes s copy both.0 in
    let rest = none_of_both (refused_if (nat_le (pages_in (state_of s.copies copy)) page) PageOut) _ both.1 in
    record {
      view = there.0;
      is_read = there.1;
      within = subst (λ (state : CopyState). page < pages_in state) there.1 (leb-false _ _ (not_refused _ _ rest.0));
    }

master_if : (o : Option Point) → is_none o ≡ false → IsSome o
master_if None e = cc
master_if (Some point) e = refl

pub full_passes : (s : EngineState) → refusal s event.CopyFull ≡ None → IsSome s.master
full_passes s none = master_if s.master
    (not_refused _ _ (none_of_both (refused_if (is_none s.master) NoMaster) _ none).0)

pub full_is_few : (s : EngineState) → refusal s event.CopyFull ≡ None → length s.copies < MAX_COPIES
full_is_few s none =
    few_ids s.copies (vault_passes _ (none_of_both (refused_if (is_none s.master) NoMaster) _ none).1)

-- a page may be repaired: the copy is complete, and no write of the page is in progress
pub record RepairPasses (s : EngineState) (copy page : ℕ) : Type 0 where
  pub view : CopyView
  pub is_complete : state_of s.copies copy ≡ complete view
  pub within : page < volume_pages s
  pub idle : image_of s page ≡ None

pub repair_passes : (s : EngineState) (copy page : ℕ) → refusal s (event.Repair copy page) ≡ None
    → RepairPasses s copy page
repair_passes s copy page none =
    let both = none_of_both (option_map of_vault (complete_refusal (state_of s.copies copy))) _ none in
    let there = complete_if (state_of s.copies copy) (vault_passes _ both.0) in
    let rest = none_of_both (refused_if (nat_le (volume_pages s) page) PageOut) _ both.1 in
    record {
      view = there.0;
      is_complete = there.1;
      within = leb-false _ _ (not_refused _ _ rest.0);
      idle = none_by_test (image_of s page) (not_refused _ _ rest.1);
    }

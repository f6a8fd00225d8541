-- What a scan up to a fault says of the front of its input.
use Rattle.std.proofs.Common.{◌≡◌, ℕ, List, take, sym, ap, subst, ◌∙◌}
use Rattle.std.specs.Prelude.{Option, None, Some, IfSome}
use Rattle.std.proofs.lemmas.Option.{IfSome_then}
use Rattle.log_records.specs.Log.{Log, SpellsLog}
use Rattle.log_rules.specs.History.{Made}
use Rattle.log_store.specs.declared.fault.LogReadFault.{LogReadFault}
use Rattle.log_store.specs.declared.fault.LogReadFault.TheVariants as whole
use Rattle.log_store.specs.Fault.{Refuses, offset_of}
use Rattle.log_store.specs.Scan.{IsReadTo}
use Rattle.log_prefix.specs.declared.cut.Cut.{Cut}
use Rattle.log_prefix.specs.Front.{HasFront, HasNoFront, fault_of}
use Rattle.log_prefix.proofs.Fronts.{first_of_refused, found_before, found_whole, none_without_header}

module _ {S : Type 0} (holds : S → Log → Type 0) (sink : S) (made : Made) (input : Option (List ℕ)) where
  -- it met no fault
  pub front_of_all : IsReadTo holds sink made None input → HasFront holds sink made None input
  front_of_all it = record {
    log = it.log;
    held = it.held;
    made_of = it.made_of;
    linked = it.linked;
    valid = it.valid;
    front = IfSome_then input it.ends (λ bytes spells. found_whole bytes it.log spells it.linked);
  }

  -- it stopped at a fault
  pub front_of_part : (cut : Cut) (fault : LogReadFault) → fault ≡ fault_of cut.at cut.why → cut.at ≡ offset_of fault
      → IsReadTo holds sink made (Some fault) input → HasFront holds sink made (Some cut) input
  front_of_part cut fault why at it = record {
    log = it.log;
    held = it.held;
    made_of = it.made_of;
    linked = it.linked;
    valid = it.valid;
    front = IfSome_then input it.ends (λ bytes ends.
        found_before bytes cut.at cut.why it.log (at ∙ ap offset_of why)
        (first_of_refused bytes fault cut.at cut.why why ends.1).there
        (subst (λ n. SpellsLog it.log (take n bytes)) (sym at) ends.0) it.linked);
  }

-- no log begins so
pub no_front : (input : Option (List ℕ)) → IfSome input (λ bytes. Refuses bytes whole.BadHeader)
    → IfSome input HasNoFront
no_front input refused = IfSome_then input refused (λ bytes first. none_without_header bytes first.there)

-- The Update of a change that may be made, once its page is in memory.
use Rattle.std.proofs.Common.{◌≡◌, ◌∙◌, ℕ, ap, subst, sym}
use Rattle.page_core.specs.declared.change.Change.{Change}
use Rattle.log_records.specs.declared.record.Record.{Record}
use Rattle.log_records.specs.declared.record.Record.TheVariants.{Update}
use Rattle.log_rules.specs.Linked.{number_in}
use Rattle.log_rules.specs.Transactions.{last_lsn}
use Rattle.engine_rules.specs.Call.{Calls}
use Rattle.engine_rules.specs.EngineState.{EngineState, IsFit, end, update_record}
use Rattle.engine_rules.proofs.Public.{Comes, comes}
use Rattle.aries_core.specs.Fetching.{with_before}

module _ (old s : EngineState) (same : s ≡ old) (txn prev page slot lsn : ℕ) (change made : Change)
    (last : prev ≡ last_lsn old.log txn) (place : lsn ≡ end s)
    (number : made ≡ with_before change (number_in s.log page slot)) where
  -- it is the record that the call is to append
  pub update_is : Update lsn txn prev page slot made
      ≡ update_record old txn page slot (with_before change (number_in old.log page slot))
  update_is =
      ap (λ n. Update n txn prev page slot made) (place ∙ ap end same)
      ∙ ap (λ n. Update (end old) txn n page slot made) last
      ∙ ap (λ x. Update (end old) txn (last_lsn old.log txn) page slot x)
      (number ∙ ap (λ (t : EngineState). with_before change (number_in t.log page slot)) same)

  pub update_comes : IsFit s
      → Calls old (update_record old txn page slot (with_before change (number_in old.log page slot)))
      → Comes s (Update lsn txn prev page slot made)
  update_comes fit calls =
      comes s _ fit (subst (λ (t : EngineState). Calls t (Update lsn txn prev page slot made)) (sym same)
      (subst (λ (r : Record). Calls old r) (sym update_is) calls))

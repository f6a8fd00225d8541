-- Why the bytes of a log may be refused.
use Rattle.std.proofs.Common.{ℕ, ◌≡◌, List, ap, inl, inr}
use Rattle.std.specs.Prelude.{◌⊎◌}
use Rattle.log_records.specs.Log.{Log}
use Rattle.log_store.specs.declared.fault.LogReadFault.{LogReadFault}
use Rattle.log_store.specs.declared.fault.LogReadFault.TheVariants as fault
use Rattle.log_store.specs.Fault.{Refuses}
use Rattle.log_store.proofs.Public.{none_in_log}
use Rattle.embed_calls.specs.declared.outcome.Outcome.{Outcome}
use Rattle.embed_calls.specs.Outcome.{of_log}
use Rattle.embed_calls.specs.Calls.{IsLogOf}

pub for_memory : (bytes : List ℕ) (log : Log) (it : Outcome) (why : LogReadFault) → IsLogOf bytes log
    → it ≡ of_log why → Refuses bytes why → (it.code ≡ 1) ⊎ (it.code ≡ 33)
for_memory bytes log it fault.OutOfMemory right told refused = inl (ap (λ (o : Outcome). o.code) told)
for_memory bytes log it fault.ReadFault right told refused = inr (ap (λ (o : Outcome). o.code) told)
for_memory bytes log it fault.BadHeader right told refused = absurd (none_in_log log bytes right.spells right.linked fault.BadHeader refused.there)
for_memory bytes log it (fault.BadRecord at) right told refused = absurd (none_in_log log bytes right.spells right.linked (fault.BadRecord at) refused.there)
for_memory bytes log it (fault.BadChain at) right told refused = absurd (none_in_log log bytes right.spells right.linked (fault.BadChain at) refused.there)
for_memory bytes log it (fault.Torn at) right told refused = absurd (none_in_log log bytes right.spells right.linked (fault.Torn at) refused.there)
for_memory bytes log it fault.TooLong right told refused = absurd (none_in_log log bytes right.spells right.linked fault.TooLong refused.there)

use Rattle.std.proofs.Common.{rules, ◌≡◌, ℕ, ◌+◌, ◌*◌, ◌<◌, ◌≤◌, length, List, [], ◌∷◌, ◌++◌, refl, arith}
use Rattle.std.proofs.lemmas.List.{length_push}
use Rattle.page_core.specs.declared.change.Change.TheVariants.{Set}
use Rattle.log_records.specs.declared.record.Record.{Record}
use Rattle.log_records.specs.declared.record.Record.TheVariants.{Update}
use Rattle.log_records.specs.Log.{IsLog, Log, StandsAt, lsn_of, page_count, with_next}
use Rattle.log_records.proofs.Public.{page_count-is_count}
use Rattle.test_layers.proofs.NextLogs.{next_is_log}
use Rattle.test_layers.proofs.pools.Play.set.Goals as goal

pub invariant_of-self : goal.invariant_of-self
invariant_of-self g c =
    let log = c.self.invariant.0 in
    let count = c.self.invariant.1.1 in
    let next : Record = Update (64 * (c.self.inside.records + 1)) 1 64 c.args.page 0 (Set 0 c.args.number) in
    let some : 1 ≤ c.self.inside.records = search rules in
    let few : c.self.inside.records < 1000000 = search rules in
    let within : c.args.page < page_count log = search rules in
    let old : IsLog log = search rules in
    let most : page_count log ≤ 65536 = (page_count-is_count log old).most in
    let stands : StandsAt (page_count log) (lsn_of (length log.records)) next = search rules in
    let more : length (log.records ++ next ∷ [])
    ≡ c.self.inside.records + 1 = omega (arith, length_push log.records next, count) in
    let valid : IsLog (with_next log (next ∷ [])) = next_is_log log next old (omega arith) stands refl in
    (with_next log (next ∷ []), (c.change.ensures.kept log c.self.invariant.1.0 valid, more))

pub change-requires-clause-next : goal.change-requires-clause-next
change-requires-clause-next g c =
    let log = c.self.invariant.0 in
    let count = c.self.invariant.1.1 in
    let next : Record = Update (64 * (c.self.inside.records + 1)) 1 64 c.args.page 0 (Set 0 c.args.number) in
    let some : 1 ≤ c.self.inside.records = search rules in
    let few : c.self.inside.records < 1000000 = search rules in
    let within : c.args.page < page_count log = search rules in
    let old : IsLog log = search rules in
    let most : page_count log ≤ 65536 = (page_count-is_count log old).most in
    let stands : StandsAt (page_count log) (lsn_of (length log.records)) next = search rules in
    (log, (c.self.invariant.1.0, next_is_log log next old (omega arith) stands refl))

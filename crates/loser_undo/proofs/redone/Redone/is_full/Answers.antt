use Rattle.std.proofs.Common.{◌≡◌, ◌+◌, ◌<◌, ℕ, length, ap, subst, sym, ◌∙◌, arith}
use Rattle.std.proofs.lemmas.Bool.{lt-ltb, ltb-true}
use Rattle.log_rules.specs.Transactions.{owed}
use Rattle.loser_undo.specs.Recovery.{Recovery}
use Rattle.loser_undo.proofs.Appends.{owed_few}
use Rattle.loser_undo.proofs.Held.{owed_of}
use Rattle.loser_undo.proofs.redone.Redone.is_full.Goals as goal

pub overflow_add-result : goal.overflow_add-result
overflow_add-result c =
    let rs = c.self.inside.log.records in
    let made = c.self.invariant.made in
    let few = made.few in
    let most = owed_few rs made.linked in
    let is : c.owed.result ≡ owed rs =
    omega (arith, few, most, c.owed.ensures, owed_of rs c.self.inside.losers made) in
    omega (arith, few, most, is, ap length c.records.ensures.records)

pub returns-clause-full : goal.returns-clause-full
returns-clause-full c =
    let rs = c.self.inside.log.records in
    let made = c.self.invariant.made in
    let few = made.few in
    let most = owed_few rs made.linked in
    let is : c.owed.result ≡ owed rs =
    omega (arith, few, most, c.owed.ensures, owed_of rs c.self.inside.losers made) in
    let sum : length c.records.result.now + c.owed.result ≡ length rs + owed rs =
    omega (arith, is, ap length c.records.ensures.records) in
    let now = sum ∙ ap (λ (r : Recovery). length r.log.records + owed r.log.records) c.self.view_is in (
      λ full. subst (λ (n : ℕ). 1048576 < n) now (ltb-true _ _ full),
      λ past. lt-ltb 1048576 (length c.records.result.now + c.owed.result)
          (subst (λ (n : ℕ). 1048576 < n) (sym now) past),
    )

use Rattle.std.proofs.Common.{subst, sym}
use Rattle.slot_claims.specs.Claims.{IsWeaker, SetsHold, hold_at}
use Rattle.txn_table.specs.OpenEntry.{IsHeld}
use Rattle.slot_claims.specs.declared.claims.Hold.{Hold}
use Rattle.log_rules.specs.declared.pending_change.PendingChange.{PendingChange}
use Rattle.txn_table.proofs.Pendings.{held-pop, held-weaker}
use Rattle.txn_table.proofs.open_entry.pop_pending.Goals as goal

pub release-requires-clause-weaker : goal.release-requires-clause-weaker
release-requires-clause-weaker c =
    let claims = c.args.claims.now in
    let last = c.in-Some.last in
    subst (λ (change : PendingChange). IsWeaker c.before-in-Some.result
    (hold_at claims change.page change.slot c.args.row)) (sym c.change-change.ensures)
    (subst (λ (hold : Hold). IsWeaker hold (hold_at claims last.change.page last.change.slot c.args.row))
    (sym c.before-in-Some.ensures) (held-weaker claims c.args.row c.pop.new.self.items last
    (subst (λ ps. IsHeld claims c.args.row ps) c.in-Some.ensures.items c.requires.held)))

pub returns-in-Some-clause-held : goal.returns-in-Some-clause-held
returns-in-Some-clause-held c =
    let claims = c.args.claims.now in
    let last = c.in-Some.last in
    let set : SetsHold claims c.release.new.self last.change.page last.change.slot c.args.row last.before =
    subst (λ (hold : Hold). SetsHold claims c.release.new.self last.change.page last.change.slot c.args.row hold)
    c.before-in-Some.ensures
    (subst (λ (change : PendingChange). SetsHold claims c.release.new.self change.page change.slot c.args.row
    c.before-in-Some.result) c.change-change.ensures c.release.ensures) in
    held-pop claims c.release.new.self c.args.row c.pop.new.self.items last c.requires.row
    (subst (λ ps. IsHeld claims c.args.row ps) c.in-Some.ensures.items c.requires.held) set

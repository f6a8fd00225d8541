use Rattle.std.proofs.Common.{◌≡◌, ◌++◌, ◌∷◌, [], subst, sym, arith}
use Rattle.std.proofs.lemmas.Grind.{common_steps}
use Rattle.page_core.specs.declared.change.ChangeKind.{ChangeKind}
use Rattle.slot_claims.specs.Claims.{SetsHold, Taken, hold_with}
use Rattle.txn_table.specs.OpenEntry.{IsHeld}
use Rattle.txn_table.proofs.Pendings.{held-push}
use Rattle.txn_table.proofs.open_entry.push_pending.Goals as goal

pub returns-clause-held : goal.returns-clause-held
returns-clause-held c =
    let change = c.args.change in
    let before = c.in-Some.before in
    let taken : Taken c.args.claims.now c.take.new.self change.page change.slot c.args.row c.kind-kind.result before =
    rw c.in-Some.is at c.take.ensures in
    let items : c.push_reserved.new.self.items ≡ c.args.pending.now.items
    ++ record { change = change; before = before } ∷ [] = grind (arith, common_steps) in
    subst (λ ps. IsHeld c.take.new.self c.args.row ps) (sym items)
    (held-push c.args.claims.now c.take.new.self c.args.row c.args.pending.now.items change before
    c.requires.row c.requires.held taken.was
    (subst (λ (k : ChangeKind). SetsHold c.args.claims.now c.take.new.self change.page change.slot c.args.row
    (hold_with before k)) c.kind-kind.ensures taken.sets))

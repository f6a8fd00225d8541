use Rattle.std.proofs.Common.{◌+◌, ◌-◌, ◌∙◌, ℕ, List, [], ◌∷◌, ◌++◌, ap, sym}
use Rattle.std.specs.Prelude.{Option}
use Rattle.copy_vault.specs.declared.copy_id.TheConstants.{MAX_COPIES}
use Rattle.database_backup.specs.Backups.{chain_down}
use Rattle.database_backup.proofs.Chains.{one_more}
use Rattle.database_backup.proofs.backup.chain_of.Goals as goal

pub loop-preserved : goal.loop-preserved
loop-preserved c =
    let copies = c.args.vault.now.copies in
    let k = c.loop.counter in
    let taken = c.loop.chain.items in
    let id = c.in-Some.id in
    ap (λ (it : List ℕ). it ++ chain_down copies (MAX_COPIES - (k + 1)) c.parent_of-next.result)
    c.in_ok-push.ensures.items
    ∙ ap (λ (it : Option ℕ). (taken ++ id ∷ []) ++ chain_down copies (MAX_COPIES - (k + 1)) it)
    c.parent_of-next.ensures
    ∙ one_more copies MAX_COPIES k id taken c.loop-test.true
    ∙ ap (λ (it : Option ℕ). taken ++ chain_down copies (MAX_COPIES - k) it) (sym c.in-Some.is)
    ∙ c.loop.invariant

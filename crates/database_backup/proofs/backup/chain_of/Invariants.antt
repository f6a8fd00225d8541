use Rattle.std.proofs.Common.{◌≡◌, ◌-◌, ◌++◌, Some}
use Rattle.copy_vault.specs.declared.copy_id.TheConstants.{MAX_COPIES}
use Rattle.database_backup.specs.Backups.{chain_down}
use Rattle.database_backup.proofs.backup.chain_of.Given as goal

abbrev pub invariant-loop : goal.invariant-loop
invariant-loop l = l.chain.items ++ chain_down l.vault.copies (MAX_COPIES - l.counter) l.next
    ≡ chain_down l.vault.copies MAX_COPIES (Some l.fn.id)

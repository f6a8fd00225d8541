use Rattle.std.proofs.Common.{◌≡◌, ◌+◌, ◌++◌, replicate, vec_capacity, vec_len}
use Rattle.copy_vault.specs.declared.vault.VaultEntry.TheVariants as entry
use Rattle.copy_vault.proofs.vault.push_dropped.Given as goal

-- as many were added as turns were made, and no memory was taken
abbrev pub invariant-loop : goal.invariant-loop
invariant-loop l = record {
  items : l.entries.items ≡ l.fn.entries.items ++ replicate l.counter entry.Dropped;
  len : vec_len l.entries ≡ vec_len l.fn.entries + l.counter;
  room : vec_capacity l.entries ≡ vec_capacity l.fn.entries;
}

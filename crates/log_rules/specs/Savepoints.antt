-- The places to which a transaction may go back, and go on from there.
use Rattle.std.specs.Prelude.{ℕ, ◌==◌, nat_eq, List, [], ◌∷◌, length, map, Option, Some, None}
use Rattle.std.specs.Prelude.{if◌then◌else◌}
use Rattle.std.specs.List.{starts_with}
use Rattle.std.specs.Option.{option_and_then}
use Rattle.log_records.specs.declared.record.Record.{Record}
use Rattle.log_records.specs.Record.{own_lsn}
use Rattle.log_rules.specs.declared.pending_change.PendingChange.{PendingChange}
use Rattle.log_rules.specs.Transactions.{pending, records_of, with_pending}

-- the pending changes as of the record at an LSN, if one of these records stands there
abbrev pub stack_from : List PendingChange → List Record → ℕ → Option (List PendingChange)
stack_from changes [] at = None
stack_from changes (r ∷ rs) at =
    let after = with_pending changes r in
    if own_lsn r == at then Some after else stack_from after rs at

-- the stack of a transaction at its record at an LSN: its pending changes as of that record
abbrev pub stack_at : List Record → ℕ → ℕ → Option (List PendingChange)
stack_at rs t at = stack_from [] (records_of rs t) at

abbrev pub lsns_of : List PendingChange → List ℕ
lsns_of changes = map (λ p. p.lsn) changes

-- how many changes were pending at a savepoint: at a record of the transaction whose pending
-- changes are, by their LSNs, the first ones of those now. None where the LSN is no savepoint
abbrev pub savepoint : List Record → ℕ → ℕ → Option ℕ
savepoint rs t at =
    option_and_then
    (λ stack. if starts_with nat_eq (lsns_of (pending rs t)) (lsns_of stack)
    then Some (length stack) else None)
    (stack_at rs t at)

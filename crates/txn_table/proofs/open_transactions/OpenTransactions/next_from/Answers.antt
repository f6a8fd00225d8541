use Rattle.std.proofs.Common.{ℕ, ◌≡◌, ◌∙◌, Some, None, map, ap, sym}
use lib.Dec.{leb}
use Rattle.std.specs.List.{find}
use Rattle.std.specs.Option.{option_and_then, option_map}
use Rattle.txn_table.specs.declared.open_entry.OpenEntry.{OpenEntry}
use Rattle.txn_table.specs.OpenEntry.{entry_view}
use Rattle.txn_table.specs.OpenList.{entries_in}
use Rattle.log_rules.specs.Table.{Table, entry_in}
use Rattle.txn_table.specs.TxnState.{next_in, state_of}
use Rattle.txn_table.proofs.Stored.{found-at}
use Rattle.txn_table.proofs.Tracked.{entry-there, least-next}
use Rattle.txn_table.proofs.Viewed.{table_is}
use Rattle.txn_table.proofs.open_transactions.OpenTransactions.next_from.Goals as goal

-- what is known of the next one says the state
told : (table : Table) (from : ℕ) (x : OpenEntry) → next_in table from ≡ Some x.txn
    → entry_in table x.txn ≡ Some (entry_view x)
    → Some (state_of (entry_view x)) ≡ option_map state_of (option_and_then (entry_in table) (next_in table from))
told table from x next here =
    ap (option_map state_of) (sym here) ∙ ap (λ o. option_map state_of (option_and_then (entry_in table) o)) (sym next)

pub returns-in-Some : goal.returns-in-Some
returns-in-Some c =
    let xs = entries_in c.self.inside.list in
    let x = c.index.result.now in
    let first : find (λ e. leb c.args.from e.txn) xs ≡ Some x = c.in-Some.ensures.first x
    ∙ ap Some (sym c.index.ensures) in
    let at = found-at (λ e. leb c.args.from e.txn) xs x first in
    let table : Table = record { begun = c.self.inside.begun; entries = map entry_view xs } in
    ap Some c.state.ensures
    ∙ told table c.args.from x
    (least-next c.args.from c.self.invariant.tracks ∙ ap (option_map (λ (e : OpenEntry). e.txn)) first)
    (entry-there at.0 x c.self.invariant.tracks at.1.0 at.1.1)
    ∙ ap (λ (v : Table). option_map state_of (option_and_then (entry_in v) (next_in v c.args.from))) (table_is c.self.view_is)

pub returns-in-None : goal.returns-in-None
returns-in-None c =
    let xs = entries_in c.self.inside.list in
    let none : find (λ e. leb c.args.from e.txn) xs ≡ None = c.first_from.ensures.none c.in-None.is in
    let table : Table = record { begun = c.self.inside.begun; entries = map entry_view xs } in
    ap (λ o. option_map state_of (option_and_then (entry_in table) o))
    (sym (least-next c.args.from c.self.invariant.tracks ∙ ap (option_map (λ (e : OpenEntry). e.txn)) none))
    ∙ ap (λ (v : Table). option_map state_of (option_and_then (entry_in v) (next_in v c.args.from))) (table_is c.self.view_is)

use Rattle.std.proofs.Common.{◌∙◌, ap, refl, sym}
use Rattle.std.proofs.lemmas.Bool.{false≢true}
use Rattle.slot_claims.proofs.Public.{on_err_from}
use Rattle.txn_table.specs.OpenList.{entries_in}
use Rattle.log_rules.specs.Table.{IsActiveEntry, Table}
use Rattle.txn_table.specs.OpenTransactions.{OpenView, has_room_in}
use Rattle.txn_table.proofs.Barred.{notes-update, updates-before}
use Rattle.txn_table.proofs.Rooms.{room_is}
use Rattle.txn_table.proofs.Stored.{at-row, nobody-here, said-here, in_rows-put, tracks-row, view-stays}
use Rattle.txn_table.proofs.Tracked.{finds-it, held-at, keeps-then}
use Rattle.txn_table.proofs.Viewed.{table_is}
use Rattle.txn_table.proofs.open_transactions.OpenTransactions.update.Goals as goal

pub returns-in_default-clause-ok : goal.returns-in_default-clause-ok
returns-in_default-clause-ok c = (
  λ may. nobody-here c.self.inside.begun c.args.txn (entries_in c.self.inside.list) c.args.self.now.table
      (IsActiveEntry c.args.change.prev) (table_is c.self.view_is) (c.row_of.ensures.none c.in_default.is) may.0,
  refl,
)

pub returns-then-not-is_active-clause-ok : goal.returns-then-not-is_active-clause-ok
returns-then-not-is_active-clause-ok c = (
  λ may. false≢true (sym c.if-not-is_active.true ∙ c.is_active.ensures.1
      (said-here c.self.invariant c.in-Some.ensures.found c.index_mut-entry.ensures.value c.args.self.now.table (table_is c.self.view_is)
      (IsActiveEntry c.args.change.prev) may.0)),
  ap (λ es. let v : Table = record { begun = c.self.inside.begun; entries = es } in v)
      (view-stays c.self.invariant c.in-Some.ensures.found c.index_mut-entry.ensures.value c.index_mut-entry.result.now
      refl)
      ∙ (table_is c.self.view_is),
)

pub make_room-requires-clause-held : goal.make_room-requires-clause-held
make_room-requires-clause-held c =
    held-at (at-row c.self.invariant c.in-Some.ensures.found c.index_mut-entry.ensures.value) c.self.invariant.tracks

pub invariant_of-self-in_err-make_room : goal.invariant_of-self-in_err-make_room
invariant_of-self-in_err-make_room c =
    let kept = c.make_room.ensures.kept in
    record {
      in_rows = in_rows-put c.self.invariant c.in-Some.ensures.found c.index_mut-entry.ensures.value
          c.make_room.new.self kept.row;
      tracks = tracks-row c.self.invariant c.in-Some.ensures.found c.index_mut-entry.ensures.value
          c.make_room.new.self c.make_room.new.claims kept;
    }

pub returns-in_err-make_room-clause-err : goal.returns-in_err-make_room-clause-err
returns-in_err-make_room-clause-err c =
    on_err_from c.from_residual.result _
    (ap (λ es. let v : Table = record { begun = c.self.inside.begun; entries = es } in v)
    (view-stays c.self.invariant c.in-Some.ensures.found c.index_mut-entry.ensures.value c.make_room.new.self
    c.make_room.ensures.entry)
    ∙ table_is c.self.view_is)

pub returns-in_err-make_room-clause-needed : goal.returns-in_err-make_room-clause-needed
returns-in_err-make_room-clause-needed c =
    let at = at-row c.self.invariant c.in-Some.ensures.found c.index_mut-entry.ensures.value in
    on_err_from c.from_residual.result _
    (ap (λ (v : OpenView). has_room_in v c.args.txn c.args.change.page c.args.change.slot) (sym c.self.view_is)
    ∙ room_is _ c.args.txn c.args.change.page c.args.change.slot c.index_mut-entry.result.now
    (finds-it at c.self.invariant.tracks) ∙ c.in_err-make_room.ensures.needed)

pub update-requires-clause-held : goal.update-requires-clause-held
update-requires-clause-held c = c.make_room.ensures.kept.held

pub invariant_of-self-2 : goal.invariant_of-self-2
invariant_of-self-2 c =
    let kept = keeps-then c.make_room.ensures.kept c.update.ensures.kept in
    record {
      in_rows = in_rows-put c.self.invariant c.in-Some.ensures.found c.index_mut-entry.ensures.value c.update.new.self
          kept.row;
      tracks = tracks-row c.self.invariant c.in-Some.ensures.found c.index_mut-entry.ensures.value
          c.update.new.self c.update.new.claims kept;
    }

pub returns-clause-ok : goal.returns-clause-ok
returns-clause-ok c =
    notes-update c.self.invariant c.in-Some.ensures.found c.index_mut-entry.ensures.value c.args.self.now.table
    (table_is c.self.view_is) c.update.new.self c.args.change (c.is_active.ensures.0 c.if-not-is_active.false)
    c.update.result
    (updates-before c.self.inside.claims c.make_room.new.claims c.index_mut-entry.result.now c.make_room.new.self
    c.update.new.self c.args.change c.make_room.ensures.claims c.make_room.ensures.entry c.make_room.ensures.kept.row
    c.update.result c.update.ensures.updated)

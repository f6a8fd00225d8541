use Rattle.std.proofs.Common.{◌∙◌, ap, eqb, sym}
use Rattle.std.specs.List.{find}
use Rattle.std.proofs.lemmas.Result.{on_err_weaker, on_ok_weaker}
use Rattle.log_rules.specs.Table.{Table}
use Rattle.txn_table.specs.declared.open_entry.OpenEntry.{OpenEntry}
use Rattle.txn_table.specs.OpenList.{entries_in}
use Rattle.txn_table.specs.OpenTransactions.{OpenView, has_room_in}
use Rattle.txn_table.proofs.Rooms.{room_is}
use Rattle.txn_table.proofs.Stored.{at-row, entries-put, in_rows-put, nobody-open, tracks-row, view-stays}
use Rattle.txn_table.proofs.Tracked.{finds-it, finds-put, held-at}
use Rattle.txn_table.proofs.Viewed.{table_is}
use Rattle.txn_table.proofs.open_transactions.OpenTransactions.make_room.Goals as goal

pub returns-in_default-clause-room : goal.returns-in_default-clause-room
returns-in_default-clause-room c here =
    absurd (nobody-open c.self.inside.begun c.args.txn (entries_in c.self.inside.list) c.args.self.now.table
    (table_is c.self.view_is) (c.row_of.ensures.none c.in_default.is) here)

pub make_room-requires-clause-held : goal.make_room-requires-clause-held
make_room-requires-clause-held c =
    held-at (at-row c.self.invariant c.in-Some.ensures.found c.index_mut-entry.ensures.value) c.self.invariant.tracks

pub invariant_of-self : goal.invariant_of-self
invariant_of-self c =
    let kept = c.make_room.ensures.kept in
    record {
      in_rows = in_rows-put c.self.invariant c.in-Some.ensures.found c.index_mut-entry.ensures.value
          c.make_room.new.self kept.row;
      tracks = tracks-row c.self.invariant c.in-Some.ensures.found c.index_mut-entry.ensures.value
          c.make_room.new.self c.make_room.new.claims kept;
    }

pub returns-clause-room : goal.returns-clause-room
returns-clause-room c =
    let kept = c.make_room.ensures.kept in
    let sits = c.in-Some.ensures.found in
    let at = at-row c.self.invariant sits c.index_mut-entry.ensures.value in
    on_ok_weaker c.make_room.result
    (λ room here. room_is _ c.args.txn c.args.page c.args.slot c.make_room.new.self
    (ap (find (λ (y : OpenEntry). eqb y.txn c.args.txn))
    (entries-put c.self.invariant sits c.index_mut-entry.ensures.value c.make_room.new.self)
    ∙ finds-put at c.self.invariant.tracks c.make_room.new.self kept.txn kept.row) ∙ room) c.make_room.ensures.room

pub returns-clause-needed : goal.returns-clause-needed
returns-clause-needed c =
    let at = at-row c.self.invariant c.in-Some.ensures.found c.index_mut-entry.ensures.value in
    on_err_weaker c.make_room.result
    (λ none. ap (λ (v : OpenView). has_room_in v c.args.txn c.args.page c.args.slot) (sym c.self.view_is)
    ∙ room_is _ c.args.txn c.args.page c.args.slot c.index_mut-entry.result.now (finds-it at c.self.invariant.tracks)
    ∙ none) c.make_room.ensures.needed

pub returns-clause-same : goal.returns-clause-same
returns-clause-same c =
    ap (λ es. let v : Table = record { begun = c.self.inside.begun; entries = es } in v)
    (view-stays c.self.invariant c.in-Some.ensures.found c.index_mut-entry.ensures.value c.make_room.new.self
    c.make_room.ensures.entry)
    ∙ table_is c.self.view_is

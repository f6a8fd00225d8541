use Rattle.txn_table.proofs.RowPlaces.{in_rows-none}
use Rattle.txn_table.proofs.open_list.OpenList.new.Goals as goal

pub returns-clause-sound : goal.returns-clause-sound
returns-clause-sound c =
    rw (c.new.ensures.items, c.new-3.ensures) (in_rows-none c.new-2.result.items c.new-2.ensures.items)

-- The records that change a page, from their numbers.
use Rattle.page_core.specs.declared.change.Change.{Change}
use Rattle.log_records.specs.declared.record.Record.{Record}
use Rattle.log_records.specs.declared.record.Record.TheVariants.{Comp, Update}
use Rattle.log_records.specs.declared.fields.Fields.{Fields}

-- the Update with this change and these numbers
abbrev pub update_in : Fields → Change → Record
update_in f change = Update f.lsn f.txn f.prev f.page f.slot change

-- the Comp with this change and these numbers
abbrev pub comp_in : Fields → Change → Record
comp_in f change = Comp f.lsn f.txn f.prev f.undo_next f.page f.slot change

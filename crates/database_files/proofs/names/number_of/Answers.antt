use Rattle.std.proofs.Common.{subst, sym}
use Rattle.database_files.specs.Found.{IsReadOf, SpellsNumber}
use Rattle.database_files.proofs.Numbers.{is_short}
use Rattle.database_files.proofs.names.number_of.Goals as goal

pub returns : goal.returns
returns c =
    let text = c.args.text.now in
    subst (IsReadOf (SpellsNumber 32) text) (sym c.ok.ensures.value)
    (is_short text c.in_ok-long_number_of.field-0 c.try_from.result c.in_ok-long_number_of.ensures c.try_from.ensures)

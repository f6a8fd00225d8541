use Rattle.std.proofs.Common.{◌≡◌, length, map}
use Rattle.copy_vault.specs.declared.copy_id.CopyKind.TheVariants.{Full}
use Rattle.copy_vault.specs.ChainRead.{kind_behind}
use Rattle.copy_vault.specs.ChainReading.{AreOpened, heads_of}
use Rattle.copy_vault.proofs.chain_reader.open_all.Given as goal

abbrev pub invariant-loop-i : goal.invariant-loop-i
invariant-loop-i g l = record {
  count : length l.cursors.items ≡ l.i;
  kind : l.kind ≡ kind_behind Full (heads_of l.cursors.items);
  opened : AreOpened l.counts (map g.R.Read.remaining l.fn.readers) (map g.R.Read.remaining l.readers) l.cursors.items;
}

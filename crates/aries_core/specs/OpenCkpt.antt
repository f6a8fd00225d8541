-- The session of an open checkpoint, whatever it gathers, and what else an engine keeps.
use Rattle.std.specs.Prelude.{List, Option}
use Rattle.std.specs.Option.{option_map}
use Rattle.copy_vault.specs.Vault.{CopyState}
use Rattle.fuzzy_ckpt.specs.declared.point.Point.{Point}
use Rattle.fuzzy_ckpt.specs.Ckpt.{CkptView, Phase, gathered_ckpt, pages_ckpt, txns_ckpt}
use Rattle.txn_table.specs.declared.returns.Return.{Return}
use Rattle.aries_core.specs.declared.open_ckpt.OpenCkpt.{OpenCkpt}
use Rattle.aries_core.specs.declared.open_ckpt.OpenCkpt.TheVariants.{Gathered, Pages, Txns}
use Rattle.engine_rules.specs.EngineView.{MediaView}

abbrev pub view_of : OpenCkpt → CkptView Phase
view_of (Pages ckpt) = pages_ckpt ckpt
view_of (Txns ckpt) = txns_ckpt ckpt
view_of (Gathered ckpt) = gathered_ckpt ckpt

-- what an engine keeps beside its log, its table and its pool
abbrev pub media_view : Option Point → Option OpenCkpt → List CopyState → List Return → MediaView
media_view master session copies returns = record {
  master = master;
  session = option_map view_of session;
  copies = copies;
  returns = returns;
}

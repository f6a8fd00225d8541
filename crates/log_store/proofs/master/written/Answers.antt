use Rattle.std.proofs.Common.{refl, ◌∙◌}
use Rattle.log_store.specs.Master.{master_bytes}
use Rattle.log_store.proofs.master.written.Goals as goal

pub returns : goal.returns
unfolding master_bytes
returns c =
    rw (
      c.copy_from_slice.ensures.after,
      c.copy_from_slice-2.ensures.after ∙ c.to_le_bytes.ensures,
      c.copy_from_slice-3.ensures.after ∙ c.to_le_bytes-2.ensures,
    ) refl

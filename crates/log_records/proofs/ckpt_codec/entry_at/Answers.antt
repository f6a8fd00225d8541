use Rattle.std.proofs.Common.{refl}
use Rattle.log_records.proofs.ckpt_codec.entry_at.Goals as goal

pub returns : goal.returns
returns c = λ e page_fits rec_fits page rec.
    rw (c.u32_at.ensures.only e.page page_fits page, c.u64_at.ensures.only e.rec_lsn rec_fits rec) refl

use Rattle.std.proofs.Common.{refl}
use Rattle.log_records.specs.CkptBytes.{ckpt_bytes, no_body}
use Rattle.log_records.proofs.ckpt_codec.begin_bytes.Goals as goal

pub returns : goal.returns
unfolding ckpt_bytes no_body
returns c = rw (c.put_u64.ensures, c.put_u32.ensures) refl

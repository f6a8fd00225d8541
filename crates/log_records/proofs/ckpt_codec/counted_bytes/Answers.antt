use Rattle.log_records.proofs.Puts.{pages_put}
use Rattle.log_records.proofs.ckpt_codec.counted_bytes.Goals as goal

pub returns : goal.returns
returns c =
    pages_put _ c.args.begin c.args.count c.args.lsn c.args.a c.args.b c.args.c _ _ _ _ _ _ _ _ _ _
    c.put_u32.ensures c.put_u64.ensures c.put_u32-2.ensures c.put_u32-3.ensures c.put_u64-2.ensures c.put_u32-4.ensures
    c.put_u64-3.ensures c.put_u32-5.ensures c.put_u64-4.ensures c.put_u64-5.ensures

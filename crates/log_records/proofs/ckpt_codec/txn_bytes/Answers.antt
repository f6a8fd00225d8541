use Rattle.log_records.proofs.Puts.{txn_put}
use Rattle.log_records.proofs.ckpt_codec.txn_bytes.Goals as goal

pub returns : goal.returns
returns c =
    txn_put _ c.args.begin c.args.txn c.args.state c.args.last c.args.undo_next c.args.lsn _ _ _ _ _ _ _
    c.put_u32.ensures c.put_u64.ensures c.put_u32-2.ensures c.put_u32-3.ensures c.put_u64-2.ensures c.put_u64-3.ensures
    c.put_u64-4.ensures

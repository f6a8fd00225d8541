use Rattle.log_records.proofs.Puts.{fields_put}
use Rattle.log_records.proofs.fields.Fields.write.Goals as goal

pub returns : goal.returns
returns c =
    fields_put c.args.self.now _ _ _ _ _ _ _ _ _ _ _ c.put_u32.ensures c.put_u32-2.ensures c.put_u64.ensures
    c.put_u64-2.ensures c.put_u32-3.ensures c.put_u16.ensures c.put_u16-2.ensures c.put_u64-3.ensures
    c.put_u64-4.ensures c.put_u64-5.ensures c.put_u64-6.ensures

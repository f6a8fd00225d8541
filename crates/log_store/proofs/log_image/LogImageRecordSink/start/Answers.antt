use Rattle.std.proofs.Common.{arith, sym}
use Rattle.log_records.proofs.Public.{count_behind-nil}
use Rattle.log_store.proofs.log_image.LogImageRecordSink.start.Goals as goal

pub invariant_of-result : goal.invariant_of-result
invariant_of-result c = rw c.new.ensures.items (
  record {
    pages = c.requires;
    count = omega arith;
    records = λ i d lt. absurd (omega arith);
    grows = λ i d lt. absurd (omega arith);
  },
  sym (count_behind-nil c.args.pages),
)

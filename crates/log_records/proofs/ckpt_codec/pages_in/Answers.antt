use Rattle.log_records.specs.declared.fields.TheConstants.{CHKPT_PAGES}
use Rattle.log_records.proofs.Ckpts.{one_is, three_is, two_is}
use Rattle.log_records.proofs.ckpt_codec.pages_in.Goals as goal

pub returns-then-count-eq1 : goal.returns-then-count-eq1
returns-then-count-eq1 c = λ at begin lsn pages valid same.
    one_is CHKPT_PAGES begin lsn at c.u32_at-count.result pages c.args.bytes.now c.entry_at-first.result same valid
    c.if-count-eq1.true c.u32_at-count.ensures.only c.entry_at-first.ensures

pub returns-then-count-eq2 : goal.returns-then-count-eq2
returns-then-count-eq2 c = λ at begin lsn pages valid same.
    two_is CHKPT_PAGES begin lsn at c.u32_at-count.result pages c.args.bytes.now c.entry_at-first.result
    c.entry_at-second.result same valid c.if-count-eq2.true c.u32_at-count.ensures.only c.entry_at-first.ensures
    c.entry_at-second.ensures

pub returns-else-count-eq2 : goal.returns-else-count-eq2
returns-else-count-eq2 c = λ at begin lsn pages valid same.
    three_is CHKPT_PAGES begin lsn at c.u32_at-count.result pages c.args.bytes.now c.entry_at-first.result
    c.entry_at-second.result c.entry_at-third.result same valid c.if-count-eq1.false c.if-count-eq2.false
    c.u32_at-count.ensures.only c.entry_at-first.ensures c.entry_at-second.ensures c.entry_at-third.ensures

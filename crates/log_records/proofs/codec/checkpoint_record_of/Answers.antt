use Rattle.std.proofs.Common.{rules}
use Rattle.log_records.proofs.Ckpts.{begin_answers, end_answers, none_answers, pages_answers, txns_answers}
use Rattle.log_records.proofs.codec.checkpoint_record_of.Goals as goal

pub returns-in-7-clause-only : goal.returns-in-7-clause-only
returns-in-7-clause-only c =
    begin_answers c.args.bytes.now c.args.at c.u32_at.result c.if_written.result c.in-7.is c.u32_at.ensures.only
    c.if_written.ensures.only

pub returns-in-8-clause-only : goal.returns-in-8-clause-only
returns-in-8-clause-only c =
    pages_answers c.args.bytes.now c.args.at c.u64_at.result c.u32_at.result c.pages_in-pages.result
    c.if_written-in-8.result c.in-8.is c.u32_at.ensures.only c.u64_at.ensures.only c.pages_in-pages.ensures c.if_written-in-8.ensures.only

pub returns-in-9-clause-only : goal.returns-in-9-clause-only
returns-in-9-clause-only c =
    txns_answers c.args.bytes.now c.args.at c.u64_at.result c.u32_at.result c.u32_at-in-9.result c.u32_at-in-9-2.result
    c.phase_of-state.result c.u64_at-in-9.result c.u64_at-in-9-2.result c.if_written-in-9.result c.in-9.is
    c.u32_at.ensures.only c.u64_at.ensures.only c.u32_at-in-9.ensures.only c.u32_at-in-9-2.ensures.only
    c.phase_of-state.ensures c.u64_at-in-9.ensures.only c.u64_at-in-9-2.ensures.only c.if_written-in-9.ensures.only

pub returns-in-10-clause-only : goal.returns-in-10-clause-only
returns-in-10-clause-only c =
    end_answers c.args.bytes.now c.args.at c.u64_at.result c.u32_at.result c.u64_at-in-10.result
    c.if_written-in-10.result c.in-10.is c.u32_at.ensures.only c.u64_at.ensures.only c.u64_at-in-10.ensures.only
    c.if_written-in-10.ensures.only

pub returns-in_default-clause-only : goal.returns-in_default-clause-only
returns-in_default-clause-only c =
    none_answers c.args.bytes.now c.args.at c.u32_at.result _ c.u32_at.ensures.only
    (λ e. search rules) (λ e. search rules) (λ e. search rules) (λ e. search rules)

use Rattle.std.proofs.Common.{◌≡◌, ◌∙◌, ◌++◌, ap, sym, subst, List, reverse}
use Rattle.std.specs.Option.{option_to_list}
use Rattle.std.proofs.lemmas.List.{reverse-reverse}
use Rattle.txn_table.specs.OpenEntry.{changes_of}
use Rattle.txn_table.specs.Pending.{Pending}
use Rattle.log_rules.specs.declared.pending_change.PendingChange.{PendingChange}
use Rattle.log_records.specs.declared.record.Record.{Record}
use Rattle.log_rules.specs.Transactions.{first_lsn, pending}
use Rattle.loser_undo.specs.Losers.{change_by}
use Rattle.loser_undo.proofs.Traced.{IsFound, map_reverse, found_all, found_more, leads_stands, next_earlier}
use Rattle.loser_undo.proofs.trace.pending_of.Goals as goal

pub record_at-requires : goal.record_at-requires
record_at-requires c =
    let rs = c.args.log.now.records in
    let t = c.args.one.now.txn in
    let inv = c.back.invariant in
    leads_stands rs t (first_lsn rs t) c.back.at inv.way inv.leads

pub record_at-requires-in-Some : goal.record_at-requires-in-Some
record_at-requires-in-Some c =
    let rs = c.args.log.now.records in
    let t = c.args.one.now.txn in
    let inv = c.back.invariant in
    leads_stands rs t (first_lsn rs t) c.back.at inv.way inv.leads

pub back-smaller : goal.back-smaller
back-smaller c =
    let rs = c.args.log.now.records in
    let t = c.args.one.now.txn in
    let inv = c.back.invariant in
    next_earlier c.args.log.now c.back.at c.in-Some.next c.record_at.result.now c.record_at.ensures.valid
    (leads_stands rs t (first_lsn rs t) c.back.at inv.way inv.leads) c.record_at.ensures.is
    (sym c.way_back.ensures ∙ c.in-Some.is)

pub back-preserved : goal.back-preserved
back-preserved c =
    let rs = c.args.log.now.records in
    let t = c.args.one.now.txn in
    let inv = c.back.invariant in
    let first = first_lsn rs t in
    let all = reverse (pending rs t) in
    let found = changes_of c.back.found.items in
    let there = leads_stands rs t first c.back.at inv.way inv.leads in
    let same : c.record_at.result.now ≡ c.record_at-in-Some.result.now =
    c.record_at.ensures.is there.0 there.1 ∙ sym (c.record_at-in-Some.ensures.is there.0 there.1) in
    subst (λ (xs : List PendingChange). IsFound rs t first c.in-Some.next xs all)
    (ap (λ (x : Record). found ++ option_to_list (change_by x)) same ∙ sym c.in_ok-keep_change.ensures)
    (found_more rs t first c.back.at c.in-Some.next found all c.record_at.result.now inv c.record_at.ensures.is
    (sym c.way_back.ensures ∙ c.in-Some.is))

pub returns : goal.returns
returns c =
    let rs = c.args.log.now.records in
    let t = c.args.one.now.txn in
    let end = found_all rs t (first_lsn rs t) c.back.at (changes_of c.back.found.items) (reverse (pending rs t))
    c.record_at.result.now c.back.invariant c.record_at.ensures.is (sym c.way_back.ensures ∙ c.in_default.is) in
    record {
      first = end.0;
      pending = ap changes_of c.reverse.ensures.items ∙ map_reverse (λ (p : Pending). p.change) c.back.found.items
          ∙ ap reverse (sym end.1) ∙ reverse-reverse (pending rs t);
    }

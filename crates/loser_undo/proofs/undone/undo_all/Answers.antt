use Rattle.std.proofs.Common.{rules, ◌≡◌, ◌∙◌, ℕ, ◌+◌, ◌≤◌, List, [], ap, append-nil, arith, length, subst, sym}
use Rattle.std.specs.Prelude.{min}
use Rattle.std.specs.List.{sum_by}
use Rattle.log_records.specs.declared.limits.TheConstants.{MAX_RECORDS}
use Rattle.log_records.specs.declared.record.Record.{Record}
use Rattle.log_rules.specs.Table.{TxnEntry, owed_by_entry}
use Rattle.log_rules.specs.Transactions.{owed}
use Rattle.loser_undo.specs.Recovery.{HasCommitted, IsRedone, IsUndone, HasLogsPages, Recovery, undone}
use Rattle.loser_undo.specs.UndoSink.{HasAppended, HasRedone, MayBeUndone}
use Rattle.loser_undo.proofs.Held.{owed_of}
use Rattle.loser_undo.proofs.Pages.{log_and_appended, same_parts, undone_closed, undone_committed, undone_whole}
use Rattle.loser_undo.proofs.Undoing.{nothing_redone}
use Rattle.loser_undo.proofs.undone.undo_all.Goals as goal
use Rattle.loser_undo.proofs.undone.undo_all.Goals.{After-undo_into}

abbrev HasRoom : Recovery → Type 0
HasRoom r = length r.log.records + owed r.log.records ≤ MAX_RECORDS

begins : (r : Recovery) (losers : List TxnEntry) (records : List Record) (count capacity sum : ℕ) → IsRedone r losers
    → HasRoom r → records ≡ r.log.records → count ≡ length records
    → sum ≡ min (sum_by owed_by_entry losers) 18446744073709551615 → count + sum ≤ capacity
    → MayBeUndone r.log losers count × (HasAppended r.log [] records capacity × HasRedone r.log r.pages [] r.pages)
begins r losers records count capacity sum is room same counted all fits =
    let long = counted ∙ ap (length {A = Record}) same in (
      record { valid = is.is.valid; made = is.made; count_is = long; room = room },
      (
        record {
          made = same ∙ sym (append-nil r.log.records);
          fits = omega (arith, long, room, fits, all, owed_of r.log.records losers is.made);
        },
        nothing_redone r.log r.pages is.is.count is.is.numbered,
      ),
    )

pub undo_into-requires : goal.undo_into-requires
undo_into-requires c =
    let it = c.redone.inside in
    let room : HasRoom c.args.redone = search rules in (
      it.log,
      begins _ it.losers c.reserve.new.self.items c.len-count.result _ c.owed-owed.result c.redone.invariant
          (subst HasRoom (sym c.redone.view_is) room) (c.reserve.ensures.items ∙ c.into_parts-first_count.ensures.parts.1)
          (c.len-count.ensures ∙ c.reserve.new.self.ok.0) c.owed-owed.ensures
          (omega (arith, c.in-Ok.ensures.ok, c.len-count.ensures)),
    )

made : (c : After-undo_into) → (let it : Recovery = record {
  log = record { pages = c.into_parts-first_count.result.0; records = c.undo_into.new.sink.0.items };
  master = c.redone.inside.master;
  pages = c.undo_into.new.sink.1.items;
} in it) ≡ undone c.args.redone
made c =
    let it = c.redone.inside in
    let room : HasRoom c.args.redone = search rules in
    let to = begins _ it.losers c.reserve.new.self.items c.len-count.result _ c.owed-owed.result c.redone.invariant
    (subst HasRoom (sym c.redone.view_is) room) (c.reserve.ensures.items ∙ c.into_parts-first_count.ensures.parts.1)
    (c.len-count.ensures ∙ c.reserve.new.self.ok.0) c.owed-owed.ensures
    (omega (arith, c.in-Ok.ensures.ok, c.len-count.ensures)) in
    let took = c.undo_into.ensures it.log to.0 to.1 in
    same_parts (undone (record { log = it.log; master = it.master; pages = it.pages.items })) _ _ _ _
    c.into_parts-first_count.ensures.parts.0 (took.0.made ∙ log_and_appended it.log) (λ _. it.master) took.1.made
    ∙ ap undone c.redone.view_is

pub invariant_of-result : goal.invariant_of-result
invariant_of-result c =
    subst IsUndone (sym (made c)) (undone_closed c.args.redone c.is_full.ensures.kept (search rules))

pub returns-clause-ok : goal.returns-clause-ok
returns-clause-ok c = made c

pub returns-clause-whole : goal.returns-clause-whole
returns-clause-whole c = λ whole. subst HasLogsPages (sym (made c)) (undone_whole c.args.redone whole)

pub returns-clause-committed : goal.returns-clause-committed
returns-clause-committed c = λ whole.
    let kept = c.is_full.ensures.kept in
    subst (λ (r : Recovery). HasCommitted c.args.redone.log.records r.pages) (sym (made c))
    (undone_committed c.args.redone kept.valid kept.linked whole)

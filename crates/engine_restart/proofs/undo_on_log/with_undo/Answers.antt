use Rattle.std.proofs.Common.{◌≡◌, ◌+◌, ◌≤◌, ◌∙◌, List, [], append-nil, false, length, ap, refl, sym}
use Rattle.page_core.specs.declared.page.Page.{Page}
use Rattle.log_records.specs.declared.limits.TheConstants.{MAX_RECORDS}
use Rattle.log_records.specs.declared.record.Record.{Record}
use Rattle.log_records.specs.Log.{IsLog, Log}
use Rattle.log_prefix.specs.Front.{LeadsTo}
use Rattle.log_rules.specs.Table.{TxnEntry}
use Rattle.log_rules.specs.Transactions.{owed}
use Rattle.log_store.specs.WrittenLog.{WrittenLog}
use Rattle.loser_undo.specs.Recovery.{appended}
use Rattle.loser_undo.specs.UndoSink.{HasRedone, MayBeUndone}
use Rattle.engine_restart.specs.Restart.{HasGrown}
use Rattle.engine_restart.proofs.Appending.{all_appended}
use Rattle.engine_restart.proofs.Restarts.{all_undone, nothing_undone}
use Rattle.engine_restart.proofs.undo_on_log.with_undo.Given as given
use Rattle.engine_restart.proofs.undo_on_log.with_undo.Goals as goal

module _ {D : Type 0} (log : Log) (rs : List Record) (it : WrittenLog D) (pages : List Page) (losers : List TxnEntry)
    (valid : IsLog log) (same : rs ≡ log.records) (leads : LeadsTo log pages losers)
    (room : length log.records + owed log.records ≤ MAX_RECORDS) (begun : it.log ≡ log) where
  may : MayBeUndone log losers (length rs)
  may = record {
    valid = valid;
    made = record { linked = leads.linked; few = valid.count; made = leads.still_open };
    count_is = ap (length {A = Record}) same;
    room = room;
  }

  begins : HasGrown it log [] it false × HasRedone log pages [] pages
  begins = (
    record {
      log_is = λ _. begun ∙ ap (λ (rs : List Record). record log { records = rs }) (sym (append-nil log.records));
      forced_end = refl;
      device = refl;
    },
    nothing_undone log pages leads.redone,
  )

  made_by : {X : Type 0} → (MayBeUndone log losers (length rs)
      → HasGrown it log [] it false × HasRedone log pages [] pages → X) → X
  made_by undo = undo may begins

pub undo_into-requires : goal.undo_into-requires
undo_into-requires g c =
    let log = c.args.log in
    let found = c.records-count in (
      log,
      made_by log found.result.now c.resume.result c.args.pages.items c.args.losers found.ensures.valid
          found.ensures.records c.requires.leads c.requires.room c.resume.ensures.log (λ may begins. (may, begins)),
    )

took : (g : given.Over) (c : goal.Else-growing g) → (let new = c.undo_into.new.sink in
    let grown = HasGrown c.resume.result c.args.log (appended c.args.log) new.0.written new.0.is_refused in
    grown × HasRedone c.args.log c.args.pages.items (appended c.args.log) new.1.items)
took g c =
    let log = c.args.log in
    let found = c.records-count in
    made_by log found.result.now c.resume.result c.args.pages.items c.args.losers found.ensures.valid
    found.ensures.records c.requires.leads c.requires.room c.resume.ensures.log (c.undo_into.ensures log)

pub returns-then-growing-clause-refused : goal.returns-then-growing-clause-refused
returns-then-growing-clause-refused g c =
    let log = c.args.log in
    let found = c.records-count in
    let took = made_by log found.result.now c.resume.result c.args.pages.items c.args.losers found.ensures.valid
    found.ensures.records c.requires.leads c.requires.room c.resume.ensures.log (c.undo_into.ensures log) in
    c.into_parts.ensures.device ∙ took.0.device ∙ c.resume.ensures.device

pub returns-clause-undone : goal.returns-clause-undone
returns-clause-undone g c =
    all_appended c.args.log c.undo_into.new.sink.0.written.log ((took g c).0.log_is c.if-growing.false)

pub returns-clause-pages : goal.returns-clause-pages
returns-clause-pages g c =
    all_undone c.args.log c.args.pages.items c.undo_into.new.sink.1.items c.requires.leads.redone (took g c).1.made

pub returns-clause-forced_end : goal.returns-clause-forced_end
returns-clause-forced_end g c = (took g c).0.forced_end ∙ c.resume.ensures.forced_end

pub returns-clause-device : goal.returns-clause-device
returns-clause-device g c = (took g c).0.device ∙ c.resume.ensures.device

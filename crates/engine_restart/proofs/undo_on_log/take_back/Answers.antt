use Rattle.std.proofs.Common.{◌≡◌, ◌+◌, ◌≤◌, length, refl, ap, arith, subst, sym, ◌∙◌}
use Rattle.log_records.specs.declared.limits.TheConstants.{MAX_RECORDS}
use Rattle.log_records.specs.Log.{Log, lsn_of}
use Rattle.log_records.specs.declared.record.Record.{Record}
use Rattle.log_rules.specs.Transactions.{owed}
use Rattle.loser_undo.specs.Losers.{AreLosersOf}
use Rattle.loser_undo.proofs.Public.{owed_few}
use Rattle.loser_undo.proofs.Public.{owed_of}
use Rattle.engine_restart.specs.Restart.{HasLasting, undone_log}
use Rattle.engine_restart.proofs.Appending.{fails_undo, forces_more, has_lasting, lasts_still, left_alone}
use Rattle.engine_restart.proofs.undo_on_log.take_back.Goals as goal

pub overflow_add-records : goal.overflow_add-records
overflow_add-records g c =
    let front = c.args.front.log in
    let same = ap (λ (log : Log). length log.records) c.into_replayed-log.ensures.log in
    let few = c.records.ensures.valid.count in
    let leads = c.into_replayed-log.ensures.leads in
    let made : AreLosersOf front.records c.into_replayed-log.result.2 =
    record { linked = leads.linked; few = omega (arith, few, same); made = leads.still_open } in
    let most = owed_few front.records leads.linked in
    let is : c.owed.result ≡ owed front.records =
    omega (arith, few, same, most, c.owed.ensures, owed_of front.records c.into_replayed-log.result.2 made) in
    omega (arith, few, same, most, is, ap (length {A = Record}) c.records.ensures.records)

pub with_undo-requires-clause-room : goal.with_undo-requires-clause-room
with_undo-requires-clause-room g c =
    let front = c.args.front.log in
    let found = c.into_replayed-log in
    let same = ap (λ (log : Log). length log.records) found.ensures.log in
    let few = c.records.ensures.valid.count in
    let made : AreLosersOf front.records found.result.2 =
    record { linked = found.ensures.leads.linked; few = omega (arith, few, same); made = found.ensures.leads.still_open } in
    let most = owed_few front.records found.ensures.leads.linked in
    let is : c.owed.result ≡ owed front.records =
    omega (arith, few, same, most, c.owed.ensures, owed_of front.records found.result.2 made) in
    subst (λ (log : Log). length log.records + owed log.records ≤ MAX_RECORDS) (sym found.ensures.log)
    (omega (arith, same, is, ap (length {A = Record}) c.records.ensures.records, c.if-records-owed.false))

pub returns-in-Err-clause-stands : goal.returns-in-Err-clause-stands
returns-in-Err-clause-stands g c =
    let D = g.D.LogDevice in
    subst (HasLasting D.bytes D.lasting c.args.front.log) (sym c.in-Err.ensures.refused) c.requires

pub returns-in-Err-force-clause-last_call : goal.returns-in-Err-force-clause-last_call
returns-in-Err-force-clause-last_call g c = λ _.
    let D = g.D.LogDevice in
    let front = c.into_replayed-log.ensures.log in
    fails_undo c.in-Ok.undone.0 c.force.new.self c.args.front.log c.args.device c.into_parts-device.result.1
    (c.in-Ok.ensures.forced_end ∙ ap (λ (l : Log). lsn_of (length l.records)) front) c.in-Ok.ensures.device
    c.into_parts-device.ensures.device D.called D.synced
    (c.force.ensures.same ∙ c.in-Ok.ensures.undone ∙ ap undone_log front) c.in-Err-force.ensures.last_call

pub returns-in-Err-force-clause-stands : goal.returns-in-Err-force-clause-stands
returns-in-Err-force-clause-stands g c =
    let D = g.D.LogDevice in
    let front = c.into_replayed-log.ensures.log in
    lasts_still c.in-Ok.undone.0 c.force.new.self c.args.front.log c.args.device c.into_parts-device.result.1
    (c.in-Ok.ensures.forced_end ∙ ap (λ (l : Log). lsn_of (length l.records)) front) c.in-Ok.ensures.device
    c.into_parts-device.ensures.device D.bytes D.lasting c.requires c.force.ensures.stands c.force.ensures.rising
    c.into_parts-device.ensures.lasts

pub returns-in-Ok-force-clause-device : goal.returns-in-Ok-force-clause-device
returns-in-Ok-force-clause-device g c =
    let D = g.D.LogDevice in
    let parts = c.into_parts-log in
    has_lasting D.bytes D.lasting c.force.new.self parts.result.0 parts.result.1 parts.ensures.kept
    (c.in-Ok-force.ensures.forced ∙ ap (λ (l : Log). lsn_of (length l.records)) (sym c.force.ensures.same))
    parts.ensures.lasts parts.ensures.log parts.ensures.device

pub returns-in-Ok-force-clause-called : goal.returns-in-Ok-force-clause-called
returns-in-Ok-force-clause-called g c =
    let D = g.D.LogDevice in
    let parts = c.into_parts-log in
    let end = λ (l : Log). lsn_of (length l.records) in
    forces_more D.bytes c.in-Ok.undone.0 c.force.new.self c.args.front.log parts.result.0 c.args.device parts.result.1
    (c.in-Ok.ensures.forced_end ∙ ap end c.into_replayed-log.ensures.log) c.in-Ok.ensures.device
    (c.in-Ok-force.ensures.forced ∙ ap end (sym c.force.ensures.same))
    parts.ensures.log parts.ensures.device D.called D.synced c.in-Ok-force.ensures.called

pub returns-in-Ok-force-clause-alone : goal.returns-in-Ok-force-clause-alone
returns-in-Ok-force-clause-alone g c =
    let D = g.D.LogDevice in
    let parts = c.into_parts-log in
    let end = λ (l : Log). lsn_of (length l.records) in
    left_alone D.bytes c.in-Ok.undone.0 c.force.new.self c.args.front.log parts.result.0 c.args.device parts.result.1
    (c.in-Ok.ensures.forced_end ∙ ap end c.into_replayed-log.ensures.log) c.in-Ok.ensures.device
    (c.in-Ok-force.ensures.forced ∙ ap end (sym c.force.ensures.same))
    parts.ensures.log parts.ensures.device parts.ensures.kept c.in-Ok-force.ensures.nothing_more

use Rattle.std.proofs.Common.{◌≡◌, ◌∙◌, ℕ, ◌+◌, ◌∷◌, [], get_or, refl, sym, ap, subst, arith}
use Rattle.std.specs.Prelude.{IfSome, IsSome}
use Rattle.log_records.specs.declared.record.Record.{Record}
use Rattle.log_records.specs.Log.{Log, StandsAt, page_count, with_next}
use Rattle.log_records.specs.Coverage.{Covers}
use Rattle.log_records.specs.Record.{IsOfCheckpoint}
use Rattle.log_rules.specs.Linked.{MayFollow}
use Rattle.fuzzy_ckpt.specs.Ckpt.{CkptView, IsCkptOf, Phase, gathered, in_txns, txns_ckpt}
use Rattle.fuzzy_ckpt.specs.Steps.{Gathering, HasRoomForStep, end_of, txn_record, with_step}
use Rattle.fuzzy_ckpt.proofs.TxnsSteps.{table_more, table_passed, txns_cover}
use Rattle.fuzzy_ckpt.proofs.ckpt.Ckpt+Txns.txns.Goals as goal

pub returns-in_default-clause-ckpt : goal.returns-in_default-clause-ckpt
returns-in_default-clause-ckpt g c =
    let log = c.args.log.now.log in
    subst (λ (v : CkptView ℕ). IsCkptOf log (record (txns_ckpt v) { phase = gathered })) (sym c.self.view_is)
    (table_passed log c.args.self c.phase.inside.from c.next_from.result c.requires.ckpt
    (c.phase.view_is ∙ ap (λ (v : CkptView ℕ). v.phase) c.self.view_is)
    (c.next_from.ensures log.records c.requires.table) c.in_default.is)

pub append-requires-clause-stands : goal.append-requires-clause-stands
append-requires-clause-stands g c =
    let log = c.args.log.now.log in
    let t = c.in-Some.state.txn in
    let it = table_more log c.args.self c.phase.inside.from c.next_from.result c.in-Some.state
    c.end_of-lsn.ensures.valid
    c.requires.table.linked c.requires.ckpt (c.phase.view_is ∙ ap (λ (v : CkptView ℕ). v.phase) c.self.view_is)
    (c.next_from.ensures log.records c.requires.table) c.in-Some.is in
    let few = subst (λ (x : Gathering). HasRoomForStep log.records x.next) it.0.step c.requires.room in
    let made = c.txn_record-next.ensures log.records c.requires.table c.end_of-lsn.ensures.end it.0.still_open it.1
    ∙ ap (λ (v : CkptView ℕ). txn_record log.records v.begin t) c.self.view_is in
    subst (StandsAt (page_count log) (end_of log.records)) (sym made) (it.0.stands few)

pub next_number-requires : goal.next_number-requires
next_number-requires g c =
    let log = c.args.log.now.log in
    let it = table_more log c.args.self c.phase.inside.from c.next_from.result c.in-Some.state
    c.end_of-lsn.ensures.valid
    c.requires.table.linked c.requires.ckpt (c.phase.view_is ∙ ap (λ (v : CkptView ℕ). v.phase) c.self.view_is)
    (c.next_from.ensures log.records c.requires.table) c.in-Some.is in
    let fits = it.0.fits in
    omega arith

pub returns-in-Ok-clause-logged : goal.returns-in-Ok-clause-logged
returns-in-Ok-clause-logged g c =
    let log = c.args.log.now.log in
    let t = c.in-Some.state.txn in
    let it = table_more log c.args.self c.phase.inside.from c.next_from.result c.in-Some.state
    c.end_of-lsn.ensures.valid
    c.requires.table.linked c.requires.ckpt (c.phase.view_is ∙ ap (λ (v : CkptView ℕ). v.phase) c.self.view_is)
    (c.next_from.ensures log.records c.requires.table) c.in-Some.is in
    let made = c.txn_record-next.ensures log.records c.requires.table c.end_of-lsn.ensures.end it.0.still_open it.1
    ∙ ap (λ (v : CkptView ℕ). txn_record log.records v.begin t) c.self.view_is in
    c.in-Ok.ensures.ok ∙ ap (λ (r : Record). with_next log (r ∷ [])) made
    ∙ ap (λ (x : Gathering). with_step log x.next) (sym it.0.step)

pub returns-in-Ok-clause-follows : goal.returns-in-Ok-clause-follows
returns-in-Ok-clause-follows g c =
    let log = c.args.log.now.log in
    let it = table_more log c.args.self c.phase.inside.from c.next_from.result c.in-Some.state
    c.end_of-lsn.ensures.valid
    c.requires.table.linked c.requires.ckpt (c.phase.view_is ∙ ap (λ (v : CkptView ℕ). v.phase) c.self.view_is)
    (c.next_from.ensures log.records c.requires.table) c.in-Some.is in
    subst (λ (x : Gathering). IfSome x.next (MayFollow log.records)) (sym it.0.step) it.0.follows

pub returns-in-Err-clause-follows : goal.returns-in-Err-clause-follows
returns-in-Err-clause-follows g c =
    let log = c.args.log.now.log in
    let it = table_more log c.args.self c.phase.inside.from c.next_from.result c.in-Some.state
    c.end_of-lsn.ensures.valid
    c.requires.table.linked c.requires.ckpt (c.phase.view_is ∙ ap (λ (v : CkptView ℕ). v.phase) c.self.view_is)
    (c.next_from.ensures log.records c.requires.table) c.in-Some.is in
    subst (λ (x : Gathering). IfSome x.next (MayFollow log.records)) (sym it.0.step) it.0.follows

pub returns-in-Ok-clause-ckpt : goal.returns-in-Ok-clause-ckpt
returns-in-Ok-clause-ckpt g c =
    let log = c.args.log.now.log in
    let t = c.in-Some.state.txn in
    let it = table_more log c.args.self c.phase.inside.from c.next_from.result c.in-Some.state
    c.end_of-lsn.ensures.valid
    c.requires.table.linked c.requires.ckpt (c.phase.view_is ∙ ap (λ (v : CkptView ℕ). v.phase) c.self.view_is)
    (c.next_from.ensures log.records c.requires.table) c.in-Some.is in
    let made = c.txn_record-next.ensures log.records c.requires.table c.end_of-lsn.ensures.end it.0.still_open it.1
    ∙ ap (λ (v : CkptView ℕ). txn_record log.records v.begin t) c.self.view_is in
    let logged = c.in-Ok.ensures.ok ∙ ap (λ (r : Record). with_next log (r ∷ [])) made in
    let now : CkptView Phase = record {
      begin = c.self.inside.begin;
      pages = c.self.inside.pages;
      redo = c.self.inside.redo;
      phase = in_txns c.next_number.result;
    } in
    let view : now ≡ record (txns_ckpt c.args.self) { phase = in_txns (t + 1) } = λ i. record {
      begin = (c.self.view_is i).begin;
      pages = (c.self.view_is i).pages;
      redo = (c.self.view_is i).redo;
      phase = in_txns (c.next_number.ensures i);
    } in
    subst (λ (l : Log). IsCkptOf l now) (sym logged)
    (subst (IsCkptOf (with_next log (txn_record log.records c.args.self.begin t ∷ []))) (sym view) it.0.kept)

pub returns-in-Ok-clause-covered : goal.returns-in-Ok-clause-covered
returns-in-Ok-clause-covered g c = λ stored covered p d lt passed.
    let log = c.args.log.now.log in
    let t = c.in-Some.state.txn in
    let it = table_more log c.args.self c.phase.inside.from c.next_from.result c.in-Some.state
    c.end_of-lsn.ensures.valid
    c.requires.table.linked c.requires.ckpt (c.phase.view_is ∙ ap (λ (v : CkptView ℕ). v.phase) c.self.view_is)
    (c.next_from.ensures log.records c.requires.table) c.in-Some.is in
    let made = c.txn_record-next.ensures log.records c.requires.table c.end_of-lsn.ensures.end it.0.still_open it.1
    ∙ ap (λ (v : CkptView ℕ). txn_record log.records v.begin t) c.self.view_is in
    let logged = c.in-Ok.ensures.ok ∙ ap (λ (r : Record). with_next log (r ∷ [])) made in
    subst (λ (l : Log). Covers l.records p (get_or stored p d) c.self.inside.redo) (sym logged)
    (subst (λ (v : CkptView ℕ). Covers (with_next log (txn_record log.records c.args.self.begin t ∷ [])).records p
    (get_or stored p d) v.redo)
    (sym c.self.view_is)
    (txns_cover log c.args.self stored
    (txn_record log.records c.args.self.begin t) c.end_of-lsn.ensures.valid c.requires.ckpt
    refl covered p d lt))

pub returns-in-Err-clause-appends : goal.returns-in-Err-clause-appends
returns-in-Err-clause-appends g c =
    let log = c.args.log.now.log in
    let it = table_more log c.args.self c.phase.inside.from c.next_from.result c.in-Some.state
    c.end_of-lsn.ensures.valid
    c.requires.table.linked c.requires.ckpt (c.phase.view_is ∙ ap (λ (v : CkptView ℕ). v.phase) c.self.view_is)
    (c.next_from.ensures log.records c.requires.table) c.in-Some.is in
    subst (λ (x : Gathering). IsSome x.next) (sym it.0.step) refl

pub append-requires-clause-kind : goal.append-requires-clause-kind
append-requires-clause-kind g c =
    let log = c.args.log.now.log in
    let t = c.in-Some.state.txn in
    let it = table_more log c.args.self c.phase.inside.from c.next_from.result c.in-Some.state
    c.end_of-lsn.ensures.valid
    c.requires.table.linked c.requires.ckpt (c.phase.view_is ∙ ap (λ (v : CkptView ℕ). v.phase) c.self.view_is)
    (c.next_from.ensures log.records c.requires.table) c.in-Some.is in
    let made = c.txn_record-next.ensures log.records c.requires.table c.end_of-lsn.ensures.end it.0.still_open it.1
    ∙ ap (λ (v : CkptView ℕ). txn_record log.records v.begin t) c.self.view_is in
    subst IsOfCheckpoint (sym made) tt

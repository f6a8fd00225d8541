use Rattle.std.proofs.Common.{◌≡◌, ◌<◌, Bool, true, false, length, refl, ap, subst, ◌∙◌, arith}
use Rattle.std.specs.Prelude.{None, not}
use Rattle.std.proofs.lemmas.Bool.{lt-leb}
use Rattle.log_records.specs.declared.limits.TheConstants.{MAX_OPEN}
use Rattle.log_rules.specs.Transactions.{open_in}
use Rattle.engine_calls.specs.declared.event.Event.TheVariants as event
use Rattle.engine_rules.specs.EngineState.{EngineState, end, next_txn}
use Rattle.engine_rules.specs.EngineView.{EngineView}
use Rattle.engine_rules.specs.Refusal.{has_no_room, refusal}
use Rattle.aries_core.proofs.engine.Engine.begin.Goals as goal

begin_none : (s : EngineState) → length (open_in s.log) < 64 → has_no_room s 3 ≡ false → refusal s event.Begin ≡ None
begin_none s few room = rw (lt-leb MAX_OPEN (length (open_in s.log)) few, room) refl

room_left : (b full : Bool) → b ≡ not full → b ≡ true → full ≡ false
room_left b true is h = cc
room_left b false is h = refl

pub append-requires-clause-called : goal.append-requires-clause-called
append-requires-clause-called g c =
    let lsn : c.end-lsn.result ≡ end c.args.self.now.state =
    c.end-lsn.ensures ∙ ap (λ (v : EngineView g.row.S.Denot g.row.D.Denot). end v.state) c.self.view_is in
    let txn : c.begin-txn.result ≡ next_txn c.args.self.now.state =
    c.begin-txn.ensures _ c.self.invariant.table_of_log
    ∙ ap (λ (v : EngineView g.row.S.Denot g.row.D.Denot). next_txn v.state) c.self.view_is in
    let few : length (open_in c.args.self.now.state.log) < 64 =
    subst (λ (v : EngineView g.row.S.Denot g.row.D.Denot). length (open_in v.state.log) < 64) c.self.view_is
    (omega (arith, c.open_txns.ensures _ c.self.invariant.table_of_log)) in
    let room : has_no_room c.args.self.now.state 3 ≡ false = room_left _ _ c.has_room.ensures c.if-not-has_room.false in
    record {
      of_transaction = tt;
      call = event.Begin;
      fits = tt;
      accepted = begin_none c.args.self.now.state few room;
      made = rw (lsn, txn) refl;
    }

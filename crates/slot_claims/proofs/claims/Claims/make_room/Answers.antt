use Rattle.std.proofs.Common.{◌∙◌, refl, sym}
use Rattle.std.proofs.lemmas.Bool.{eq-eqb, ne_eqb}
use Rattle.std.proofs.lemmas.Result.{on_err_weaker, on_ok_weaker}
use Rattle.slot_claims.specs.declared.holder_byte.Holder.TheVariants.{Adders, Nobody, One}
use Rattle.slot_claims.proofs.Holds.{on_err_from}
use Rattle.slot_claims.proofs.Rooms.{no_mark_no_room, no_set_no_room, room_alone, room_beside}
use Rattle.slot_claims.proofs.claims.Claims.make_room.Goals as goal

pub returns-in_err-make_room-clause-needed : goal.returns-in_err-make_room-clause-needed
returns-in_err-make_room-clause-needed c =
    on_err_from c.from_residual.result _
    (no_mark_no_room c.args.self.now c.args.page c.args.slot c.args.row c.in_err-make_room.ensures.needed)

pub returns-in-Nobody-clause-room : goal.returns-in-Nobody-clause-room
returns-in-Nobody-clause-room c =
    room_alone (record { marks = c.make_room.new.self; adders = c.args.self.now.adders }) c.args.page c.args.slot
    c.args.row c.in_ok-make_room.ensures.room Nobody (sym c.in-Nobody.ensures.holder) refl

pub returns-then-holder-row-clause-room : goal.returns-then-holder-row-clause-room
returns-then-holder-row-clause-room c =
    room_alone (record { marks = c.make_room.new.self; adders = c.args.self.now.adders }) c.args.page c.args.slot
    c.args.row c.in_ok-make_room.ensures.room (One c.in-One.holder c.in-One.kind) (sym c.in-One.ensures.holder)
    (eq-eqb c.in-One.holder c.args.row c.if-holder-row.true)

pub returns-else-holder-row-clause-room : goal.returns-else-holder-row-clause-room
returns-else-holder-row-clause-room c =
    on_ok_weaker c.make_room-else-holder-row.result
    (room_beside (record { marks = c.make_room.new.self; adders = c.make_room-else-holder-row.new.self }) c.args.page
    c.args.slot c.args.row c.in_ok-make_room.ensures.room) c.make_room-else-holder-row.ensures.room

pub returns-else-holder-row-clause-needed : goal.returns-else-holder-row-clause-needed
returns-else-holder-row-clause-needed c =
    on_err_weaker c.make_room-else-holder-row.result
    (no_set_no_room c.args.self.now c.args.page c.args.slot c.args.row (One c.in-One.holder c.in-One.kind)
    (sym (c.make_room.ensures.same c.args.page c.args.slot) ∙ sym c.in-One.ensures.holder)
    (ne_eqb c.in-One.holder c.args.row c.if-holder-row.false)) c.make_room-else-holder-row.ensures.needed

pub returns-in-Adders-clause-room : goal.returns-in-Adders-clause-room
returns-in-Adders-clause-room c =
    on_ok_weaker c.make_room-in-Adders.result
    (room_beside (record { marks = c.make_room.new.self; adders = c.make_room-in-Adders.new.self }) c.args.page
    c.args.slot c.args.row c.in_ok-make_room.ensures.room) c.make_room-in-Adders.ensures.room

pub returns-in-Adders-clause-needed : goal.returns-in-Adders-clause-needed
returns-in-Adders-clause-needed c =
    on_err_weaker c.make_room-in-Adders.result
    (no_set_no_room c.args.self.now c.args.page c.args.slot c.args.row Adders
    (sym (c.make_room.ensures.same c.args.page c.args.slot) ∙ sym c.in-Adders.ensures.holder) refl)
    c.make_room-in-Adders.ensures.needed

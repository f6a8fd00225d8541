use Rattle.std.proofs.Common.{◌∙◌, ◌&&◌, ap, cond, eqb, false, refl, sym, true}
use Rattle.slot_claims.specs.declared.holder_byte.Holder.TheVariants.{Adders, One}
use Rattle.slot_claims.specs.Adders.{rows_at}
use Rattle.slot_claims.specs.Marks.{holder_at}
use Rattle.slot_claims.specs.RowSet.{has_row}
use Rattle.slot_claims.proofs.Rooms.{room_marked, room_set}
use Rattle.slot_claims.proofs.Taken.{held-adders, none_beside, refused, taken_alone, taken_joined}
use Rattle.slot_claims.proofs.claims.Claims.join.Goals as goal

pub put_row-adders-requires-clause-room : goal.put_row-adders-requires-clause-room
put_row-adders-requires-clause-room c =
    room_set c.args.self.now c.args.page c.args.slot c.args.row Adders c.requires.room c.requires.held refl

pub put-requires-clause-room : goal.put-requires-clause-room
put-requires-clause-room c =
    room_marked c.args.self.now c.args.page c.args.slot c.args.row c.requires.room

pub returns-then-not-is_empty : goal.returns-then-not-is_empty
returns-then-not-is_empty c =
    let before = c.args.self.now in
    rw c.in-Set.is
    (refused before before c.args.page c.args.slot c.args.row _ Adders c.requires.held
    (held-adders (rows_at before.adders c.args.page c.args.slot) c.with.result c.args.row
    (c.is_empty.ensures.some c.if-not-is_empty.true)
    (λ other within. c.with.ensures other within
    ∙ ap (λ s. cond (eqb other c.args.row) false (has_row s other)) c.rows-adders.ensures)) (λ p s other. refl))

pub returns-in-Add : goal.returns-in-Add
returns-in-Add c =
    let before = c.args.self.now in
    let after = c.put_row-adders.new.self in
    let was = c.put_row-adders.result in
    let there = c.put_row-adders.ensures.was in
    rw (c.among.ensures, c.in-Add.is)
    (taken_joined before (record { marks = before.marks; adders = after }) c.args.page c.args.slot c.args.row was
    (rows_at after c.args.page c.args.slot) (has_row was c.args.row) c.requires.held there refl
    (λ other within. c.put_row-adders.ensures.now other within
    ∙ ap (λ s. cond (eqb other c.args.row) true (has_row s other)) (sym there))
    c.put_row-adders.ensures.put refl)

pub returns-else-not-is_empty : goal.returns-else-not-is_empty
returns-else-not-is_empty c =
    let before = c.args.self.now in
    rw (c.among-in-Set.ensures, c.in-Set.is)
    (taken_alone before (record { marks = c.put.new.self; adders = before.adders }) c.args.page c.args.slot
    c.args.row c.rows-adders.result (has_row c.rows-adders.result c.args.row) c.requires.held
    c.rows-adders.ensures refl
    (none_beside c.rows-adders.result c.with.result c.args.row
    (c.is_empty.ensures.empty.0 c.if-not-is_empty.false) c.with.ensures)
    (λ p s. c.put.ensures p s
    ∙ ap (λ k. cond (eqb c.args.page p && eqb c.args.slot s) (One c.args.row k) (holder_at before.marks p s))
    c.in-Set.is) refl)

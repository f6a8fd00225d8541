use Rattle.std.proofs.Common.{◌∙◌, ap, cond, eqb, refl, true}
use Rattle.std.proofs.lemmas.Bool.{ne_eqb}
use Rattle.page_core.specs.declared.change.ChangeKind.{ChangeKind}
use Rattle.slot_claims.specs.declared.holder_byte.Holder.TheVariants.{One}
use Rattle.slot_claims.specs.Adders.{rows_at}
use Rattle.slot_claims.specs.RowSet.{has_row}
use Rattle.slot_claims.proofs.Rooms.{room_marked, room_set}
use Rattle.slot_claims.proofs.Taken.{held-one, refused, taken_shared}
use Rattle.slot_claims.proofs.claims.Claims.share.Goals as goal

pub put-requires : goal.put-requires
put-requires c =
    room_set c.args.self.now c.args.page c.args.slot c.args.row (One c.args.holder c.args.held) c.requires.room
    c.requires.held (ne_eqb c.args.holder c.args.row c.requires.other)

pub put-requires-in-Add-Add-clause-room : goal.put-requires-in-Add-Add-clause-room
put-requires-in-Add-Add-clause-room c =
    room_marked c.args.self.now c.args.page c.args.slot c.args.row c.requires.room

pub returns-in-Add-Add : goal.returns-in-Add-Add
returns-in-Add-Add c =
    let before = c.args.self.now in
    rw (c.new.ensures, c.in-Add-Add.is-1)
    (taken_shared before (record { marks = c.put-in-Add-Add.new.self; adders = c.put.new.self }) c.args.page c.args.slot
    c.args.row c.args.holder c.with-both.result
    (c.requires.held ∙ ap (λ (k : ChangeKind). One c.args.holder k) c.in-Add-Add.is-0) c.requires.other
    (λ other within. c.with-both.ensures other within
    ∙ ap (λ s. cond (eqb other c.args.row) true (has_row s other)) c.only.ensures)
    c.put-in-Add-Add.ensures c.put.ensures)

pub returns-in_default : goal.returns-in_default
returns-in_default c =
    let before = c.args.self.now in
    refused before before c.args.page c.args.slot c.args.row c.args.kind
    (One c.args.holder c.args.held) c.requires.held
    (held-one c.args.holder c.args.row c.args.held c.args.kind (rows_at before.adders c.args.page c.args.slot)
    c.requires.holder c.requires.other (λ held adds. cc)) (λ p s other. refl)

pub returns-in_default-2 : goal.returns-in_default-2
returns-in_default-2 c =
    let before = c.args.self.now in
    refused before before c.args.page c.args.slot c.args.row c.args.kind
    (One c.args.holder c.args.held) c.requires.held
    (held-one c.args.holder c.args.row c.args.held c.args.kind (rows_at before.adders c.args.page c.args.slot)
    c.requires.holder c.requires.other (λ held adds. cc)) (λ p s other. refl)

use Rattle.std.proofs.Common.{◌+◌, ◌*◌, arith}
use Rattle.std.specs.Prelude.{vec_len}
use lib.Dec.{ltb}
use Rattle.std.proofs.lemmas.Bool.{and_from, and_left, and_right, le-ltb, lt-ltb}
use Rattle.std.proofs.lemmas.Result.{on_ok_weaker}
use Rattle.slot_claims.specs.Marks.{has_mark}
use Rattle.slot_claims.proofs.Holds.{on_err_from}
use Rattle.slot_claims.proofs.marks.Marks.make_room.Goals as goal

pub returns-then-slot-ge-SLOTS-clause-needed : goal.returns-then-slot-ge-SLOTS-clause-needed
unfolding has_mark
returns-then-slot-ge-SLOTS-clause-needed c =
    let same = c.slot.view_is in
    and_left _ _ (le-ltb c.args.slot 62 (omega arith))

pub returns-then-place_of-len-clause-room : goal.returns-then-place_of-len-clause-room
unfolding has_mark
returns-then-place_of-len-clause-room c =
    let same = c.slot.view_is in
    and_from _ _ (lt-ltb c.args.slot 62 (omega arith)) (lt-ltb _ _ (omega arith))

pub returns-clause-room : goal.returns-clause-room
unfolding has_mark
returns-clause-room c =
    let same = c.slot.view_is in
    on_ok_weaker c.make_page.result
    (λ long. and_from _ _ (lt-ltb c.args.slot 62 (omega arith)) (lt-ltb _ _ (omega (arith, long))))
    c.make_page.ensures.ok

pub returns-clause-needed : goal.returns-clause-needed
unfolding has_mark
returns-clause-needed c =
    let marks = c.args.self.now.marks in
    on_err_from c.make_page.result _
    (and_right (ltb c.args.slot 62) _ (le-ltb (62 * c.args.page + c.args.slot) (vec_len marks) (omega (arith, marks.ok.0))))

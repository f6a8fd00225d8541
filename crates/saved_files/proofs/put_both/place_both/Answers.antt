use Rattle.saved_files.proofs.PutsBoth.{first_left, first_placed, second_left}
use Rattle.saved_files.proofs.put_both.place_both.Goals as goal

pub returns-in-Err-place-clause-first_left : goal.returns-in-Err-place-clause-first_left
returns-in-Err-place-clause-first_left g c =
    rw c.of.ensures
    (first_left _ _ _ _ c.in-Err-place.fault _ _ _ c.in_default.ensures.first c.in-Err-place.ensures.left)

pub returns-in-Err-place-2-clause-first_left : goal.returns-in-Err-place-2-clause-first_left
returns-in-Err-place-2-clause-first_left g c =
    rw c.of-in-Err-place-2.ensures
    (first_placed _ _ _ _ c.in-Err-place-2.fault _ _ _ c.in_default.ensures.first c.in_default-place.ensures.placed)

pub returns-in-Err-place-2-clause-second_left : goal.returns-in-Err-place-2-clause-second_left
returns-in-Err-place-2-clause-second_left g c =
    rw c.of-in-Err-place-2.ensures
    (second_left _ _ _ _ c.in-Err-place-2.fault _ _ _ c.in_default.ensures.second c.in-Err-place-2.ensures.left)

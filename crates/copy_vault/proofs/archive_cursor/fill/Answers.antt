use Rattle.std.proofs.Common.{◌≡◌, [], take, subst, arith}
use Rattle.std.specs.Io.KnownBytes.{Consumes}
use Rattle.std.proofs.lemmas.List.{length-take, take_all}
use Rattle.copy_vault.proofs.archive_cursor.fill.Goals as goal

pub loop-filled-preserved : goal.loop-filled-preserved
loop-filled-preserved g c = record {
  within = c.in-More.ensures.0;
  given = c.in-More.ensures.1 _ [] c.loop-filled.invariant.given;
}

pub returns-in-End-clause-part : goal.returns-in-End-clause-part
returns-in-End-clause-part g c = λ less. (
  take c.loop-filled.filled c.loop-filled.buffer,
  (
    c.in-End.ensures.1 _ [] c.loop-filled.invariant.given,
    omega (arith, length-take c.loop-filled.filled c.loop-filled.buffer, less),
    c.in-End.ensures.0,
  ),
)

pub returns-in-Failed-clause-err : goal.returns-in-Failed-clause-err
returns-in-Failed-clause-err g c = (
  take c.loop-filled.filled c.loop-filled.buffer,
  (
    c.in-Failed.ensures _ [] c.loop-filled.invariant.given,
    (let less = c.loop-filled-test.true in
        omega (arith, less, length-take c.loop-filled.filled c.loop-filled.buffer)),
  ),
)

pub returns-clause-whole : goal.returns-clause-whole
returns-clause-whole g c = λ all.
    let same : take c.loop-filled.filled c.loop-filled.buffer ≡ c.loop-filled.buffer =
    take_all c.loop-filled.filled c.loop-filled.buffer (omega (arith, all)) in
    subst (Consumes _ _) same c.loop-filled.invariant.given

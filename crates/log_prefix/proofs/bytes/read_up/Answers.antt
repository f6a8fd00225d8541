use Rattle.std.proofs.Common.{◌++◌, take, arith, inl, inr}
use Rattle.std.proofs.KnownBytes.{Consumes-trans}
use Rattle.std.proofs.lemmas.List.{length-append, length-take}
use Rattle.log_prefix.proofs.Pieces.{took, took_none}
use Rattle.log_prefix.proofs.bytes.read_up.Goals as goal

pub returns-in-End-clause-known : goal.returns-in-End-clause-known
returns-in-End-clause-known g c =
    let so_far = c.loop.invariant in
    (so_far.0, took_none _ _ _ so_far.0 c.loop.piece.items c.in-End.ensures.1 so_far.1)

pub returns-in-End-clause-up : goal.returns-in-End-clause-up
returns-in-End-clause-up g c = λ start given consumed read.
    let so_far = c.loop.invariant in (
      given ++ so_far.0,
      (
        Consumes-trans _ _ _ given so_far.0 consumed
            (took_none _ _ _ so_far.0 c.loop.piece.items c.in-End.ensures.1 so_far.1),
        inl c.in-End.ensures.0,
      ),
    )

pub returns-in-Failed-clause-known : goal.returns-in-Failed-clause-known
returns-in-Failed-clause-known g c =
    let so_far = c.loop.invariant in
    (so_far.0, took_none _ _ _ so_far.0 c.loop.piece.items c.in-Failed.ensures so_far.1)

pub returns-then-seen-clause-known : goal.returns-then-seen-clause-known
returns-then-seen-clause-known g c =
    let so_far = c.loop.invariant in (
      so_far.0 ++ take c.in-More.count c.read_more.new.buffer,
      took _ _ _ so_far.0 c.loop.piece.items c.read_more.new.buffer c.in-More.count c.in-More.ensures.1 so_far.1,
    )

pub returns-then-seen-clause-up : goal.returns-then-seen-clause-up
returns-then-seen-clause-up g c = λ start given consumed read.
    let so_far = c.loop.invariant in
    let buffer = c.read_more.new.buffer in
    let more = so_far.0 ++ take c.in-More.count buffer in
    let sum = c.saturating_add-seen.ensures in
    let past = c.if-seen.true in (
      given ++ more,
      (
        Consumes-trans _ _ _ given more consumed
            (took _ _ _ so_far.0 c.loop.piece.items buffer c.in-More.count c.in-More.ensures.1 so_far.1),
        inr (omega (
          arith,
          read,
          so_far.2,
          c.in-More.ensures.0,
          length-append given more,
          length-append so_far.0 (take c.in-More.count buffer),
          length-take c.in-More.count buffer,
        )),
      ),
    )

pub loop-preserved : goal.loop-preserved
loop-preserved g c =
    let so_far = c.loop.invariant in
    let buffer = c.read_more.new.buffer in
    let sum = c.saturating_add-seen.ensures in (
      so_far.0 ++ take c.in-More.count buffer,
      took _ _ _ so_far.0 c.loop.piece.items buffer c.in-More.count c.in-More.ensures.1 so_far.1,
      omega (
        arith,
        so_far.2,
        c.in-More.ensures.0,
        length-append so_far.0 (take c.in-More.count buffer),
        length-take c.in-More.count buffer,
      ),
    )

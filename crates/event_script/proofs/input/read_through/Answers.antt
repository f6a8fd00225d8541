use Rattle.std.proofs.Common.{◌≡◌, ◌++◌, ◌+◌, ℕ, length, take, sym, subst, ap, ◌∙◌, arith}
use Rattle.std.specs.Io.KnownBytes.{Consumes}
use Rattle.std.proofs.lemmas.List.{append-nil, length-append, length-take}
use Rattle.event_script.proofs.Inputs.{too_long}
use Rattle.event_script.proofs.input.read_through.Goals as goal

pub returns-in-End-clause-found : goal.returns-in-End-clause-found
returns-in-End-clause-found g c =
    let items = c.loop.input.items in (
      subst (Consumes _ _) (append-nil items)
          (c.in-End.ensures.1 _ items (subst (Consumes _ _) (sym (append-nil items)) c.loop.invariant.given)),
      c.in-End.ensures.0,
    )

pub loop-preserved : goal.loop-preserved
loop-preserved g c =
    let items = c.loop.input.items in
    let count = c.in-More.count in
    let read = take (0 + count) c.read_more.new.buffer in
    let counted : 0 + count ≡ count = omega arith in
    let more : items ++ read ≡ c.extend_from_slice.new.self.items =
    ap (λ (k : ℕ). items ++ take k c.read_more.new.buffer) counted
    ∙ sym c.in_ok-extend_from_slice-in-More.ensures.items in
    record {
      short = omega (
        arith,
        ap length more,
        length-append items read,
        length-take (0 + count) c.read_more.new.buffer,
        c.len.ensures,
      );
      given = subst (Consumes _ _) more
          (c.in-More.ensures.1 _ items (subst (Consumes _ _) (sym (append-nil items)) c.loop.invariant.given));
    }

pub returns-then-count-len-clause-first : goal.returns-then-count-len-clause-first
returns-then-count-len-clause-first g c =
    let items = c.loop.input.items in
    let buffer = c.read_more.new.buffer in
    let read = take (0 + c.in-More.count) buffer in
    too_long _ _ (items ++ read)
    (c.in-More.ensures.1 _ items (subst (Consumes _ _) (sym (append-nil items)) c.loop.invariant.given))
    (omega (
      arith,
      length-append items read,
      length-take (0 + c.in-More.count) buffer,
      c.in-More.ensures.0,
      c.len.ensures,
      c.if-count-len.true,
    ))

pub returns-in-Failed-clause-unread : goal.returns-in-Failed-clause-unread
returns-in-Failed-clause-unread g c =
    let items = c.loop.input.items in (
      items,
      subst (Consumes _ _) (append-nil items)
          (c.in-Failed.ensures _ items (subst (Consumes _ _) (sym (append-nil items)) c.loop.invariant.given)),
      c.loop.invariant.short,
    )

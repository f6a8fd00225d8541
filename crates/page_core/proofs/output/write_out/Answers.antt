use Rattle.std.proofs.Common.{◌≡◌, ◌+◌, ◌-◌, ◌++◌, ℕ, List, length, take, drop, sym, ap, subst, ◌∙◌, arith}
use Rattle.std.specs.Io.KnownBytes.{Appends}
use Rattle.std.proofs.KnownBytes.{Appends-trans}
use Rattle.std.proofs.lemmas.List.{take-append-drop, take-take, drop-take, take_all, length-drop, length-take}
use Rattle.page_core.proofs.output.write_out.Goals as goal

-- the first bytes and those after them
further : (xs : List ℕ) (d n : ℕ) → take d xs ++ take n (take (length xs - d) (drop d xs)) ≡ take (d + n) xs
further xs d n =
    let rest : take (length xs - d) (drop d xs) ≡ drop d xs =
    take_all (length xs - d) (drop d xs) (omega (arith, length-drop d xs)) in
    ap (λ (ys : List ℕ). take d xs ++ take n ys) rest ∙ ap (λ (ys : List ℕ). take d xs ++ ys) (sym (drop-take d n xs))
    ∙ ap (λ (ys : List ℕ). ys ++ drop d (take (d + n) xs)) (sym (take-take d (d + n) xs (omega arith)))
    ∙ take-append-drop d (take (d + n) xs)

pub loop-done-preserved-in-Ok : goal.loop-done-preserved-in-Ok
loop-done-preserved-in-Ok g c = record {
  within = let bound = c.in-Ok.ensures.bound in
      omega (
        arith,
        bound,
        length-take (length c.args.bytes.now - c.loop-done.done)
            (drop c.loop-done.done c.args.bytes.now),
      );
  few = omega arith;
  written = subst (Appends _ _) (further c.args.bytes.now c.loop-done.done c.in-Ok.count)
      (Appends-trans _ _ _
      (take c.loop-done.done c.args.bytes.now) _ c.loop-done.invariant.written c.in-Ok.ensures.bytes);
}

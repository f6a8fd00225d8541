use Rattle.std.proofs.Common.{◌+◌, ◌-◌, ◌<◌, length, take, drop, sym, ◌∙◌, arith}
use Rattle.std.proofs.lemmas.List.{same_lists, length-take, length-drop, get_or-take, get_or-drop, get_or_default}
use Rattle.page_core.proofs.input.keep_from.Goals as goal

pub returns-clause-rest : goal.returns-clause-rest
returns-clause-rest c =
    let n = c.args.filled in
    let w = c.args.from in
    let old = c.args.buffer.now in
    let new = c.loop-i.buffer in
    let fits = c.requires.filled in
    same_lists (take (n - w) new) (drop w (take n old))
    (omega (arith, length-take (n - w) new, length-drop w (take n old), length-take n old))
    (λ k d lt.
    let below : k < n - w = omega (arith, length-take (n - w) new) in
    let inside : k < length new = omega (arith, length-take (n - w) new) in
    let there : w + k < length old = omega arith in
    get_or-take (n - w) new k d below ∙ get_or_default new k d 0 inside ∙ c.loop-i.invariant.moved k (omega arith)
    ∙ get_or_default old (w + k) 0 d there
    ∙ sym (get_or-drop w (take n old) k d ∙ get_or-take n old (w + k) d (omega arith)))

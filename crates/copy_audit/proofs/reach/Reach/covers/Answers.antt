use Rattle.std.proofs.Common.{◌∙◌, ap, sym, arith}
use Rattle.std.proofs.lemmas.Bool.{le-leb, leb-true}
use Rattle.copy_audit.specs.declared.reach.Reach.{Reach}
use Rattle.copy_audit.proofs.reach.Reach.covers.Goals as goal

pub returns-then-self : goal.returns-then-self
returns-then-self c = λ rs number page reach.
    let to = reach c.args.bound (omega (arith, c.bound.view_is)) in
    let last = ap (λ (it : Reach). it.last) c.self.view_is in
    let past = ap (λ (it : Reach). it.is_past) c.self.view_is in (
      λ test. to.1 (sym past ∙ c.if-self.true, omega (arith, leb-true c.bound.inside.0 c.self.inside.0.1.0.0 test, c.bound.view_is, last)),
      λ covers. le-leb c.bound.inside.0 c.self.inside.0.1.0.0 (omega (arith, (to.0 covers).1, c.bound.view_is, last)),
    )

use Rattle.std.proofs.Common.{ℕ, ◌≡◌, [], ◌∷◌, ◌++◌, sym, ap, ◌∙◌}
use Rattle.std.proofs.lemmas.List.{nil_from_length}
use Rattle.event_script.specs.Words.{without_return}
use Rattle.event_script.proofs.Lines.{dropped_return, kept_return}
use Rattle.event_script.proofs.words.before_return.Goals as goal

pub returns-then-last-eq13 : goal.returns-then-last-eq13
returns-then-last-eq13 c = sym (dropped_return c.args.line.now c.in-Some.text.now
    (c.in-Some.ensures.cases.0 ∙ ap (λ (b : ℕ). c.in-Some.text.now ++ (b ∷ [])) c.if-last-eq13.true))

pub returns-else-last-eq13 : goal.returns-else-last-eq13
returns-else-last-eq13 c =
    sym (kept_return c.args.line.now c.in-Some.text.now c.in-Some.last.now c.in-Some.ensures.cases.0
    c.if-last-eq13.false)

pub returns-in-None : goal.returns-in-None
returns-in-None c =
    let line = c.args.line.now in
    let e : line ≡ [] = nil_from_length line c.in-None.ensures.cases in
    e ∙ sym (ap without_return e)

use Rattle.std.proofs.Common.{ap, ◌++◌, ◌∙◌}
use Rattle.std.specs.Prelude.{None, Some}
use Rattle.std.proofs.lemmas.Bool.{false≢true}
use Rattle.std.proofs.lemmas.Bool.Decides.{Decides-eqb}
use Rattle.std.proofs.lemmas.Slice.Eq.{strip_prefix_is}
use Rattle.file_outputs.proofs.UnfinishedNames.{beside_is, beside_none}
use Rattle.file_outputs.proofs.leftovers.is_beside.Goals as goal

pub returns-in_default : goal.returns-in_default
returns-in_default c =
    let none = strip_prefix_is Decides-eqb c.args.left.now c.args.name.now None c.in_default.ensures.cases in (
      (λ yes. absurd (false≢true yes)),
      λ of. absurd (beside_none c.args.name.now c.args.left.now none of),
    )

pub returns-in-Some-strip_prefix : goal.returns-in-Some-strip_prefix
returns-in-Some-strip_prefix c =
    let cut = strip_prefix_is Decides-eqb c.args.left.now c.args.name.now (Some c.in-Some.rest) c.in-Some.ensures.cases in
    let mark = strip_prefix_is Decides-eqb c.in-Some.rest.now c.as_bytes.result.now (Some c.in-Some-strip_prefix.digits) c.in-Some-strip_prefix.ensures.cases in
    beside_is c.args.name.now c.args.left.now c.in-Some.rest.now c.in-Some-strip_prefix.digits.now c.are_digits.result cut
    (mark ∙ ap (λ it. it ++ c.in-Some-strip_prefix.digits.now) c.as_bytes.ensures.value) c.are_digits.ensures

use Rattle.std.proofs.Common.{drop, sym, ◌∙◌}
use Rattle.std.proofs.lemmas.List.{take-append-drop}
use Rattle.imgcopy.proofs.strict.Kept.given.Goals as goal

pub returns-in-Some-clause-front : goal.returns-in-Some-clause-front
returns-in-Some-clause-front g c = record {
  rest = drop c.in-Some.end c.as_slice-bytes.result.now;
  spelled = sym c.as_slice-bytes.ensures.value ∙ sym (take-append-drop c.in-Some.end c.as_slice-bytes.result.now);
}

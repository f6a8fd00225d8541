use Rattle.std.proofs.Common.{arith, sym, ◌∙◌}
use Rattle.std.proofs.lemmas.Bool.Decides.{Decides-eqb}
use Rattle.std.proofs.lemmas.Slice.Eq.{slice_eq-Decides}
use Rattle.session_lines.proofs.operator_command.trouble_of.Goals as goal

pub returns-then-eq : goal.returns-then-eq
returns-then-eq c =
    let decides = slice_eq-Decides Decides-eqb c.args.first.now c.as_slice.result.now c.eq.result c.eq.ensures in
    ((2, omega arith, sym (decides.0 c.if-eq.true ∙ c.as_slice.ensures)), λ line begins. begins)

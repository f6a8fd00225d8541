use Rattle.std.proofs.Common.{arith}
use Rattle.std.proofs.lemmas.Grind.{common_steps}
use Rattle.file_inputs.proofs.PathParts.{cut_at_slash}
use Rattle.file_inputs.proofs.paths.parts_of.Goals.{in-None, in-Some, then-is_empty, else-is_empty}
use Rattle.file_inputs.proofs.paths.parts_of.Goals as goal

pub returns-then-leads_to_folder : goal.returns-then-leads_to_folder
returns-then-leads_to_folder c =
    let cut = cut_at_slash c.args.path.now c.rsplit_once.result c.rsplit_once.ensures.cases in
    elim c.match-rsplit_once.branch [
      | in-None w ↦ grind (arith, common_steps, cut)
      | in-Some w ↦ elim w.if-is_empty.branch [
        | then-is_empty w' ↦ grind (arith, common_steps, cut)
        | else-is_empty w' ↦ grind (arith, common_steps, cut)
      ]
    ]

pub returns-else-leads_to_folder : goal.returns-else-leads_to_folder
returns-else-leads_to_folder c =
    let cut = cut_at_slash c.args.path.now c.rsplit_once.result c.rsplit_once.ensures.cases in
    elim c.match-rsplit_once.branch [
      | in-None w ↦ grind (arith, common_steps, cut)
      | in-Some w ↦ elim w.if-is_empty.branch [
        | then-is_empty w' ↦ grind (arith, common_steps, cut)
        | else-is_empty w' ↦ grind (arith, common_steps, cut)
      ]
    ]

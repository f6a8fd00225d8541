use Rattle.std.proofs.Common.{◌++◌, ◌∙◌, List, ℕ, ap, drop, sym, take}
use Rattle.std.proofs.lemmas.List.{take-append-drop}
use Rattle.database_files.proofs.names.is_unfinished.Goals as goal

pub returns-then-is_some : goal.returns-then-is_some
returns-then-is_some c is =
    let name = c.args.name.now in
    let split = c.in-Some.ensures.cases in (
      take split.0 name,
      drop split.1 name,
      sym (take-append-drop split.0 name) ∙ ap (λ (it : List ℕ). take split.0 name ++ it) split.2.1.split,
    )

use Rattle.std.proofs.Common.{◌≡◌, ◌∙◌, rules, subst, sym, true}
use Rattle.std.specs.Prelude.{IfSome, IsSome, Option}
use Rattle.manifest.specs.Entries.{Listed}
use Rattle.database_files.specs.Kept.{KeepsFoundLines}
use Rattle.database_files.proofs.KeptLines.{found_lines}
use Rattle.database_files.proofs.kept_manifest.KeptManifest.begin.Goals as goal
use Rattle.database_files.proofs.kept_manifest.KeptManifest.begin.Goals.{else-is_none, then-is_none}

pub returns-clause-lines : goal.returns-clause-lines
returns-clause-lines g c =
    let entries = g.F.Folder.entries c.args.folder.now in
    let sums = c.args.found.1 in
    let lines = c.in_ok-manifest.manifest.entries in
    let is : IsSome sums → c.if-is_none.is_of_this ≡ true = λ some. elim c.if-is_none.branch [
      | then-is_none w ↦ w.is_of_this-is ∙ w.if-is_none.true
      | else-is_none w ↦ search (rules, some)
    ] in
    subst (λ (found : Option Listed). IfSome found (λ old. KeepsFoundLines entries sums old.entries lines))
    (sym c.in-Some.is)
    (found_lines entries sums c.if-is_none.is_of_this c.in-Some.it.entries lines is c.in_ok-manifest.ensures.kept)

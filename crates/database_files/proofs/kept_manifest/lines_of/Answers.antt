use Rattle.std.proofs.Common.{ap, Bool, false, List, subst, sym}
use Rattle.manifest.specs.Entries.{Listed, Noted}
use Rattle.database_files.specs.Kept.{KeepsLinesOf}
use Rattle.database_files.proofs.KeptLines.{lines_of_another, lines_of_this}
use Rattle.database_files.proofs.kept_manifest.lines_of.Goals as goal

pub returns-then-is_of_this-clause-kept : goal.returns-then-is_of_this-clause-kept
returns-then-is_of_this-clause-kept g c =
    let entries = g.F.Folder.entries c.args.folder.now in
    subst (λ (is : Bool). KeepsLinesOf entries is c.args.manifest.entries c.in_ok-manifest.manifest.entries)
    (sym c.if-is_of_this.true)
    (lines_of_this entries c.args.manifest.entries c.in_ok-manifest.manifest.entries
    c.in_ok-manifest.ensures.kept)

pub returns-clause-kept : goal.returns-clause-kept
returns-clause-kept g c =
    let entries = g.F.Folder.entries c.args.folder.now in
    let old = c.args.manifest.entries in
    subst (λ (is : Bool). KeepsLinesOf entries is old c.remove.new.self.entries) (sym c.if-is_of_this.false)
    (subst (λ (lines : List Noted). KeepsLinesOf entries false old lines)
    (sym (ap (λ (it : Listed). it.entries) c.remove.ensures))
    (lines_of_another entries old c.in_ok-manifest.manifest.entries c.in_ok-manifest.ensures.kept))

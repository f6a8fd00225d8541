use Rattle.std.proofs.Common.{◌≡◌, ◌∙◌, ap, false, List, ℕ, string_bytes, subst, sym}
use Rattle.std.specs.Prelude.{IfSome, Option, Some}
use Rattle.manifest.specs.Entries.{Listed, Noted}
use Rattle.database_files.specs.DatabaseFolder.{Tells}
use Rattle.database_files.specs.Kept.{KeepsLines}
use Rattle.database_files.proofs.KeptLines.{lines_without}
use Rattle.database_files.proofs.kept_manifest.without_lost.Goals as goal

the_value : {X : Type 0} (o : Option X) (x : X) (P : X → Type 0) → o ≡ Some x → IfSome o P → P x
the_value {X} o x P is fact = subst (λ (it : Option X). IfSome it P) is fact

pub loop-preserved : goal.loop-preserved
loop-preserved g c =
    let entries = g.F.Folder.entries c.args.folder.now in
    let begun = c.args.manifest.entries in
    let old = c.loop.manifest.entries in
    let name = c.as_str-text.result.now in
    let gone = the_value c.in_ok-name.field-0 c.in-Some.name (λ it. Tells entries (string_bytes it) false) c.in-Some.is
    c.in_ok-name.ensures in (
      ap (λ (it : Listed). it.database) c.remove.ensures ∙ c.loop.invariant.0,
      subst (λ (lines : List Noted). KeepsLines entries begun lines)
          (sym (ap (λ (it : Listed). it.entries) c.remove.ensures))
          (lines_without entries name begun old
          (subst (λ (n : List ℕ). Tells entries n false) (sym c.as_str-text.ensures.value) gone) c.loop.invariant.1),
    )

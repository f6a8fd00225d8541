use Rattle.std.proofs.Common.{◌≡◌, [], List, rules, subst}
use Rattle.std.specs.Prelude.{IsTrue}
use Rattle.std.specs.List.{All}
use Rattle.file_view.specs.declared.copy_header.CopyHeader.{CopyHeader}
use Rattle.folder_reports.proofs.Sounds.{with_copies}
use Rattle.folder_reports.specs.Sound.{IsAudited}
use Rattle.folder_reports.proofs.verify.copies_are_sound.Goals as goal
use Rattle.folder_reports.proofs.verify.copies_are_sound.Goals.{else-are_all, else-is_right, then-are_all, then-is_right}

pub returns : goal.returns
returns g c = λ yes.
    let entries = g.F.DatabaseFiles.entries c.args.folder.now in
    let headers = c.in_ok-headers.headers.items in
    let some : headers ≡ [] → ⊥ = search rules in
    let facts : IsTrue c.in_ok-headers.are_all × IsTrue c.in_ok-is_right.is_right × IsTrue c.in_ok-are_sound.are_sound =
    elim c.if-is_right.branch [
      | then-is_right w ↦ elim c.if-are_all.branch [
        | then-are_all v ↦ search rules
        | else-are_all v ↦ search rules
      ]
      | else-is_right w ↦ search rules
    ] in
    with_copies entries c.args.ids.now headers (c.in_ok-headers.ensures facts.0) some (c.in_ok-is_right.ensures facts.1)
    (subst (λ (them : List CopyHeader). All (λ it. IsAudited entries it.id) them) c.deref.ensures.value
    (c.in_ok-are_sound.ensures facts.2))

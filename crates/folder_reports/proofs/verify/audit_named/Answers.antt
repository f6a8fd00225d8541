use Rattle.std.proofs.Common.{◌≡◌, ◌∙◌, List, ℕ, ap, map, subst}
use Rattle.std.specs.Prelude.{codes, OnOk, Option, string_bytes}
use Rattle.std.proofs.lemmas.List.{take_all}
use Rattle.copy_audit.specs.Audited.{AreAudited}
use Rattle.folder_reports.proofs.Sounds.{same_by}
use Rattle.folder_reports.specs.Reading.{bytes_in}
use Rattle.folder_reports.proofs.verify.audit_named.Goals as goal

pub returns : goal.returns
returns g c =
    let entries = g.F.DatabaseFiles.entries c.args.folder.now in
    let names : map (λ name. name.now) c.loop-name.archives.items ≡ map string_bytes c.args.names.now =
    c.loop-name.invariant ∙ ap (map string_bytes) (take_all c.loop-name.name-index c.args.names.now c.loop-name-test.false) in
    let same : map (λ name. bytes_in entries name.now) c.deref.result.now
    ≡ map (λ name. bytes_in entries (string_bytes name)) c.args.names.now =
    ap (map (λ name. bytes_in entries name.now)) c.deref.ensures.value
    ∙ same_by (bytes_in entries) (λ name. name.now) string_bytes c.loop-name.archives.items c.args.names.now names in
    subst (λ (archives : List (Option (List ℕ))). OnOk c.audit_files.result
    (AreAudited (bytes_in entries (codes "log")) archives)) same c.audit_files.ensures.sound

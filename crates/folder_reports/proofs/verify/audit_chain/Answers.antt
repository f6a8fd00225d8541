use Rattle.std.proofs.Common.{◌≡◌, ◌∙◌, List, ℕ, ap, map, subst}
use Rattle.std.specs.Prelude.{codes, IfOk, OnOk, Option, string_bytes}
use Rattle.copy_audit.specs.Audited.{AreAudited}
use Rattle.saved_files.specs.Saved.{name_of}
use Rattle.saved_files.specs.declared.saved_name.SavedName.TheVariants.{Copy}
use Rattle.folder_reports.proofs.Sounds.{same_by}
use Rattle.folder_reports.specs.Reading.{bytes_in}
use Rattle.folder_reports.specs.Sound.{archives_of}
use Rattle.folder_reports.proofs.verify.audit_chain.Goals as goal

pub returns : goal.returns
returns g c =
    let entries = g.F.DatabaseFiles.entries c.args.folder.now in
    let same : map (λ name. bytes_in entries (string_bytes name)) c.deref.result.now
    ≡ archives_of entries c.args.chain.now =
    ap (map (λ name. bytes_in entries (string_bytes name))) c.deref.ensures.value
    ∙ same_by (bytes_in entries) string_bytes (λ id. name_of (Copy id)) c.in_ok-names.names.items c.args.chain.now
    c.in_ok-names.ensures in
    subst (λ (archives : List (Option (List ℕ))). IfOk c.audit_named.result (λ it. OnOk it
    (AreAudited (bytes_in entries (codes "log")) archives))) same c.audit_named.ensures

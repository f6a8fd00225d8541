use Rattle.std.proofs.Common.{◌<◌, ap, subst, ◌∙◌}
use Rattle.std.specs.Prelude.{IfSome}
use Rattle.std.specs.List.{All}
use Rattle.log_prefix.specs.Front.{end_of}
use Rattle.database_files.specs.Evidence.{Weighs, IsBegunIn, IsBy, IsByManifest, IsFileWithin, IsOfLongerCopy}
use Rattle.database_files.specs.declared.evidence.Witness.TheVariants as witness
use Rattle.database_files.specs.Master.{spelled}
use Rattle.database_files.proofs.Public.{weighed_all}
use Rattle.database_opening.proofs.restarted.evidence_of.Goals as goal

pub returns : goal.returns
returns c =
    let others = c.args.others.now in
    let bytes = c.args.bytes.now in
    let e0 = c.new-evidence.result.end in
    let e = c.weigh_note.new.self.end in
    let e1 = c.weigh_manifest.new.self.end in
    let e2 = c.weigh_master.new.self.end in
    let e3 = c.weigh_copies.new.self.end in
    let noted = c.weigh_note.new.self.claims.items in
    let c1 = c.weigh_manifest.new.self.claims.items in
    let c2 = c.weigh_master.new.self.claims.items in
    let c3 = c.weigh_copies.new.self.claims.items in
    weighed_all (end_of c.args.front.now.log) e0 e e1 e2 e3 (IsBy witness.Closed) IsByManifest (IsBy witness.Master)
    (IsOfLongerCopy e2 others.copies.items) (IsBy witness.Record) c.new-evidence.result.claims.items noted c1 c2 c3
    c.weigh_bytes_behind.new.self.claims.items others.note others.manifest (spelled others.master) others.copies.items bytes
    (c.new-evidence.ensures.end ∙ c.end.ensures ∙ ap end_of c.log.ensures.log)
    c.weigh_note.ensures.end c.weigh_manifest.ensures.end c.weigh_master.ensures.end c.weigh_copies.ensures.end
    c.new-evidence.ensures.claims c.in_ok-weigh_note.ensures.weighed
    (subst (λ line. Weighs IsByManifest noted c1 (IfSome line (IsBegunIn e bytes))) c.log_line.ensures
    c.in_ok-sums.ensures.weighed)
    (subst (λ master. Weighs (IsBy witness.Master) c1 c2 (IfSome master (λ it. it.end < e1))) c.spelled.ensures
    c.in_ok-weigh_master.ensures.weighed)
    (subst (λ files. Weighs (IsOfLongerCopy e2 files) c2 c3 (All (IsFileWithin e2) files)) c.deref.ensures.value
    c.in_ok-weigh_copies.ensures.weighed)
    c.in_ok-weigh_bytes_behind.ensures.weighed

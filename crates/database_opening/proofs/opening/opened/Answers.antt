use Rattle.database_opening.proofs.LogThere.{handed_in, manifest_in, opened_in}
use Rattle.database_opening.specs.Opened.{len_of}
use Rattle.database_opening.proofs.OldVolumes.{volume_in}
use Rattle.database_files.specs.Refused.{IsRefusal}
use Rattle.database_files.proofs.Public.{refused_in}
use Rattle.database_files.proofs.Public.{puts_more, puts_none}
use Rattle.database_files.proofs.Public.{keeps_more, keeps_same}
use Rattle.database_opening.proofs.opening.opened.Goals as goal

pub returns-clause-begins : goal.returns-clause-begins
returns-clause-begins g c =
    opened_in c.open_from.result (λ it. it.first) (λ it. it.engine.state) (g.F.Folder.entries c.args.folder.now)
    (g.F.Folder.entries c.claim_or_wait.new.self) c.args.call.now.salvage (len_of c.in_ok-log.log) c.in_ok-there.there.copies.items
    c.args.call.now.pages c.args.call.now.frames c.claim_or_wait.ensures.same c.open_from.ensures.begins

pub returns-clause-handed : goal.returns-clause-handed
returns-clause-handed g c =
    handed_in c.open_from.result (λ it. it.first) (λ it. it.engine.state) (λ it. it.unread.items) (λ it. it.point)
    (λ it. it.is_master_wrong)
    (g.F.Folder.entries c.args.folder.now) (g.F.Folder.entries c.claim_or_wait.new.self) c.args.call.now.salvage
    c.claim_or_wait.ensures.same c.open_from.ensures.handed

pub returns-clause-kept : goal.returns-clause-kept
returns-clause-kept g c = λ told.
    let first = g.F.Folder.entries c.args.folder.now in
    let claimed = g.F.Folder.entries c.claim_or_wait.new.self in
    let last = g.F.Folder.entries c.open_from.new.folder in
    keeps_more first claimed last (keeps_same first claimed c.claim_or_wait.ensures.same) (c.open_from.ensures.kept told)

pub returns-clause-stays : goal.returns-clause-stays
returns-clause-stays g c =
    let first = g.F.Folder.entries c.args.folder.now in
    let claimed = g.F.Folder.entries c.claim_or_wait.new.self in
    puts_more first claimed (g.F.Folder.entries c.open_from.new.folder)
    (puts_none first claimed (keeps_same first claimed c.claim_or_wait.ensures.same)) c.open_from.ensures.stays

pub returns-clause-refused : goal.returns-clause-refused
returns-clause-refused g c =
    refused_in c.open_from.result IsRefusal (g.F.Folder.entries c.args.folder.now)
    (g.F.Folder.entries c.claim_or_wait.new.self) (g.F.Folder.entries c.open_from.new.folder)
    c.claim_or_wait.ensures.same c.open_from.ensures.refused

pub returns-clause-manifest : goal.returns-clause-manifest
returns-clause-manifest g c =
    manifest_in c.open_from.result (λ it. it.manifest) (g.F.Folder.entries c.args.folder.now)
    (g.F.Folder.entries c.claim_or_wait.new.self) c.claim_or_wait.ensures.same c.open_from.ensures.manifest

pub returns-clause-volume : goal.returns-clause-volume
returns-clause-volume g c =
    volume_in c.open_from.result (λ it. it.first) c.args.call.now.salvage (g.F.Folder.entries c.args.folder.now)
    (g.F.Folder.entries c.claim_or_wait.new.self) (g.F.Folder.entries c.open_from.new.folder)
    c.claim_or_wait.ensures.same c.open_from.ensures.volume

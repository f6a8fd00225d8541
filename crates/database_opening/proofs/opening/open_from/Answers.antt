use Rattle.std.proofs.Common.{subst, sym}
use Rattle.std.specs.Prelude.{IfOk}
use Rattle.database_files.specs.DatabaseFolder.{OpensLog}
use Rattle.database_opening.specs.Opened.{Begins, len_of}
use Rattle.database_opening.proofs.LogThere.{headless_anew}
use Rattle.database_opening.proofs.OldVolumes.{of_new, of_resumed}
use Rattle.database_files.proofs.Public.{puts_none}
use Rattle.database_opening.proofs.opening.open_from.Goals as goal

pub returns-in_default-clause-stays : goal.returns-in_default-clause-stays
returns-in_default-clause-stays g c =
    puts_none (g.F.Folder.entries c.args.folder.now) (g.F.Folder.entries c.begun.new.folder) c.begun.ensures.kept

pub returns-in-Ok-true-clause-stays : goal.returns-in-Ok-true-clause-stays
returns-in-Ok-true-clause-stays g c =
    puts_none (g.F.Folder.entries c.args.folder.now) (g.F.Folder.entries c.begun-in-Ok-true.new.folder)
    c.begun-in-Ok-true.ensures.kept

pub returns-in-Ok-true-clause-begins : goal.returns-in-Ok-true-clause-begins
returns-in-Ok-true-clause-begins g c =
    let entries = g.F.Folder.entries c.args.folder.now in
    let call = c.args.call.now in
    let ids = c.args.there.now.copies.items in
    subst (λ log. IfOk c.begun-in-Ok-true.result (λ it. Begins entries call.salvage (len_of log) ids call.pages
    call.frames it.first it.engine.state)) (sym c.in-Some.is)
    (headless_anew c.begun-in-Ok-true.result (λ it. it.first) (λ it. it.engine.state) entries g.F.DatabaseFolder.held
    c.in-Some.log call.salvage ids call.pages call.frames
    (subst (OpensLog entries g.F.DatabaseFolder.held) c.in-Some.is c.requires.there)
    (c.in-Ok-true.ensures c.in-Ok-true.field-0-test) c.begun-in-Ok-true.ensures.new)

pub returns-in_default-clause-volume : goal.returns-in_default-clause-volume
returns-in_default-clause-volume g c =
    of_new c.begun.result (λ it. it.first) c.args.call.now.salvage (g.F.Folder.entries c.args.folder.now)
    (g.F.Folder.entries c.begun.new.folder) c.begun.ensures.volume

pub returns-in-Ok-true-clause-volume : goal.returns-in-Ok-true-clause-volume
returns-in-Ok-true-clause-volume g c =
    of_new c.begun-in-Ok-true.result (λ it. it.first) c.args.call.now.salvage (g.F.Folder.entries c.args.folder.now)
    (g.F.Folder.entries c.begun-in-Ok-true.new.folder) c.begun-in-Ok-true.ensures.volume

pub returns-in-Ok-false-clause-volume : goal.returns-in-Ok-false-clause-volume
returns-in-Ok-false-clause-volume g c =
    let entries = g.F.Folder.entries c.args.folder.now in
    let call = c.args.call.now in
    of_resumed c.reopen.result (λ it. it.first) (λ it. it.engine.state) entries call.salvage _ _ call.pages call.frames
    entries (g.F.Folder.entries c.reopen.new.folder) c.reopen.ensures.goes_on

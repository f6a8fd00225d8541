use Rattle.std.proofs.Common.{refl}
use Rattle.database_opening.proofs.Anew.{begins_anew}
use Rattle.database_opening.proofs.OldVolumes.{old_volume_kept}
use Rattle.std.specs.Option.{option_map}
use Rattle.database_files.proofs.Public.{no_log_told}
use Rattle.database_files.proofs.Public.{no_note, note_finished, still_without}
use Rattle.database_files.proofs.Public.{keeps_finished, keeps_more}
use Rattle.database_opening.proofs.opening.begun.Goals as goal

pub returns-clause-new : goal.returns-clause-new
returns-clause-new g c =
    let entries = g.F.Folder.entries c.args.folder.now in
    begins_anew entries c.args.call.now.pages c.in_ok-pages.pages c.args.call.now.frames _ c.in_ok-engine.engine.state
    (no_log_told entries c.in_ok-manifest.manifest c.in_ok-pages.ensures.files c.in_ok-manifest.ensures.found
    c.in_ok-manifest.ensures.header) c.in_ok-pages.ensures.volume c.in_ok-pages.ensures.told c.in_ok-engine.ensures.new refl

pub returns-in_err-engine-clause-kept : goal.returns-in_err-engine-clause-kept
returns-in_err-engine-clause-kept g c =
    let first = g.F.Folder.entries c.args.folder.now in
    let cleared = g.F.Folder.entries c.clear.new.folder in
    let held = g.F.Folder.entries c.keep_volume.new.folder in
    let last = g.F.Folder.entries c.begin.new.folder in
    keeps_more first held last (keeps_more first cleared held (keeps_finished first cleared c.clear.ensures.kept)
    c.keep_volume.ensures.files) c.begin.ensures.kept

pub returns-clause-kept : goal.returns-clause-kept
returns-clause-kept g c =
    let first = g.F.Folder.entries c.args.folder.now in
    let cleared = g.F.Folder.entries c.clear.new.folder in
    let held = g.F.Folder.entries c.keep_volume.new.folder in
    let last = g.F.Folder.entries c.begin.new.folder in
    keeps_more first held last (keeps_more first cleared held (keeps_finished first cleared c.clear.ensures.kept)
    c.keep_volume.ensures.files) c.begin.ensures.kept

pub returns-clause-gone : goal.returns-clause-gone
returns-clause-gone g c =
    let first = g.F.Folder.entries c.args.folder.now in
    let cleared = g.F.Folder.entries c.clear.new.folder in
    let held = g.F.Folder.entries c.keep_volume.new.folder in
    still_without held (g.F.Folder.entries c.begin.new.folder) c.in_ok-engine.ensures.note
    (still_without cleared held c.in_ok-keep_volume.ensures.note
    (still_without first cleared (note_finished first cleared c.clear.ensures.kept) (no_note first c.in_ok-pages.ensures.files)))

pub returns-clause-volume : goal.returns-clause-volume
returns-clause-volume g c =
    let first = g.F.Folder.entries c.args.folder.now in
    let cleared = g.F.Folder.entries c.clear.new.folder in
    let held = g.F.Folder.entries c.keep_volume.new.folder in
    old_volume_kept c.args.call.now.salvage (option_map (λ it. it.items) c.in_ok-held.held) first cleared held
    (g.F.Folder.entries c.begin.new.folder) c.in_ok-pages.ensures.files c.in_ok-held.ensures c.clear.ensures.kept
    c.in_ok-keep_volume.ensures.kept c.begin.ensures.others

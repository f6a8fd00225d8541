use Rattle.database_files.proofs.Public.{keeps_finished, keeps_more, keeps_same}
use Rattle.database_files.proofs.Public.{tells_closed}
use Rattle.database_files.proofs.Public.{note_finished, note_stays, puts_more, puts_none, tells_still}
use Rattle.database_opening.proofs.restarted.prepare.Goals as goal

pub returns-clause-files : goal.returns-clause-files
returns-clause-files g c = λ told.
    let first = g.F.Folder.entries c.args.folder.now in
    let cleared = g.F.Folder.entries c.clear.new.folder in
    let set_aside = g.F.Folder.entries c.set_aside_claimants.new.folder in
    let last = g.F.Folder.entries c.make_log_ready.new.folder in
    keeps_more first cleared last (keeps_finished first cleared c.clear.ensures.kept)
    (keeps_more cleared set_aside last
    (keeps_same cleared set_aside (c.set_aside_claimants.ensures.none (c.in_ok-evidence.ensures.none told))) c.make_log_ready.ensures.files)

pub returns-clause-stays : goal.returns-clause-stays
returns-clause-stays g c =
    let first = g.F.Folder.entries c.args.folder.now in
    let cleared = g.F.Folder.entries c.clear.new.folder in
    let set_aside = g.F.Folder.entries c.set_aside_claimants.new.folder in
    let last = g.F.Folder.entries c.make_log_ready.new.folder in
    puts_more first cleared last (puts_none first cleared (keeps_finished first cleared c.clear.ensures.kept))
    (puts_more cleared set_aside last c.set_aside_claimants.ensures.stays (puts_none set_aside last c.make_log_ready.ensures.files))

pub returns-clause-gone : goal.returns-clause-gone
returns-clause-gone g c =
    let first = g.F.Folder.entries c.args.folder.now in
    let cleared = g.F.Folder.entries c.clear.new.folder in
    let set_aside = g.F.Folder.entries c.set_aside_claimants.new.folder in
    c.in_ok-make_log_ready.ensures.gone (tells_still first set_aside c.args.there.now.has_closed
    (note_stays first cleared set_aside (note_finished first cleared c.clear.ensures.kept) c.set_aside_claimants.ensures.note)
    (tells_closed first c.args.there.now c.requires.inventory))

pub returns-in_err-set_aside_claimants-clause-stays : goal.returns-in_err-set_aside_claimants-clause-stays
returns-in_err-set_aside_claimants-clause-stays g c =
    let first = g.F.Folder.entries c.args.folder.now in
    let cleared = g.F.Folder.entries c.clear.new.folder in
    puts_more first cleared (g.F.Folder.entries c.set_aside_claimants.new.folder)
    (puts_none first cleared (keeps_finished first cleared c.clear.ensures.kept)) c.set_aside_claimants.ensures.stays

pub returns-in_err-make_log_ready-clause-files : goal.returns-in_err-make_log_ready-clause-files
returns-in_err-make_log_ready-clause-files g c = λ told.
    let first = g.F.Folder.entries c.args.folder.now in
    let cleared = g.F.Folder.entries c.clear.new.folder in
    let set_aside = g.F.Folder.entries c.set_aside_claimants.new.folder in
    let last = g.F.Folder.entries c.make_log_ready.new.folder in
    keeps_more first cleared last (keeps_finished first cleared c.clear.ensures.kept)
    (keeps_more cleared set_aside last
    (keeps_same cleared set_aside (c.set_aside_claimants.ensures.none (c.in_ok-evidence.ensures.none told))) c.make_log_ready.ensures.files)

pub returns-in_err-make_log_ready-clause-stays : goal.returns-in_err-make_log_ready-clause-stays
returns-in_err-make_log_ready-clause-stays g c =
    let first = g.F.Folder.entries c.args.folder.now in
    let cleared = g.F.Folder.entries c.clear.new.folder in
    let set_aside = g.F.Folder.entries c.set_aside_claimants.new.folder in
    let last = g.F.Folder.entries c.make_log_ready.new.folder in
    puts_more first cleared last (puts_none first cleared (keeps_finished first cleared c.clear.ensures.kept))
    (puts_more cleared set_aside last c.set_aside_claimants.ensures.stays (puts_none set_aside last c.make_log_ready.ensures.files))

pub returns-clause-ready : goal.returns-clause-ready
returns-clause-ready g c =
    let first = g.F.Folder.entries c.args.folder.now in
    let cleared = g.F.Folder.entries c.clear.new.folder in
    let set_aside = g.F.Folder.entries c.set_aside_claimants.new.folder in
    c.make_log_ready.ensures.ready (tells_still first set_aside c.args.there.now.has_closed
    (note_stays first cleared set_aside (note_finished first cleared c.clear.ensures.kept) c.set_aside_claimants.ensures.note)
    (tells_closed first c.args.there.now c.requires.inventory))

pub returns-in_err-make_log_ready-clause-ready : goal.returns-in_err-make_log_ready-clause-ready
returns-in_err-make_log_ready-clause-ready g c =
    let first = g.F.Folder.entries c.args.folder.now in
    let cleared = g.F.Folder.entries c.clear.new.folder in
    let set_aside = g.F.Folder.entries c.set_aside_claimants.new.folder in
    c.make_log_ready.ensures.ready (tells_still first set_aside c.args.there.now.has_closed
    (note_stays first cleared set_aside (note_finished first cleared c.clear.ensures.kept) c.set_aside_claimants.ensures.note)
    (tells_closed first c.args.there.now c.requires.inventory))

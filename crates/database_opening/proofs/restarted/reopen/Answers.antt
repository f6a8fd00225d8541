use Rattle.std.proofs.Common.{◌∙◌, ◌↔◌, ap, IsTrue, subst, sym}
use Rattle.std.specs.Prelude.{codes, Option}
use Rattle.manifest.specs.Entries.{Listed}
use Rattle.manifest.specs.declared.sum.DatabaseName.{DatabaseName}
use Rattle.database_files.specs.Found.{IsFoundIn, SpellsManifest}
use Rattle.database_files.specs.Kept.{IsNameIn}
use Rattle.log_records.specs.Log.{Log}
use Rattle.database_files.specs.Master.{IsOfRecords, IsUnnamed, spelled}
use Rattle.database_opening.specs.declared.restarted.Others.{Others}
use Rattle.database_opening.specs.Copies.{ids_unread}
use Rattle.database_opening.proofs.LogThere.{goes_on_handed, manifest_found}
use Rattle.database_files.proofs.Public.{tells_master}
use Rattle.database_files.proofs.Public.{wrong_in}
use Rattle.database_files.proofs.Public.{note_beside_volume, puts_more, puts_none, still_without}
use Rattle.database_opening.proofs.Resumed.{goes_on_from}
use Rattle.database_files.proofs.Public.{keeps_more, keeps_volume}
use Rattle.database_opening.proofs.restarted.reopen.Goals as goal

pub returns-clause-goes_on : goal.returns-clause-goes_on
returns-clause-goes_on g c =
    let found = c.in_ok-remains.remains in
    let now = c.prepare.new.remains in
    let was = c.in_ok-remains.ensures in
    goes_on_from (g.F.Folder.entries c.args.folder.now) c.args.call.now.salvage c.args.log.len
    c.args.there.now.copies.items c.args.call.now.pages c.args.call.now.frames c.in_ok-opened.opened.first
    c.in_ok-opened.opened.engine.state found.log.bytes.items
    found.log.front.log now.log.front.log found.log.front.cut found.others.note found.others.manifest
    (spelled found.others.master) found.others.copies.items now.others.copies.items was.there was.whole was.front
    c.in_ok-sums.ensures.count was.copies c.requires.rise was.others c.in_ok-sums.ensures.volume c.in_ok-sums.ensures.whole c.prepare.ensures.log
    (ap (λ (o : Others). o.copies.items) c.prepare.ensures.others) c.in_ok-opened.ensures.goes_on
    c.in_ok-opened.ensures.frames c.in_ok-opened.ensures.told

pub returns-clause-handed : goal.returns-clause-handed
unfolding goes_on_from returns-clause-goes_on
returns-clause-handed g c =
    let opened = c.in_ok-opened.opened in
    let found = c.in_ok-remains.remains in
    let now = c.prepare.new.remains in
    let was = c.in_ok-remains.ensures in
    goes_on_handed (g.F.Folder.entries c.args.folder.now) c.args.call.now.salvage c.args.log.len
    c.args.there.now.copies.items c.args.call.now.pages c.args.call.now.frames opened.first opened.engine.state
    opened.unread.items opened.point opened.is_master_wrong (returns-clause-goes_on g c)
    (c.in_ok-opened.ensures.unread ∙ ap (λ (o : Others). ids_unread o.copies.items) c.prepare.ensures.others)
    (subst (λ (o : Others). IsUnnamed found.log.front.log (spelled o.master) opened.point) c.prepare.ensures.others
    (subst (λ (log : Log). IsUnnamed log (spelled now.others.master) opened.point) c.prepare.ensures.log
    c.in_ok-opened.ensures.point))
    (wrong_in (g.F.Folder.entries c.args.folder.now) found.log.front.log found.others.master c.args.there.now.has_master
    opened.is_master_wrong (tells_master (g.F.Folder.entries c.args.folder.now) c.args.there.now c.requires.inventory)
    was.absent
    (subst (λ (o : Others). IsTrue opened.is_master_wrong ↔ (¬ IsOfRecords found.log.front.log.records o.master))
    c.prepare.ensures.others
    (subst (λ (log : Log). IsTrue opened.is_master_wrong ↔ (¬ IsOfRecords log.records now.others.master))
    c.prepare.ensures.log c.in_ok-opened.ensures.wrong)))

pub returns-clause-kept : goal.returns-clause-kept
returns-clause-kept g c = λ told.
    let first = g.F.Folder.entries c.args.folder.now in
    let prepared = g.F.Folder.entries c.prepare.new.folder in
    let last = g.F.Folder.entries c.go_on.new.folder in
    keeps_more first prepared last (c.prepare.ensures.files told) (keeps_volume prepared last c.go_on.ensures.others)

pub returns-clause-stays : goal.returns-clause-stays
returns-clause-stays g c =
    let first = g.F.Folder.entries c.args.folder.now in
    let prepared = g.F.Folder.entries c.prepare.new.folder in
    let last = g.F.Folder.entries c.go_on.new.folder in
    puts_more first prepared last c.prepare.ensures.stays
    (puts_none prepared last (keeps_volume prepared last c.go_on.ensures.others))

pub returns-clause-gone : goal.returns-clause-gone
returns-clause-gone g c =
    let prepared = g.F.Folder.entries c.prepare.new.folder in
    let last = g.F.Folder.entries c.go_on.new.folder in
    still_without prepared last (note_beside_volume prepared last c.go_on.ensures.others) c.in_ok-sums.ensures.gone

pub returns-in_err-opened-clause-stays : goal.returns-in_err-opened-clause-stays
returns-in_err-opened-clause-stays g c =
    let prepared = g.F.Folder.entries c.prepare.new.folder in
    let last = g.F.Folder.entries c.go_on.new.folder in
    puts_more (g.F.Folder.entries c.args.folder.now) prepared last c.prepare.ensures.stays
    (puts_none prepared last (keeps_volume prepared last c.go_on.ensures.others))

pub returns-clause-manifest : goal.returns-clause-manifest
returns-clause-manifest g c =
    let entries = g.F.Folder.entries c.args.folder.now in
    let found = c.in_ok-remains.remains.others in
    subst (λ (it : Option Listed). IsFoundIn SpellsManifest entries (codes "manifest") it)
    (sym (c.in_ok-opened.ensures.manifest ∙ ap (λ (o : Others). o.manifest) c.prepare.ensures.others))
    (manifest_found entries found.note found.manifest (spelled found.master) found.copies.items
    c.in_ok-remains.ensures.others)

pub returns-clause-named : goal.returns-clause-named
returns-clause-named g c =
    subst (λ (name : DatabaseName). IsNameIn c.in_ok-opened.opened.manifest name.0) (sym c.in_ok-opened.ensures.named)
    (subst (λ (it : Option Listed). IsNameIn it c.in_ok-database.database.0)
    (sym (c.in_ok-opened.ensures.manifest ∙ ap (λ (o : Others). o.manifest) c.prepare.ensures.others))
    c.in_ok-database.ensures)

use Rattle.std.proofs.Common.{◌∙◌}
use Rattle.database_files.proofs.Public.{adds_more}
use Rattle.database_backup.proofs.SecondFolders.{filling_more, notes_copy, notes_more}
use Rattle.database_backup.proofs.second_folder.put_copies.Goals as goal

pub loop-id-preserved : goal.loop-id-preserved
loop-id-preserved g c =
    let far = c.loop-id.invariant in
    let id = c.id-item.result in
    let one = c.in_ok-put_missing.ensures in
    let noted = c.loop-id.manifest.entries in
    let old = g.F.Folder.entries c.args.folder.now in
    let mid = g.F.Folder.entries c.loop-id.folder in
    let new = g.F.Folder.entries c.put_missing.new.folder in
    record {
      claimed = c.put_missing.ensures.claimed;
      filling = filling_more (g.O.Folder.entries c.args.from.now) noted c.put_missing.new.manifest.entries
          c.args.copies.now c.loop-id.id-index id c.loop-id-test.true c.id-item.is one.noted old mid new far.filling
          one.put;
      adds = adds_more old mid new far.adds c.put_missing.ensures.others;
      noted = notes_more c.args.manifest.now.entries noted c.put_missing.new.manifest.entries far.noted
          (notes_copy id noted c.put_missing.new.manifest.entries one.noted);
      database = one.database ∙ far.database;
    }

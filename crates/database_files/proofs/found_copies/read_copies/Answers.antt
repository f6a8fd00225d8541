use Rattle.std.proofs.Common.{arith, ap, map}
use Rattle.std.proofs.lemmas.Grind.{common_steps}
use Rattle.database_files.proofs.Founds.{none_read, none_tried, one_read, one_tried}
use Rattle.database_files.proofs.found_copies.read_copies.Goals as goal

pub loop-id-init : goal.loop-id-init
loop-id-init g c = record {
  ids = ap (map (λ file. file.id)) c.new-copies.ensures.items;
  found = none_read (g.F.Folder.entries c.args.folder.now) c.new-copies.result.items c.new-copies.ensures.items;
  tried = none_tried (g.F.DatabaseFolder.was_asked c.args.folder.now) c.new-copies.result.items
      c.new-copies.ensures.items;
}

pub loop-id-preserved : goal.loop-id-preserved
loop-id-preserved g c =
    let so_far = c.loop-id.invariant in
    record {
      ids = grind (arith, common_steps);
      found = one_read (g.F.Folder.entries c.args.folder.now) c.loop-id.copies.items c.push.new.self.items _
          c.in_ok-push.ensures.items so_far.found c.in_ok-found.ensures.found;
      tried = one_tried (g.F.DatabaseFolder.was_asked c.args.folder.now) c.loop-id.copies.items c.push.new.self.items _
          c.in_ok-push.ensures.items so_far.tried c.in_ok-found.ensures.tried;
    }

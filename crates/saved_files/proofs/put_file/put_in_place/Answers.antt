use Rattle.saved_files.specs.PutFault.{bytes_by}
use Rattle.saved_files.proofs.Crashes.{left_unmade, whole_left}
use Rattle.saved_files.proofs.Puts.{left_by, of_source_by, put_by}
use Rattle.saved_files.proofs.put_file.put_in_place.Goals as goal

pub returns-clause-put : goal.returns-clause-put
returns-clause-put g c =
    put_by c.args.name.now _ (g.S.Source.gives c.args.source.now) _ _ _ _ _ _ c.write_to-done.result
    c.put_written.result c.in-Ok.ensures.beside c.write_to-done.ensures.ok c.finish.ensures c.in-Ok.ensures.made
    c.put_written.ensures.placed c.put_written.ensures.written

pub returns-clause-left : goal.returns-clause-left
returns-clause-left g c =
    left_by c.args.name.now _ (g.S.Source.gives c.args.source.now) (g.S.Source.leaves c.args.source.now) _ _ _
    (g.F.Folder.given_up c.args.folder.now) _ _ _ _ c.write_to-done.result c.put_written.result
    c.in-Ok.ensures.beside c.write_to-done.ensures.ok c.write_to-done.ensures.err c.finish.ensures
    c.in-Ok.ensures.made c.put_written.ensures.given_up c.put_written.ensures.why c.put_written.ensures.left

pub returns-clause-of_source : goal.returns-clause-of_source
returns-clause-of_source g c =
    of_source_by (g.S.Source.leaves c.args.source.now) _ _ c.write_to-done.result c.put_written.result
    c.write_to-done.ensures.err c.put_written.ensures.why

pub returns-clause-crash : goal.returns-clause-crash
returns-clause-crash g c =
    whole_left c.args.name.now _ (g.S.Source.gives c.args.source.now) _ _ _ c.write_to-done.result _ _ _ _ _ _
    c.in-Ok.ensures.beside c.write_to-done.ensures.ok c.finish.ensures c.in-Ok.ensures.made
    c.make_beside.ensures.crash c.put_written.ensures.crash

pub returns-in-Err-clause-crash : goal.returns-in-Err-clause-crash
returns-in-Err-clause-crash g c =
    left_unmade c.args.name.now (bytes_by (g.S.Source.gives c.args.source.now)) _ _ _ _ c.in-Err.ensures.same
    c.make_beside.ensures.crash

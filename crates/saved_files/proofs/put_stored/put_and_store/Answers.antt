use Rattle.saved_files.specs.PutFault.{bytes_by}
use Rattle.saved_files.proofs.Crashes.{unstored_left}
use Rattle.saved_files.proofs.Puts.{unstored_by}
use Rattle.saved_files.proofs.put_stored.put_and_store.Goals as goal

pub returns-clause-left : goal.returns-clause-left
returns-clause-left g c =
    unstored_by c.args.name.now (g.S.Source.gives c.args.source.now) (g.S.Source.leaves c.args.source.now) _ _ _ _ _
    c.store_names.result c.in_default.ensures.put c.store_names.ensures.same c.store_names.ensures.unstored

pub returns-clause-crash : goal.returns-clause-crash
returns-clause-crash g c =
    unstored_left c.args.name.now (bytes_by (g.S.Source.gives c.args.source.now)) _ _ _ _ _ _ c.store_names.result
    c.in_default.ensures.put c.put_in_place.ensures.crash c.store_names.ensures.same c.store_names.ensures.crash

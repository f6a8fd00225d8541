use Rattle.saved_files.proofs.PutsBoth.{renamed_same_by}
use Rattle.saved_files.proofs.put_both.place.Goals as goal

pub returns-in-Ok-clause-placed : goal.returns-in-Ok-clause-placed
returns-in-Ok-clause-placed g c =
    renamed_same_by c.as_str.result.now _ c.args.name.now _ _ _ c.as_str.ensures.value c.in_default.ensures.renamed
    c.sync_names.ensures.same

pub returns-clause-left : goal.returns-clause-left
returns-clause-left g c =
    renamed_same_by c.as_str.result.now _ c.args.name.now _ _ _ c.as_str.ensures.value c.in_default.ensures.renamed
    c.sync_names.ensures.same

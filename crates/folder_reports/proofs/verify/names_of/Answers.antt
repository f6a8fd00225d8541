use Rattle.std.proofs.Common.{◌≡◌, get_or, rules}
use Rattle.std.specs.Prelude.{string_bytes}
use Rattle.saved_files.specs.Saved.{name_of}
use Rattle.saved_files.specs.declared.saved_name.SavedName.TheVariants.{Copy}
use Rattle.folder_reports.proofs.Sounds.{named_more}
use Rattle.folder_reports.proofs.verify.names_of.Goals as goal

pub loop-id-preserved : goal.loop-id-preserved
loop-id-preserved c =
    let named : string_bytes c.in_ok-format.field-0 ≡ name_of (Copy (get_or c.args.chain.now c.loop-id.id-index 0)) =
    search rules in
    named_more c.loop-id.names.items c.push.new.self.items c.in_ok-format.field-0 c.args.chain.now c.loop-id.id-index
    c.loop-id-test.true c.in_ok-push.ensures.items named c.loop-id.invariant

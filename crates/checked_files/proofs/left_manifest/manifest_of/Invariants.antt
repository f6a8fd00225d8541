use Rattle.std.proofs.Common.{◌≡◌, ◌+◌}
use Rattle.saved_files.specs.Saved.{parts_of}
use Rattle.checked_files.specs.Left.{AreNotedBefore, NotesNoOtherBefore}
use Rattle.checked_files.proofs.left_manifest.manifest_of.Given as goal

abbrev pub invariant-loop-id : goal.invariant-loop-id
invariant-loop-id l = record {
  noted : AreNotedBefore (parts_of l.retired) (2 + l.id) l.manifest.entries;
  only : NotesNoOtherBefore (parts_of l.retired) (2 + l.id) l.manifest.entries;
  database : l.manifest.database ≡ l.fn.database.0;
}

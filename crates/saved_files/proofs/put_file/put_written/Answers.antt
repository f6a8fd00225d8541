use Rattle.std.proofs.Common.{◌≡◌}
use Rattle.std.specs.Prelude.{Ok, Some}
use Rattle.std.specs.String.{string_bytes}
use Rattle.saved_files.proofs.Crashes.{left_taken, then_given_up_by, written_taken_by}
use Rattle.saved_files.proofs.put_file.put_written.Goals as goal

pub returns-in-Err-clause-crash : goal.returns-in-Err-clause-crash
returns-in-Err-clause-crash g c =
    left_taken (string_bytes c.args.it.name) c.args.name.now
    (λ bytes. (c.args.done ≡ Ok tt) × (g.F.Folder.holds c.args.it.file ≡ Some bytes)) _ _ _ _
    c.give_up.ensures.kept c.give_up.ensures.crash

pub returns-in-Ok-clause-crash : goal.returns-in-Ok-clause-crash
returns-in-Ok-clause-crash g c =
    written_taken_by c.as_str.result.now (string_bytes c.args.it.name) c.args.name.now
    (g.F.Folder.holds c.args.it.file) c.args.done _ _ _ _ c.as_str.ensures.value c.in_default.is c.place.ensures.crash

pub returns-in-Err-place-clause-crash : goal.returns-in-Err-place-clause-crash
returns-in-Err-place-clause-crash g c =
    then_given_up_by c.as_str.result.now (string_bytes c.args.it.name) c.args.name.now
    (g.F.Folder.holds c.args.it.file) c.args.done _ _ _ _ _ _ c.as_str.ensures.value c.in_default.is
    c.in-Err-place.ensures.unplaced c.place.ensures.crash c.give_up-in-Err-place.ensures.kept
    c.give_up-in-Err-place.ensures.crash

use Rattle.std.proofs.Common.{◌≡◌, ap, length, sym, ◌∙◌}
use Rattle.file_devices.specs.FileLog.{bytes_of}
use Rattle.engine_restart.proofs.LogFiles.{has_lasting}
use Rattle.engine_restart.proofs.log_file.log_on.Goals as goal

pub returns-in-Ok-clause-lasting : goal.returns-in-Ok-clause-lasting
returns-in-Ok-clause-lasting g c =
    let known = c.deref.result.now in
    let has : bytes_of c.args.device ≡ known = c.requires.has ∙ sym c.deref.ensures.value in
    let lasts : c.args.device.end ≡ length known = c.requires.lasts ∙ ap length (sym c.deref.ensures.value) in
    has_lasting bytes_of (λ it. it.end) c.in-Ok.front.log
    c.args.device known has lasts c.in-Ok.ensures.spelled c.in-Ok.ensures.front.longest.front.spells

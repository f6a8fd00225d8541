use Rattle.std.proofs.Common.{length, take, ap, arith}
use Rattle.std.proofs.lemmas.List.{length-append, length-take}
use Rattle.file_devices.specs.FileLog.{LogOnDisk, known_of}
use Rattle.file_devices.proofs.Knowns.{lasting_there}
use Rattle.file_devices.proofs.file_log.FileLog.give_up.Goals as goal

pub returns-clause-all : goal.returns-clause-all
returns-clause-all g c =
    let bytes = (known_of c.self.inside.disk.calls).bytes in
    omega (
      arith,
      c.requires,
      ap (λ (v : LogOnDisk g.row.D.Denot). v.end) c.self.view_is,
      c.self.invariant.lasts,
      lasting_there c.self.inside.disk.calls,
      length-append (take c.args.end bytes) c.clear.new.self.items,
      length-take c.args.end bytes,
      ap length c.clear.ensures.items,
    )

use Rattle.std.proofs.Common.{rules, ◌≡◌, ◌+◌, ◌^◌, ◌<◌, ◌++◌, length, ap, sym, arith}
use Rattle.std.proofs.lemmas.List.{length-append, length-take}
use Rattle.file_devices.specs.FileLog.{LogOnDisk, bytes_of}
use Rattle.file_devices.proofs.Kept.{length-bytes, never}
use Rattle.file_devices.proofs.file_log.FileLogLogDevice.store.Goals as goal

pub invariant_of-self-2 : goal.invariant_of-self-2
invariant_of-self-2 g c =
    let waiting = c.self-2.inside.waiting.items in
    let items : c.extend_from_slice.new.self.items ≡ waiting ++ c.args.next.now = search rules in
    let fits : c.args.from + length c.args.next.now < 2 ^ 64 = search rules in
    record {
      lasts = c.self-2.invariant.lasts;
      left = c.self-2.invariant.left;
      alone = c.self-2.invariant.alone;
      known = c.self-2.invariant.known;
      idle = λ none. never (sym none);
      short = omega (
        arith,
        fits,
        c.requires,
        ap length items,
        length-append waiting c.args.next.now,
        length-bytes _ c.self-2.invariant,
        ap (λ (v : LogOnDisk g.row.D.Denot). length (bytes_of v)) c.self-2.view_is,
        ap length c.forget_from.ensures.bytes,
        length-take c.args.from (bytes_of c.args.self.now),
      );
    }

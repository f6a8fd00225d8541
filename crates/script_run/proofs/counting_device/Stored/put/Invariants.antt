use Rattle.std.proofs.Common.{◌≡◌, ◌++◌, take}
use Rattle.script_run.specs.CountingDevice.{stored_bytes}
use Rattle.script_run.proofs.counting_device.Stored.put.Given as goal

abbrev pub invariant-loop-byte : goal.invariant-loop-byte
invariant-loop-byte l =
    stored_bytes l.self ≡ take l.fn.from (stored_bytes l.fn.self) ++ take l.byte-index l.next

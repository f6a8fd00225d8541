use Rattle.std.proofs.Common.{◌≡◌, take}
use Rattle.file_devices.specs.Bytes.{bytes_of}
use Rattle.file_devices.proofs.calls.SliceSnapshot.of.Given as goal

abbrev pub invariant-loop-byte : goal.invariant-loop-byte
invariant-loop-byte l = bytes_of l.bytes ≡ take l.byte-index l.slice

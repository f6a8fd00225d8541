use Rattle.std.proofs.Common.{◌≡◌, take, fold}
use Rattle.buffer_pool.specs.PageHasher.{with_byte}
use Rattle.buffer_pool.proofs.page_hasher.PageHasherHasher.write.Given as goal

abbrev pub invariant-loop-byte : goal.invariant-loop-byte
invariant-loop-byte l = l.self.0 ≡ fold with_byte l.fn.self.0 (take l.byte-index l.bytes)

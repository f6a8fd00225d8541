use Rattle.std.proofs.Common.{◌≡◌, true}
use Rattle.page_core.specs.Volume.{formatted_pages}
use Rattle.buffer_pool.specs.Frames.{IsSought}
use Rattle.buffer_pool.proofs.frames.Frames.formatted.Given as goal

abbrev pub invariant-loop-number : goal.invariant-loop-number
invariant-loop-number l = record {
  pages : l.frames.pages ≡ formatted_pages l.number;
  sought : IsSought (λ _. true) l.frames;
}

use Rattle.std.proofs.Common.{◌≡◌, ◌++◌, map, sum, drop, length}
use Rattle.std.specs.Prelude.{Some}
use Rattle.embed_calls.specs.Archives.{inputs_of}
use Rattle.embed_calls.proofs.archives.archives_in.Given as goal

abbrev pub invariant-loop-length : goal.invariant-loop-length
invariant-loop-length l = record {
  add_up : sum (drop l.length-index l.lengths) ≡ length l.rest;
  so_far : map (λ archive. Some archive.now) l.archives.items
      ++ inputs_of l.rest (drop l.length-index l.lengths) ≡ inputs_of l.bytes l.lengths;
}

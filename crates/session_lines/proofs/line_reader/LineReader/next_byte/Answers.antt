use Rattle.std.proofs.Common.{[], arith, subst, sym}
use Rattle.std.specs.Io.KnownBytes.{Consumes, prepend_known}
use Rattle.std.specs.Prelude.{slice_range}
use Rattle.std.specs.Vec.{with_items}
use Rattle.std.proofs.lemmas.List.{with_items_is}
use Rattle.session_lines.proofs.Lines.{byte_given, bytes_ended, bytes_filled}
use Rattle.session_lines.specs.Lines.{bytes_left}
use Rattle.session_lines.proofs.line_reader.LineReader.next_byte.Goals as goal

pub returns-then-self-clause-byte : goal.returns-then-self-clause-byte
returns-then-self-clause-byte g c =
    byte_given (bytes_left g.R.Read.remaining c.args.self.now) (g.R.Read.remaining c.loop.self.reader)
    c.loop.self.piece.items c.loop.self.next c.loop.self.filled c.index-byte.result.now c.if-self.true
    (omega (arith, c.if-self.true, c.loop.self.is_within, c.loop.self.piece.ok.0)) c.index-byte.ensures
    c.loop.invariant.left

pub returns-in-End-clause-byte : goal.returns-in-End-clause-byte
returns-in-End-clause-byte g c =
    bytes_ended (bytes_left g.R.Read.remaining c.args.self.now) (g.R.Read.remaining c.loop.self.reader)
    (g.R.Read.remaining c.read_more.new.reader) c.loop.self.piece.items
    (with_items c.loop.self.piece c.read_more.new.buffer).items c.loop.self.next c.loop.self.filled c.if-self.false
    c.in-End.ensures.0 c.in-End.ensures.1 c.loop.invariant.left

pub loop-preserved : goal.loop-preserved
loop-preserved g c =
    let start = bytes_left g.R.Read.remaining c.args.self.now in
    let rest = g.R.Read.remaining c.read_more.new.reader in
    let buffer = c.read_more.new.buffer in record {
      left = subst (λ items. Consumes start (prepend_known (slice_range items 0 c.in-More.count) rest) [])
          (sym (with_items_is c.loop.self.piece buffer
          (omega (arith, c.read_more.auto.buffer, c.deref_mut.ensures.len))))
          (bytes_filled start (g.R.Read.remaining c.loop.self.reader) rest c.loop.self.piece.items buffer
          c.loop.self.next c.loop.self.filled c.in-More.count c.if-self.false c.in-More.ensures.1
          c.loop.invariant.left);
      line = c.loop.invariant.line;
    }

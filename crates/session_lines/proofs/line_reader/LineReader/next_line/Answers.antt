use Rattle.std.proofs.Common.{◌≡◌, ◌∷◌, [], arith, subst, sym}
use Rattle.std.specs.Io.KnownBytes.{Consumes}
use Rattle.std.proofs.KnownBytes.{Consumes-trans}
use Rattle.session_lines.proofs.Lines.{gives_ended, gives_long, gives_unended, nothing_more}
use Rattle.session_lines.specs.Lines.{GivesLine, IsReadSoFar, bytes_left}
use Rattle.session_lines.proofs.line_reader.LineReader.next_line.Goals as goal

pub returns-in-Byte-eq10 : goal.returns-in-Byte-eq10
returns-in-Byte-eq10 g c =
    let reader = c.next_byte.new.self in
    let start = bytes_left g.R.Read.remaining c.args.self.now in
    let reached = bytes_left g.R.Read.remaining c.loop.self in
    let left = bytes_left g.R.Read.remaining reader in
    let bytes = c.loop.invariant.0 in
    let feed : c.in-Byte-eq10.field-0 ≡ 10 = omega (arith, c.in-Byte-eq10.field-0-is) in
    subst (GivesLine start left reader.line.items) (sym c.line_of.ensures)
    (gives_ended start left reader.line.items bytes c.loop.len c.loop.is_long
    (omega (arith, reader.has_line, reader.line.ok.0)) c.loop.invariant.2
    (subst (λ line. IsReadSoFar line.items c.loop.len c.loop.is_long bytes) (sym c.next_byte.ensures.line)
    c.loop.invariant.3)
    (Consumes-trans start reached left bytes (10 ∷ []) c.loop.invariant.1
    (subst (λ byte. Consumes reached left (byte ∷ [])) feed c.in-Byte-eq10.ensures.byte)))

pub returns-in-End-2 : goal.returns-in-End-2
returns-in-End-2 g c =
    let reader = c.next_byte.new.self in
    let start = bytes_left g.R.Read.remaining c.args.self.now in
    let reached = bytes_left g.R.Read.remaining c.loop.self in
    let left = bytes_left g.R.Read.remaining reader in
    let bytes = c.loop.invariant.0 in
    gives_long start left reader.line.items bytes c.loop.len (omega (arith, reader.has_line, reader.line.ok.0))
    c.loop.invariant.2
    (subst (λ is_long. IsReadSoFar reader.line.items c.loop.len is_long bytes) c.if-is_long.true
    (subst (λ line. IsReadSoFar line.items c.loop.len c.loop.is_long bytes) (sym c.next_byte.ensures.line)
    c.loop.invariant.3))
    (nothing_more start reached left bytes c.loop.invariant.1 c.in-End.ensures.byte.0) c.in-End.ensures.byte.1

pub returns-in-End-3 : goal.returns-in-End-3
returns-in-End-3 g c =
    let reader = c.next_byte.new.self in
    let start = bytes_left g.R.Read.remaining c.args.self.now in
    let reached = bytes_left g.R.Read.remaining c.loop.self in
    let left = bytes_left g.R.Read.remaining reader in
    let bytes = c.loop.invariant.0 in
    gives_unended start left reader.line.items bytes c.loop.len (omega (arith, c.if-len-eq0.false))
    (omega (arith, reader.has_line, reader.line.ok.0)) c.loop.invariant.2
    (subst (λ is_long. IsReadSoFar reader.line.items c.loop.len is_long bytes) c.if-is_long.false
    (subst (λ line. IsReadSoFar line.items c.loop.len c.loop.is_long bytes) (sym c.next_byte.ensures.line)
    c.loop.invariant.3))
    (nothing_more start reached left bytes c.loop.invariant.1 c.in-End.ensures.byte.0) c.in-End.ensures.byte.1

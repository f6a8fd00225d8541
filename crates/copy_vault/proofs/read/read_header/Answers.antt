use Rattle.std.proofs.Common.{◌≡◌, ◌+◌, [], take, subst, arith}
use Rattle.std.specs.Io.KnownBytes.{Consumes}
use Rattle.std.proofs.lemmas.List.{length-take, take_all}
use Rattle.copy_vault.specs.declared.archive_fault.ArchiveFault.TheVariants.{BadArchive}
use Rattle.copy_vault.specs.ArchiveFault.{Refuses}
use Rattle.page_core.proofs.Public.{of_input}
use Rattle.copy_vault.proofs.ArchiveReads.{refuses_short, holds_none_short}
use Rattle.copy_vault.proofs.read.read_header.Goals as goal

pub returns-in-End-clause-first : goal.returns-in-End-clause-first
returns-in-End-clause-first g c =
    let given = take c.loop-turn.filled c.loop-turn.header in
    let short = c.loop-turn.invariant.short in
    of_input _ _ given (λ input. Refuses input (BadArchive 0)) (c.in-End.ensures.1 _ [] c.loop-turn.invariant.taken)
    (λ rest end. refuses_short given rest (omega (arith, length-take c.loop-turn.filled c.loop-turn.header))
    (end c.in-End.ensures.0))

pub returns-then-filled-ge-HEADER_BYTES-clause-ok : goal.returns-then-filled-ge-HEADER_BYTES-clause-ok
returns-then-filled-ge-HEADER_BYTES-clause-ok g c =
    let filled = c.loop-turn.filled + c.in-More.count in
    let all : take filled c.read_more.new.buffer ≡ c.read_more.new.buffer =
    take_all filled c.read_more.new.buffer (omega arith) in
    subst (Consumes _ _) all (c.in-More.ensures.1 _ [] c.loop-turn.invariant.taken)

pub loop-turn-preserved : goal.loop-turn-preserved
loop-turn-preserved g c = record {
  short = c.if-filled-ge-HEADER_BYTES.false;
  taken = c.in-More.ensures.1 _ [] c.loop-turn.invariant.taken;
}

pub returns-in-Failed-clause-unread : goal.returns-in-Failed-clause-unread
returns-in-Failed-clause-unread g c =
    let short = c.loop-turn.invariant.short in (
      take c.loop-turn.filled c.loop-turn.header,
      (
        c.in-Failed.ensures _ [] c.loop-turn.invariant.taken,
        holds_none_short (take c.loop-turn.filled c.loop-turn.header)
            (omega (arith, length-take c.loop-turn.filled c.loop-turn.header)),
      ),
    )

pub returns-clause-unread : goal.returns-clause-unread
returns-clause-unread g c =
    let short = c.loop-turn.invariant.short in (
      take c.loop-turn.filled c.loop-turn.header,
      (
        c.loop-turn.invariant.taken,
        holds_none_short (take c.loop-turn.filled c.loop-turn.header)
            (omega (arith, length-take c.loop-turn.filled c.loop-turn.header)),
      ),
    )

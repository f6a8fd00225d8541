use Rattle.std.proofs.Common.{◌≡◌, ◌+◌, List, length, map, refl, sym, ap, subst, arith}
use Rattle.std.specs.Vec.{with_items}
use Rattle.std.proofs.lemmas.List.{with_items_is}
use Rattle.copy_vault.specs.declared.chain_reader.ChainReader.{ChainReader}
use Rattle.copy_vault.specs.declared.archive_cursor.ArchiveCursor.{ArchiveCursor}
use Rattle.copy_vault.specs.ChainRead.{AreRead, IsGiven, moment_of}
use Rattle.copy_vault.proofs.ChainEnds.{given_whole, read_whole, reading_more}
use Rattle.copy_vault.proofs.chain_reader.ChainReader.next.Goals as goal

pub returns-then-self-clause-ok : goal.returns-then-self-clause-ok
returns-then-self-clause-ok g c = λ counts inputs given read. (
  read_whole counts inputs _ c.args.self.now given read c.if-self.true,
  given_whole counts inputs _ c.args.self.now given read c.if-self.true,
)

pub returns-clause-ok : goal.returns-clause-ok
returns-clause-ok g c = λ counts inputs given read.
    let left = g.R.Read.remaining in
    let it = c.args.self.now in
    let room = c.if-self.false in
    let step = rw c.in_ok-page.was at c.give_page-step.ensures.ok in
    let cursors = with_items it.cursors c.give_page-step.new.cursors in
    let same : cursors.items ≡ c.give_page-step.new.cursors =
    with_items_is it.cursors c.give_page-step.new.cursors
    (omega (arith, it.cursors.ok.0, ap length c.deref_mut.ensures.value, c.give_page-step.auto.cursors)) in
    let new : ChainReader = record {
      pages = it.pages;
      end = it.end;
      redo = it.redo;
      cursors = cursors;
      given = it.given + 1;
      failed = it.failed;
    } in
    reading_more counts inputs (map left c.args.readers.now) (map left c.give_page-step.new.readers) it new given c.in_ok-page.page
    read (omega arith)
    (λ heads copies ready. subst (λ (its : List ArchiveCursor).
    IsGiven it.end it.given heads inputs (map left c.give_page-step.new.readers) its copies c.in_ok-page.page)
    (sym same) (step heads inputs copies (subst (λ (its : List ArchiveCursor).
    AreRead it.end (moment_of it.given) 0 heads inputs (map left c.args.readers.now) its copies)
    (sym c.deref_mut.ensures.value) ready))) refl refl refl refl read.open_still

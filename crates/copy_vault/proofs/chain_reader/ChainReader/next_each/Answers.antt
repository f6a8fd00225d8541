use Rattle.std.proofs.Common.{◌≡◌, ◌+◌, List, length, map, refl, sym, ap, subst, arith}
use Rattle.std.specs.Vec.{with_items}
use Rattle.std.proofs.lemmas.List.{with_items_is}
use Rattle.copy_vault.specs.declared.chain_reader.ChainReader.{ChainReader}
use Rattle.copy_vault.specs.declared.archive_cursor.ArchiveCursor.{ArchiveCursor}
use Rattle.copy_vault.specs.ChainRead.{AreRead, IsRowGiven, moment_of, place_list}
use Rattle.copy_vault.proofs.ChainEnds.{given_whole}
use Rattle.copy_vault.proofs.ChainRows.{each_more, each_whole, found_ok}
use Rattle.copy_vault.proofs.chain_reader.ChainReader.next_each.Goals as goal

pub returns-then-self-clause-ok : goal.returns-then-self-clause-ok
returns-then-self-clause-ok g c = λ counts inputs given each. (
  each_whole counts inputs _ c.args.self.now given each c.if-self.true,
  given_whole counts inputs _ c.args.self.now each.pages each.reading c.if-self.true,
)

pub returns-clause-ok : goal.returns-clause-ok
returns-clause-ok g c = λ counts inputs given each.
    let left = g.R.Read.remaining in
    let it = c.args.self.now in
    let room = c.if-self.false in
    let row = map place_list c.give_each-step.new.row in
    let step = found_ok c.give_each-step.result _ c.in_default-step.not-Err c.give_each-step.ensures.ok in
    let cursors = with_items it.cursors c.give_each-step.new.cursors in
    let same : cursors.items ≡ c.give_each-step.new.cursors =
    with_items_is it.cursors c.give_each-step.new.cursors
    (omega (arith, it.cursors.ok.0, ap length c.deref_mut.ensures.value, c.give_each-step.auto.cursors)) in
    let new : ChainReader = record {
      pages = it.pages;
      end = it.end;
      redo = it.redo;
      cursors = cursors;
      given = it.given + 1;
      failed = it.failed;
    } in
    each_more counts inputs (map left c.args.readers.now) (map left c.give_each-step.new.readers) it new given row each
    (omega arith)
    (λ heads copies ready. subst (λ (its : List ArchiveCursor).
    IsRowGiven it.end it.given heads inputs (map left c.give_each-step.new.readers) its copies row)
    (sym same) (step heads inputs copies (subst (λ (its : List ArchiveCursor).
    AreRead it.end (moment_of it.given) 0 heads inputs (map left c.args.readers.now) its copies)
    (sym c.deref_mut.ensures.value) ready))) refl refl refl refl each.reading.open_still

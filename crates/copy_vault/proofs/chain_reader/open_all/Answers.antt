use Rattle.std.proofs.Common.{List, ℕ, length, get_or, map, set, sym, ap, subst, ◌∙◌, arith}
use Rattle.std.specs.Prelude.{Option}
use Rattle.std.proofs.lemmas.List.{get_or-map, length-map, length_push, map-set}
use Rattle.std.proofs.lemmas.Result.{err_from_is_err_and}
use Rattle.copy_vault.specs.declared.archive_cursor.ArchiveCursor.{ArchiveCursor}
use Rattle.copy_vault.specs.declared.copy_id.CopyKind.TheVariants.{Full}
use Rattle.copy_vault.specs.ChainRead.{kind_behind}
use Rattle.copy_vault.specs.ChainReading.{AreOpened, IsNotOpened, heads_of}
use Rattle.copy_vault.proofs.ChainOpens.{head_refused, kind_more, not_opened, opened_more, opened_none}
use Rattle.copy_vault.proofs.chain_reader.open_all.Goals as goal

pub loop-i-init : goal.loop-i-init
loop-i-init g c =
    let none = c.in_ok-cursors.ensures.items in
    record {
      count = ap length none;
      kind = sym (ap (λ (its : List ArchiveCursor). kind_behind Full (heads_of its)) none);
      opened = opened_none c.args.counts.now (map g.R.Read.remaining c.args.readers.now) c.in_ok-cursors.cursors.items none;
    }

pub returns-in_err-cursor-clause-err : goal.returns-in_err-cursor-clause-err
returns-in_err-cursor-clause-err g c =
    let left = g.R.Read.remaining in
    let readers = c.loop-i.readers in
    let inputs = map left c.args.readers.now in
    let i = c.loop-i.i in
    let reader = get_or readers i c.index-readers-i.result in
    let inv = c.loop-i.invariant in
    let fault = c.in_err-cursor.field-0.0 in
    let p = err_from_is_err_and c.from_residual-in_err-cursor.result c.from_residual-in_err-cursor.ensures.1 in
    rw (p.1, p.2)
    (subst (λ (ls : List (Option (List ℕ))). IsNotOpened c.args.counts.now inputs ls fault)
    (sym (map-set left readers i c.open_fitting.new.reader))
    (not_opened c.args.counts.now inputs (set (map left readers) i (left c.open_fitting.new.reader)) fault
    (head_refused c.args.counts.now i c.loop-i.kind inputs (map left readers) c.loop-i.cursors.items (left reader)
    (left c.open_fitting.new.reader) fault inv.opened inv.count inv.kind
    (omega (arith, length-map c.args.readers.now left))
    (get_or-map left readers i c.index-readers-i.result (left reader) (omega arith)) c.in_err-cursor.ensures.err)))

pub loop-i-preserved : goal.loop-i-preserved
loop-i-preserved g c =
    let left = g.R.Read.remaining in
    let readers = c.loop-i.readers in
    let inputs = map left c.args.readers.now in
    let i = c.loop-i.i in
    let reader = get_or readers i c.index-readers-i.result in
    let inv = c.loop-i.invariant in
    let it = c.in_ok-cursor.cursor in
    let is = c.in_ok-push.ensures.items in
    record {
      count = ap length is ∙ length_push c.loop-i.cursors.items it ∙ omega (arith, inv.count);
      kind = c.kind_behind-kind.ensures ∙ kind_more c.loop-i.cursors.items c.push.new.self.items it is;
      opened = subst (λ (ls : List (Option (List ℕ))). AreOpened c.args.counts.now inputs ls c.push.new.self.items)
          (sym (map-set left readers i c.open_fitting.new.reader))
          (opened_more c.args.counts.now i c.loop-i.kind inputs (map left readers) c.loop-i.cursors.items
          c.push.new.self.items (left reader) (left c.open_fitting.new.reader) it inv.opened inv.count inv.kind
          (omega (arith, length-map c.args.readers.now left))
          (get_or-map left readers i c.index-readers-i.result (left reader) (omega arith)) c.in_ok-cursor.ensures.new
          c.in_ok-cursor.ensures.fit is);
    }

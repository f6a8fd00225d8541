use Rattle.std.proofs.Common.{◌≡◌, ◌<◌, List, ℕ, length, get_or, map, refl, sym, ap, subst, ◌∙◌, arith}
use Rattle.std.specs.Prelude.{None}
use Rattle.std.proofs.lemmas.List.{length-map}
use Rattle.std.proofs.lemmas.Result.{err_from_is_err_and}
use Rattle.copy_vault.specs.declared.archive_cursor.ArchiveCursor.{ArchiveCursor}
use Rattle.copy_vault.specs.declared.chain_reader.ChainReader.{ChainReader}
use Rattle.copy_vault.specs.ChainRead.{last_point}
use Rattle.copy_vault.specs.ChainReading.{AreOpened, heads_of}
use Rattle.copy_vault.proofs.Chains.{not_empty}
use Rattle.copy_vault.proofs.ChainOpens.{not_made, past_log, reading_none}
use Rattle.copy_vault.proofs.ChainRows.{each_none}
use Rattle.copy_vault.proofs.chain_reader.ChainReader.new.Goals as goal

pub returns-in_err-cursors-clause-err : goal.returns-in_err-cursors-clause-err
returns-in_err-cursors-clause-err g c =
    let left = g.R.Read.remaining in
    let p = err_from_is_err_and c.from_residual.result c.from_residual.ensures.1 in
    rw (p.1, p.2)
    (not_made c.args.counts.now c.args.end (map left c.args.readers.now) (map left c.open_all.new.readers)
    c.in_err-cursors.field-0.0 c.in_err-cursors.ensures.err)

pub returns-then-is_past-clause-err : goal.returns-then-is_past-clause-err
returns-then-is_past-clause-err g c =
    let left = g.R.Read.remaining in
    let inputs = map left c.args.readers.now in
    let lefts = map left c.open_all.new.readers in
    let its = c.deref.result.now in
    let value : its ≡ c.in_ok-cursors.cursors.items = c.deref.ensures.value in
    let found = c.if-is_past.ensures.past refl in
    past_log c.args.counts.now c.args.end inputs lefts its found.0
    (subst (AreOpened c.args.counts.now inputs lefts) (sym value) c.in_ok-cursors.ensures.opened)
    (omega (arith, ap length value, c.in_ok-cursors.ensures.all, length-map c.args.readers.now left)) found.1 found.2

pub returns-clause-ok : goal.returns-clause-ok
returns-clause-ok g c =
    let left = g.R.Read.remaining in
    let inputs = map left c.args.readers.now in
    let lefts = map left c.open_all.new.readers in
    let value : c.deref.result.now ≡ c.in_ok-cursors.cursors.items = c.deref.ensures.value in
    let value_2 : c.deref-2.result.now ≡ c.in_ok-cursors.cursors.items = c.deref-2.ensures.value in
    let all : length c.in_ok-cursors.cursors.items ≡ length inputs =
    omega (arith, c.in_ok-cursors.ensures.all, length-map c.args.readers.now left) in
    let new : ChainReader = record {
      pages = c.last.result;
      end = c.args.end;
      redo = c.redo_of_last.result;
      cursors = c.in_ok-cursors.cursors;
      given = 0;
      failed = None;
    } in
    reading_none c.args.counts.now inputs lefts new c.last.ensures refl refl c.in_ok-cursors.ensures.opened all
    (omega (arith, not_empty c.args.readers.now c.if-is_empty.ensures, length-map c.args.readers.now left))
    (subst (λ (its : List ArchiveCursor). (k : ℕ) (it : ArchiveCursor) → k < length its
    → (get_or its k it).header.redo < c.args.end) value (c.if-is_past.ensures.below refl))
    (c.redo_of_last.ensures ∙ ap (λ (its : List ArchiveCursor). last_point (heads_of its)) value_2)

pub returns-clause-each : goal.returns-clause-each
returns-clause-each g c =
    let left = g.R.Read.remaining in
    each_none c.args.counts.now (map left c.args.readers.now) (map left c.open_all.new.readers) (record {
      pages = c.last.result;
      end = c.args.end;
      redo = c.redo_of_last.result;
      cursors = c.in_ok-cursors.cursors;
      given = 0;
      failed = None;
    }) (returns-clause-ok g c) refl

use Rattle.std.proofs.Common.{◌≡◌, ◌+◌, ◌<◌, List, ℕ, length, get_or, map, refl, set, sym, subst, ◌∙◌, arith}
use Rattle.std.specs.Prelude.{Option}
use Rattle.std.proofs.lemmas.List.{get_or-map, map-set}
use Rattle.std.proofs.lemmas.Result.{err_from_is_err_and}
use Rattle.copy_vault.specs.ChainRead.{AreReadOn, AreRefused}
use Rattle.copy_vault.proofs.ChainSteps.{any_default, heads_set, start_read, step_read, step_refused}
use Rattle.copy_vault.proofs.cursors.read_due.Goals as goal

pub returns-in_err-read_due-clause-err : goal.returns-in_err-read_due-clause-err
returns-in_err-read_due-clause-err g c =
    let left = g.R.Read.remaining in
    let i = c.loop-i.i in
    let reader = get_or c.loop-i.readers i c.index-readers-i.result in
    let it = get_or c.loop-i.cursors i c.index-cursors-i.result in
    let lt : i < length c.loop-i.cursors = omega arith in
    let of_left : get_or (map left c.loop-i.readers) i (left reader) ≡ left reader =
    get_or-map left c.loop-i.readers i c.index-readers-i.result (left reader) (omega arith) in
    let of_it : get_or c.loop-i.cursors i it ≡ it = any_default c.loop-i.cursors i it c.index-cursors-i.result lt in
    let p = err_from_is_err_and c.from_residual.result c.from_residual.ensures.1 in
    rw (p.1, p.2) (λ heads inputs copies start.
    let on = c.loop-i.invariant.on heads inputs copies start in
    subst (λ (ls : List (Option (List ℕ))). AreRefused c.args.end heads inputs ls c.in_err-read_due.field-0.0)
    (sym (map-set left c.loop-i.readers i c.read_due.new.reader))
    (step_refused c.args.end c.args.next i heads inputs (map left c.loop-i.readers) c.loop-i.cursors copies (left reader)
    (left c.read_due.new.reader) it c.in_err-read_due.field-0.0 on lt of_left of_it
    c.in_err-read_due.ensures.err))

pub loop-i-preserved : goal.loop-i-preserved
loop-i-preserved g c =
    let left = g.R.Read.remaining in
    let i = c.loop-i.i in
    let reader = get_or c.loop-i.readers i c.index-readers-i.result in
    let it = get_or c.loop-i.cursors i c.index-cursors-i.result in
    let lt : i < length c.loop-i.cursors = omega arith in
    let of_left : get_or (map left c.loop-i.readers) i (left reader) ≡ left reader =
    get_or-map left c.loop-i.readers i c.index-readers-i.result (left reader) (omega arith) in
    let of_it : get_or c.loop-i.cursors i it ≡ it = any_default c.loop-i.cursors i it c.index-cursors-i.result lt in
    record {
      on = λ heads inputs copies start.
          let on = c.loop-i.invariant.on heads inputs copies start in
          subst (λ (ls : List (Option (List ℕ))).
          AreReadOn c.args.end c.args.next (i + 1) c.args.next heads inputs ls (set c.loop-i.cursors i c.read_due.new.self) copies)
          (sym (map-set left c.loop-i.readers i c.read_due.new.reader))
          (step_read c.args.end c.args.next i heads inputs (map left c.loop-i.readers) c.loop-i.cursors copies
          (left reader) (left c.read_due.new.reader) it c.read_due.new.self on lt of_left of_it
          c.in_ok-read_due.ensures.ok);
      heads = heads_set c.loop-i.cursors i c.read_due.new.self c.index-cursors-i.result c.read_due.ensures.header
          ∙ c.loop-i.invariant.heads;
    }

pub returns-in_err-read_due-clause-heads : goal.returns-in_err-read_due-clause-heads
returns-in_err-read_due-clause-heads g c =
    heads_set c.loop-i.cursors c.loop-i.i c.read_due.new.self c.index-cursors-i.result c.read_due.ensures.header
    ∙ c.loop-i.invariant.heads

pub loop-i-init : goal.loop-i-init
loop-i-init g c = record {
  on = λ heads inputs copies start.
      start_read c.args.end c.args.next heads inputs (map g.R.Read.remaining c.args.readers.now) c.args.cursors.now copies
      start;
  heads = refl;
}

pub returns-clause-ok : goal.returns-clause-ok
returns-clause-ok g c = λ heads inputs copies start.
    let past = c.loop-i-test.false in
    let all : c.loop-i.i ≡ length c.loop-i.cursors = omega (arith, c.loop-i.auto.i-end) in
    subst (λ n. AreReadOn c.args.end c.args.next n c.args.next heads inputs (map g.R.Read.remaining c.loop-i.readers)
    c.loop-i.cursors copies) all (c.loop-i.invariant.on heads inputs copies start)

use Rattle.std.proofs.Common.{◌+◌, sym, subst, refl}
use Rattle.copy_vault.specs.declared.copy_id.CopyKind.TheVariants.{Inc}
use Rattle.copy_vault.proofs.Chains.{FitUpTo, broken_at, fit_more}
use Rattle.copy_vault.proofs.chain.first_misfit.Goals as goal

pub returns-then-not-fits-clause-found : goal.returns-then-not-fits-clause-found
returns-then-not-fits-clause-found c =
    broken_at c.args.counts.now c.args.copies.now c.loop-i.i c.loop-i.kind c.index-copies-i.result c.id.result
    c.loop-i.invariant.up c.loop-i-test.true c.index-copies-i.is c.id.ensures
    (λ here. let yes = c.if-not-fits.ensures.fits.1 here in cc)

pub loop-i-preserved : goal.loop-i-preserved
loop-i-preserved c =
    let copies = c.args.copies.now in
    let copy = c.index-copies-i.result in
    let here = c.if-not-fits.ensures.fits.0 refl in
    record {
      up = subst (λ n. FitUpTo c.args.counts.now copies (c.loop-i.i + 1) (Inc n)) (sym c.id-in-loop-i.ensures)
          (fit_more c.args.counts.now copies c.loop-i.i c.loop-i.kind copy c.loop-i.invariant.up c.loop-i-test.true
          c.index-copies-i.is here c.if-not-fits.ensures.complete);
    }

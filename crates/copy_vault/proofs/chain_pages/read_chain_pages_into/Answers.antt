use Rattle.std.proofs.Common.{◌++◌, [], ◌∷◌, List, map, sym, subst, ◌∙◌, arith, inl, inr, take}
use Rattle.std.proofs.lemmas.List.{length_push, length-take-le}
use Rattle.std.proofs.lemmas.Result.{err_from_is_err_and}
use Rattle.page_core.specs.declared.page.Page.{Page}
use Rattle.copy_vault.specs.ChainReading.{IsChainRead, IsReading, IsStopped}
use Rattle.copy_vault.proofs.ChainEnds.{count_given}
use Rattle.copy_vault.proofs.chain_pages.read_chain_pages_into.Goals as goal

pub returns-in_err-page-clause-err : goal.returns-in_err-page-clause-err
returns-in_err-page-clause-err g c =
    let left = g.R.Read.remaining in
    let inputs = map left c.args.readers.now in
    let lefts = map left c.next.new.readers in
    let inv = c.pages.invariant in
    let fault = c.in_err-page.field-0.0 in
    let counts = c.args.counts.now in
    let stopped = c.in_err-page.ensures.err counts inputs (take c.pages.given c.pages.pages.items) inv.reading in
    let p = err_from_is_err_and c.from_residual-in_err-page.result c.from_residual-in_err-page.ensures.1 in
    rw (p.1, p.2)
    (inr (inl (subst (λ n. IsStopped counts n inputs lefts fault) inv.end stopped)))

pub pages-smaller : goal.pages-smaller
pages-smaller g c =
    let left = g.R.Read.remaining in
    let inputs = map left c.args.readers.now in
    let lefts = map left c.next.new.readers in
    let inv = c.pages.invariant in
    let given = take c.pages.given c.pages.pages.items in
    let going = rw c.in-Some.is at (c.in_ok-page.ensures.ok c.args.counts.now inputs given inv.reading) in
    omega (
      arith,
      count_given c.args.counts.now inputs lefts c.next.new.self (given ++ c.in-Some.page ∷ []) going,
      length_push given c.in-Some.page,
      length-take-le c.pages.given c.pages.pages.items inv.within,
      c.in_ok-page.ensures.pages,
      inv.pages,
    )

pub pages-preserved : goal.pages-preserved
pages-preserved g c =
    let left = g.R.Read.remaining in
    let inputs = map left c.args.readers.now in
    let lefts = map left c.next.new.readers in
    let inv = c.pages.invariant in
    let given = take c.pages.given c.pages.pages.items in
    let going = rw c.in-Some.is at (c.in_ok-page.ensures.ok c.args.counts.now inputs given inv.reading) in
    let there = c.in_ok-put_at-in-Some.ensures.there in
    record {
      reading = subst (λ (ps : List Page). IsReading c.args.counts.now inputs lefts c.next.new.self ps)
          (sym c.in_ok-put_at-in-Some.ensures.put) going;
      within = omega (arith, there);
      pages = c.in_ok-page.ensures.pages ∙ inv.pages;
      end = c.in_ok-page.ensures.end ∙ inv.end;
    }

pub returns-in-None-clause-ok : goal.returns-in-None-clause-ok
returns-in-None-clause-ok g c =
    let left = g.R.Read.remaining in
    let inputs = map left c.args.readers.now in
    let counts = c.args.counts.now in
    let inv = c.pages.invariant in
    let given = take c.pages.given c.pages.pages.items in
    let whole = (rw c.in-None.is at (c.in_ok-page.ensures.ok counts inputs given inv.reading)).0 in
    subst (λ (ps : List Page). IsChainRead counts c.args.end inputs ps c.redo.result) (sym c.truncate.ensures.items)
    (subst (λ n. IsChainRead counts c.args.end inputs given n) (sym c.redo.ensures)
    (subst (λ n. IsChainRead counts n inputs given c.next.new.self.redo)
    (c.in_ok-page.ensures.end ∙ inv.end) whole))

pub returns-in-None-clause-end : goal.returns-in-None-clause-end
returns-in-None-clause-end g c =
    let inputs = map g.R.Read.remaining c.args.readers.now in
    let given = take c.pages.given c.pages.pages.items in
    (rw c.in-None.is at (c.in_ok-page.ensures.ok c.args.counts.now inputs given c.pages.invariant.reading)).1

use Rattle.std.proofs.Common.{◌≡◌, ◌-◌, ◌++◌, ◌∙◌, None, ap, arith, length, sym}
use Rattle.std.specs.Prelude.{replicate}
use Rattle.page_core.proofs.Public.{length-grown_to}
use Rattle.page_store.proofs.Growth.{grown-both}
use Rattle.page_store.proofs.faulty_store.FaultyStore.add_pages.Goals as goal

pub returns-clause-added : goal.returns-clause-added
returns-clause-added c =
    let grown = c.in_ok-grow.ensures.exact.grown in
    let long = ap length grown ∙ length-grown_to c.args.count c.self.inside.store in
    let same = c.self.inside.damaged_from.ok.0 in
    let more : c.pages.result - length c.self.inside.damaged_from.items ≡ c.args.count - length c.self.inside.store =
    omega (arith, long, same, c.self.invariant.0, c.pages.ensures.count) in
    let added = c.add_undamaged.ensures.added
    ∙ ap (λ k. c.self.inside.damaged_from.items ++ replicate k None) more in
    rw (sym c.self.view_is) (grown-both _ c.args.count grown added)

use Rattle.std.proofs.Common.{refl, sym, subst, ◌∙◌, arith}
use Rattle.std.proofs.lemmas.List.{take_all}
use Rattle.copy_vault.specs.Chain.{IsChain}
use Rattle.copy_vault.proofs.Chains.{fit_chain, not_empty}
use Rattle.copy_vault.proofs.chain.Chain.link.Goals as goal

pub new-requires : goal.new-requires
new-requires c =
    let copies = c.args.copies.now in
    let past = c.loop-i-test.false in
    let same = c.loop-i.invariant.so_far ∙ take_all c.loop-i.i copies (omega arith) in
    subst IsChain (sym same) (fit_chain c.args.counts.now copies (c.in_default.ensures.none refl)
    (not_empty copies c.if-is_empty.ensures) (c.in_default.ensures.complete refl))

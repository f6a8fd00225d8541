use Rattle.std.proofs.Common.{◌≡◌, ◌∙◌, [], ap, rules, subst, sym}
use Rattle.file_inputs.specs.CopyChain.{HasChain, LeadTo, first_or}
use Rattle.file_inputs.proofs.CopyChains.{chain_goes_on, chain_stands, first_stays, lead_on, no_chain_of_0}
use Rattle.file_inputs.proofs.copy_chain.chain_of.Goals as goal

pub returns-in_default : goal.returns-in_default
returns-in_default c = λ has.
    let some : c.loop-next.next ≡ 0 → ⊥ = search rules in
    let stands = chain_stands c.args.headers.now c.loop-next.next (c.loop-next.invariant.whole some has) in
    c.in_default.ensures stands.0 stands.1

pub loop-next-preserved : goal.loop-next-preserved
loop-next-preserved c =
    let some : c.loop-next.next ≡ 0 → ⊥ = search rules in
    let headers = c.args.headers.now in
    let chain = c.loop-next.chain.items in
    let pushed = c.in_ok-push.ensures.items in record {
      lead = subst (λ items. LeadTo headers items c.in-Some.below) (sym pushed)
          (lead_on headers chain c.loop-next.next c.in-Some.below c.loop-next.invariant.lead c.in-Some.ensures);
      first = ap (λ items. first_or items c.in-Some.below) pushed
          ∙ (first_stays chain c.loop-next.next c.in-Some.below ∙ c.loop-next.invariant.first);
      whole = λ more has. chain_goes_on headers c.loop-next.next c.in-Some.below c.in-Some.ensures more
          (c.loop-next.invariant.whole some has);
    }

pub returns-then-is_empty : goal.returns-then-is_empty
returns-then-is_empty c = λ has.
    let empty : c.loop-next.chain.items ≡ [] = search rules in
    let zero : c.loop-next.next ≡ 0 = search rules in
    no_chain_of_0 c.args.headers.now (subst (HasChain c.args.headers.now)
    (sym c.loop-next.invariant.first ∙ (ap (λ items. first_or items c.loop-next.next) empty ∙ zero)) has)

use Rattle.std.proofs.Common.{◌<◌, reverse, sym, ap, subst, ◌∙◌, arith}
use Rattle.copy_vault.specs.declared.copy_id.CopyKind.TheVariants.{Inc}
use Rattle.copy_vault.specs.Vault.{state_of}
use Rattle.copy_vault.specs.Chain.{IsChain, lent}
use Rattle.copy_vault.specs.ChainOf.{IsChainOf}
use Rattle.copy_vault.proofs.ChainsOf.{IsTail, is_there, known_here, parent_of}
use Rattle.copy_vault.proofs.Chains.{is_full, lent_back}
use Rattle.copy_vault.proofs.Chains.{reversed}
use Rattle.copy_vault.proofs.ChainsOf.{tail_more, tail_start, tail_whole}
use Rattle.copy_vault.proofs.vault.Vault.chain.Goals as goal

pub loop-parent-init : goal.loop-parent-init
loop-parent-init c =
    let copies = c.args.self.now.copies in
    let copy = c.in_ok-copy.copy.now in
    let known = c.in_ok-copy.ensures.kept in
    record {
      known = known_here copies c.args.id copy known;
      tail = subst (IsTail copies c.args.id copy) (sym (ap (λ refs. reverse (lent refs)) c.new-members.ensures.items))
          (tail_start copies c.args.id copy c.in_ok-copy.ensures.ok known.id_is);
    }

pub returns-in_err-copy-2-clause-err : goal.returns-in_err-copy-2-clause-err
returns-in_err-copy-2-clause-err c =
    let copies = c.args.self.now.copies in
    let copy = c.loop-parent.copy.now in
    let parent = parent_of copies copy c.in-Inc.parent c.loop-parent.invariant.known (sym c.in-Inc.ensures.kind) in
    absurd (is_there copies c.in-Inc.parent copy.id _ parent c.in_err-copy-2.ensures.err)

pub loop-parent-smaller : goal.loop-parent-smaller
loop-parent-smaller c =
    let copies = c.args.self.now.copies in
    let copy = c.loop-parent.copy.now in
    let parent = parent_of copies copy c.in-Inc.parent c.loop-parent.invariant.known (sym c.in-Inc.ensures.kind) in
    let less : c.in_ok-copy-2.copy.now.id < copy.id = omega (arith, parent.before, c.in_ok-copy-2.ensures.kept.id_is) in
    less

pub loop-parent-preserved : goal.loop-parent-preserved
loop-parent-preserved c =
    let copies = c.args.self.now.copies in
    let copy = c.loop-parent.copy.now in
    let other = c.in_ok-copy-2.copy.now in
    let there = c.in_ok-copy-2.ensures in
    let kind = sym c.in-Inc.ensures.kind in
    let next = kind ∙ ap Inc (sym there.kept.id_is) in
    record {
      known = known_here copies c.in-Inc.parent other there.kept;
      tail = subst (IsTail copies c.args.id other)
          (sym (ap (λ refs. reverse (lent refs)) c.in_ok-push.ensures.items
          ∙ lent_back c.loop-parent.members.items c.loop-parent.copy))
          (tail_more copies c.args.id other copy (reverse (lent c.loop-parent.members.items))
          c.loop-parent.invariant.tail
          c.in-Inc.ensures.complete next (ap (state_of copies) there.kept.id_is ∙ there.ok));
    }

pub new-requires : goal.new-requires
new-requires c =
    let copies = c.args.self.now.copies in
    let copy = c.loop-parent.copy.now in
    let refs = c.loop-parent.members.items in
    let full = is_full copy.kind (λ parent e. c.in_default.not-Inc parent (c.kind.ensures.kind ∙ e)) in
    subst IsChain
    (sym (ap lent (c.reverse.ensures.items ∙ ap reverse c.in_ok-push-2.ensures.items)
    ∙ reversed refs c.loop-parent.copy))
    (tail_whole copies c.args.id copy (reverse (lent refs)) c.loop-parent.invariant.tail c.kind.ensures.complete full)

pub returns-clause-found : goal.returns-clause-found
returns-clause-found c =
    let refs = c.loop-parent.members.items in
    subst (IsChainOf c.args.self.now.copies c.args.id)
    (sym (c.new.ensures ∙ ap lent (c.reverse.ensures.items ∙ ap reverse c.in_ok-push-2.ensures.items)
    ∙ reversed refs c.loop-parent.copy))
    c.loop-parent.invariant.tail.of_chain

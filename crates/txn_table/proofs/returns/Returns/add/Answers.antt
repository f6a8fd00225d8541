use Rattle.std.proofs.Common.{◌∙◌, ◌++◌, ◌∷◌, [], ap, ap₂, subst, sym}
use Rattle.std.proofs.lemmas.List.{append-nil}
use Rattle.std.specs.Option.{option_to_list}
use Rattle.txn_table.specs.Returns.{HasReturns, ReturnsView}
use Rattle.txn_table.proofs.GoneReturns.{returns_more}
use Rattle.txn_table.proofs.returns.Returns.add.Goals as goal

pub returns-in-Some-clause-log : goal.returns-in-Some-clause-log
returns-in-Some-clause-log c = λ rs r has may is.
    let added = c.push_reserved.ensures.items
    ∙ ap₂ (λ xs o. xs ++ option_to_list o) (ap (λ (v : ReturnsView). v.made) c.self.view_is) (sym c.in-Some.is) in
    subst (HasReturns (rs ++ r ∷ [])) (sym added)
    (returns_more rs r c.args.self.now.made c.args.back.now has may is)

pub returns-in_default-clause-log : goal.returns-in_default-clause-log
returns-in_default-clause-log c = λ rs r has may is.
    let added = sym (append-nil c.args.self.now.made)
    ∙ ap (λ o. c.args.self.now.made ++ option_to_list o) (sym c.in_default.is) in
    subst (HasReturns (rs ++ r ∷ [])) (sym added)
    (returns_more rs r c.args.self.now.made c.args.back.now has may is)

use Rattle.std.proofs.Common.{◌≡◌, ◌∙◌, ℕ, List, ap, sym, subst, arith}
use Rattle.std.specs.Prelude.{Contains, IsTrue, nat_eq}
use Rattle.std.proofs.lemmas.Grind.{common_steps}
use Rattle.std.proofs.lemmas.Option.{same_Some}
use Rattle.txn_table.specs.declared.returns.Return.{Return}
use Rattle.txn_table.specs.Returns.{AreRising, ReturnsView}
use Rattle.txn_table.proofs.Going.{return_at}
use Rattle.txn_table.proofs.returns.Returns.is_return.Goals as goal

pub returns-in-Some : goal.returns-in-Some
returns-in-Some c = λ rising.
    let made : c.deref.result.now ≡ c.args.self.now.made =
    c.deref.ensures.value ∙ ap (λ (v : ReturnsView). v.made) c.self.view_is in
    let same : IsTrue (nat_eq c.in-Some.found c.args.left) → c.in-Some.found ≡ c.args.left =
    λ is. grind (arith, common_steps) in
    let back : c.in-Some.found ≡ c.args.left → IsTrue (nat_eq c.in-Some.found c.args.left) =
    λ is. grind (arith, common_steps) in (
      λ is. subst (λ (n : ℕ). Contains c.args.self.now.made (return_at c.args.at c.args.txn n)) (same is)
          (subst (λ (xs : List Return). Contains xs (return_at c.args.at c.args.txn c.in-Some.found)) made
          c.in-Some.ensures.found),
      λ there. back (same_Some _ _ (c.in-Some.ensures.all (subst AreRising (sym made) rising) c.args.left
          (subst (λ (xs : List Return). Contains xs (return_at c.args.at c.args.txn c.args.left)) (sym made) there))),
    )

pub returns-in-None : goal.returns-in-None
returns-in-None c = λ rising.
    let made : c.deref.result.now ≡ c.args.self.now.made =
    c.deref.ensures.value ∙ ap (λ (v : ReturnsView). v.made) c.self.view_is in (
      λ is. absurd (cc),
      λ there. let no = c.in-None.ensures.all (subst AreRising (sym made) rising) c.args.left
          (subst (λ (xs : List Return). Contains xs (return_at c.args.at c.args.txn c.args.left)) (sym made) there) in cc,
    )

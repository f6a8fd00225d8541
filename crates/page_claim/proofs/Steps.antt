-- Each kind of step keeps the rule.
use Rattle.std.proofs.Common.{◌≡◌, ℕ, ◌+◌, ◌≤◌, ◌<◌, Bool, true, false, cond, ◌||◌, List, [], ◌∷◌, ◌++◌, set, min, ⊎_elim, refl, ap, subst, arith}
use Rattle.std.proofs.lemmas.List.Sums.{sum_by_push}
use mathlib.Core.Option.{some}
use lib.ListN.{get_elem?}
use Rattle.atomic_table.proofs.Lists.{at_set, at_snoc}
use Rattle.page_claim.specs.declared.rule.ClaimTerms.{ClaimTerms}
use Rattle.page_claim.specs.declared.rule.ClaimView.{ClaimView}
use Rattle.page_claim.specs.Rule.{times, pages_below, ended_weight, EachView, KeepsClaims, with_page, told_none, one_less, one_worker, together, spent_view}
use Rattle.page_claim.proofs.Sums.{sum_by_changed, times-append, times_below_more, held, times_drawn, weights_of_either}

abbrev weight : ClaimView → ℕ
weight view = view.weight

each_set : (P : ClaimView → Type 0) (views : List ClaimView) (id : ℕ) (w : ClaimView) → EachView views P → P w → EachView (set views id w) P
each_set P views id w all here j u at = ⊎_elim (λ t. subst P t.1 here) (λ t. all j u t.1) (at_set views id j w u at)

each_snoc : (P : ClaimView → Type 0) (views : List ClaimView) (w : ClaimView) → EachView views P → P w → EachView (views ++ w ∷ []) P
each_snoc P views w all here j u at = ⊎_elim (λ t. all j u t) (λ t. subst P t here) (at_snoc views w u j at)

below : (page m n : ℕ) → m ≡ n → times page (pages_below m) ≡ times page (pages_below n)
below page m n e = ap (λ k. times page (pages_below k)) e

module _ (terms : ClaimTerms) (word : ℕ) (views : List ClaimView) (r : KeepsClaims terms word views) (id : ℕ) (v : ClaimView) (at : get_elem? views id ≡ some v) where
  -- a list of views whose lists have page n more
  pub gave_page : 0 < v.weight → word < v.count → KeepsClaims terms (word + 1) (set views id (with_page v word))
  gave_page works small = let w : ClaimView = with_page v word in let count : v.count ≡ terms.count = r.counted id v at works in record {
    bounded = r.bounded;
    each_once = λ page. let a = times_drawn page (set views id w) in let b = times_drawn page views in let s = sum_by_changed (held page) views id v w at in let o = r.each_once page in
        let p = times-append page v.pages (word ∷ []) in let m = times_below_more page word in
        let x = below page (min word terms.count) word (omega arith) in let y = below page (min (word + 1) terms.count) (word + 1) (omega arith) in omega arith;
    told = each_set (λ u. u.ended ≡ true → terms.count < word + 1) views id w (λ j u on e. let l = r.told j u on e in omega arith) (λ e. let l = r.told id v at e in omega arith);
    few = let s = sum_by_changed ended_weight views id v w at in let f = r.few in omega arith;
    workers = let s = sum_by_changed weight views id v w at in let f = r.workers in omega arith;
    idle = each_set (λ u. u.weight ≡ 0 → u.pages ≡ []) views id w r.idle (λ e. absurd (omega arith));
    counted = each_set (λ u. 0 < u.weight → u.count ≡ terms.count) views id w r.counted (λ _. count);
  }

  pub gave_none : 0 < v.weight → v.ended ≡ false → v.count ≤ word → KeepsClaims terms (word + 1) (set views id (told_none v))
  gave_none works goes large = let w : ClaimView = told_none v in let count : v.count ≡ terms.count = r.counted id v at works in record {
    bounded = r.bounded;
    each_once = λ page. let a = times_drawn page (set views id w) in let b = times_drawn page views in let s = sum_by_changed (held page) views id v w at in let o = r.each_once page in
        let x = below page (min (word + 1) terms.count) (min word terms.count) (omega arith) in omega arith;
    told = each_set (λ u. u.ended ≡ true → terms.count < word + 1) views id w (λ j u on e. let l = r.told j u on e in omega arith) (λ e. omega arith);
    few = let s = sum_by_changed ended_weight views id v w at in let f = r.few in let none : ended_weight v ≡ 0 = ap (λ b. cond b v.weight 0) goes in omega arith;
    workers = let s = sum_by_changed weight views id v w at in let f = r.workers in omega arith;
    idle = each_set (λ u. u.weight ≡ 0 → u.pages ≡ []) views id w r.idle (r.idle id v at);
    counted = each_set (λ u. 0 < u.weight → u.count ≡ terms.count) views id w r.counted (λ _. count);
  }

  pub was_split : 2 ≤ v.weight → v.ended ≡ false → KeepsClaims terms word (set views id (one_less v) ++ one_worker v ∷ [])
  was_split two goes = let w : ClaimView = one_less v in let u : ClaimView = one_worker v in let count : v.count ≡ terms.count = r.counted id v at (omega arith) in let rest : List ClaimView = set views id w in record {
    bounded = r.bounded;
    each_once = λ page. let a = times_drawn page (rest ++ u ∷ []) in let b = times_drawn page views in let s = sum_by_changed (held page) views id v w at in let p = sum_by_push (held page) rest u in let o = r.each_once page in omega arith;
    told = each_snoc (λ x. x.ended ≡ true → terms.count < word) rest u (each_set (λ x. x.ended ≡ true → terms.count < word) views id w r.told (r.told id v at)) (λ e. cc);
    few = let s = sum_by_changed ended_weight views id v w at in let p = sum_by_push ended_weight rest u in let f = r.few in let none : ended_weight v ≡ 0 = ap (λ b. cond b v.weight 0) goes in omega arith;
    workers = let s = sum_by_changed weight views id v w at in let p = sum_by_push weight rest u in let f = r.workers in omega arith;
    idle = each_snoc (λ x. x.weight ≡ 0 → x.pages ≡ []) rest u (each_set (λ x. x.weight ≡ 0 → x.pages ≡ []) views id w r.idle (λ e. absurd (omega arith))) (λ _. refl);
    counted = each_snoc (λ x. 0 < x.weight → x.count ≡ terms.count) rest u (each_set (λ x. 0 < x.weight → x.count ≡ terms.count) views id w r.counted (λ _. count)) (λ _. count);
  }

  module _ (other : ℕ) (o : ClaimView) (apart : ¬ (other ≡ id)) (on : get_elem? (set views id (together v o)) other ≡ some o) where
    there : get_elem? views other ≡ some o
    there = ⊎_elim (λ t. absurd (apart t.0)) (λ t. t.1) (at_set views id other (together v o) o on)

    told_either : (a b : Bool) → v.ended ≡ a → o.ended ≡ b → (a || b) ≡ true → terms.count < word
    told_either true b ea eb e = r.told id v at ea
    told_either false true ea eb e = r.told other o there eb
    told_either false false ea eb e = cc

    pub were_joined : 0 < v.weight → KeepsClaims terms word (set (set views id (together v o)) other spent_view)
    were_joined works = let w : ClaimView = together v o in let first : List ClaimView = set views id w in record {
      bounded = r.bounded;
      each_once = λ page. let a = times_drawn page (set first other spent_view) in let b = times_drawn page views in let s = sum_by_changed (held page) views id v w at in
          let t = sum_by_changed (held page) first other o spent_view on in let p = times-append page v.pages o.pages in let c = r.each_once page in omega arith;
      told = each_set (λ x. x.ended ≡ true → terms.count < word) first other spent_view (each_set (λ x. x.ended ≡ true → terms.count < word) views id w r.told (told_either v.ended o.ended refl refl)) (λ e. cc);
      few = let s = sum_by_changed ended_weight views id v w at in let t = sum_by_changed ended_weight first other o spent_view on in let f = r.few in let m = weights_of_either v.ended o.ended v.weight o.weight in omega arith;
      workers = let s = sum_by_changed weight views id v w at in let t = sum_by_changed weight first other o spent_view on in let f = r.workers in omega arith;
      idle = each_set (λ x. x.weight ≡ 0 → x.pages ≡ []) first other spent_view (each_set (λ x. x.weight ≡ 0 → x.pages ≡ []) views id w r.idle (λ e. absurd (omega arith))) (λ _. refl);
      counted = each_set (λ x. 0 < x.weight → x.count ≡ terms.count) first other spent_view
          (each_set (λ x. 0 < x.weight → x.count ≡ terms.count) views id w r.counted (λ _. r.counted id v at works)) (λ e. absurd (omega arith));
    }

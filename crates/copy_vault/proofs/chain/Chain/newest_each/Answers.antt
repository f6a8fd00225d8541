use Rattle.std.proofs.Common.{◌≡◌, ◌+◌, ◌<◌, List, length, map, take, drop, sym, ap, subst, ◌∙◌, arith}
use Rattle.std.specs.Borrow.{Bor}
use Rattle.std.specs.List.{range_with_len}
use Rattle.std.specs.Prelude.{Option}
use Rattle.std.proofs.lemmas.List.{length-map, take_all, take_at}
use Rattle.page_core.specs.declared.page.Page.{Page}
use Rattle.copy_vault.specs.Copy.{CopyView}
use Rattle.copy_vault.specs.Chain.{lent, newest}
use Rattle.page_decisions.specs.Slots.{AreLaidOver, page_list}
use Rattle.copy_vault.proofs.Chains.{at_ref}
use Rattle.copy_vault.proofs.Overlaid.{newest_next}
use Rattle.copy_vault.proofs.chain.Chain.newest_each.Goals as goal

pub loop-i-preserved : goal.loop-i-preserved
loop-i-preserved c =
    let refs = c.self.inside.members.items in
    let members = lent refs in
    let copy = c.index.result.now in
    let i = c.loop-i.i in
    let n = c.args.count in
    let items = c.loop-i.pages.items in
    let new = c.lay_over.new.pages in
    let here = at_ref refs i copy c.index.ensures in
    let lt : i < length members = omega (arith, length-map refs (λ r. r.now)) in
    let so_far = c.loop-i.invariant.so_far
    ∙ ap (λ (ms : List CopyView). map (newest (take i ms)) (range_with_len 0 n)) (sym c.self.view_is) in
    let count : length new ≡ c.loop-i.pages.len =
    omega (arith, c.lay_over.auto.pages, ap length c.deref_mut.ensures.value, c.loop-i.pages.ok.0) in
    let back = take_at new (drop (length new) items) c.loop-i.pages.len count in
    let over = subst (λ (xs : List (Option (Bor Page))). AreLaidOver copy.now.pages (map page_list xs) (map page_list new))
    c.deref_mut.ensures.value c.lay_over.ensures in
    record {
      so_far = ap (λ (xs : List (Option (Bor Page))). map page_list xs) back
          ∙ newest_next members i n copy.now (map page_list items) (map page_list new) lt here so_far over
          ∙ ap (λ (ms : List CopyView). map (newest (take (i + 1) ms)) (range_with_len 0 n)) c.self.view_is;
    }

pub returns-clause-newest : goal.returns-clause-newest
returns-clause-newest c =
    let refs = c.self.inside.members.items in
    let n = c.args.count in
    let i = c.loop-i.i in
    let past = c.loop-i-test.false in
    let all : take i c.args.self.now ≡ c.args.self.now = take_all i c.args.self.now
    (omega (arith, ap length c.self.view_is, length-map refs (λ r. r.now))) in
    c.loop-i.invariant.so_far ∙ ap (λ (ms : List CopyView). map (newest ms) (range_with_len 0 n)) all

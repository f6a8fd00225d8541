use Rattle.std.proofs.Common.{◌≡◌, ◌<◌, List, [], ◌∷◌, ◌++◌, length, get_or, sym, ap, ◌∙◌, arith}
use Rattle.std.proofs.lemmas.List.{get_or-map, length-map}
use Rattle.std.proofs.lemmas.List.FromFn.{get_or-map-range_with_len, length-map-range_with_len, map-range_with_len_more}
use Rattle.page_core.specs.declared.page.Page.{Page}
use Rattle.page_core.specs.Page.{formatted}
use Rattle.copy_vault.specs.Chain.{content, contents, last_of, newest}
use Rattle.page_decisions.specs.Slots.{page_list}
use Rattle.copy_vault.proofs.Chains.{content_newest, contents_numbered}
use Rattle.copy_vault.proofs.chain.Chain.contents.Goals as goal

pub index-requires : goal.index-requires
index-requires c =
    let members = c.args.self.now in
    let newest_ones = c.in_ok-newest.newest in
    omega (
      arith,
      ap length c.in_ok-newest.ensures.newest,
      length-map newest_ones.items page_list,
      length-map-range_with_len (newest members) 0 c.args.count,
      newest_ones.ok.0,
    )

pub loop-number-preserved : goal.loop-number-preserved
loop-number-preserved c =
    let members = c.args.self.now in
    let items = c.in_ok-newest.newest.items in
    let n = c.loop-number.number in
    let lt = c.loop-number-test.true in
    let place = c.index.result.now in
    let made = c.in_ok-newest.ensures.newest in
    let there : n < length items = omega (
      arith,
      ap length made,
      length-map items page_list,
      length-map-range_with_len (newest members) 0 c.args.count,
    ) in
    let here : page_list place ≡ newest members n =
    ap page_list c.index.ensures ∙ sym (get_or-map page_list items n place [] there)
    ∙ ap (λ (ps : List (List Page)). get_or ps n []) made
    ∙ get_or-map-range_with_len (newest members) 0 c.args.count n n [] lt (omega arith) in
    record {
      so_far = c.in_ok-push.ensures.items
          ∙ ap (λ (ps : List Page). ps ++ c.page_or_formatted.result ∷ []) c.loop-number.invariant.so_far
          ∙ ap (λ (p : Page). contents members n ++ p ∷ []) (c.page_or_formatted.ensures
          ∙ ap (last_of (formatted n)) here ∙ content_newest members n)
          ∙ sym (map-range_with_len_more (content members) 0 n n (omega arith));
    }

pub returns-clause-numbered : goal.returns-clause-numbered
returns-clause-numbered c = contents_numbered c.args.self.now c.args.count c.in_ok-newest.ensures.chain

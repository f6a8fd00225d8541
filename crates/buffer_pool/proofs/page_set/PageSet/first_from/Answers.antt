use Rattle.std.proofs.Common.{List, Bool, length, subst}
use Rattle.std.specs.Prelude.{MatchOption}
use Rattle.buffer_pool.specs.PageSet.{HasNone, IsFirstFrom}
use Rattle.buffer_pool.proofs.PageSets.{first_is}
use Rattle.buffer_pool.proofs.page_set.PageSet.first_from.Goals as goal

pub returns : goal.returns
returns c =
    let s = c.self.inside in
    let r = c.first_in_word-2.result in
    subst (λ (set : List Bool). MatchOption r (HasNone set c.args.from (length set)) (IsFirstFrom set c.args.from))
    c.self.view_is
    (first_is s.pages s.words c.args.from c.in_ok-word.word r c.self.invariant.by_word c.in_default.ensures.first
    c.in_ok-word.ensures c.first_in_word-2.ensures.first)

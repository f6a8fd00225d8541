use Rattle.std.proofs.Common.{arith, length, ap}
use Rattle.buffer_pool.proofs.PageSets.{levels_group_less, levels_kept, levels_word_less}
use Rattle.buffer_pool.proofs.page_set.PageSet.remove.Goals as goal

pub invariant_of-self : goal.invariant_of-self
invariant_of-self c =
    let s = c.self.inside in
    levels_group_less s.pages s.words s.groups c.remove.new.self c.args.number c.first_in_word.result c.self.invariant
    (omega (arith, ap length c.self.view_is)) c.remove.ensures c.first_in_word.ensures.first
    c.remove-then-is_none.new.self c.first_in_word-then-is_none.result c.if-is_none.ensures
    c.remove-then-is_none.ensures c.first_in_word-then-is_none.ensures.first c.remove-then-is_none-2.new.self
    c.if-is_none-2.ensures c.remove-then-is_none-2.ensures

pub invariant_of-self-else-is_none-2 : goal.invariant_of-self-else-is_none-2
invariant_of-self-else-is_none-2 c =
    let s = c.self.inside in
    levels_word_less s.pages s.words s.groups c.remove.new.self c.args.number c.first_in_word.result c.self.invariant
    (omega (arith, ap length c.self.view_is)) c.remove.ensures c.first_in_word.ensures.first
    c.remove-then-is_none.new.self c.first_in_word-then-is_none.result c.if-is_none.ensures
    c.remove-then-is_none.ensures c.first_in_word-then-is_none.ensures.first c.if-is_none-2.ensures
    c.first_in_word-then-is_none.ensures.within

pub invariant_of-self-else-is_none : goal.invariant_of-self-else-is_none
invariant_of-self-else-is_none c =
    let s = c.self.inside in
    levels_kept s.pages s.words s.groups c.remove.new.self c.args.number c.first_in_word.result c.self.invariant
    (omega (arith, ap length c.self.view_is)) c.remove.ensures c.first_in_word.ensures.first c.if-is_none.ensures
    c.first_in_word.ensures.within

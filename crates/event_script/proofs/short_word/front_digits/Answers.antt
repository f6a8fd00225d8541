use Rattle.std.proofs.Common.{rules, ◌+◌, ◌*◌, ◌<◌, arith, sym, ◌∙◌, get_or}
use Rattle.event_script.proofs.Numbers.{grows, one_more, room}
use Rattle.event_script.proofs.short_word.front_digits.Goals as goal

pub overflow_mul-number : goal.overflow_mul-number
overflow_mul-number c =
    let fits : c.loop-i.number * 10 + 9 < 18446744073709551616 =
    room c.loop-i.number c.loop-i.i c.loop-i.invariant.small (omega arith) in
    omega arith

pub overflow_add-number : goal.overflow_add-number
overflow_add-number c =
    let fits : c.loop-i.number * 10 + 9 < 18446744073709551616 =
    room c.loop-i.number c.loop-i.i c.loop-i.invariant.small (omega arith) in
    search rules

pub loop-i-preserved : goal.loop-i-preserved
loop-i-preserved c = record {
  made = one_more c.args.text.now c.loop-i.i c.loop-i.number (omega arith) c.loop-i.invariant.made
      (sym c.is_ascii_digit.ensures.value ∙ c.if-not-is_ascii_digit.false);
  small = grows c.loop-i.i c.loop-i.number (get_or c.args.text.now c.loop-i.i 0) c.loop-i.invariant.small
      (sym c.is_ascii_digit.ensures.value ∙ c.if-not-is_ascii_digit.false);
  few = omega arith;
  none = search rules;
}

use Rattle.std.proofs.Common.{◌≡◌, ◌<◌, ◌-◌, length, take, drop, get_or, arith}
use Rattle.std.proofs.lemmas.Bool.Decides.{nat_tests}
use Rattle.event_script.proofs.Lines.{a_word, tail}
use Rattle.event_script.proofs.Numbers.{short}
use Rattle.event_script.proofs.short_word.short_word.Goals as goal
use Rattle.event_script.proofs.short_word.short_word.Goals.{then-end-text, else-end-text}

pub returns : goal.returns
returns c =
    let bytes = c.args.bytes.now in
    let s = c.count_spaces in
    let f = c.front_digits-number in
    let n = f.result.1 in
    let some : 0 < n = omega arith in
    let text = take (length bytes - s.result) (drop s.result bytes) in
    let there : n < length text → get_or text n 0 ≡ 32 =
    elim c.if-end-text.branch [
      | then-end-text w ↦ λ lt. grind (arith, nat_tests, w.value-is, c.if-text-end-ne32.false)
      | else-end-text w ↦ λ lt. absurd (omega (arith, lt, w.if-end-text.false))
    ] in (
      take n text,
      a_word bytes text (take (length text - n) (drop n text)) s.result n (tail bytes s.result)
          (tail text n) s.ensures.within s.ensures.spaces some f.ensures.within f.ensures.none there,
      short text n f.result.0 some f.ensures.few f.ensures.within (omega arith) f.ensures.number,
    )

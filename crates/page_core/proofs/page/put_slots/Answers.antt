use Rattle.std.proofs.Common.{◌≡◌, ◌+◌, ◌*◌, ◌-◌, ◌++◌, ◌≤◌, take, length, get_or, sym, ap, ◌∙◌, arith}
use Rattle.std.specs.Int.{w64, to_le_bytes}
use Rattle.std.specs.List.{flat_map}
use Rattle.std.proofs.lemmas.List.{take_all}
use Rattle.std.proofs.lemmas.Slice.{take-put_mid}
use Rattle.page_core.proofs.EightBytes.{numbers_more}
use Rattle.page_core.proofs.page.put_slots.Goals as goal

pub loop-i-preserved : goal.loop-i-preserved
loop-i-preserved c =
    let i = c.loop-i.i in
    let number = get_or c.args.slots.now i 0 in
    let written : c.copy_from_slice.new.self ≡ to_le_bytes w64 number = c.copy_from_slice.ensures.after
    ∙ c.to_le_bytes.ensures in
    let len : length c.copy_from_slice.new.self ≡ 8 = ap length written in
    let long : 8 * i ≤ length c.loop-i.bytes = omega arith in
    take-put_mid (8 * i) ((8 * i + 8) - 8 * i) c.loop-i.bytes c.copy_from_slice.new.self (8 * (i + 1))
    (omega arith) long
    ∙ ap (λ bs. bs ++ c.copy_from_slice.new.self) c.loop-i.invariant
    ∙ ap (λ bs. flat_map (to_le_bytes w64) (take i c.args.slots.now) ++ bs) written
    ∙ sym (numbers_more c.args.slots.now i c.loop-i-test.true)

pub returns : goal.returns
returns c =
    let i = c.loop-i.i in
    sym (take_all (8 * i) c.loop-i.bytes (omega arith)) ∙ c.loop-i.invariant
    ∙ ap (flat_map (to_le_bytes w64)) (take_all i c.args.slots.now c.loop-i-test.false)

use Rattle.std.proofs.Common.{◌≡◌, ◌<◌, ◌≢◌, ◌+◌, ◌-◌, ◌*◌, take, drop, below_more, get_or-set_other, get_or-set_same}
use Rattle.std.proofs.Common.{length, sym, ap, ◌∙◌, arith}
use Rattle.std.specs.Int.{w64, to_le_bytes}
use Rattle.std.proofs.lemmas.List.{get_or_default}
use Rattle.page_core.proofs.Pieces.{pieces_are}
use Rattle.page_core.proofs.EightBytes.{eight_bytes, same_numbers, all_fit}
use Rattle.page_core.proofs.page.slots_in.Goals as goal

pub loop-i-preserved : goal.loop-i-preserved
loop-i-preserved c =
    let i = c.loop-i.i in
    let inside : i < length c.loop-i.slot-items = omega arith in
    let eight : (8 * i + 8) - 8 * i ≡ 8 = omega arith in
    let read : take 8 (drop (8 * i) c.args.bytes.now) ≡ to_le_bytes w64 c.u64_at.result =
    sym (c.u64_at.ensures.spelled ∙ ap (λ n. take n (drop (8 * i) c.args.bytes.now)) eight) in
    record {
      spelled = below_more _ _
          (λ k lt. let other : k ≢ i = omega arith in rw get_or-set_other (c.loop-i.invariant.spelled k lt))
          (read ∙ ap (to_le_bytes w64) (sym (get_or-set_same c.loop-i.slot-items i c.u64_at.result 0 inside)));
      fits = below_more _ _
          (λ k lt. let other : k ≢ i = omega arith in rw get_or-set_other (c.loop-i.invariant.fits k lt))
          (rw get_or-set_same c.u64_at.type_inv);
    }

pub returns-clause-found : goal.returns-clause-found
returns-clause-found c =
    pieces_are (to_le_bytes w64) 8 eight_bytes c.loop-i.slot-items c.args.bytes.now (omega arith)
    (λ i d lt. c.loop-i.invariant.spelled i (omega arith)
    ∙ ap (to_le_bytes w64) (get_or_default c.loop-i.slot-items i 0 d lt))

pub returns-clause-fit : goal.returns-clause-fit
returns-clause-fit c = all_fit c.loop-i.slot-items (λ k lt. c.loop-i.invariant.fits k (omega arith))

pub returns-clause-only : goal.returns-clause-only
returns-clause-only c = λ slots len fits e.
    same_numbers c.loop-i.slot-items slots (returns-clause-fit c) fits
    (c.loop-i-test.array_long ∙ sym len) (sym (returns-clause-found c) ∙ e)

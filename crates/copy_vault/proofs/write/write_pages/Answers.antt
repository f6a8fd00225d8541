use Rattle.std.proofs.Common.{◌≡◌, ◌-◌, ◌<◌, ◌++◌, ℕ, List, length, take, ap, subst, ◌∙◌, arith}
use Rattle.std.specs.Io.KnownBytes.{Appends}
use Rattle.std.proofs.KnownBytes.{Appends-trans}
use Rattle.std.proofs.lemmas.List.{length-append, length-take}
use Rattle.page_core.specs.Page.{volume_bytes}
use Rattle.page_decisions.specs.Slots.{page_list}
use Rattle.copy_vault.proofs.Writes.{more_filled, part_sent, part_within}
use Rattle.copy_vault.proofs.write.write_pages.Goals as goal

pub returns-in-Err-clause-within : goal.returns-in-Err-clause-within
returns-in-Err-clause-within g c =
    let inv = c.loop-number.invariant in
    part_within inv.sent.0 (take c.loop-number.filled c.loop-number.buffer) (take 64 c.args.buffer.now)
    c.args.slots.now c.loop-number.number c.loop-number.done c.in-Err.part inv.sent.1.0 c.in-Err.ensures.within
    inv.sent.1.1.1

pub returns-in-Err-clause-err : goal.returns-in-Err-clause-err
returns-in-Err-clause-err g c =
    let inv = c.loop-number.invariant in
    let filled = take c.loop-number.filled c.loop-number.buffer in
    let part = c.in-Err.part in
    let less = c.in-Err.ensures.within in
    subst (Appends _ _)
    (part_sent inv.sent.0 filled (take 64 c.args.buffer.now) c.args.slots.now c.loop-number.number c.loop-number.done
    part inv.sent.1.0 (omega arith) inv.sent.1.1.1)
    (Appends-trans _ _ _ inv.sent.0 (take part filled) inv.sent.1.1.0 c.in-Err.ensures.err)

pub loop-number-preserved : goal.loop-number-preserved
loop-number-preserved g c =
    let inv = c.loop-number.invariant in
    let old = c.loop-number.buffer in
    let filled = c.loop-number.filled in
    let left = c.in-Ok.left in
    let number = c.loop-number.number in
    let slots = c.args.slots.now in
    let out = c.in-Ok.ensures.sent in
    let put = c.put_page-filled.ensures in
    let page = volume_bytes (page_list c.page.result) in
    let sent = inv.sent.0 in
    let lower = c.in-Ok.ensures.left in
    let room = c.in-Ok.ensures.room in
    let small = inv.small in
    let within = inv.within in
    let more = c.loop-number-test.true in
    let below : number < length slots = omega (arith, c.count-number-end.ensures) in
    let count : length out.sent ≡ filled - left = omega (
      arith,
      ap length out.all,
      length-append out.sent (take left old),
      length-take left old,
      length-take filled old,
    ) in
    record {
      within = omega (arith, put.within, c.put_page-filled.auto.buffer);
      small = omega (arith, put.within);
      sent = (
        sent ++ out.sent,
        (
          omega (arith, length-append sent out.sent, inv.sent.1.0, count),
          (
            Appends-trans _ _ _ sent out.sent inv.sent.1.1.0 out.written,
            ap (λ (bs : List ℕ). (sent ++ out.sent) ++ bs) put.bytes
                ∙ more_filled sent out.sent (take left old) (take filled old) page
                (take 64 c.args.buffer.now) slots number
                below out.all (ap volume_bytes c.page.ensures) inv.sent.1.1.1,
          ),
        ),
      );
    }

pub returns-in-Err-write_out-clause-err : goal.returns-in-Err-write_out-clause-err
returns-in-Err-write_out-clause-err g c =
    let inv = c.loop-number.invariant in
    let filled = take c.loop-number.filled c.loop-number.buffer in
    let part = c.in-Err-write_out.part in
    let less = c.in-Err-write_out.ensures.within in
    subst (Appends _ _)
    (part_sent inv.sent.0 filled (take 64 c.args.buffer.now) c.args.slots.now c.loop-number.number c.loop-number.done
    part inv.sent.1.0 (omega arith) inv.sent.1.1.1)
    (Appends-trans _ _ _ inv.sent.0 (take part filled) inv.sent.1.1.0 c.in-Err-write_out.ensures.err)

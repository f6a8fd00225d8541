use Rattle.std.proofs.Common.{rules, ◌+◌, ◌*◌, ◌<◌, arith}
use Rattle.event_script.proofs.Numbers.{room}
use Rattle.event_script.proofs.number.short_number.Goals as goal

pub overflow_mul-number : goal.overflow_mul-number
overflow_mul-number c =
    let fits : c.loop-byte.number * 10 + 9 < 18446744073709551616 =
    room c.loop-byte.number c.loop-byte.byte-index c.loop-byte.invariant.small (omega arith) in
    omega arith

pub overflow_add-number : goal.overflow_add-number
overflow_add-number c =
    let fits : c.loop-byte.number * 10 + 9 < 18446744073709551616 =
    room c.loop-byte.number c.loop-byte.byte-index c.loop-byte.invariant.small (omega arith) in
    search rules

use Rattle.std.proofs.Common.{◌≡◌, refl, true, false, arith}
use Rattle.manifest.proofs.Digits.{digits_found, digits_low, digits_none, long_enough}
use Rattle.manifest.proofs.pieces.digits_at.Goals as goal

pub returns-in_err-digits-clause-none : goal.returns-in_err-digits-clause-none
returns-in_err-digits-clause-none c =
    rw c.from_residual.ensures (λ wanted rest is e.
    let long = long_enough c.args.bytes.now wanted rest _ is e in
    omega (arith, c.in_err-digits.ensures.cases))

pub returns-then-not-have_no_capital-clause-none :
    goal.returns-then-not-have_no_capital-clause-none
returns-then-not-have_no_capital-clause-none c wanted rest is e =
    let low = digits_low c.args.bytes.now c.in_ok-digits.digits.now wanted rest _ is c.in_ok-digits.ensures.cases.1 e in
    let b : false ≡ true = c.if-not-have_no_capital.ensures.1 low in
    cc

pub returns-in-Ok-clause-found : goal.returns-in-Ok-clause-found
returns-in-Ok-clause-found c =
    let split = c.in_ok-digits.ensures.cases in
    digits_found c.args.bytes.now c.in_ok-digits.digits.now c.in_ok-digits.rest.now c.args.room.now
    c.decode_to_slice.new.out c.decode_to_slice.result c.in-Ok.is split.1 split.2 split.0
    (c.if-not-have_no_capital.ensures.0 refl) c.decode_to_slice.ensures.value

pub returns-in-Err-clause-none : goal.returns-in-Err-clause-none
returns-in-Err-clause-none c =
    digits_none c.args.bytes.now c.in_ok-digits.digits.now c.args.room.now c.decode_to_slice.new.out
    c.decode_to_slice.result c.in-Err.field-0 c.in-Err.is c.in_ok-digits.ensures.cases.1
    c.decode_to_slice.ensures.value

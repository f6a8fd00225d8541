use Rattle.std.proofs.Common.{◌≡◌, ◌∙◌, false, true, refl, sym, subst, arith}
use Rattle.manifest.specs.Pieces.{IsPlain}
use Rattle.manifest.proofs.Numbers.{decimal_of, is_read, plain_of, read_as, utf8_of}
use Rattle.manifest.proofs.pieces.number_of.Goals as goal

pub returns-then-not-is_plain-clause-none : goal.returns-then-not-is_plain-clause-none
returns-then-not-is_plain-clause-none c n fits e =
    let b : false ≡ true = c.if-not-is_plain.ensures.1 (plain_of n c.args.digits.now fits e) in cc

pub returns-in_default-clause-none : goal.returns-in_default-clause-none
returns-in_default-clause-none c n fits e =
    c.in_default.ensures.cases.0 (utf8_of n c.args.digits.now fits e)

pub returns-in-Ok-parse-clause-found : goal.returns-in-Ok-parse-clause-found
returns-in-Ok-parse-clause-found c =
    let same = c.in-Ok.ensures.cases.0 in
    let plain = subst IsPlain (sym same) (c.if-not-is_plain.ensures.0 refl) in (
      c.if-number.true,
      sym same
          ∙ decimal_of c.in-Ok-parse.number c.in-Ok.text.now c.in-Ok-parse.ensures.value.0 plain,
    )

pub returns-in_default-parse-clause-none : goal.returns-in_default-parse-clause-none
returns-in_default-parse-clause-none c n fits e =
    let same = c.in-Ok.ensures.cases.0 ∙ e in
    let alike = read_as n c.in-Ok-parse.number c.in-Ok.text.now fits same c.in-Ok-parse.ensures.value.0 in
    omega arith

pub returns-in_default-parse-2-clause-none : goal.returns-in_default-parse-2-clause-none
returns-in_default-parse-2-clause-none c n fits e =
    is_read n c.in-Ok.text.now fits (c.in-Ok.ensures.cases.0 ∙ e) c.in_default-parse.ensures.value.0

use Rattle.std.proofs.Common.{arith, subst, sym, true≢false, ◌∙◌}
use Rattle.std.proofs.lemmas.Str.Parse.{parse_plain}
use Rattle.std.proofs.lemmas.Str.Pattern.{starts_char}
use Rattle.database_files.specs.Found.{IsReadOf, SpellsNumber}
use Rattle.database_files.proofs.Numbers.{begins_wrongly, is_read, own}
use Rattle.database_files.proofs.names.long_number_of.Goals as goal
use Rattle.database_files.proofs.names.long_number_of.Goals.{then-starts_with-via-then-starts_with, then-starts_with-via-else-starts_with+then-starts_with-2}

pub returns-then-starts_with : goal.returns-then-starts_with
returns-then-starts_with c = elim c.then-starts_with.branch [
  | then-starts_with-via-then-starts_with w ↦ begins_wrongly c.args.text.now 48 (omega arith) ((starts_char 48 c.args.text.now c.starts_with.result c.starts_with.ensures.cases (omega arith) (omega arith)).0 w.if-starts_with.true)
  | then-starts_with-via-else-starts_with+then-starts_with-2 w ↦ begins_wrongly c.args.text.now 43 (omega arith) ((starts_char 43 c.args.text.now w.starts_with-else-starts_with.result w.starts_with-else-starts_with.ensures.cases (omega arith) (omega arith)).0 w.if-starts_with-2.true)
]

pub returns : goal.returns
returns c =
    let text = c.args.text.now in
    subst (IsReadOf (SpellsNumber 64) text) (sym c.ok.ensures.value)
    (is_read text c.parse.result
    (λ zero. true≢false (sym ((starts_char 48 text c.starts_with.result c.starts_with.ensures.cases (omega arith) (omega arith)).1 zero) ∙ c.if-starts_with.false))
    (parse_plain own 64 text c.parse.result c.parse.ensures.value.0
    (λ plus. true≢false (sym ((starts_char 43 text c.starts_with-else-starts_with.result c.starts_with-else-starts_with.ensures.cases (omega arith) (omega arith)).1 plus) ∙ c.if-starts_with-2.false))))

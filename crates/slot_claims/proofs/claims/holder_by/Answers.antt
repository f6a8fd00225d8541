use Rattle.std.proofs.Common.{◌∙◌, ap, ap₂, cond, eqb, sym}
use Rattle.page_core.specs.declared.change.ChangeKind.TheVariants as kind
use Rattle.slot_claims.specs.declared.claims.Hold.{Hold}
use Rattle.slot_claims.specs.Claims.{no_hold}
use Rattle.slot_claims.proofs.Taken.{hold_one, none_out}
use Rattle.slot_claims.proofs.claims.holder_by.Goals as goal

pub returns-then-hold-clause-hold : goal.returns-then-hold-clause-hold
returns-then-hold-clause-hold c = λ rows other within.
    hold_one c.args.row kind.Set rows other
    ∙ ap (λ h. cond (eqb other c.args.row) h no_hold)
    (ap₂ (λ a b. let h : Hold = record { against_sets = a; against_adds = b } in h)
    (sym (c.requires.sets c.if-hold.true)) (sym c.if-hold.true))

pub returns-then-hold-2-clause-hold : goal.returns-then-hold-2-clause-hold
returns-then-hold-2-clause-hold c = λ rows other within.
    hold_one c.args.row kind.Add rows other
    ∙ ap (λ h. cond (eqb other c.args.row) h no_hold)
    (ap₂ (λ a b. let h : Hold = record { against_sets = a; against_adds = b } in h)
    (sym c.if-hold-2.true) (sym c.if-hold.false))

pub returns-else-hold-2-clause-hold : goal.returns-else-hold-2-clause-hold
returns-else-hold-2-clause-hold c = λ rows other within.
    none_out c.args.row other c.args.hold
    (ap₂ (λ a b. let h : Hold = record { against_sets = a; against_adds = b } in h)
    (sym c.if-hold-2.false) (sym c.if-hold.false))

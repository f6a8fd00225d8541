use Rattle.std.proofs.Common.{◌≡◌, ◌∙◌, ap, false, refl, rules, subst, sym}
use Rattle.std.specs.Prelude.{None}
use Rattle.engine_rules.specs.EngineState.{EngineState}
use Rattle.engine_rules.specs.EngineView.{EngineView}
use Rattle.database_session.specs.CopyBehindPoint.{CopiesBehindPoint}
use Rattle.open_database.specs.declared.open.OpenEnd.{OpenEnd}
use Rattle.open_database.specs.declared.open.OpenEnd.TheVariants.{Failed, Refused, Well}
use Rattle.database_backup.proofs.renew.finished.Goals as goal
use Rattle.database_backup.proofs.renew.finished.Goals.{in_default-2, in_default}

same_state : {S D : Type 0} (a b : EngineView S D) → a ≡ b → a.state ≡ b.state
same_state {S} {D} a b same = ap (λ (it : EngineView S D). it.state) same

IsFailure : OpenEnd → Type 0
IsFailure Well = ⊥
IsFailure Refused = Unit {0}
IsFailure Failed = Unit {0}

pub returns-in-Some : goal.returns-in-Some
returns-in-Some g c = λ _.
    let between = c.checkpoint_and_copy-copied.new.session.engine.state in
    let ended = c.close.new.self.engine.state in
    let begun : c.session_on-session.result.engine.state ≡ c.args.begun.0.state =
    same_state _ _ c.session_on-session.ensures.engine in
    let well : c.close.new.self.has_failed ≡ false = search rules in (
      ended,
      record {
        parent = None;
        asked = refl;
        id = c.in-Some.field-0;
        between = between;
        copies = subst (λ (state : EngineState). CopiesBehindPoint None c.in-Some.field-0 state between) begun c.in-Some.ensures.made;
        closing = c.close.ensures.well well;
      },
    )

pub returns : goal.returns
unfolding IsFailure
returns g c = λ well.
    let no : ⊥ = elim c.match-copied.branch [
      | in_default-2 w ↦ subst IsFailure (sym w.result-is ∙ well) tt
      | in_default w ↦ subst IsFailure (sym w.result-is ∙ well) tt
    ] in absurd no

use Rattle.std.proofs.Common.{◌≡◌, ◌∙◌, ap, map, subst, List, ℕ, IfErr, IfOk}
use Rattle.std.specs.Prelude.{Option}
use Rattle.copy_audit.specs.Audited.{AreRefused}
use Rattle.copy_audit.specs.Told.{AreToldOf}
use Rattle.saved_files.proofs.all_pages.unsound_pages.Goals as goal

-- what holds of some bytes holds of the same bytes
of_same : (P : Option (List ℕ) → List (Option (List ℕ)) → Type 0)
    {a b : Option (List ℕ)} {xs ys : List (Option (List ℕ))} → a ≡ b → xs ≡ ys → P a xs → P b ys
of_same P {a} {b} {xs} {ys} log archives it =
    subst (λ bytes. P bytes ys) log (subst (λ those. P a those) archives it)

pub returns-clause-told : goal.returns-clause-told
returns-clause-told g c =
    of_same (λ log archives. IfOk c.unsound_pages.result (AreToldOf log archives)) c.told_late-log.ensures
    (ap (map _) c.deref_mut.ensures.value ∙ c.in_ok-readers.ensures) c.unsound_pages.ensures.told

pub returns-clause-err : goal.returns-clause-err
returns-clause-err g c =
    of_same (λ log archives. IfErr c.unsound_pages.result (AreRefused log archives)) c.told_late-log.ensures
    (ap (map _) c.deref_mut.ensures.value ∙ c.in_ok-readers.ensures) c.unsound_pages.ensures.err

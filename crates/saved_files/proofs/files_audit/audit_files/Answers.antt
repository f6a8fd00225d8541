use Rattle.std.proofs.Common.{◌≡◌, ◌∙◌, ap, map, subst, List, ℕ, IfErr, OnOk}
use Rattle.std.specs.Prelude.{Option}
use Rattle.copy_audit.specs.Audited.{AreAudited, AreRefused}
use Rattle.saved_files.proofs.files_audit.audit_files.Goals as goal

-- what holds of some bytes holds of the same bytes
of_same : (P : Option (List ℕ) → List (Option (List ℕ)) → Type 0)
    {a b : Option (List ℕ)} {xs ys : List (Option (List ℕ))} → a ≡ b → xs ≡ ys → P a xs → P b ys
of_same P {a} {b} {xs} {ys} log archives it =
    subst (λ bytes. P bytes ys) log (subst (λ those. P a those) archives it)

pub returns-clause-sound : goal.returns-clause-sound
returns-clause-sound g c =
    of_same (λ log archives. OnOk c.audit.result (AreAudited log archives)) c.told_late-log.ensures
    (ap (map _) c.deref_mut.ensures.value ∙ c.in_ok-readers.ensures) c.audit.ensures.sound

pub returns-clause-err : goal.returns-clause-err
returns-clause-err g c =
    of_same (λ log archives. IfErr c.audit.result (AreRefused log archives)) c.told_late-log.ensures
    (ap (map _) c.deref_mut.ensures.value ∙ c.in_ok-readers.ensures) c.audit.ensures.err

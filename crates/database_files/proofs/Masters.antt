-- The master record that is found, and the checkpoint that it does not name.
use Rattle.std.proofs.Common.{◌≡◌, ◌∙◌, ◌↔◌, Bool, false, IsTrue, not, refl, sym, true, true≢false}
use Rattle.std.specs.Prelude.{codes, None, Option, Some}
use Rattle.log_records.specs.Log.{Log}
use Rattle.log_store.specs.declared.master.Master.{Master}
use Rattle.saved_files.specs.Folder.{Changes, Entries, IsSame, absent}
use Rattle.database_files.specs.DatabaseFolder.{Tells}
use Rattle.database_files.specs.Master.{IsOfRecords, TellsWrong, is_absent, spelled}
use Rattle.database_files.specs.declared.found_master.FoundMaster.{FoundMaster}
use Rattle.database_files.specs.declared.found_master.FoundMaster.TheVariants as found

-- what is told to be so is not told not to be so
pub told_not : (told : Bool) (P : Type 0) → IsTrue told ↔ P → IsTrue (not told) ↔ (¬ P)
told_not true P is = (λ no. absurd (true≢false (sym no)), λ none. absurd (none (is.0 refl)))
told_not false P is = (λ _ p. true≢false (sym (is.1 p)), λ _. refl)

stands : (there : Entries) (has : Bool) → Tells (Some there) (codes "master") has → false ≡ not has
    → ¬ (there (codes "master") ≡ absent)
stands there true told is = told
stands there false told is = absurd (true≢false (sym is))

nothing : (there : Entries) (has : Bool) → Tells (Some there) (codes "master") has → true ≡ not has
    → there (codes "master") ≡ absent
nothing there true told is = absurd (true≢false is)
nothing there false told is = told

-- whether what stands there is of another log, where it is known whether something does
pub wrong_in : (entries : Option Entries) (log : Log) (it : FoundMaster) (has is_wrong : Bool)
    → Tells entries (codes "master") has → is_absent it ≡ not has → IsTrue is_wrong ↔ (¬ IsOfRecords log.records it)
    → TellsWrong entries log (spelled it) is_wrong
wrong_in None log it has is_wrong told is wrong = tt
wrong_in (Some there) log found.Absent has is_wrong told is wrong =
    (λ w. absurd (wrong.0 w tt), λ r. absurd (r.0 (nothing there has told is)))
wrong_in (Some there) log (found.Spelled master) has is_wrong told is wrong =
    (λ w. (stands there has told is, wrong.0 w), λ r. wrong.1 r.1)
wrong_in (Some there) log found.Wrong has is_wrong told is wrong =
    (λ w. (stands there has told is, λ none. none), λ r. wrong.1 (λ none. none))

-- the folder was left as it was meanwhile
pub wrong_same : (old mid : Option Entries) (log : Log) (master : Option Master) (is_wrong : Bool)
    → Changes IsSame old mid → TellsWrong mid log master is_wrong → TellsWrong old log master is_wrong
wrong_same None mid log master is_wrong same tells = tt
wrong_same (Some old) None log master is_wrong same tells = absurd same
wrong_same (Some old) (Some mid) log master is_wrong same tells =
    let here = same (codes "master") in (
      λ w. let r = tells.0 w in (λ none. r.0 (here ∙ none), r.1),
      λ r. tells.1 (λ none. r.0 (sym here ∙ none), r.1),
    )

-- A restore from its load to its undo, after the events that an engine was given.
use Rattle.std.proofs.Common.{◌≡◌, ℕ, List, length, map, refl, sym, ap, subst, ◌∙◌}
use Rattle.std.specs.Prelude.{Option, None, Some, Result, IfErr, IfOk, OnOk}
use Rattle.std.specs.Option.{option_map}
use Rattle.log_records.specs.Log.{Log}
use Rattle.log_rules.specs.Work.{work}
use Rattle.log_store.specs.declared.master.Master.{Master}
use Rattle.copy_vault.specs.Vault.{CopyState, complete, dropped, reading, state_of}
use Rattle.copy_coverage.specs.Kept.{IsKeptOf}
use Rattle.copy_coverage.specs.Retired.{RetiredView}
use Rattle.loser_undo.specs.declared.fault.UndoFault.{UndoFault}
use Rattle.loser_undo.specs.declared.fault.UndoFault.TheVariants.{LogFull, OutOfMemory}
use Rattle.loser_undo.specs.Recovery.{Recovery}
use Rattle.engine_calls.specs.declared.event.Answer.{Answer}
use Rattle.engine_calls.specs.declared.event.Event.{Event}
use Rattle.engine_calls.specs.declared.refusal.Refusal.{Refusal}
use Rattle.engine_rules.specs.Accepted.{accepted}
use Rattle.engine_rules.specs.Catalogue.{CatalogueEntry, catalogue, entry_at, entry_of}
use Rattle.engine_rules.specs.EngineState.{EngineState, log_of, master_record, new_state}
use Rattle.engine_rules.specs.Run.{Run}
use Rattle.engine_rules.proofs.Public.{entry_is}
use Rattle.engine_rules.proofs.Public.{commits_are_kept}
use Rattle.media_restore.specs.declared.fault.LoadFault.{LoadFault}
use Rattle.media_restore.specs.declared.fault.Refused.{Refused}
use Rattle.media_restore.specs.declared.fault.Refused.TheVariants.{Undo}
use Rattle.media_restore.specs.Load.{copy_refusal, cut_refusal, first_of, kept_log, load_refusal}
use Rattle.media_restore.specs.Rebuild.{IsOfMemory, IsRebuilt, IsRestored, RestoreRefuses}
use Rattle.media_restore.specs.Rebuild.{entry_refusal, restore_refusal}

-- ---- a log that has room is undone, unless memory is wanting

pub of_memory : (fault : UndoFault) → ¬ (fault ≡ LogFull) → IsOfMemory (Undo fault)
of_memory LogFull not_full = absurd (not_full refl)
of_memory OutOfMemory not_full = tt

-- ---- events and replies tell which load is refused

refused_alike : (state : CopyState) → copy_refusal state ≡ entry_refusal (entry_of state)
refused_alike (reading copy) = refl
refused_alike (complete copy) = refl
refused_alike dropped = refl

refused_by : (it : RetiredView) (entries : List CatalogueEntry) (copy cut : ℕ) → map entry_of it.copies ≡ entries
    → load_refusal it copy cut ≡ restore_refusal entries it.forced_end (length it.log.records) copy cut
refused_by it entries copy cut is =
    ap (λ (o : Option LoadFault). first_of o (cut_refusal it.forced_end (length it.log.records) cut))
    (refused_alike (state_of it.copies copy)
    ∙ ap entry_refusal (sym (entry_is it.copies copy) ∙ ap (λ (es : List CatalogueEntry). entry_at es copy) is))

-- ---- what a restore makes of what an engine left

pub rebuilt_of : (pages frames : ℕ) (events : List Event) (copy cut : ℕ) (replies : List (Result Answer Refusal))
    (outcome : Result Recovery Refused) (e : EngineState) (left : RetiredView)
    → Run (new_state pages frames) events replies e
    → work e.log ≡ accepted events replies → map entry_of e.copies ≡ catalogue pages events replies
    → left.log ≡ log_of e → left.forced_end ≡ e.forced_end → left.copies ≡ e.copies
    → left.master ≡ option_map master_record e.master
    → OnOk outcome (load_refusal left copy cut ≡ None)
    → IfErr outcome (RestoreRefuses (load_refusal left copy cut))
    → OnOk outcome (IsKeptOf left.log left.forced_end (kept_log left.log cut))
    → IfOk outcome (IsRestored (kept_log left.log cut))
    → IfOk outcome (λ it. left.master ≡ Some it.master)
    → IsRebuilt pages frames events copy cut replies outcome e
rebuilt_of pages frames events copy cut replies outcome e left run shown told same_log same_end same_copies same_master ok err
    kept done mastered =
    let entries = catalogue pages events replies in
    let refusal : load_refusal left copy cut ≡ restore_refusal entries e.forced_end (length e.log) copy cut =
    refused_by left entries copy cut (ap (map entry_of) same_copies ∙ told)
    ∙ ap (λ (end : ℕ). restore_refusal entries end (length left.log.records) copy cut) same_end
    ∙ ap (λ (log : Log). restore_refusal entries e.forced_end (length log.records) copy cut) same_log in
    record {
      run = run;
      work = shown;
      commits = λ rest is. commits_are_kept pages frames events replies e rest run is;
      let_in = subst (λ (o : Option LoadFault). OnOk outcome (o ≡ None)) refusal ok;
      refused = subst (λ (o : Option LoadFault). IfErr outcome (RestoreRefuses o)) refusal err;
      kept = subst (λ (end : ℕ). OnOk outcome (IsKeptOf (log_of e) end (kept_log (log_of e) cut))) same_end
          (subst (λ (log : Log). OnOk outcome (IsKeptOf log left.forced_end (kept_log log cut))) same_log kept);
      restored = subst (λ (log : Log). IfOk outcome (IsRestored (kept_log log cut))) same_log done;
      master = subst (λ (m : Option Master). IfOk outcome (λ it. m ≡ Some it.master)) same_master mastered;
    }

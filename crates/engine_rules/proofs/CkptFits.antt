-- The open checkpoint and the master, as calls on checkpoints leave them.
use Rattle.std.proofs.Common.{◌≡◌, ◌≤◌, List, [], ◌∷◌, length, refl, sym, subst, arith}
use Rattle.std.specs.Prelude.{Option, Some, IfSome, IsSomeAnd}
use Rattle.std.proofs.lemmas.List.{length_push}
use Rattle.page_core.specs.declared.page.Page.{Page}
use Rattle.log_records.specs.declared.record.Record.{Record}
use Rattle.log_records.specs.declared.record.Record.TheVariants.{BeginChkpt}
use Rattle.log_records.specs.Log.{Log, lsn_of, with_next}
use Rattle.log_records.specs.Record.{own_lsn}
use Rattle.log_rules.specs.Checkpoint.{Checkpoint, open_checkpoint}
use Rattle.fuzzy_ckpt.specs.Ckpt.{IsCkptOf}
use Rattle.fuzzy_ckpt.specs.Steps.{end_of}
use Rattle.fuzzy_ckpt.proofs.Public.{begun_is, end_covers, end_pages, open_push}
use Rattle.engine_calls.specs.declared.event.Event.{Event}
use Rattle.engine_rules.specs.EngineState.{EngineState, IsFit, IsGathering, IsMasterOf, closed, end}
use Rattle.engine_rules.specs.EngineState.{end_ckpt_record, log_of, point_of}
use Rattle.engine_calls.specs.EventFits.{EventFits}
use Rattle.engine_rules.specs.Gather.{none_left, pages_left, session_of}
use Rattle.engine_rules.proofs.Beside.{gathered_later, master_later}
use Rattle.engine_rules.proofs.Follows.{made_follows}
use Rattle.engine_rules.proofs.Gathers.{AreGathered}
use Rattle.engine_rules.proofs.GatherSteps.{gathering_of, new_is_session, pages_gathered}
use Rattle.engine_rules.proofs.GatherSteps.{txn_gathered}
use Rattle.engine_rules.proofs.Makes.{IsNoGrowth, Makes, MakesBeginChkpt, MakesEndChkpt}
use Rattle.engine_rules.proofs.Makes.{MakesExtend, MakesPages, MakesTxn, left_with}
use Rattle.engine_rules.proofs.Stands.{stands}

pub forced_within : (s : EngineState) → IsFit s → s.forced_end ≤ lsn_of (length s.log)
forced_within s fit = let k = fit.forced.0 in let le = fit.forced.1 in let is = fit.forced.2 in omega arith

-- the master with one more record
pub master_now : (s : EngineState) (r : Record) → IsFit s → own_lsn r ≡ end s
    → IfSome s.master (IsMasterOf (with_next (log_of s) (r ∷ [])) s.stored s.forced_end)
master_now s r fit own = master_later (log_of s) r s.stored s.forced_end s.master fit.valid own
    (forced_within s fit) fit.master

-- ---- a checkpoint begins

begun_gathered : (log : Log) (stored : List Page)
    → AreGathered (with_next log (BeginChkpt (end_of log.records) ∷ [])) stored pages_left
begun_gathered log stored =
    let next = with_next log (BeginChkpt (end_of log.records) ∷ []) in
    subst (λ (o : Option Checkpoint). IfSome o (IsGathering next stored pages_left))
    (sym (open_push log.records (BeginChkpt (end_of log.records))))
    (record {
      ckpt = subst (IsCkptOf next) (new_is_session log) (begun_is log);
      covered = λ p d lt passed. absurd (omega arith);
    })

-- ---- it ends

none_gathered : (s : EngineState) (c : Checkpoint) → AreGathered (with_next (log_of s) (end_ckpt_record s c ∷ [])) s.stored pages_left
none_gathered s c =
    subst (λ (o : Option Checkpoint). IfSome o (IsGathering (with_next (log_of s) (end_ckpt_record s c ∷ [])) s.stored pages_left))
    (sym (open_push s.log (end_ckpt_record s c))) tt

pub point_is_master : (s : EngineState) (c : Checkpoint) → IsFit s → open_checkpoint s.log ≡ Some c → s.left ≡ none_left
    → IsMasterOf (with_next (log_of s) (end_ckpt_record s c ∷ [])) s.stored (end (closed s c)) (point_of s c)
point_is_master s c fit is done =
    let r = end_ckpt_record s c in
    let now = gathering_of s c none_left fit is done in
    record {
      complete = record {
        before = s.log;
        behind = [];
        redo = _;
        ended = refl;
        begun = subst (λ (o : Option Checkpoint). IsSomeAnd o (λ x. x.begin ≡ c.begin)) (sym is) refl;
      };
      same_redo = refl;
      same_pages = end_pages (log_of s) (session_of (log_of s) none_left c) fit.valid now.ckpt;
      forced = omega (arith, length_push s.log r);
      covered = end_covers (log_of s) (session_of (log_of s) none_left c) s.stored fit.valid now.ckpt now.covered;
    }

-- ---- an accepted event that appends a record

pub made_gathered : (s : EngineState) (event : Event) (r : Record) → IsFit s → EventFits event → IsNoGrowth event
    → Makes s event r → AreGathered (with_next (log_of s) (r ∷ [])) s.stored (left_with s.left r)
made_gathered s event r fit fits stays (MakesExtend count grows begins passes) = absurd (grows stays)
made_gathered s event r fit fits stays (MakesBeginChkpt ckpt begins passes) = begun_gathered (log_of s) s.stored
made_gathered s event r fit fits stays (MakesPages c pages ckpt is finds room) = pages_gathered s c pages fit is finds
made_gathered s event r fit fits stays (MakesTxn c t ckpt is finds room) = txn_gathered s c t fit is finds
made_gathered s event r fit fits stays (MakesEndChkpt c ckpt is done room) = none_gathered s c
made_gathered s event r fit fits stays makes =
    gathered_later (log_of s) r s.stored s.left fit.valid fit.linked tt (made_follows s event r fit makes)
    (stands s event r fit fits makes).lsn fit.gathered

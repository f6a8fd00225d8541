-- The open checkpoint and the master, while records are appended and pages are stored.
use Rattle.std.proofs.Common.{◌≡◌, ℕ, ◌-◌, ◌/◌, ◌<◌, ◌≤◌, ◌++◌, List, [], ◌∷◌, length, get_or, set}
use Rattle.std.proofs.Common.{refl, sym, ap, subst, ◌∙◌, arith}
use Rattle.std.specs.Prelude.{Option, Some, None, IfSome}
use Rattle.std.proofs.lemmas.List.{append_assoc}
use Rattle.page_core.specs.declared.page.Page.{Page}
use Rattle.log_records.specs.declared.record.Record.{Record}
use Rattle.log_records.specs.Coverage.{IsWriting}
use Rattle.log_records.specs.Log.{IsLog, Log, lsn_of, with_next}
use Rattle.log_records.proofs.Public.{page_count_at-append}
use Rattle.log_records.specs.Record.{IsOfTransaction, own_lsn}
use Rattle.log_rules.specs.Checkpoint.{Checkpoint, IsCompleteCheckpoint, open_checkpoint}
use Rattle.log_rules.specs.Linked.{IsLinked, MayFollow}
use Rattle.copy_coverage.proofs.Public.{begin_before_end, redo_before_end}
use Rattle.fuzzy_ckpt.specs.declared.point.Point.{Point}
use Rattle.fuzzy_ckpt.proofs.Public.{all_later, all_written, behind_later, behind_written}
use Rattle.fuzzy_ckpt.proofs.Public.{ckpt_kept, open_before, open_grown, open_same}
use Rattle.fuzzy_ckpt.specs.Ckpt.{AreCovered, IsCkptOf}
use Rattle.engine_calls.specs.declared.event.Event.{Event}
use Rattle.engine_rules.specs.EngineState.{EngineState, IsGathering, IsMasterOf, end}
use Rattle.engine_rules.specs.Gather.{Left, session_of}
use Rattle.engine_rules.proofs.Gathers.{AreGathered}
use Rattle.engine_rules.proofs.GatherSteps.{session_same}
use Rattle.engine_rules.proofs.Makes.{IsBeside, Makes, MakesBeginChkpt, MakesEndChkpt, MakesExtend}
use Rattle.engine_rules.proofs.Makes.{MakesPages, MakesTxn}

-- the record of an event beside checkpoints leaves the open checkpoint as it is
pub open_stays : (s : EngineState) (event : Event) (r : Record) → IsBeside event → Makes s event r
    → open_checkpoint (s.log ++ r ∷ []) ≡ open_checkpoint s.log
open_stays s event r beside (MakesExtend count grows begins passes) = open_grown s.log (end s) count
open_stays s event r beside (MakesBeginChkpt ckpt begins passes) = absurd (ckpt beside)
open_stays s event r beside (MakesPages c pages ckpt is finds room) = absurd (ckpt beside)
open_stays s event r beside (MakesTxn c t ckpt is finds room) = absurd (ckpt beside)
open_stays s event r beside (MakesEndChkpt c ckpt is done room) = absurd (ckpt beside)
open_stays s event r beside of_transaction = open_same s.log r tt

-- ---- the open checkpoint

pub gathered_later : (log : Log) (r : Record) (stored : List Page) (left : Left) → IsLog log → IsLinked log.records
    → IsOfTransaction r → MayFollow log.records r → own_lsn r ≡ lsn_of (length log.records)
    → AreGathered log stored left → AreGathered (with_next log (r ∷ [])) stored left
gathered_later log r stored left valid linked of may own are =
    subst (λ (o : Option Checkpoint). IfSome o (IsGathering (with_next log (r ∷ [])) stored left))
    (sym (open_same log.records r of)) (by_open (open_checkpoint log.records) refl are)
  where
    by_open : (o : Option Checkpoint) → open_checkpoint log.records ≡ o → IfSome o (IsGathering log stored left)
        → IfSome o (IsGathering (with_next log (r ∷ [])) stored left)
    by_open None is are = tt
    by_open (Some c) is are =
        let same = sym (session_same log r left c (open_before log c valid is).begin.earlier) in
        record {
          ckpt = subst (IsCkptOf (with_next log (r ∷ []))) same (ckpt_kept log r _ valid linked of may own are.ckpt);
          covered = subst (AreCovered (log.records ++ r ∷ []) stored) same
              (behind_later log r stored _ valid own are.ckpt are.covered);
        }

pub gathered_set : (log : Log) (stored : List Page) (left : Left) (n : ℕ) (image d : Page)
    → IsWriting log.records n (get_or stored n d) image → n < length stored → AreGathered log stored left
    → AreGathered log (set stored n image) left
gathered_set log stored left n image d writes there are = by_open (open_checkpoint log.records) are
  where
    by_open : (o : Option Checkpoint) → IfSome o (IsGathering log stored left)
        → IfSome o (IsGathering log (set stored n image) left)
    by_open None are = tt
    by_open (Some c) are = record {
      ckpt = are.ckpt;
      covered = behind_written log.records stored (session_of log left c) n image d writes.past writes.newer there are.covered;
    }

-- ---- the master

abbrev pub HasMaster : Log → List Page → ℕ → Option Point → Type 0
HasMaster log stored forced_end master = IfSome master (IsMasterOf log stored forced_end)

pub complete_later : (rs : List Record) (r : Record) (begin end : ℕ) → IsCompleteCheckpoint rs begin end
    → IsCompleteCheckpoint (rs ++ r ∷ []) begin end
complete_later rs r begin end is = record {
  before = is.before;
  behind = is.behind ++ r ∷ [];
  redo = is.redo;
  ended = ap (λ (xs : List Record). xs ++ r ∷ []) is.ended ∙ append_assoc is.before _ (r ∷ []);
  begun = is.begun;
}

pub master_later : (log : Log) (r : Record) (stored : List Page) (forced_end : ℕ) (master : Option Point) → IsLog log
    → own_lsn r ≡ lsn_of (length log.records) → forced_end ≤ lsn_of (length log.records)
    → HasMaster log stored forced_end master → HasMaster (with_next log (r ∷ [])) stored forced_end master
unfolding complete_later
master_later log r stored forced_end None valid own within has = tt
master_later log r stored forced_end (Some point) valid own within has =
    let low = redo_before_end log point.begin point.end has.complete valid in
    let begun = begin_before_end log point.begin point.end has.complete valid in
    let same = has.same_redo in
    let forced = has.forced in
    let place : (point.begin - 1) / 64 ≤ length log.records = omega (arith, begun, forced, within) in
    record {
      complete = complete_later log.records r point.begin point.end has.complete;
      same_redo = has.same_redo;
      same_pages = has.same_pages ∙ sym (page_count_at-append log (r ∷ []) ((point.begin - 1) / 64) place);
      forced = forced;
      covered = all_later log.records r stored point.redo (omega arith) has.covered;
    }

pub master_set : (log : Log) (stored : List Page) (forced_end : ℕ) (master : Option Point) (n : ℕ)
    (image d : Page) → IsWriting log.records n (get_or stored n d) image → n < length stored
    → HasMaster log stored forced_end master → HasMaster log (set stored n image) forced_end master
master_set log stored forced_end None n image d writes there has = tt
master_set log stored forced_end (Some point) n image d writes there has = record {
  complete = has.complete;
  same_redo = has.same_redo;
  same_pages = has.same_pages;
  forced = has.forced;
  covered = all_written log.records stored point.redo n image d writes.past writes.newer there has.covered;
}

pub master_forced : (log : Log) (stored : List Page) (before after : ℕ) (master : Option Point)
    → before ≤ after → HasMaster log stored before master → HasMaster log stored after master
master_forced log stored before after None le has = tt
master_forced log stored before after (Some point) le has =
    let forced = has.forced in
    record {
      complete = has.complete;
      same_redo = has.same_redo;
      same_pages = has.same_pages;
      forced = omega arith;
      covered = has.covered;
    }

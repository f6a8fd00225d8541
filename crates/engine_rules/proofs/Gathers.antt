-- What a step of a gather does: five cases.
use Rattle.std.proofs.Common.{◌≡◌, ℕ, ◌+◌, refl, ap, ◌∙◌}
use Rattle.std.specs.Prelude.{Option, Some, None, IfSome, IsSomeAnd, List}
use Rattle.page_core.specs.declared.page.Page.{Page}
use Rattle.std.specs.Option.{option_map_or}
use Rattle.log_records.specs.declared.dirty_page.DirtyPages.{DirtyPages}
use Rattle.log_records.specs.declared.record.Record.{Record}
use Rattle.log_records.specs.declared.record.Record.TheVariants.{ChkptPages}
use Rattle.log_records.specs.Coverage.{dirty, next_dirty}
use Rattle.log_records.specs.Log.{Log}
use Rattle.log_rules.specs.Checkpoint.{Checkpoint, open_checkpoint}
use Rattle.txn_table.specs.TxnTable.{next_open}
use Rattle.fuzzy_ckpt.specs.Ckpt.{gathered, in_txns}
use Rattle.fuzzy_ckpt.specs.Steps.{Gathering, gather_step, pages_of, past_pages, txn_record}
use Rattle.engine_calls.specs.declared.event.Answer.TheVariants as answer
use Rattle.engine_calls.specs.declared.event.Event.TheVariants as event
use Rattle.engine_calls.specs.declared.refusal.Refusal.TheVariants.{LogFault}
use Rattle.engine_rules.specs.EngineState.{EngineState, IsGathering, Outcome, with_appended}
use Rattle.engine_rules.specs.EngineState.{ckpt_end_effect, closed, effect, end, gather_effect}
use Rattle.engine_rules.specs.EngineState.{gathered_record, gathering, log_of, next_step}
use Rattle.engine_rules.specs.Step.{Fails, ForcedPart}
use Rattle.engine_rules.specs.Gather.{Left, behind_pages, behind_txns, none_left, pages_left}
use Rattle.engine_rules.specs.Gather.{session_of, txns_left}

-- what is said of the open checkpoint, if one is
abbrev pub AreGathered : Log → List Page → Left → Type 0
AreGathered log stored left = IfSome (open_checkpoint log.records) (IsGathering log stored left)

-- ---- the cases

-- the dirty pages, and the open transaction, that a step looks for
abbrev pub next_pages : EngineState → Checkpoint → Option DirtyPages
next_pages s c = pages_of (next_dirty (dirty s.log s.written) (behind_pages c))

abbrev pub next_txn_of : EngineState → Checkpoint → Option ℕ
next_txn_of s c = next_open s.log (behind_txns c)

abbrev pub pages_record : EngineState → Checkpoint → DirtyPages → Record
pages_record s c pages = ChkptPages (end s) c.begin pages

abbrev pub txn_entry : EngineState → Checkpoint → ℕ → Record
txn_entry s c t = txn_record s.log c.begin t

pub record FindsPages (s : EngineState) (c : Checkpoint) (o : Option DirtyPages) : Type 0 where
  pub left : s.left ≡ pages_left
  pub found : next_pages s c ≡ o

pub record FindsTxn (s : EngineState) (c : Checkpoint) (o : Option ℕ) : Type 0 where
  pub left : s.left ≡ txns_left
  pub found : next_txn_of s c ≡ o

pub data GatherCase (s : EngineState) (c : Checkpoint) : Type 0 where
  TakesPages : (pages : DirtyPages) → FindsPages s c (Some pages) → GatherCase s c
  PassesPages : FindsPages s c None → GatherCase s c
  TakesTxn : (t : ℕ) → FindsTxn s c (Some t) → GatherCase s c
  PassesTxns : FindsTxn s c None → GatherCase s c
  WasDone : s.left ≡ none_left → GatherCase s c

pub gather_case : (s : EngineState) (c : Checkpoint) → GatherCase s c
gather_case s c = by_left s.left refl
  where
    by_pages : s.left ≡ pages_left → (o : Option DirtyPages) → next_pages s c ≡ o → GatherCase s c
    by_pages left None none = PassesPages (record { left = left; found = none })
    by_pages left (Some pages) some = TakesPages pages (record { left = left; found = some })

    by_txn : s.left ≡ txns_left → (o : Option ℕ) → next_txn_of s c ≡ o → GatherCase s c
    by_txn left None none = PassesTxns (record { left = left; found = none })
    by_txn left (Some t) some = TakesTxn t (record { left = left; found = some })

    by_left : (left : Left) → s.left ≡ left → GatherCase s c
    by_left pages_left is = by_pages is (next_pages s c) refl
    by_left txns_left is = by_txn is (next_txn_of s c) refl
    by_left none_left is = WasDone is

-- ---- what each does

-- it appends this record, if it does, and this is left
pub record Does (s : EngineState) (c : Checkpoint) (next : Option Record) (o : Outcome) : Type 0 where
  pub made : gathered_record s ≡ next
  pub outcome : effect s event.CkptGather ≡ o

does : (s : EngineState) (c : Checkpoint) (step : Gathering) → open_checkpoint s.log ≡ Some c → next_step s c ≡ step
    → Does s c step.next (gather_effect s step)
does s c step still_open is = record {
  made = ap (λ o. option_map_or (λ c. (next_step s c).next) o None) still_open ∙ ap (λ g. g.next) is;
  outcome =
      ap (λ o. option_map_or (λ c. gather_effect s (next_step s c)) o
      (record { answer = answer.Done; state = s })) still_open
      ∙ ap (gather_effect s) is;
}

abbrev more : EngineState → Left → Outcome
more s left = record { answer = answer.More; state = gathering s left }

abbrev done : EngineState → Outcome
done s = record { answer = answer.Done; state = gathering s none_left }

-- the step of a session
abbrev pub step_at : EngineState → Checkpoint → Left → Gathering
step_at s c left = gather_step s.log s.written (session_of (log_of s) left c)

pub at_left : (s : EngineState) (c : Checkpoint) (left : Left) → s.left ≡ left → next_step s c ≡ step_at s c left
at_left s c left is = ap (step_at s c) is

-- it takes these pages, or goes on to transactions
abbrev pub with_pages : EngineState → Checkpoint → Option DirtyPages → Gathering
with_pages s c o =
    option_map_or (λ pages. record {
      next = Some (pages_record s c pages);
      ckpt = past_pages pages (session_of (log_of s) pages_left c);
    })
    o (record { next = None; ckpt = record (session_of (log_of s) pages_left c) { phase = in_txns 0 } })

-- it takes this transaction, or is done
abbrev pub with_txn : EngineState → Checkpoint → Option ℕ → Gathering
with_txn s c o =
    option_map_or (λ t. record {
      next = Some (txn_entry s c t);
      ckpt = record (session_of (log_of s) txns_left c) { phase = in_txns (t + 1) };
    })
    o (record { next = None; ckpt = record (session_of (log_of s) txns_left c) { phase = gathered } })

pub takes_pages : (s : EngineState) (c : Checkpoint) (pages : DirtyPages) → open_checkpoint s.log ≡ Some c
    → FindsPages s c (Some pages)
    → Does s c (Some (pages_record s c pages)) (more (with_appended s (pages_record s c pages)) pages_left)
takes_pages s c pages still_open finds =
    does s c (with_pages s c (Some pages)) still_open
    (at_left s c pages_left finds.left ∙ ap (with_pages s c) finds.found)

pub passes_pages : (s : EngineState) (c : Checkpoint) → open_checkpoint s.log ≡ Some c → FindsPages s c None
    → Does s c None (more s txns_left)
passes_pages s c still_open finds =
    does s c (with_pages s c None) still_open (at_left s c pages_left finds.left ∙ ap (with_pages s c) finds.found)

pub takes_txn : (s : EngineState) (c : Checkpoint) (t : ℕ) → open_checkpoint s.log ≡ Some c → FindsTxn s c (Some t)
    → Does s c (Some (txn_entry s c t)) (more (with_appended s (txn_entry s c t)) txns_left)
takes_txn s c t still_open finds =
    does s c (with_txn s c (Some t)) still_open (at_left s c txns_left finds.left ∙ ap (with_txn s c) finds.found)

pub passes_txns : (s : EngineState) (c : Checkpoint) → open_checkpoint s.log ≡ Some c → FindsTxn s c None
    → Does s c None (done s)
passes_txns s c still_open finds =
    does s c (with_txn s c None) still_open (at_left s c txns_left finds.left ∙ ap (with_txn s c) finds.found)

pub was_done : (s : EngineState) (c : Checkpoint) → open_checkpoint s.log ≡ Some c → s.left ≡ none_left
    → Does s c None (done s)
was_done s c still_open left =
    does s c (step_at s c none_left) still_open (at_left s c none_left left)

-- where the log's device failed at the end of a checkpoint
pub closed_part : (old new : EngineState) → Fails old event.CkptEnd LogFault new
    → (c : Checkpoint) × (open_checkpoint old.log ≡ Some c) × ForcedPart (end (closed old c)) (closed old c) new
closed_part old new fails = by_open (open_checkpoint old.log) refl fails
  where
    by_open : (o : Option Checkpoint) → open_checkpoint old.log ≡ o
        → IsSomeAnd o (λ c. ForcedPart (end (closed old c)) (closed old c) new)
        → (c : Checkpoint) × (open_checkpoint old.log ≡ Some c) × ForcedPart (end (closed old c)) (closed old c) new
    by_open None is part = absurd part
    by_open (Some c) is part = (c, is, part)

pub ckpt_end_is : (s : EngineState) (c : Checkpoint) → open_checkpoint s.log ≡ Some c
    → effect s event.CkptEnd ≡ ckpt_end_effect s c
ckpt_end_is s c is =
    ap (λ o. option_map_or (ckpt_end_effect s) o (record { answer = answer.Point 0 0 0; state = s })) is

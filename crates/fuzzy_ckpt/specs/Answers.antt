-- What the steps of a checkpoint answer.
use Rattle.std.specs.Prelude.{◌≡◌, ◌<◌, ◌≤◌, [], ◌∷◌}
use Rattle.log_records.specs.declared.record.Record.{Record}
use Rattle.log_records.specs.Log.{with_next}
use Rattle.log_store.specs.WrittenLog.{EndsAtRecord, WrittenLog}
use Rattle.fuzzy_ckpt.specs.declared.ckpt.PagesStep.{PagesStep}
use Rattle.fuzzy_ckpt.specs.declared.ckpt.PagesStep.TheVariants as pages
use Rattle.fuzzy_ckpt.specs.declared.ckpt.TxnsStep.{TxnsStep}
use Rattle.fuzzy_ckpt.specs.declared.ckpt.TxnsStep.TheVariants as txns
use Rattle.fuzzy_ckpt.specs.declared.phase.Gathered.{Gathered}
use Rattle.fuzzy_ckpt.specs.declared.point.FinishFault.{FinishFault}
use Rattle.fuzzy_ckpt.specs.declared.point.FinishFault.TheVariants.{OutOfMemory, LogFault}
use Rattle.fuzzy_ckpt.specs.Ckpt.{CkptView, Phase, gathered_ckpt, pages_ckpt, txns_ckpt}
use Rattle.fuzzy_ckpt.specs.Steps.{end_of, end_record}

-- the checkpoint after a step over pages
abbrev pub after_pages : PagesStep → CkptView Phase
after_pages (pages.More c) = pages_ckpt c
after_pages (pages.Passed c) = txns_ckpt c

-- and after one over transactions
abbrev pub after_txns : TxnsStep → CkptView Phase
after_txns (txns.More c) = txns_ckpt c
after_txns (txns.Passed c) = gathered_ckpt c

-- a record stands in the log, and is not forced; what was forced before it is
pub record IsUnforced {D : Type 0} (old new : WrittenLog D) (r : Record) : Type 0 where
  pub logged : new.log ≡ with_next old.log (r ∷ [])
  pub rising : old.forced_end ≤ new.forced_end
  pub short : new.forced_end < end_of new.log.records
  pub at_record : EndsAtRecord new

-- what stands where a checkpoint did not come to its end: nothing has changed, and the checkpoint
-- is handed back; or its EndChkpt stands in the log, and is not forced
abbrev pub FailsAs : {D : Type 0} → WrittenLog D → WrittenLog D → CkptView Gathered → FinishFault
    → Type 0
FailsAs old new c (OutOfMemory back) =
    (back ≡ c) × (new.log ≡ old.log) × (new.forced_end ≡ old.forced_end) × (new.device ≡ old.device)
FailsAs old new c LogFault = IsUnforced old new (end_record old.log.records c)

abbrev pub IsLogFault : FinishFault → Type 0
IsLogFault (OutOfMemory back) = ⊥
IsLogFault LogFault = Unit {0}

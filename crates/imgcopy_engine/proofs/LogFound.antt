-- A log's file that was read, and has what undo appended: the calls that were made of it go on.
use Rattle.std.proofs.Common.{ℕ, ◌≡◌, List, [], ◌∷◌, ◌++◌, append-nil, append_assoc, sym, ap, ◌∙◌}
use Rattle.std.specs.Prelude.{Result}
use Rattle.file_devices.specs.Calls.{done}
use Rattle.file_devices.specs.FileLog.{LogOnDisk, Stores, Syncs, puts_of}
use Rattle.file_devices.specs.declared.calls.FileCall.{FileCall}
use Rattle.file_devices.specs.declared.calls.Request.TheVariants.{Sync}
use Rattle.log_records.specs.declared.record.Record.{Record}
use Rattle.log_records.specs.Log.{Log}
use Rattle.log_store.specs.declared.device.DeviceFault.{DeviceFault}
use Rattle.log_store.specs.Stores.{ForcesBetween, StoresEach, in_one_sync, nothing}
use Rattle.engine_restart.specs.LogFile.{WasReadAndKept}
use Rattle.engine_restart.specs.Restart.{ForcesMore}

-- calls came behind these
abbrev pub GoesOn : List FileCall → List FileCall → Type 0
GoesOn old new = (later : List FileCall) × (new ≡ old ++ later)

module _ {D : Type 0} where
  abbrev stores : LogOnDisk D → ℕ → List ℕ → Result Unit DeviceFault → LogOnDisk D → Type 0
  stores old from next result new = Stores old from next result new

  abbrev syncs : LogOnDisk D → Result Unit DeviceFault → LogOnDisk D → Type 0
  syncs old result new = Syncs old result new

  -- no store asks the file for anything
  each_asks_nothing : (records : List Record) (old new : LogOnDisk D) → StoresEach stores old records new
      → new.calls ≡ old.calls
  each_asks_nothing [] old new is = ap (λ (it : LogOnDisk D). it.calls) is
  each_asks_nothing (r ∷ rest) old new is = each_asks_nothing rest is.0 new is.2 ∙ is.1.calls

  between_goes_on : (records : List Record) (from to : ℕ) (old new : LogOnDisk D)
      → ForcesBetween stores syncs records from to old new → GoesOn old.calls new.calls
  between_goes_on records from to old new (nothing none same) =
      ([], ap (λ (it : LogOnDisk D). it.calls) same ∙ sym (append-nil old.calls))
  between_goes_on records from to old new (in_one_sync stored some each synced) = (
    puts_of stored ++ done Sync ∷ [],
    synced.ok ∙ ap (λ calls. calls ++ puts_of stored ++ done Sync ∷ []) (each_asks_nothing _ old stored each)
        ∙ append_assoc old.calls (puts_of stored) (done Sync ∷ []),
  )

  pub calls_go_on : (log more : Log) (old new : LogOnDisk D) → ForcesMore stores syncs log more old new
      → GoesOn old.calls new.calls
  calls_go_on log more old new forced = between_goes_on more.records _ _ old new forced

-- calls that come behind change nothing of how a file was read, and its front stored again
pub still_read : (len : ℕ) (bytes front : List ℕ) (old new : List FileCall) → WasReadAndKept len bytes front old
    → GoesOn old new → WasReadAndKept len bytes front new
still_read len bytes front old new was more = record {
  all = was.all;
  later = was.later ++ more.0;
  calls = more.1 ∙ ap (λ cs. cs ++ more.0) was.calls;
}

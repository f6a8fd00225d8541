-- What the numbers of an outcome stand for.
use Rattle.std.specs.Prelude.{ℕ, Option, None, Some}
use Rattle.log_store.specs.declared.fault.LogReadFault.{LogReadFault}
use Rattle.log_store.specs.declared.fault.LogReadFault.TheVariants as log
use Rattle.log_prefix.specs.declared.cut.Cut.{Cut}
use Rattle.log_prefix.specs.declared.cut.CutReason.{CutReason}
use Rattle.log_prefix.specs.declared.cut.CutReason.TheVariants as cut
use Rattle.log_prefix.specs.declared.fault.FrontFault.{FrontFault}
use Rattle.log_prefix.specs.declared.fault.FrontFault.TheVariants as front
use Rattle.copy_audit.specs.declared.unsound.Unsound as fault
use Rattle.copy_audit.specs.declared.unsound.Unsound.TheVariants as audit
use Rattle.embed_calls.specs.declared.outcome.Outcome.{Outcome}

-- it went well, with these numbers
abbrev pub answers : ℕ → ℕ → ℕ → Outcome
answers first second third = record { code = 0; first = first; second = second; third = third }

-- the fault of this number, with two numbers of its own; with one
abbrev pub numbered_twice : ℕ → ℕ → ℕ → Outcome
numbered_twice code first second =
    record { code = code; first = first; second = second; third = 0 }

abbrev pub numbered : ℕ → ℕ → Outcome
numbered code first = numbered_twice code first 0

-- a fault of reading a log
abbrev pub of_log : LogReadFault → Outcome
of_log log.OutOfMemory = numbered 1 0
of_log log.BadHeader = numbered 30 0
of_log (log.BadRecord at) = numbered 31 at
of_log (log.Torn at) = numbered 32 at
of_log log.ReadFault = numbered 33 0
of_log log.TooLong = numbered 34 0
of_log (log.BadChain at) = numbered 35 at

-- one of reading the longest front of a log
abbrev pub of_front : FrontFault → Outcome
of_front front.OutOfMemory = numbered 1 0
of_front front.BadHeader = numbered 30 0
of_front front.ReadFault = numbered 33 0

-- one of an audit
abbrev pub of_audit : fault.Unsound → Outcome
of_audit audit.OutOfMemory = numbered 1 0
of_audit audit.BadHeader = numbered 30 0
of_audit (audit.BadRecord at) = numbered 31 at
of_audit (audit.Torn at) = numbered 32 at
of_audit audit.ReadFault = numbered 33 0
of_audit audit.TooLong = numbered 34 0
of_audit (audit.BadChain at) = numbered 35 at
of_audit (audit.BadArchive at) = numbered 36 at
of_audit (audit.ChainBroken copy) = numbered 37 copy
of_audit audit.CountDiffers = numbered 38 0
of_audit audit.RedoBeyondLog = numbered 39 0
of_audit (audit.PageBeyondLog page) = numbered 40 page
of_audit (audit.Unsound copy page) = numbered_twice 41 copy page

-- why the bytes behind a front are left out, by the number of the fault that a reader of whole logs
-- finds there; 0 where none are
abbrev pub of_reason : CutReason → ℕ
of_reason cut.Torn = 32
of_reason cut.BadRecord = 31
of_reason cut.BadChain = 35
of_reason cut.TooLong = 34

abbrev pub of_cut : Option Cut → ℕ
of_cut None = 0
of_cut (Some it) = of_reason it.why

use Rattle.std.proofs.Common.{ℕ, ◌*◌, ◌<◌}
use Rattle.log_records.specs.declared.record.Record.{Record}
use Rattle.log_prefix.specs.Remains.{StandsAlone}
use Rattle.log_prefix.proofs.remains.has_behind.Given as goal

abbrev pub invariant-loop-place : goal.invariant-loop-place
invariant-loop-place l =
    (later : ℕ) (next : Record) → l.fn.at < later → later < l.place * 64
    → ¬ StandsAlone l.bytes later next

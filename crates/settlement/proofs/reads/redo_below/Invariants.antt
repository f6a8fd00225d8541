use Rattle.std.proofs.Common.{◌≡◌, length, take}
use Rattle.log_records.specs.Image.{redo_all}
use Rattle.settlement.proofs.reads.redo_below.Given as goal

abbrev pub invariant-loop-i : goal.invariant-loop-i
invariant-loop-i l = l.pages ≡ redo_all (take l.i l.records) (length l.initial.pages)

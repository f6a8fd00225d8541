use Rattle.std.proofs.Common.{◌≡◌, ℕ, ◌+◌, ◌≤◌, ◌++◌, List, length, Some}
use Rattle.event_script.specs.Script.{said_in}
use Rattle.event_script.specs.Words.{lines_of}
use Rattle.event_script.proofs.Scripts.{lines_left, room_of}
use Rattle.event_script.proofs.read.script_in.Given as goal

abbrev pub invariant-loop-left : goal.invariant-loop-left
invariant-loop-left l = record {
  few : l.number + room_of l.left ≤ length l.input + 1;
  so_far : (lines : List (List ℕ)) × (lines_of l.input ≡ lines ++ lines_left l.left)
      × (length lines ≡ l.number) × (said_in lines ≡ Some (l.script.events.items, l.script.restore));
}

abbrev pub decreases-loop-left : goal.decreases-loop-left
decreases-loop-left l = room_of l.left

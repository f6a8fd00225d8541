use Rattle.std.proofs.Common.{◌≡◌, map, take}
use Rattle.page_redo.specs.Placed.{redone_each}
use Rattle.page_redo.proofs.changes.redo_piece.Given as goal

abbrev pub invariant-loop-change : goal.invariant-loop-change
invariant-loop-change l = l.pages ≡ map (redone_each (take l.change-index l.changes) l.from) l.fn.pages

use Rattle.std.proofs.Common.{◌≡◌, map, take}
use Rattle.page_redo.specs.Redo.{redone_all}
use Rattle.page_redo.proofs.volume.redo_records.Given as goal

abbrev pub invariant-loop-record : goal.invariant-loop-record
invariant-loop-record l = l.pages ≡ map (λ page. redone_all page (take l.record-index l.records)) l.fn.pages

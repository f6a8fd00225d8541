use Rattle.std.proofs.Common.{take}
use Rattle.std.specs.Prelude.{map, string_bytes}
use Rattle.folder_reports.proofs.Ids.{HasIds}
use Rattle.folder_reports.proofs.copies.copy_ids.Given as goal

abbrev pub invariant-loop-name : goal.invariant-loop-name
invariant-loop-name g l = HasIds l.ids.items (map string_bytes (take l.name-index l.name-items))

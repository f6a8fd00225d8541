use Rattle.std.proofs.Common.{map, string_bytes}
use Rattle.std.specs.List.{Contains}
use Rattle.database_files.specs.Found.{TellsNames}
use Rattle.database_files.proofs.inventory.Inventory.of.Given as goal

abbrev pub invariant-loop-name : goal.invariant-loop-name
invariant-loop-name g l = TellsNames (Contains (map string_bytes l.yielded)) l.there

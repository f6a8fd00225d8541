use Rattle.std.proofs.Common.{◌≡◌, take}
use Rattle.std.specs.Prelude.{map, string_bytes}
use Rattle.folder_reports.proofs.verify.audit_named.Given as goal

abbrev pub invariant-loop-name : goal.invariant-loop-name
invariant-loop-name g l = map (λ name. name.now) l.archives.items ≡ map string_bytes (take l.name-index l.names)

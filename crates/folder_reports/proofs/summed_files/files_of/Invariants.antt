use Rattle.std.proofs.Common.{◌≡◌, take}
use Rattle.std.specs.Prelude.{map, string_bytes}
use Rattle.folder_reports.specs.Named.{said_at}
use Rattle.folder_reports.proofs.summed_files.files_of.Given as goal

abbrev pub invariant-loop-entry : goal.invariant-loop-entry
invariant-loop-entry l = record {
  names : map (λ it. string_bytes it.name) l.files.items ≡ map (λ entry. entry.name) (take l.entry-index l.entries);
  known : map (λ it. it.known) l.files.items
      ≡ map (λ entry. said_at l.manifest l.log entry.name) (take l.entry-index l.entries);
}

use Rattle.std.proofs.Common.{◌≡◌, ◌++◌, drop, string_bytes}
use Rattle.std.specs.List.{flat_map}
use Rattle.manifest.specs.Text.{entry_text}
use Rattle.manifest.proofs.text.push_entries.Given as goal

abbrev pub invariant-loop-entry : goal.invariant-loop-entry
invariant-loop-entry l =
    string_bytes l.text ++ flat_map entry_text (drop l.entry-index l.entries)
    ≡ string_bytes l.fn.text ++ flat_map entry_text l.entries

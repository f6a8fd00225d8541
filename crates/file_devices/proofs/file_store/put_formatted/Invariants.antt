use Rattle.std.proofs.Common.{◌≡◌, ◌≤◌, ◌-◌, ◌++◌}
use Rattle.file_devices.specs.FileStore.{formatted_between, writes_of}
use Rattle.file_devices.proofs.file_store.put_formatted.Given as goal

-- the pages below the next number are written, which is past the end only where the first was
abbrev pub invariant-loop-number : goal.invariant-loop-number
invariant-loop-number l = record {
  calls : l.file ≡ l.initial.file ++ writes_of (formatted_between l.from l.number);
  within : l.number - l.from ≤ l.to - l.from;
}

use Rattle.std.proofs.Common.{◌≡◌, ◌<◌, drop}
use Rattle.event_script.specs.Words.{digits_after}
use Rattle.session_lines.proofs.operator_command.copy_number.Given as goal

abbrev pub invariant-loop-byte : goal.invariant-loop-byte
invariant-loop-byte l = record {
  made : digits_after l.number (drop l.byte-index l.digits) ≡ digits_after 0 l.digits;
  small : l.number < 4294967296;
}

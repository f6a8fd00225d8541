use Rattle.std.proofs.Common.{◌≡◌, length, ◌+◌}
use Rattle.event_script.specs.Words.{words_of}
use Rattle.event_script.proofs.line_fault.has_words.Given as goal

abbrev pub invariant-loop : goal.invariant-loop
invariant-loop l = record {
  counted : length (words_of l.bytes) ≡ l.counter + length (words_of l.left);
}

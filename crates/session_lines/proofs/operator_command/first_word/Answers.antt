use Rattle.session_lines.specs.Commands.{alone}
use Rattle.session_lines.proofs.Spelled.{begins_before}
use Rattle.session_lines.proofs.operator_command.first_word.Goals as goal

pub returns-then-byte-eq32 : goal.returns-then-byte-eq32
returns-then-byte-eq32 c = begins_before c.args.text.now c.loop-end.end c.loop-end-test.true c.if-byte-eq32.true

pub returns : goal.returns
returns c = alone c.args.text.now

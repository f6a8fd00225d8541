use Rattle.std.proofs.lemmas.Str.{IsUtf8-from_ascii}
use Rattle.event_script.proofs.read.is_utf8.Goals as goal

pub returns-then-is_ascii : goal.returns-then-is_ascii
returns-then-is_ascii c = (
  λ all. IsUtf8-from_ascii c.args.bytes.now (c.is_ascii.ensures all),
  λ utf8. c.if-is_ascii.true,
)

use Rattle.std.proofs.Common.{rules}
use Rattle.embed_calls.proofs.audit.audit_archives.Goals as goal

pub returns-in-Err-clause-refused : goal.returns-in-Err-clause-refused
returns-in-Err-clause-refused c = λ some other. record {
  why = c.in-Err.why;
  told = c.from.ensures;
  add_up = search rules;
  refused = c.in-Err.ensures.err;
}

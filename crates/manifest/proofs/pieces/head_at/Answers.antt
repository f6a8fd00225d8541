use Rattle.manifest.proofs.NoPieces.{head_is, no_head, no_word}
use Rattle.manifest.proofs.pieces.head_at.Goals as goal

pub returns-in_err-rest-3-clause-none : goal.returns-in_err-rest-3-clause-none
returns-in_err-rest-3-clause-none c =
    rw c.from_residual-in_err-rest-3.ensures
    (no_head c.args.bytes.now c.in_ok-rest.rest.now c.digits_at.new.room c.in_ok-rest-2.rest.now
    c.in_ok-rest.ensures.found c.in_ok-rest-2.ensures.found.0 c.in_ok-rest-2.ensures.found.1
    c.in_err-rest-3.ensures.none)

pub returns-clause-found : goal.returns-clause-found
returns-clause-found c = (
  c.in_ok-rest-2.ensures.found.0,
  head_is c.args.bytes.now c.in_ok-rest.rest.now c.digits_at.new.room c.in_ok-rest-2.rest.now c.in_ok-rest-3.rest.now
      c.in_ok-rest.ensures.found c.in_ok-rest-2.ensures.found.1 c.in_ok-rest-3.ensures.found,
)

pub returns-in_err-rest-clause-none : goal.returns-in_err-rest-clause-none
returns-in_err-rest-clause-none c =
    rw c.from_residual.ensures (no_word c.args.bytes.now c.in_err-rest.ensures.none)

use Rattle.std.proofs.Common.{subst, ap, ◌∙◌, ◌∷◌, ◌++◌, ℕ}
use Rattle.manifest.specs.Pieces.{LacksByte}
use Rattle.manifest.proofs.NoPieces.{no_length}
use Rattle.manifest.proofs.pieces.length_at.Goals as goal

pub returns-in_err-number_of-clause-none : goal.returns-in_err-number_of-clause-none
returns-in_err-number_of-clause-none c =
    let cut = c.in_ok-digits.ensures.found in
    let digits = c.in_ok-digits.digits.now in
    let stop = c.break_byte.ensures in
    rw c.from_residual-in_err-number_of.ensures
    (no_length c.args.bytes.now c.in_ok-extent.rest.now digits c.in_ok-digits.rest.now
    c.in_ok-extent.extent c.in_ok-extent.ensures.found
    (subst (λ (b : ℕ). LacksByte b digits) stop cut.0)
    (cut.1 ∙ ap (λ (b : ℕ). digits ++ b ∷ c.in_ok-digits.rest.now) stop) c.in_err-number_of.ensures.none)

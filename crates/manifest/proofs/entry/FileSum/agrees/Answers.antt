use Rattle.std.proofs.Common.{◌∙◌, sym}
use Rattle.std.proofs.lemmas.Bool.{eqb-true}
use Rattle.std.proofs.lemmas.Slice.Eq.{bytes_eq-Decides}
use Rattle.manifest.proofs.Collisions.{same_or_collide}
use Rattle.manifest.proofs.entry.FileSum.agrees.Goals as goal

pub returns-then-eq-clause-detects : goal.returns-then-eq-clause-detects
returns-then-eq-clause-detects c is made found m f =
    let known = c.args.self.now in
    let count = eqb-true known.bytes c.args.bytes is in
    let sum = (bytes_eq-Decides known.sum.0 c.args.sum.0).0 (sym c.if-eq.ensures) in
    same_or_collide known.sum known.bytes made found m
    (record { digest = sum ∙ f.digest; many = count ∙ f.many })

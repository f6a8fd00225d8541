use Rattle.std.proofs.Common.{sym}
use Rattle.manifest.proofs.Names.{lacks_more, place_is}
use Rattle.manifest.proofs.listing.place.Goals as goal

pub returns-then-has_name-clause-found : goal.returns-then-has_name-clause-found
returns-then-has_name-clause-found c =
    place_is c.args.entries.now c.args.name.now c.loop-i.i c.index-entries-i.result c.loop-i-test.true
    c.loop-i.invariant c.index-entries-i.is (sym c.if-has_name.ensures)

pub loop-i-preserved : goal.loop-i-preserved
loop-i-preserved c =
    lacks_more c.args.entries.now c.args.name.now c.loop-i.i c.index-entries-i.result c.loop-i-test.true
    c.loop-i.invariant (sym c.index-entries-i.is) (sym c.if-has_name.ensures)

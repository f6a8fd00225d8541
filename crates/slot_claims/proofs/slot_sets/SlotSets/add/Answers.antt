use Rattle.std.proofs.Common.{◌∙◌, arith, refl, set}
use Rattle.slot_claims.proofs.AdderSets.{rows_kept, set_added}
use Rattle.slot_claims.proofs.slot_sets.SlotSets.add.Goals as goal

pub returns-clause-room : goal.returns-clause-room
returns-clause-room c =
    let sets = c.args.self.now.sets in
    set_added c.args.self.now _ c.args.slot c.len-place.result _ (omega arith) refl c.in_ok-push.ensures.items
    (c.len-place.ensures ∙ sets.ok.0) refl

pub returns-clause-same : goal.returns-clause-same
returns-clause-same c = λ s within.
    let sets = c.args.self.now.sets in
    rows_kept c.args.self.now (record {
      places = set c.args.self.now.places c.args.slot c.len-place.result;
      sets = c.push.new.self;
    }) c.args.slot c.len-place.result _ (omega arith) refl c.in_ok-push.ensures.items
    (c.len-place.ensures ∙ sets.ok.0) refl c.requires.absent c.new.ensures s

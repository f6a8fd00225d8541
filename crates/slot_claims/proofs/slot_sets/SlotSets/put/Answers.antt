use Rattle.slot_claims.proofs.AdderSets.{rows-put, set_named, set_there}
use Rattle.slot_claims.proofs.slot_sets.SlotSets.put.Goals as goal

pub index_mut-requires : goal.index_mut-requires
index_mut-requires c = (set_there c.args.self.now c.args.slot c.requires.room).0

pub returns : goal.returns
returns c = λ s within.
    rows-put c.args.self.now c.args.slot c.index_mut.result.now.slot c.args.rows c.requires.room
    (set_named c.args.self.now c.args.slot c.index_mut.result.now c.requires.room c.index_mut.ensures.value) s

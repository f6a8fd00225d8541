use Rattle.std.proofs.Common.{◌∙◌, length, ap}
use Rattle.buffer_pool.proofs.Columns.{length-states_of}
use Rattle.buffer_pool.proofs.Grown.{new_states}
use Rattle.buffer_pool.proofs.page_states.PageStates.new.Goals as goal

pub returns : goal.returns
returns c =
    let written = c.in_ok-with_capacity.field-0.items in
    new_states _ c.grow.new.self c.args.count
    (length-states_of written c.in_ok-new.field-0 c.in_ok-with_capacity-2.field-0.items
    c.in_ok-with_capacity-3.field-0.items
    ∙ ap length c.in_ok-with_capacity.ensures.items)
    c.grow.ensures

use Rattle.buffer_pool.proofs.Bits.{bits_none}
use Rattle.buffer_pool.proofs.bit_row.BitRow.new.Goals as goal

pub returns : goal.returns
returns c =
    bits_none c.in_ok-vec.field-0.items c.args.words (c.in_ok-vec.ensures.items_if_clones_equal (λ y e. e))

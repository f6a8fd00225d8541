use Rattle.std.proofs.Common.{◌∙◌, ◌/◌, Bool, List, false, set, ap, arith, length}
use Rattle.std.proofs.lemmas.List.{get_or_read}
use Rattle.buffer_pool.proofs.Bits.{bits_removed, length-bits_of}
use Rattle.buffer_pool.proofs.bit_row.BitRow.remove.Goals as goal

pub index_mut-requires : goal.index_mut-requires
index_mut-requires c =
    let words = c.self.inside.words in
    omega (arith, words.ok.0, length-bits_of words.items, ap length c.self.view_is)

pub returns : goal.returns
returns c =
    let words = c.self.inside.words in
    let n = c.args.number in
    bits_removed words.items n c.index_mut.result.now
    (omega (arith, length-bits_of words.items, ap length c.self.view_is))
    (get_or_read words.items (n / 64) c.index_mut.result.now
    (omega (arith, length-bits_of words.items, ap length c.self.view_is)) c.index_mut.ensures.value 0)
    ∙ ap (λ (xs : List Bool). set xs n false) c.self.view_is

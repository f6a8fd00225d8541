use Rattle.std.proofs.Common.{◌≡◌, ◌∙◌, ap, refl, arith}
use Rattle.std.specs.Int.{w32, w64, to_le_bytes}
use Rattle.std.specs.List.{flat_map}
use Rattle.page_core.specs.declared.page.Page.{Page}
use Rattle.page_core.specs.Page.{page_bytes}
use Rattle.page_core.proofs.Pieces.{length-pieces}
use Rattle.page_core.proofs.EightBytes.{eight_bytes}
use Rattle.page_core.proofs.PageBytes.{four_parts}
use Rattle.page_core.proofs.page.Page.write_to.Goals as goal

pub returns : goal.returns
unfolding page_bytes
returns c =
    let page = c.args.self.now in
    let number : c.copy_from_slice.new.self ≡ to_le_bytes w32 page.number = c.copy_from_slice.ensures.after
    ∙ c.to_le_bytes.ensures ∙ ap (λ (p : Page). to_le_bytes w32 p.number) c.self.view_is in
    let format : c.copy_from_slice-2.new.self ≡ to_le_bytes w32 1 = c.copy_from_slice-2.ensures.after
    ∙ c.to_le_bytes-2.ensures in
    let lsn : c.copy_from_slice-3.new.self ≡ to_le_bytes w64 page.lsn = c.copy_from_slice-3.ensures.after
    ∙ c.to_le_bytes-3.ensures ∙ ap (λ (p : Page). to_le_bytes w64 p.lsn) c.self.view_is in
    let slots : c.put_slots.new.bytes ≡ flat_map (to_le_bytes w64) page.slots = c.put_slots.ensures
    ∙ ap (λ (p : Page). flat_map (to_le_bytes w64) p.slots) c.self.view_is in
    rw (number, format, lsn, slots)
    (four_parts c.args.bytes.now (to_le_bytes w32 page.number) (to_le_bytes w32 1) (to_le_bytes w64 page.lsn)
    (flat_map (to_le_bytes w64) page.slots)
    c.requires refl refl refl (length-pieces (to_le_bytes w64) 8 eight_bytes page.slots ∙ omega arith))

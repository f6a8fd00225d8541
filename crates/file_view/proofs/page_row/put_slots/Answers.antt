use Rattle.std.proofs.Common.{◌++◌, ℕ, List, take, sym, ap, ◌∙◌}
use Rattle.std.specs.Prelude.{slice_index}
use Rattle.std.specs.String.{string_bytes}
use Rattle.std.proofs.lemmas.List.{append_assoc, take_more}
use Rattle.file_view.specs.PageText.{slot_text, slots_text}
use Rattle.file_view.proofs.Slots.{slots_more}
use Rattle.file_view.proofs.page_row.put_slots.Goals as goal

pub loop-slot-preserved : goal.loop-slot-preserved
loop-slot-preserved c =
    let slots = c.args.slots.now in
    let slot = c.loop-slot.slot in
    let text = string_bytes c.args.text.now in
    let number = slice_index slots slot in
    let below = c.loop-slot-test.true in
    c.in_ok-put_slot.ensures ∙ ap (λ (bs : List ℕ). bs ++ slot_text slot number) c.loop-slot.invariant
    ∙ append_assoc text (slots_text 0 (take slot slots)) (slot_text slot number)
    ∙ ap (λ (bs : List ℕ). text ++ bs) (sym (slots_more slots slot number below (take_more slots slot 0 below)))

use Rattle.std.proofs.Common.{◌++◌, List, ℕ, take, sym, ap, ◌∙◌}
use Rattle.std.specs.Prelude.{slice_index}
use Rattle.std.specs.String.{string_bytes}
use Rattle.std.proofs.lemmas.List.{take_more}
use Rattle.file_view.specs.PageText.{slot_json, slots_json, with_commas}
use Rattle.file_view.proofs.Slots.{is_none, slot_passed, slot_shown, some_more, text_more}
use Rattle.file_view.proofs.page_row.put_slots_json.Goals.{then-number-ne0+in_ok-put_slot_json, else-number-ne0}
use Rattle.file_view.proofs.page_row.put_slots_json.Goals as goal

pub loop-slot-preserved : goal.loop-slot-preserved
loop-slot-preserved c =
    let slots = c.args.slots.now in
    let slot = c.loop-slot.slot in
    let number = slice_index slots slot in
    let below = c.loop-slot-test.true in
    let more = take_more slots slot 0 below in
    let before = slots_json 0 (take slot slots) in
    let were = c.loop-slot.invariant in
    let whole : List (List ℕ) → List ℕ = λ texts. string_bytes c.args.text.now ++ with_commas texts in
    elim c.if-number-ne0.branch [
      | then-number-ne0+in_ok-put_slot_json w ↦
          let shown = slot_shown slots slot number below more w.if-number-ne0.true in
          rw (w.text-is, w.is_first-is) (record {
            text = text_more before (slot_json slot number) _ _ _ _ were.text were.first
                w.in_ok-put_slot_json.ensures ∙ ap whole (sym shown);
            first = some_more before (slot_json slot number) ∙ ap is_none (sym shown);
          })
      | else-number-ne0 w ↦
          let passed = slot_passed slots slot number below more w.if-number-ne0.false in
          rw (w.text-is, w.is_first-is) (record {
            text = were.text ∙ ap whole (sym passed);
            first = were.first ∙ ap is_none (sym passed);
          })
    ]

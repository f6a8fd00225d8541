use Rattle.std.proofs.Common.{◌≡◌, ◌++◌, take}
use Rattle.std.specs.String.{string_bytes}
use Rattle.file_view.specs.PageText.{slots_json, with_commas}
use Rattle.file_view.proofs.Slots.{is_none}
use Rattle.file_view.proofs.page_row.put_slots_json.Given as goal

abbrev pub invariant-loop-slot : goal.invariant-loop-slot
invariant-loop-slot l = record {
  text : string_bytes l.text ≡ string_bytes l.fn.text ++ with_commas (slots_json 0 (take l.slot l.slots));
  first : l.is_first ≡ is_none (slots_json 0 (take l.slot l.slots));
}

use Rattle.std.proofs.Common.{◌≡◌, ◌++◌, take}
use Rattle.std.specs.String.{string_bytes}
use Rattle.file_view.specs.PageText.{slots_text}
use Rattle.file_view.proofs.page_row.put_slots.Given as goal

abbrev pub invariant-loop-slot : goal.invariant-loop-slot
invariant-loop-slot l = string_bytes l.text ≡ string_bytes l.fn.text ++ slots_text 0 (take l.slot l.slots)

use Rattle.std.proofs.Common.{◌≡◌, ◌≤◌, ◌-◌, ◌++◌, length, None, vec_capacity, vec_len}
use Rattle.std.specs.Prelude.{replicate}
use Rattle.page_store.proofs.faulty_store.add_undamaged.Given as goal

-- there are as many as the counter, which is past the count only where the first was
abbrev pub invariant-loop : goal.invariant-loop
invariant-loop l = record {
  items : l.damaged_from.items
      ≡ l.fn.damaged_from.items ++ replicate (l.counter - length l.fn.damaged_from.items) None;
  len : vec_len l.damaged_from ≡ l.counter;
  room : vec_capacity l.damaged_from ≡ vec_capacity l.fn.damaged_from;
  from : length l.fn.damaged_from.items ≤ l.counter;
  within : l.counter - length l.fn.damaged_from.items ≤ l.count - length l.fn.damaged_from.items;
}

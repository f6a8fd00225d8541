use Rattle.std.proofs.Common.{◌≡◌, ◌≤◌, ◌-◌, ◌++◌, length, replicate, vec_capacity, vec_len}
use Rattle.buffer_pool.proofs.growth.grow_column_with.Given as goal

-- it has as many places as the number of the next one, which is past the count only where the first was
abbrev pub invariant-loop-place : goal.invariant-loop-place
invariant-loop-place g l = record {
  items : l.column.items ≡ l.fn.column.items ++ replicate (l.place - length l.fn.column.items) l.value;
  len : vec_len l.column ≡ l.place;
  room : vec_capacity l.column ≡ vec_capacity l.fn.column;
  from : length l.fn.column.items ≤ l.place;
  within : l.place - length l.fn.column.items ≤ l.count - length l.fn.column.items;
}

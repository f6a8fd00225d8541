-- The numbers that an event may have.
use Rattle.std.specs.Prelude.{◌<◌, ◌^◌}
use Rattle.engine_calls.specs.declared.event.Event.{Event}
use Rattle.engine_calls.specs.declared.event.Event.TheVariants as event

-- a number that the event puts into a slot, or adds to one, is one that a slot may have; that a
-- transaction, a page or a slot has no such number is for a refusal to say
abbrev pub EventFits : Event → Type 0
EventFits (event.Set txn page slot number) = number < 2 ^ 64
EventFits (event.Add txn page slot amount) = amount < 2 ^ 64
EventFits other = Unit {0}

-- The calls of a file of the system, as the model of a disk is read off them.
use Rattle.std.specs.Prelude.{Bool, List, [], ◌∷◌}
use Rattle.sqlite_disk.specs.declared.modelled.Modelled.{Modelled}
use Rattle.sqlite_disk.specs.declared.calls.Calls as calls
use Rattle.sqlite_disk.specs.declared.start.Start.{Ghosts}
use Rattle.sqlite_disk.specs.Events.{replay}
use Rattle.sqlite_disk.specs.Modelled.{start_of}
use Rattle.file_devices.specs.declared.file_disk.FileCalls.{FileCalls}
use Rattle.sqlite_disk.specs.Events.{Event, cut, flushed, measured, read, read_under, settled, written}
use Rattle.file_devices.specs.declared.file_disk.Note.{Note}
use Rattle.file_devices.specs.declared.file_disk.Note.TheVariants.{Cut, Flushed, Measured, Read, ReadUnder, Written}
use Rattle.file_devices.specs.declared.file_disk.Notes.{Notes, None, After'}

-- one call with its answer
abbrev pub event_of : Note → Event
event_of (Measured is_done len) = measured is_done len
event_of (Read at count is_done bytes) = read at count is_done bytes
event_of (ReadUnder key want at count is_done bytes) = read_under key want at count is_done bytes
event_of (Written at bytes is_done count) = written at bytes is_done count
event_of (Cut len is_done why) = cut len is_done why
event_of (Flushed is_done why) = flushed is_done why

-- all of them, the newest first
abbrev pub events_of : Notes → List Event
events_of None = settled 0 ∷ []
events_of (After' marker before last) = event_of last.value ∷ events_of before

module _ {S : Type 0} {g : calls.Ghosts FileCalls} where
  -- no sync of it has failed
  abbrev pub disk_is_usable : (start : Ghosts S) → Modelled FileCalls S g start → Bool
  disk_is_usable start it = (replay (start_of start it) (events_of it.calls.notes)).is_usable

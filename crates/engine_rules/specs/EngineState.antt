-- What an engine is, and what an accepted call makes of it.
use Rattle.std.specs.Prelude.{ℕ, ◌≡◌, ◌+◌, ◌-◌, ◌<◌, ◌≤◌, List, [], ◌∷◌, ◌++◌, length, map, max, nat_lt}
use Rattle.std.specs.Prelude.{replicate, slice_index, slice_index_or, slice_set, Option, Some}
use Rattle.std.specs.Prelude.{IsSome, IsSomeAnd, None, IfSome, false, if◌then◌else◌}
use Rattle.std.specs.List.{All}
use Rattle.std.specs.Option.{option_and_then, option_map, option_map_or}
use Rattle.page_core.specs.declared.change.Change.{Change}
use Rattle.page_core.specs.declared.change.Change.TheVariants.{Set, Add}
use Rattle.page_core.specs.Change.{undo_of}
use Rattle.page_core.specs.Page.{formatted}
use Rattle.page_core.specs.Volume.{formatted_pages, grown_to}
use Rattle.buffer_pool.specs.Frames.{IsResident, fetched, is_resident}
use Rattle.buffer_pool.specs.Pool.{is_clean}
use Rattle.log_records.specs.Coverage.{AreStored, rec_lsn}
use Rattle.log_rules.specs.declared.pending_change.PendingChange.{PendingChange}
use Rattle.log_rules.specs.Checkpoint.{Checkpoint, IsCompleteCheckpoint, open_checkpoint}
use Rattle.log_rules.specs.Checkpoint.{redo_point}
use Rattle.log_records.specs.declared.record.Record.{Record}
use Rattle.log_records.specs.declared.record.Record.TheVariants as log
use Rattle.page_core.specs.declared.page.Page.{Page}
use Rattle.log_records.specs.Image.{image, with_record}
use Rattle.log_rules.specs.Linked.{IsLinked, number_in}
use Rattle.log_records.specs.Log.{IsLog, Log, lsn_of, page_count, page_count_below}
use Rattle.log_rules.specs.Savepoints.{savepoint}
use Rattle.log_rules.specs.Transactions.{begun, last_lsn, last_of, pending}
use Rattle.log_store.specs.declared.master.Master.{Master}
use Rattle.log_store.specs.WrittenLog.{end_up_to}
use Rattle.fuzzy_ckpt.specs.declared.point.Point.{Point}
use Rattle.fuzzy_ckpt.specs.Ckpt.{AllCover, AreCovered, IsCkptOf}
use Rattle.fuzzy_ckpt.specs.Steps.{Gathering, gather_step}
use Rattle.copy_vault.specs.declared.copy_id.CopyKind.{CopyKind}
use Rattle.copy_vault.specs.declared.copy_id.CopyKind.TheVariants.{Full, Inc}
use Rattle.copy_vault.specs.declared.copy_id.Decision.{Decision}
use Rattle.copy_vault.specs.declared.copy_id.Decision.TheVariants.{Taken, Kept}
use Rattle.copy_vault.specs.Copy.{CopyView}
use Rattle.copy_vault.specs.Vault.{CopyState, answer_in, decided, opened, sealed, state_of}
use Rattle.copy_vault.specs.Vault.{taken_in, without}
use Rattle.copy_coverage.specs.Copied.{AreCopied, copy_in}
use Rattle.copy_coverage.specs.Retired.{HasRoomForUndo}
use Rattle.engine_calls.specs.declared.event.Answer.{Answer}
use Rattle.engine_calls.specs.declared.event.Answer.TheVariants as answer
use Rattle.engine_calls.specs.declared.event.Event.{Event}
use Rattle.engine_calls.specs.declared.event.Event.TheVariants as event
use Rattle.engine_rules.specs.Gather.{Left, is_done, left_of, pages_left, session_of}

-- the page count in the log's header, the log's records, the LSN below which each of them is on
-- the device, and the last complete checkpoint below it; how many frames there are; the pages in
-- memory, in the order in which they were fetched; the pages of the volume as they are stored; of
-- each of them the LSN of its last write, and the image that is being written;
-- what is left for the gather of the open checkpoint (all, where none is open); and the image
-- copies in order of their ids
pub record EngineState : Type 0 where
  pub pages : ℕ
  pub log : List Record
  pub forced_end : ℕ
  pub master : Option Point
  pub frames : ℕ
  pub resident : List Page
  pub stored : List Page
  pub written : List ℕ
  pub writing : List (Option Page)
  pub left : Left
  pub copies : List CopyState

-- a new engine with so many pages and frames: its log has a header alone, its pages are formatted,
-- and none is in memory
abbrev pub new_state : ℕ → ℕ → EngineState
new_state pages frames = record {
  pages = pages;
  log = [];
  forced_end = lsn_of 0;
  master = None;
  frames = frames;
  resident = [];
  stored = formatted_pages pages;
  written = replicate pages 0;
  writing = replicate pages None;
  left = pages_left;
  copies = [];
}

-- the LSN that the next record will have
abbrev pub end : EngineState → ℕ
end s = lsn_of (length s.log)

-- ---- what changes

-- a record comes behind the log, and its change is made on the page, where that is in memory
abbrev pub with_appended : EngineState → Record → EngineState
with_appended s r = record s {
  log = s.log ++ r ∷ [];
  resident = map (λ page. with_record page r) s.resident;
}

abbrev pub forced_to : EngineState → ℕ → EngineState
forced_to s lsn = record s { forced_end = lsn }

-- the log of the state
abbrev pub log_of : EngineState → Log
log_of s = record { pages = s.pages; records = s.log }

-- how many pages the volume has
abbrev pub volume_pages : EngineState → ℕ
volume_pages s = page_count (log_of s)

-- forced through the record at an LSN, at least
abbrev pub forced_through : EngineState → ℕ → EngineState
forced_through s lsn = forced_to s (max s.forced_end (end_up_to (log_of s) lsn))

-- an image of a page is being written
abbrev pub begun_write : EngineState → ℕ → Page → EngineState
begun_write s page image = record s { writing = slice_set s.writing page (Some image) }

abbrev pub with_stored : EngineState → ℕ → Page → EngineState
with_stored s page image = record s { stored = slice_set s.stored page image }

-- the image is stored, and its write has ended
abbrev pub ended_write : EngineState → ℕ → Page → EngineState
ended_write s page image = record s {
  stored = slice_set s.stored page image;
  written = slice_set s.written page image.lsn;
  writing = slice_set s.writing page None;
}

-- the page is stored as it is now, and the stored page is that of its last write
abbrev pub repaired : EngineState → ℕ → Page → EngineState
repaired s page image = record s {
  stored = slice_set s.stored page image;
  written = slice_set s.written page image.lsn;
}

-- the volume has grown to so many pages: those that were added are stored as they are formatted, and
-- were never written
abbrev pub grown : EngineState → ℕ → EngineState
grown s count = record s {
  stored = grown_to count s.stored;
  written = s.written ++ replicate (count - length s.written) 0;
  writing = s.writing ++ replicate (count - length s.writing) None;
}

-- the gather of the open checkpoint has this left
abbrev pub gathering : EngineState → Left → EngineState
gathering s left = record s { left = left }

abbrev pub with_master : EngineState → Point → EngineState
with_master s point = record s { master = Some point }

abbrev pub with_copies : EngineState → List CopyState → EngineState
with_copies s copies = record s { copies = copies }

-- ---- a page

-- the page as it is stored
abbrev pub stored_page : EngineState → ℕ → Page
stored_page s page = slice_index_or s.stored page (formatted page)

-- the state with a page in memory: where it is not, it is fetched into a free frame, or into that
-- of the clean page that was fetched earliest
abbrev pub with_page : EngineState → ℕ → EngineState
with_page s page = record s {
  resident =
      if is_resident s.resident page then s.resident
      else fetched s.frames (is_clean s.log s.written) s.resident (stored_page s page);
}

-- the page as it is now
abbrev pub page_now : EngineState → ℕ → Page
page_now s page = image s.log page

-- the image of it that is being written
abbrev pub image_of : EngineState → ℕ → Option Page
image_of s page = slice_index_or s.writing page None

-- its RecLSN, where it is dirty
abbrev pub rec_lsn_of : EngineState → ℕ → Option ℕ
rec_lsn_of s page = rec_lsn s.log page (slice_index s.written page)

-- the change that a step back to a savepoint takes back: the last pending one, where more are
-- pending than were at the savepoint
abbrev pub taken_back : EngineState → ℕ → ℕ → Option PendingChange
taken_back s txn at =
    option_and_then
    (λ left. if nat_lt left (length (pending s.log txn)) then last_of (pending s.log txn) else None)
    (savepoint s.log txn at)

-- the page that a call needs in memory, if it needs one
abbrev pub page_needed : EngineState → Event → Option ℕ
page_needed s (event.Set txn page slot number) = Some page
page_needed s (event.Add txn page slot amount) = Some page
page_needed s (event.Read page slot) = Some page
page_needed s (event.UndoStep txn) = option_map (λ p. p.page) (last_of (pending s.log txn))
page_needed s (event.UndoTo txn at) = option_map (λ p. p.page) (taken_back s txn at)
page_needed s other = None

-- the call has to fetch a page
abbrev pub Fetches : EngineState → Event → Type 0
Fetches s event = IsSomeAnd (page_needed s event) (λ page. is_resident s.resident page ≡ false)

-- ---- the record of a call

abbrev pub next_txn : EngineState → ℕ
next_txn s = length (begun s.log) + 1

abbrev pub update_record : EngineState → ℕ → ℕ → ℕ → Change → Record
update_record s txn page slot change = log.Update (end s) txn (last_lsn s.log txn) page slot change

abbrev pub commit_record : EngineState → ℕ → Record
commit_record s txn = log.Commit (end s) txn (last_lsn s.log txn)

abbrev pub abort_record : EngineState → ℕ → Record
abort_record s txn = log.Abort (end s) txn (last_lsn s.log txn)

abbrev pub end_record : EngineState → ℕ → Record
end_record s txn = log.End (end s) txn (last_lsn s.log txn)

-- the compensation of a pending change
abbrev pub comp_record : EngineState → ℕ → PendingChange → Record
comp_record s txn p = log.Comp (end s) txn (last_lsn s.log txn) p.prev p.page p.slot
    (undo_of p.change)

abbrev pub extend_record : EngineState → ℕ → Record
extend_record s count = log.Extend (end s) count

-- ---- the open checkpoint

abbrev pub begin_ckpt_record : EngineState → Record
begin_ckpt_record s = log.BeginChkpt (end s)

abbrev pub end_ckpt_record : EngineState → Checkpoint → Record
end_ckpt_record s c = log.EndChkpt (end s) c.begin (redo_point c)

-- the next step of its gather
abbrev pub next_step : EngineState → Checkpoint → Gathering
next_step s c = gather_step s.log s.written (session_of (log_of s) s.left c)

-- the record that this step appends, if it appends one
abbrev pub gathered_record : EngineState → Option Record
gathered_record s = option_map_or (λ c. (next_step s c).next) (open_checkpoint s.log) None

-- what the checkpoint is as a Point, once it is complete
abbrev pub point_of : EngineState → Checkpoint → Point
point_of s c = record {
  begin = c.begin;
  end = end s;
  redo = redo_point c;
  pages = page_count_below (log_of s) c.begin;
}

-- it is closed by its EndChkpt, which need not be forced yet
abbrev pub closed : EngineState → Checkpoint → EngineState
closed s c = gathering (with_appended s (end_ckpt_record s c)) pages_left

-- ---- what an accepted call answers, and what stands after it

pub record Outcome : Type 0 where
  pub answer : Answer
  pub state : EngineState

abbrev pub logged : EngineState → Record → Outcome
logged s r = record { answer = answer.Logged (end s); state = with_appended s r }

-- a pending change is taken back, on its page in memory
abbrev pub undid : EngineState → ℕ → PendingChange → Outcome
undid s txn p = record {
  answer = answer.Undid (end s);
  state = with_appended (with_page s p.page) (comp_record s txn p);
}

abbrev pub undo_effect : EngineState → ℕ → Outcome
undo_effect s txn =
    option_map_or (undid s txn) (last_of (pending s.log txn))
    (record { answer = answer.Ended (end s); state = with_appended s (end_record s txn) })

abbrev pub back_effect : EngineState → ℕ → ℕ → Outcome
back_effect s txn at =
    option_map_or (undid s txn) (taken_back s txn at)
    (record { answer = answer.Reached; state = s })

abbrev pub write_end_effect : EngineState → ℕ → Outcome
write_end_effect s page =
    option_map_or (λ image. record {
      answer = answer.Written image.lsn;
      state = ended_write s page image;
    })
    (image_of s page) (record { answer = answer.Written 0; state = s })

abbrev pub gather_effect : EngineState → Gathering → Outcome
gather_effect s step =
    let left = left_of step.ckpt.phase in
    record {
      answer = if is_done left then answer.Done else answer.More;
      state = gathering (option_map_or (with_appended s) step.next s) left;
    }

abbrev pub ckpt_end_effect : EngineState → Checkpoint → Outcome
ckpt_end_effect s c =
    let after = closed s c in
    record {
      answer = answer.Point c.begin (end s) (redo_point c);
      state = with_master (forced_to after (end after)) (point_of s c);
    }

-- of a call that needs an open checkpoint
abbrev pub of_open : EngineState → Answer → (Checkpoint → Outcome) → Outcome
of_open s other outcome =
    option_map_or outcome (open_checkpoint s.log) (record { answer = other; state = s })

-- a copy begins, with the redo point of the master, of the pages that the volume had when the
-- master's checkpoint began
abbrev pub opened_copy : EngineState → CopyKind → Outcome
opened_copy s kind =
    record {
      answer = answer.Copied (length s.copies + 1);
      state = with_copies s (opened s.copies kind (option_map_or (λ p. p.pages) s.master 0)
          (option_map_or (λ p. p.begin) s.master 0) (option_map_or (λ p. p.redo) s.master 0));
    }

-- what is answered of a page that a copy has decided of
abbrev pub take_answer : Decision → Page → Answer
take_answer Taken page = answer.Taken page.lsn
take_answer Kept page = answer.Kept

abbrev pub effect : EngineState → Event → Outcome
effect s event.Begin = record {
  answer = answer.Began (next_txn s) (end s);
  state = with_appended s (log.Begin (end s) (next_txn s));
}
effect s (event.Set txn page slot number) =
    logged (with_page s page)
    (update_record s txn page slot (Set (number_in s.log page slot) number))
effect s (event.Add txn page slot amount) =
    logged (with_page s page) (update_record s txn page slot (Add amount))
effect s (event.Read page slot) = record {
  answer = answer.Number (number_in s.log page slot);
  state = with_page s page;
}
effect s (event.Commit txn) = record {
  answer = answer.Logged (end s);
  state = let after = with_appended s (commit_record s txn) in forced_to after (end after);
}
effect s (event.Abort txn) = logged s (abort_record s txn)
effect s (event.UndoStep txn) = undo_effect s txn
effect s (event.Savepoint txn) = record {
  answer = answer.Saved (last_lsn s.log txn);
  state = s;
}
effect s (event.UndoTo txn at) = back_effect s txn at
effect s event.Force = record { answer = answer.Forced (end s); state = forced_to s (end s) }
effect s (event.WriteBegin page) = record {
  answer = answer.Writing (page_now s page).lsn;
  state = begun_write (forced_through s (page_now s page).lsn) page (page_now s page);
}
effect s (event.WriteEnd page) = write_end_effect s page
effect s event.CkptBegin = record {
  answer = answer.Logged (end s);
  state = gathering (with_appended s (begin_ckpt_record s)) pages_left;
}
effect s event.CkptGather = of_open s answer.Done (λ c. gather_effect s (next_step s c))
effect s event.CkptEnd = of_open s (answer.Point 0 0 0) (ckpt_end_effect s)
effect s event.CopyFull = opened_copy s Full
effect s (event.CopyInc parent) = opened_copy s (Inc parent)
effect s (event.Take copy page) = record {
  answer =
      take_answer (answer_in s.copies (state_of s.copies copy) (stored_page s page))
      (stored_page s page);
  state = with_copies s (decided s.copies copy page (stored_page s page));
}
effect s (event.Seal copy) = record {
  answer = answer.Sealed (taken_in (state_of s.copies copy));
  state = with_copies s (sealed s.copies copy);
}
effect s (event.DropCopy copy) = record {
  answer = answer.Dropped;
  state = with_copies s (without s.copies copy);
}
effect s (event.Repair copy page) = record {
  answer = answer.Repaired (page_now s page).lsn;
  state = repaired (forced_through s (page_now s page).lsn) page (page_now s page);
}
effect s (event.Extend count) = record {
  answer = answer.Logged (end s);
  state = with_appended (grown s count) (extend_record s count);
}

-- the master record of a complete checkpoint
abbrev pub master_record : Point → Master
master_record point = record { begin = point.begin; end = point.end }

-- ---- the invariant

-- each page of the volume has its place in each list
pub record AreCounted (s : EngineState) : Type 0 where
  pub stored : length s.stored ≡ volume_pages s
  pub written : length s.written ≡ volume_pages s
  pub writing : length s.writing ≡ volume_pages s

-- each page in memory is as the log makes it
abbrev pub AreImages : List Record → List Page → Type 0
AreImages rs resident = All (λ page. page ≡ image rs page.number) resident

-- each dirty page is in memory
abbrev pub AreHeld : EngineState → Type 0
AreHeld s =
    (p : ℕ) → p < volume_pages s → is_clean s.log s.written p ≡ false → IsResident s.resident p

-- no stored page, and no image that is being written, shows a change whose record is not forced
pub record AreStable (s : EngineState) : Type 0 where
  pub pages : All (λ page. page.lsn < s.forced_end) s.stored
  pub images : (p : ℕ) → IfSome (image_of s p) (λ image. image.lsn < s.forced_end)

-- what lies behind the cursor of the open checkpoint: the log has it, and no stored page there
-- lacks a change below the redo point so far
pub record IsGathering (log : Log) (stored : List Page) (left : Left)
    (c : Checkpoint) : Type 0 where
  pub ckpt : IsCkptOf log (session_of log left c)
  pub covered : AreCovered log.records stored (session_of log left c)

-- the master names a complete checkpoint of the log whose end is forced, with the page count of the
-- volume at its begin, and no stored page lacks a change below its redo point
pub record IsMasterOf (log : Log) (stored : List Page) (forced_end : ℕ)
    (point : Point) : Type 0 where
  pub complete : IsCompleteCheckpoint log.records point.begin point.end
  pub same_redo : point.redo ≡ complete.redo
  pub same_pages : point.pages ≡ page_count_below log point.begin
  pub forced : point.end < forced_end
  pub covered : AllCover log.records stored point.redo

-- a copy begins only where a checkpoint is complete
abbrev pub HaveMaster : Option Point → List CopyState → Type 0
HaveMaster master copies = (id : ℕ) (copy : CopyView) → copy_in (state_of copies id) ≡ Some copy
    → IsSome master

-- what holds of every engine, whatever calls came and whatever its devices did
pub record IsFit (s : EngineState) : Type 0 where
  pub valid : IsLog (log_of s)
  pub linked : IsLinked s.log
  pub room : HasRoomForUndo s.log s.forced_end
  pub forced : (k : ℕ) × (k ≤ length s.log) × (s.forced_end ≡ lsn_of k)
  pub counted : AreCounted s
  pub resident : AreImages s.log s.resident
  pub held : AreHeld s
  pub stored : AreStored s.log s.stored s.written s.writing
  pub stable : AreStable s
  pub gathered : IfSome (open_checkpoint s.log) (IsGathering (log_of s) s.stored s.left)
  pub master : IfSome s.master (IsMasterOf (log_of s) s.stored s.forced_end)
  pub copied : AreCopied (log_of s) s.forced_end s.stored s.copies
  pub noted : HaveMaster s.master s.copies

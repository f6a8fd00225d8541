-- A pool of pages that are changed as their log grows, and written to a store meanwhile.
use Rattle.std.specs.Prelude.{ℕ, ◌≡◌, ◌-◌, ◌++◌, ◌<◌, ◌≤◌, Bool, false, List, [], length, map}
use Rattle.std.specs.Prelude.{replicate}
use Rattle.std.specs.Prelude.{slice_index, slice_index_or, slice_set, Option, None, Some, IfSome}
use Rattle.std.specs.Prelude.{is_none, is_some, if◌then◌else◌}
use Rattle.std.specs.List.{All}
use Rattle.std.specs.Option.{option_and_then, unwrap_or}
use Rattle.page_core.specs.declared.page.Page.{Page}
use Rattle.page_core.specs.declared.page.TheConstants.{MAX_PAGES}
use Rattle.page_core.specs.Volume.{AreNumbered, formatted_pages}
use Rattle.log_records.specs.Image.{image}
use Rattle.log_records.specs.Log.{IsLog, Log, lsn_of, page_count}
use Rattle.log_records.specs.Coverage.{AreStored, dirty, next_dirty, rec_lsn}
use Rattle.log_records.specs.declared.dirty_page.DirtyPage.{DirtyPage}
use Rattle.log_records.specs.declared.record.Record.{Record}
use Rattle.buffer_pool.specs.declared.frame.TheConstants.{MAX_FRAMES}
use Rattle.buffer_pool.specs.Frames.{FramesView, IsResident, IsSought}

-- what a pool knows of a page beside its content: the LSN of its last write, its RecLSN where it is
-- dirty, and, while it is being written, the image and the LSN of the first change since
pub record PageState : Type 0 where
  pub written : ℕ
  pub rec_lsn : Option ℕ
  pub writing : Option Page
  pub since : Option ℕ

-- the store, how many frames there are, for how many more pages memory is at hand, the resident
-- pages in the order in which they were fetched, and the state of each page of the volume
pub record PoolView (S : Type 0) : Type 0 where
  pub store : S
  pub frames : ℕ
  pub room : ℕ
  pub resident : List Page
  pub states : List PageState

-- ---- the parts of a pool

-- the state of a page that was neither changed nor written
abbrev pub unwritten : PageState
unwritten = record { written = 0; rec_lsn = None; writing = None; since = None }

-- the state of the page of this number
abbrev pub state_in : List PageState → ℕ → PageState
state_in states number = slice_index_or states number unwritten

abbrev pub state_at : {S : Type 0} → PoolView S → ℕ → PageState
state_at pool number = state_in pool.states number

-- the LSN of each page's last write
abbrev pub written_of : List PageState → List ℕ
written_of states = map (λ (s : PageState). s.written) states

-- of each page the image of a write in progress
abbrev pub writing_of : List PageState → List (Option Page)
writing_of states = map (λ (s : PageState). s.writing) states

-- the page is not in the dirty page table of the log and these last writes
abbrev pub is_clean : List Record → List ℕ → ℕ → Bool
is_clean rs written number = is_none (rec_lsn rs number (slice_index written number))

-- by its state the page is not dirty
abbrev pub is_clean_in : List PageState → ℕ → Bool
is_clean_in states number = is_none (state_in states number).rec_lsn

-- ---- a pool and its log

-- the state of a page is what the log and its last write make it, and a page that is being written
-- is dirty
pub record IsStateOf (log : Log) (number : ℕ) (state : PageState) : Type 0 where
  pub written : state.written < lsn_of (length log.records)
  pub image : IfSome state.writing (λ q. q.lsn < lsn_of (length log.records))
  pub since : state.since ≡ option_and_then (λ q. rec_lsn log.records number q.lsn) state.writing
  pub dirty : state.rec_lsn ≡ rec_lsn log.records number state.written
  pub idle : state.rec_lsn ≡ None → state.writing ≡ None

-- each dirty page is resident
abbrev pub AreHeld : List Page → List PageState → Type 0
AreHeld resident states = (p : ℕ) → p < length states → is_clean_in states p ≡ false
    → IsResident resident p

-- the pool is that of this log
pub record IsPoolOf {S : Type 0} (stored_in : S → List Page) (log : Log)
    (pool : PoolView S) : Type 0 where
  pub valid : IsLog log
  pub pages : page_count log ≡ length pool.states
  pub few : length pool.resident ≤ pool.frames
  pub within : All (λ page. page.number < length pool.states) pool.resident
  pub resident : All (λ page. page ≡ image log.records page.number) pool.resident
  pub held : AreHeld pool.resident pool.states
  pub states : (p : ℕ) (d : PageState) → p < length pool.states
      → IsStateOf log p (slice_index_or pool.states p d)
  pub stored : AreStored log.records (stored_in pool.store) (written_of pool.states)
      (writing_of pool.states)

-- the next dirty pages from a number on: at most three
abbrev pub next_in : {S : Type 0} → Log → PoolView S → ℕ → List DirtyPage
next_in log pool cursor = next_dirty (dirty log.records (written_of pool.states)) cursor

-- the entry is that of a dirty page from a number on
pub record IsEntryOf (states : List PageState) (cursor : ℕ) (e : DirtyPage) : Type 0 where
  pub later : cursor ≤ e.page
  pub within : e.page < length states
  pub is_dirty : (state_in states e.page).rec_lsn ≡ Some e.rec_lsn

-- ---- what changes

-- the page has changed by the record at this LSN: it is dirty, and a write in progress lacks it
abbrev pub changed : PageState → ℕ → PageState
changed state lsn = record state {
  rec_lsn = Some (unwrap_or state.rec_lsn lsn);
  since = if is_some state.writing then Some (unwrap_or state.since lsn) else state.since;
}

-- a write of the page has begun: this is its image, and no change came since
abbrev pub write_begun : PageState → Page → PageState
write_begun state q = record state { writing = Some q; since = None }

-- a write of the page has ended, whose image has this LSN: the page is as dirty as the changes
-- since the image make it
abbrev pub write_ended : PageState → ℕ → PageState
write_ended state lsn = record {
  written = lsn;
  rec_lsn = state.since;
  writing = None;
  since = None;
}

-- the page is stored as it is now, with this LSN: it is not dirty, and not being written
abbrev pub stored_as_now : ℕ → PageState
stored_as_now lsn = record unwritten { written = lsn }

-- the states of pages that are stored as they are now
abbrev pub stored_states : List Page → List PageState
stored_states pages = map (λ (page : Page). stored_as_now page.lsn) pages

-- ---- calls of a pool

-- a new pool of so many pages and frames: no page is resident
abbrev pub new_pool : {S : Type 0} → S → ℕ → ℕ → PoolView S
new_pool store pages frames = record {
  store = store;
  frames = frames;
  room = 0;
  resident = [];
  states = replicate pages unwritten;
}

-- and one with a frame for each page: all are resident, as they are formatted
abbrev pub whole_pool : {S : Type 0} → S → ℕ → PoolView S
whole_pool store pages = record (new_pool store pages pages) { resident = formatted_pages pages }

-- a pool of so many frames over a store of pages that are as their log makes them: none is
-- resident, and none is dirty
abbrev pub clean_pool : {S : Type 0} → S → List Page → ℕ → PoolView S
clean_pool store pages frames = record {
  store = store;
  frames = frames;
  room = 0;
  resident = [];
  states = stored_states pages;
}

-- the states of the pages of a volume that has grown to so many: those that were added are unwritten
abbrev pub grown_states : ℕ → List PageState → List PageState
grown_states count states = states ++ replicate (count - length states) unwritten

-- and its pool: no page that was added is resident
abbrev pub grown_pool : {S : Type 0} → ℕ → PoolView S → PoolView S
grown_pool count pool = record pool { states = grown_states count pool.states }

-- the state of one page is another
abbrev pub with_state : {S : Type 0} → PoolView S → ℕ → PageState → PoolView S
with_state pool number state = record pool { states = slice_set pool.states number state }

-- ---- the invariant

-- each page of the volume is stored and has a state, and they stand in order of their numbers; more
-- pages may be stored
pub record IsWhole (stored : List Page) (states : List PageState) : Type 0 where
  pub few : length states ≤ MAX_PAGES
  pub enough : length states ≤ length stored
  pub stored_numbers : AreNumbered stored

-- and the search for a clean page among the frames passes over none
pub record IsPool (stored : List Page) (states : List PageState) (frames : FramesView)
    : Type 0 where
  pub whole : IsWhole stored states
  pub sought : IsSought (is_clean_in states) frames

-- so many frames are few enough
pub record IsFrameCount (frames : ℕ) : Type 0 where
  pub least : 1 ≤ frames
  pub most : frames ≤ MAX_FRAMES

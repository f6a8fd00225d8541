-- The calls of the engine by which one command makes a whole image copy.
use Rattle.std.specs.Prelude.{ℕ, ◌≡◌, ◌≢◌, ◌+◌, List, [], ◌∷◌, ◌++◌, Option, Some, Result, Ok, Err}
use Rattle.engine_calls.specs.declared.event.Answer.{Answer}
use Rattle.engine_calls.specs.declared.event.Answer.TheVariants as answer
use Rattle.engine_calls.specs.declared.event.Event.{Event}
use Rattle.engine_calls.specs.declared.event.Event.TheVariants.{DropCopy, Repair, Seal, Take}
use Rattle.engine_calls.specs.declared.refusal.Refusal.{Refusal}
use Rattle.engine_calls.specs.declared.refusal.Refusal.TheVariants.{StoreFault}
use Rattle.engine_rules.specs.EngineState.{EngineState, end}
use Rattle.fuzzy_ckpt.specs.declared.point.Point.{Point}
use Rattle.log_records.specs.Coverage.{dirty, next_dirty}
use Rattle.log_records.specs.declared.limits.TheConstants.{RECORD_BYTES}
use Rattle.saved_files.specs.declared.file_fault.FileFault.{FileFault}
use Rattle.database_session.specs.Calls.{SaysOf, copy_call}
use Rattle.session_lines.specs.declared.said.Said.{Said}
use Rattle.session_lines.specs.declared.said.Said.TheVariants.{Reply, Unplaced}
use Rattle.session_lines.specs.declared.command_said.CommandSaid.{CommandSaid}
use Rattle.session_lines.specs.declared.command_said.CommandSaid.TheVariants.{Call, Copied}

-- a copy took a page: at once, or once that page, which could not be read, was repaired from a copy
pub data TakesPage (id page : ℕ) : List Event → List (Result Answer Refusal) → Type 0 where
  at_once : (answer : Answer) → TakesPage id page (Take id page ∷ []) (Ok answer ∷ [])
  once_repaired : (from : ℕ) (repair answer : Answer)
      → TakesPage id page (Take id page ∷ Repair from page ∷ Take id page ∷ [])
      (Err StoreFault ∷ Ok repair ∷ Ok answer ∷ [])

-- it did not, since the last of these calls was refused so
pub data RefusesPage (id page : ℕ) (why : Refusal)
    : List Event → List (Result Answer Refusal) → Type 0 where
  not_taken : RefusesPage id page why (Take id page ∷ []) (Err why ∷ [])
  not_repaired : (from : ℕ) → RefusesPage id page why (Take id page ∷ Repair from page ∷ [])
      (Err StoreFault ∷ Err why ∷ [])
  not_taken_then : (from : ℕ) (repair : Answer)
      → RefusesPage id page why (Take id page ∷ Repair from page ∷ Take id page ∷ [])
      (Err StoreFault ∷ Ok repair ∷ Err why ∷ [])

-- a copy took so many pages, each of them, in order of their numbers
pub data TakesPages (id : ℕ) : ℕ → List Event → List (Result Answer Refusal) → Type 0 where
  no_page : TakesPages id 0 [] []
  one_page : (page : ℕ) (events more : List Event) (replies given : List (Result Answer Refusal))
      → TakesPages id page events replies → TakesPage id page more given
      → TakesPages id (page + 1) (events ++ more) (replies ++ given)

-- it took those before some page, and not that one
pub data RefusesPages (id : ℕ) (why : Refusal)
    : List Event → List (Result Answer Refusal) → Type 0 where
  at_page : (page : ℕ) (events more : List Event) (replies given : List (Result Answer Refusal))
      → TakesPages id page events replies → RefusesPage id page why more given
      → RefusesPages id why (events ++ more) (replies ++ given)

-- and then it was dropped
pub data DropsCopy (id : ℕ) (why : Refusal)
    : List Event → List (Result Answer Refusal) → Type 0 where
  refused_first : (events : List Event) (replies : List (Result Answer Refusal))
      (reply : Result Answer Refusal) → RefusesPages id why events replies
      → DropsCopy id why (events ++ DropCopy id ∷ []) (replies ++ reply ∷ [])

-- a copy that took so many pages was made complete, and it is told what the engine answered, or
-- that its file is not in place; or that was refused, and it was dropped
pub data SealsCopy (id pages : ℕ)
    : List Event → List (Result Answer Refusal) → CommandSaid → Type 0 where
  sealed_well : (taken : ℕ) → SealsCopy id pages (Seal id ∷ []) (Ok (answer.Sealed taken) ∷ [])
      (Copied id pages taken)
  not_in_place : (answer : Answer) (fault : FileFault)
      → SealsCopy id pages (Seal id ∷ []) (Ok answer ∷ []) (Call (Unplaced fault))
  not_sealed : (why : Refusal) (reply : Result Answer Refusal)
      → SealsCopy id pages (Seal id ∷ DropCopy id ∷ []) (Err why ∷ reply ∷ [])
      (Call (Reply (Err why)))

-- the log ends with the record of the last complete checkpoint, from whose begin redo goes, and no
-- page is dirty
pub record IsPointNew (s : EngineState) : Type 0 where
  pub point : Point
  pub is_master : s.master ≡ Some point
  pub last : end s ≡ point.end + RECORD_BYTES
  pub from_begin : point.redo ≡ point.begin
  pub clean : next_dirty (dirty s.log s.written) 0 ≡ []

-- the last of these calls made the copy of this id complete
pub record EndsBySeal (id : ℕ) (events : List Event) (replies : List (Result Answer Refusal))
    : Type 0 where
  pub before : List Event
  pub calls : events ≡ before ++ Seal id ∷ []
  pub given : List (Result Answer Refusal)
  pub answer : Answer
  pub told : replies ≡ given ++ Ok answer ∷ []

-- a copy took its pages, and was made complete then; or it did not, and was dropped
pub data FillsCopy (id : ℕ)
    : List Event → List (Result Answer Refusal) → CommandSaid → Type 0 where
  filled : (pages : ℕ) (events more : List Event) (replies given : List (Result Answer Refusal))
      (said : CommandSaid) → TakesPages id pages events replies → SealsCopy id pages more given said
      → FillsCopy id (events ++ more) (replies ++ given) said
  not_filled : (why : Refusal) (events : List Event) (replies : List (Result Answer Refusal))
      → DropsCopy id why events replies → FillsCopy id events replies (Call (Reply (Err why)))

-- a full copy, or one on this parent, was begun and filled; or none was begun, and that is told
pub data BeginsAndFills (parent : Option ℕ)
    : List Event → List (Result Answer Refusal) → CommandSaid → Type 0 where
  begun_and_filled : (id : ℕ) (events more : List Event)
      (replies given : List (Result Answer Refusal)) (said : CommandSaid)
      → SaysOf (copy_call parent) events replies (Reply (Ok (answer.Copied id)))
      → FillsCopy id more given said
      → BeginsAndFills parent (events ++ more) (replies ++ given) said
  not_begun : (call : Said) (events : List Event) (replies : List (Result Answer Refusal))
      → SaysOf (copy_call parent) events replies call
      → ((id : ℕ) → call ≢ Reply (Ok (answer.Copied id)))
      → BeginsAndFills parent events replies (Call call)

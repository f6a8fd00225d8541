-- What each call says of the bytes that it was given.
use Rattle.std.specs.Prelude.{ℕ, ◌≡◌, ◌≢◌, ◌*◌, ◌<◌, ◌≤◌, List, drop, length, sum, take}
use Rattle.std.specs.Prelude.{Some}
use Rattle.page_core.specs.declared.page.TheConstants.{PAGE_BYTES}
use Rattle.log_records.specs.Log.{Log, SpellsLog, page_count}
use Rattle.log_rules.specs.Linked.{IsLinked}
use Rattle.log_store.specs.declared.fault.LogReadFault.{LogReadFault}
use Rattle.log_store.specs.Fault.{Refuses}
use Rattle.log_prefix.specs.declared.fault.FrontFault.{FrontFault}
use Rattle.log_prefix.specs.declared.fault.FrontFault.TheVariants.{BadHeader}
use Rattle.log_prefix.specs.Front.{FoundFront, HasNoFront, IsFrontOf, end_of}
use Rattle.log_prefix.specs.Remains.{WasForced}
use Rattle.page_redo.specs.Stream.{SpellsVolumeOf}
use Rattle.copy_audit.specs.declared.unsound.Unsound as fault
use Rattle.copy_audit.specs.Audited.{AreRefused}
use Rattle.embed_calls.specs.declared.outcome.Outcome.{Outcome}
use Rattle.embed_calls.specs.Archives.{inputs_of}
use Rattle.embed_calls.specs.Outcome.{answers, of_audit, of_cut, of_front, of_log}

-- ---- a whole log

-- the bytes spell this linked log
pub record IsLogOf (bytes : List ℕ) (log : Log) : Type 0 where
  pub spells : SpellsLog log bytes
  pub linked : IsLinked log.records

-- they spell a linked log: it has so many pages and records, and ends there
pub record IsChecked (bytes : List ℕ) (it : Outcome) : Type 0 where
  pub log : Log
  pub of_log : IsLogOf bytes log
  pub counts : it ≡ answers (page_count log) (length log.records) (end_of log)

-- they are refused, for their first fault, or because memory or the reading failed
pub record IsNoLog (bytes : List ℕ) (it : Outcome) : Type 0 where
  pub why : LogReadFault
  pub told : it ≡ of_log why
  pub refused : Refuses bytes why

-- ---- its volume

-- the bytes spell a linked log, and so many bytes are the spelling of its volume; what lay behind
-- them still does
pub record IsRedone (bytes old new : List ℕ) (it : Outcome) : Type 0 where
  pub log : Log
  pub of_log : IsLogOf bytes log
  pub count : it ≡ answers (PAGE_BYTES * page_count log) 0 0
  pub fits : PAGE_BYTES * page_count log ≤ length old
  pub volume : SpellsVolumeOf log (take (PAGE_BYTES * page_count log) new)
  pub behind : drop (PAGE_BYTES * page_count log) new ≡ drop (PAGE_BYTES * page_count log) old

-- the bytes spell a linked log, whose volume needs so many bytes, more than there is room for
pub record IsTooShort (bytes : List ℕ) (room needed : ℕ) : Type 0 where
  pub log : Log
  pub of_log : IsLogOf bytes log
  pub needs : needed ≡ PAGE_BYTES * page_count log
  pub short : room < needed

-- ---- what a crash has left of a log

-- this is the first place from the end on where a record stands that was forced; 0 means that there
-- is none
pub record IsForcedBehind (bytes : List ℕ) (end forced : ℕ) : Type 0 where
  pub there : forced ≢ 0 → (end ≤ forced) × WasForced bytes forced
  pub first : (at : ℕ) → forced ≢ 0 → end ≤ at → at < forced → ¬ WasForced bytes at
  pub none : (at : ℕ) → forced ≡ 0 → end ≤ at → ¬ WasForced bytes at

-- the longest front of the bytes ends there, is left there for this reason, and this was forced
-- behind it
pub record IsPrefix (bytes : List ℕ) (it : Outcome) : Type 0 where
  pub found : FoundFront
  pub front : IsFrontOf bytes found
  pub code : it.code ≡ 0
  pub at : it.first ≡ end_of found.log
  pub why : it.second ≡ of_cut found.cut
  pub forced : IsForcedBehind bytes it.first it.third

-- no log begins so, or memory or the reading failed
pub record HasNoPrefix (bytes : List ℕ) (it : Outcome) : Type 0 where
  pub why : FrontFault
  pub told : it ≡ of_front why
  pub none : why ≡ BadHeader → HasNoFront bytes

-- ---- archives

-- the log and the archives are refused: each fault comes only where all that is before it is right
pub record AreNotSound (log archives lengths : List ℕ) (it : Outcome) : Type 0 where
  pub why : fault.Unsound
  pub told : it ≡ of_audit why
  pub add_up : sum lengths ≡ length archives
  pub refused : AreRefused (Some log) (inputs_of archives lengths) why

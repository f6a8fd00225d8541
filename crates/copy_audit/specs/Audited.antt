-- What an audit answers of the bytes of a log and of archives.
use Rattle.std.specs.Prelude.{ℕ, ◌≡◌, List, [], Option, None, Some, IfSome, slice_index}
use Rattle.copy_audit.specs.declared.found.Found.{Found}
use Rattle.page_core.specs.Input.{HasGivenAll}
use Rattle.log_records.specs.Log.{Log, counts_of}
use Rattle.log_store.specs.declared.fault.LogReadFault.{LogReadFault}
use Rattle.log_store.specs.Fault.{GaveNoFault, Refuses}
use Rattle.copy_vault.specs.declared.chain_read_fault.ChainReadFault.{ChainReadFault}
use Rattle.copy_vault.specs.Chain.{IsChain}
use Rattle.copy_vault.specs.ChainReading.{AreNoChain, HaveGivenAll}
use Rattle.copy_vault.specs.Copy.{CopyView}
use Rattle.copy_audit.specs.declared.unsound.Unsound as fault
use Rattle.copy_audit.specs.declared.unsound.Unsound.TheVariants.{OutOfMemory, Unsound}
use Rattle.copy_audit.specs.Audit.{AreOfArchives, IsAudited, IsFirstUnsound, IsOfLog, end_of}
use Rattle.copy_audit.specs.AuditFault.{of_chain, of_log}

-- the bytes spell a log and a chain of copies for it, which is audited
pub record AreAudited (input : Option (List ℕ)) (archives : List (Option (List ℕ))) : Type 0 where
  pub log : Log
  pub copies : List CopyView
  pub of_log : IsOfLog input log
  pub of_archives : AreOfArchives archives log copies
  pub chain : IsChain copies
  pub audited : IsAudited log copies

-- the refusal names the first member that has an unsound page, and the least one of it
pub record IsUnsoundFor (log : Log) (copies : List CopyView) (why : fault.Unsound) : Type 0 where
  pub id : ℕ
  pub page : ℕ
  pub named : why ≡ Unsound id page
  pub first : IsFirstUnsound log copies id page

-- they are refused: each fault only where all that comes before it is right
pub data AreRefused (input : Option (List ℕ)) (archives : List (Option (List ℕ)))
    (why : fault.Unsound) : Type 0 where
  of_the_log : (first : LogReadFault) → why ≡ of_log first
      → IfSome input (λ bytes. Refuses bytes first) → AreRefused input archives why
  of_the_archives : (log : Log) → IsOfLog input log → (first : ChainReadFault)
      → why ≡ of_chain first → (lefts : List (Option (List ℕ)))
      → AreNoChain (counts_of log) (end_of log) archives lefts first → AreRefused input archives why
  of_a_page : (log : Log) (copies : List CopyView) → IsOfLog input log
      → AreOfArchives archives log copies → IsChain copies → IsUnsoundFor log copies why
      → AreRefused input archives why
  of_memory : why ≡ OutOfMemory → AreRefused input archives why

-- where an audit stopped: in the log, of which it may not have read an archive then; in an archive,
-- behind a log that it read to its end; or behind all of them. What a reader gave before it failed
-- holds no fault
pub data StopsIn (input left : Option (List ℕ)) (archives lefts : List (Option (List ℕ)))
    (none_read : Type 0) (why : fault.Unsound) : Type 0 where
  the_log : (first : LogReadFault) → why ≡ of_log first → GaveNoFault [] input left first
      → none_read → StopsIn input left archives lefts none_read why
  the_archives : (log : Log) → IsOfLog input log → HasGivenAll input left
      → (first : ChainReadFault) → why ≡ of_chain first
      → AreNoChain (counts_of log) (end_of log) archives lefts first
      → StopsIn input left archives lefts none_read why
  a_page : (id page : ℕ) → why ≡ Unsound id page → HasGivenAll input left
      → HaveGivenAll archives lefts → StopsIn input left archives lefts none_read why

-- the archives spell a chain of copies for the log, which is audited, or has a page for which it is
-- refused
abbrev pub IsLookedAt : Log → List CopyView → Option fault.Unsound → Type 0
IsLookedAt log copies None = IsAudited log copies
IsLookedAt log copies (Some why) = IsUnsoundFor log copies why

pub record IsLooked (log : Log) (archives : List (Option (List ℕ))) (found : Option fault.Unsound)
    : Type 0 where
  pub copies : List CopyView
  pub of_archives : AreOfArchives archives log copies
  pub chain : IsChain copies
  pub looked : IsLookedAt log copies found

-- the id of the member that was found, and the page
abbrev pub IsNamed : List ℕ → Option Found → Option fault.Unsound → Type 0
IsNamed ids None named = named ≡ None
IsNamed ids (Some found) named = named ≡ Some (Unsound (slice_index ids found.member) found.page)

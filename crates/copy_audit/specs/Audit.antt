-- An audit of a chain of copies: what an audited chain is, and where another one fails first.
use Rattle.std.specs.Prelude.{ℕ, ◌≡◌, ◌+◌, ◌<◌, List, length, take, Option, IfSome}
use Rattle.std.specs.Prelude.{slice_index_or}
use Rattle.log_records.specs.Coverage.{Covers}
use Rattle.log_records.specs.Log.{IsLog, Log, SpellsLog, counts_of, lsn_of, page_count}
use Rattle.log_rules.specs.Linked.{IsLinked}
use Rattle.copy_vault.specs.declared.copy_id.CopyKind.TheVariants.{Full}
use Rattle.copy_vault.specs.Chain.{FitFrom, content, last_redo}
use Rattle.copy_vault.specs.ChainReading.{AreWithinLog, SpellCopies}
use Rattle.copy_vault.specs.Copy.{CopyView}

-- ---- a log and the archives of its copies

-- the LSN behind the log's last record
abbrev pub end_of : Log → ℕ
end_of log = lsn_of (length log.records)

-- the log's bytes spell this linked log
pub record IsOfLog (input : Option (List ℕ)) (log : Log) : Type 0 where
  pub valid : IsLog log
  pub linked : IsLinked log.records
  pub spelled : IfSome input (SpellsLog log)

-- the archives' bytes spell these copies, one each, which are a chain for the log's volume as far
-- as they go, and reach no further than the log
pub record AreOfArchives (inputs : List (Option (List ℕ))) (log : Log) (copies : List CopyView)
    : Type 0 where
  pub spelled : SpellCopies inputs copies
  pub fit : FitFrom (counts_of log) Full copies
  pub within : AreWithinLog (end_of log) copies

-- ---- audited chains

-- each page of the chain is of the log's past, and lacks no change below the redo point of its last
-- copy
abbrev pub AreCovering : Log → List CopyView → Type 0
AreCovering log copies =
    (p : ℕ) → p < page_count log → Covers log.records p (content copies p) (last_redo copies)

-- the chain that ends with the member at an index
abbrev pub chain_to : List CopyView → ℕ → List CopyView
chain_to copies at = take (at + 1) copies

-- no copy reaches past the log's end, and the chain up to each member lacks nothing below the redo
-- point of that member
pub record IsAudited (log : Log) (copies : List CopyView) : Type 0 where
  pub within : AreWithinLog (end_of log) copies
  pub covering : (k : ℕ) → k < length copies → AreCovering log (chain_to copies k)

-- a page of the chain up to a member is of the log's past, and lacks nothing below its redo point
abbrev pub IsSoundAt : Log → List CopyView → ℕ → ℕ → Type 0
IsSoundAt log copies at page =
    Covers log.records page (content (chain_to copies at) page) (last_redo (chain_to copies at))

-- this does not hold of a page of the copy of this id. It holds of all pages up to each member
-- before that one, and of the pages before that one up to this member
pub record IsFirstUnsound (log : Log) (copies : List CopyView) (id page : ℕ) : Type 0 where
  pub at : ℕ
  pub there : at < length copies
  pub named : (d : CopyView) → id ≡ (slice_index_or copies at d).id
  pub within : page < page_count log
  pub members : (k : ℕ) (p : ℕ) → k < at → p < page_count log → IsSoundAt log copies k p
  pub pages : (p : ℕ) → p < page → IsSoundAt log copies at p
  pub unsound : ¬ IsSoundAt log copies at page

-- How far the gather of a checkpoint has come.
use Rattle.std.specs.Prelude.{◌+◌, ℕ, Bool, true, false}
use Rattle.std.specs.Option.{option_map_or}
use Rattle.log_records.specs.Log.{Log, page_count_below}
use Rattle.log_rules.specs.Checkpoint.{Checkpoint, redo_point}
use Rattle.log_rules.specs.Transactions.{last_of}
use Rattle.fuzzy_ckpt.specs.Ckpt.{CkptView, Phase, gathered, in_pages, in_txns}

-- what is left for a gather: dirty pages and then open transactions, these alone, or nothing
pub data Left : Type 0 where
  pages_left : Left
  txns_left : Left
  none_left : Left

abbrev pub is_done : Left → Bool
is_done none_left = true
is_done other = false

-- the first page number, and the first transaction, behind those that a checkpoint has
abbrev pub behind_pages : Checkpoint → ℕ
behind_pages c = option_map_or (λ e. e.page + 1) (last_of c.pages) 0

abbrev pub behind_txns : Checkpoint → ℕ
behind_txns c = option_map_or (λ t. t + 1) (last_of c.txns) 0

-- the gather goes on from there
abbrev pub phase_of : Left → Checkpoint → Phase
phase_of pages_left c = in_pages (behind_pages c)
phase_of txns_left c = in_txns (behind_txns c)
phase_of none_left c = gathered

abbrev pub left_of : Phase → Left
left_of (in_pages from) = pages_left
left_of (in_txns from) = txns_left
left_of gathered = none_left

-- a checkpoint of a log as its session has it
abbrev pub session_of : Log → Left → Checkpoint → CkptView Phase
session_of log left c = record {
  begin = c.begin;
  pages = page_count_below log c.begin;
  redo = redo_point c;
  phase = phase_of left c;
}

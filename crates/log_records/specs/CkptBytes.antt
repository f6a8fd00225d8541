-- The bytes of a checkpoint's records. Their fields overlap those of other records.
use Rattle.std.specs.Prelude.{ℕ, List, ◌++◌, replicate}
use Rattle.std.specs.Int.{w32, w64, to_le_bytes}
use Rattle.log_records.specs.declared.dirty_page.DirtyPage.{DirtyPage}
use Rattle.log_records.specs.declared.dirty_page.DirtyPages.{DirtyPages}
use Rattle.log_records.specs.declared.dirty_page.DirtyPages.TheVariants.{One, Two, Three}
use Rattle.log_records.specs.declared.ckpt_codec.TheConstants.{ACTIVE, ROLLING}
use Rattle.log_records.specs.declared.txn_phase.TxnPhase.{TxnPhase}
use Rattle.log_records.specs.declared.txn_phase.TxnPhase.TheVariants.{Active, Rolling}

-- 64 bytes: the kind, the LSN of the checkpoint's BeginChkpt, the 40 bytes of a body, the own LSN
unfoldable pub ckpt_bytes : ℕ → ℕ → List ℕ → ℕ → List ℕ
ckpt_bytes kind begin body lsn =
    to_le_bytes w32 kind ++ to_le_bytes w32 0 ++ to_le_bytes w64 begin ++ body
    ++ to_le_bytes w64 lsn

-- the body of a record that has none
unfoldable pub no_body : List ℕ
no_body = replicate 40 0

-- a dirty page, in 12 bytes
unfoldable pub entry_bytes : DirtyPage → List ℕ
entry_bytes e = to_le_bytes w32 e.page ++ to_le_bytes w64 e.rec_lsn

-- how many dirty pages, and each of them
unfoldable pub pages_body : DirtyPages → List ℕ
pages_body (One a) = to_le_bytes w32 1 ++ entry_bytes a ++ replicate 24 0
pages_body (Two a b) =
    to_le_bytes w32 2 ++ entry_bytes a ++ entry_bytes b ++ replicate 12 0
pages_body (Three a b c) =
    to_le_bytes w32 3 ++ entry_bytes a ++ entry_bytes b ++ entry_bytes c

-- the number of a state
abbrev pub code_of : TxnPhase → ℕ
code_of Active = ACTIVE
code_of Rolling = ROLLING

-- a transaction, the number of its state, the LSN of its last record, and its UndoNxt
unfoldable pub txn_body : ℕ → ℕ → ℕ → ℕ → List ℕ
txn_body txn state last undo_next =
    to_le_bytes w32 0 ++ to_le_bytes w32 txn ++ to_le_bytes w32 state
    ++ to_le_bytes w64 last ++ to_le_bytes w64 undo_next ++ replicate 12 0

-- a redo point
unfoldable pub redo_body : ℕ → List ℕ
redo_body redo = to_le_bytes w64 0 ++ to_le_bytes w64 redo ++ replicate 24 0

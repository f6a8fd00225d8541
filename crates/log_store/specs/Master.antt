-- The master record and its bytes.
use Rattle.std.specs.Prelude.{ℕ, ◌≡◌, ◌<◌, List, ◌++◌, codes, replicate}
use Rattle.std.specs.Int.{w64, to_le_bytes}
use Rattle.log_records.specs.Record.{IsLsn}
use Rattle.log_store.specs.declared.master.Master.{Master}

-- it names a BeginChkpt and an EndChkpt behind it
pub record IsMaster (m : Master) : Type 0 where
  pub begin : IsLsn m.begin
  pub end : IsLsn m.end
  pub order : m.begin < m.end

-- its 64 bytes
unfoldable pub master_bytes : Master → List ℕ
master_bytes m =
    codes "AIMGMST1" ++ to_le_bytes w64 m.begin ++ to_le_bytes w64 m.end ++ replicate 40 0

-- the bytes are the one spelling of the master record
pub record SpellsMaster (m : Master) (bytes : List ℕ) : Type 0 where
  pub valid : IsMaster m
  pub spelled : bytes ≡ master_bytes m

-- What is wrong with a file that was refused, by what is read of it once more.
use Rattle.std.specs.Prelude.{ℕ, ◌≡◌, ◌≢◌, ◌⊎◌, ◌-◌, ◌/◌, ◌%◌, ◌<◌, ◌==◌, List, Option, None, Some}
use Rattle.std.specs.Prelude.{if◌then◌else◌, nat_lt, slice_index, slice_range}
use Rattle.std.specs.Int.{to_le_bytes, w64}
use Rattle.page_core.specs.declared.format.Format.{Format}
use Rattle.file_inputs.specs.declared.headers.FileKind.{FileKind}
use Rattle.file_inputs.specs.declared.headers.FileKind.TheVariants.{Archive, Log, Master}
use Rattle.file_inputs.specs.declared.reason.Reason.{Reason}
use Rattle.file_inputs.specs.declared.reason.Reason.TheVariants as reason
use Rattle.file_inputs.specs.Headers.{last_kind}

-- a file of another kind is told by its kind, and one of the right kind has a wrong header; a master
-- record may be too long
abbrev pub header_reason : FileKind → ℕ → ℕ → Reason
header_reason Log place count = if place == 0 then reason.BadHeader else reason.IsLog
header_reason Master place count =
    if place == 1 then (if nat_lt 64 count then reason.IsLong count else reason.BadHeader)
    else reason.IsMaster
header_reason Archive place count = if nat_lt place 2 then reason.IsArchive else reason.BadHeader

-- the kind is that of no record
abbrev pub IsNoKind : Format → ℕ → Type 0
IsNoKind format kind = (kind ≡ 0) ⊎ (last_kind format < kind)

-- why 64 bytes are no record of a log at this LSN: their kind is none, or they have another LSN of
-- their own, or neither
abbrev pub IsReasonOfRecord : List ℕ → Format → ℕ → Reason → Type 0
IsReasonOfRecord bytes format at (reason.Kind kind) =
    (kind ≡ slice_index bytes 0) × IsNoKind format kind
IsReasonOfRecord bytes format at (reason.OwnLsn own) =
    (to_le_bytes w64 own ≡ slice_range bytes 56 64) × (own ≢ at)
IsReasonOfRecord bytes format at reason.Misspelt = to_le_bytes w64 at ≡ slice_range bytes 56 64
IsReasonOfRecord bytes format at other = ⊥

-- why a copy of this parent may not follow the copy before it, if that is why: a full copy has the
-- parent 0, and stands first
abbrev pub broken_reason : ℕ → Option ℕ → Option Reason
broken_reason parent None = if parent == 0 then None else Some (reason.IncFirst parent)
broken_reason parent (Some before) =
    if parent == 0 then Some reason.FullBehind
    else if parent == before then None
    else Some (reason.Parent parent before)

-- an archive has the pages that its header says, and bytes behind them; or it has room for others
abbrev pub count_reason : ℕ → ℕ → Reason
count_reason count said =
    if (count - 64) / 512 == said then reason.Behind ((count - 64) % 512) said
    else reason.Count ((count - 64) / 512) said

-- The copies of a folder: what is wrong with each, and which its chain lacks.
use Rattle.std.specs.Prelude.{ℕ, ◌≡◌, ◌≢◌, ◌+◌, ◌*◌, ◌<◌, ◌≤◌, ◌++◌, List, [], ◌∷◌, Option, None, Some}
use Rattle.std.specs.Prelude.{IfSome, IsSomeAnd, is_some, nat_eq, if◌then◌else◌}
use Rattle.file_view.specs.declared.copy_header.CopyHeader.{CopyHeader}
use Rattle.file_view.specs.declared.copy_row.CopyFlaw.{CopyFlaw}
use Rattle.file_view.specs.declared.copy_row.CopyFlaw.TheVariants.{Begin, Length, Pages, Redo}
use Rattle.file_view.specs.declared.copy_row.CopyRow.{CopyRow}
use Rattle.file_view.specs.declared.summary.LogFacts.{LogFacts}
use Rattle.file_view.specs.Summary.{end_of}
use Rattle.page_core.specs.PageCounts.{count_below}

-- a file has just the bytes that its header says
abbrev pub HasItsLength : CopyHeader → ℕ → Type 0
HasItsLength header bytes = bytes ≡ 64 + 512 * header.taken

-- a copy has as many pages as the volume of the log before the copy's checkpoint
abbrev pub HasItsPages : CopyHeader → LogFacts → Type 0
HasItsPages header log = header.pages ≡ count_below log.counts header.begin

-- what is wrong with a copy, whose file has so many bytes, beside this log, if one is known: the
-- length of its file; its page count; its redo point, which is not below the log's end; or its begin
-- alone
abbrev pub IsFlawOf : CopyHeader → ℕ → Option LogFacts → Option CopyFlaw → Type 0
IsFlawOf header bytes log (Some Length) = bytes ≢ 64 + 512 * header.taken
IsFlawOf header bytes log (Some Pages) =
    HasItsLength header bytes ×
    IsSomeAnd log (λ it. ¬ HasItsPages header it)
IsFlawOf header bytes log (Some Redo) =
    HasItsLength header bytes ×
    IsSomeAnd log (λ it. HasItsPages header it × (end_of it ≤ header.redo))
IsFlawOf header bytes log (Some Begin) =
    HasItsLength header bytes ×
    IsSomeAnd log (λ it.
    HasItsPages header it × (header.redo < end_of it) × (end_of it ≤ header.begin))
IsFlawOf header bytes log None =
    HasItsLength header bytes ×
    IfSome log (λ it.
    HasItsPages header it × (header.redo < end_of it) × (header.begin < end_of it))

-- the nearest copy that is not there, or has a flaw: this one, or what its chain lacks
abbrev pub lacking_from : CopyRow → Option ℕ
lacking_from row = if is_some row.flaw then Some row.header.id else row.missing

-- the nearest such copy from that of an id down
abbrev pub lacking_at : ℕ → List CopyRow → Option ℕ
lacking_at id [] = Some id
lacking_at id (row ∷ rows) =
    if nat_eq row.header.id id then lacking_from row else lacking_at id rows

-- the nearest such copy below one with this parent; a full one stands on none
abbrev pub lacking_below : ℕ → List CopyRow → Option ℕ
lacking_below parent rows = if nat_eq parent 0 then None else lacking_at parent rows

-- what is noted of a copy behind these: its header, how many bytes its file has, and what is wrong
pub record IsRowOf (shown : CopyHeader) (count : ℕ) (log : Option LogFacts) (rows : List CopyRow)
    (row : CopyRow) : Type 0 where
  pub header : row.header ≡ shown
  pub bytes : row.bytes ≡ count
  pub flaw : IsFlawOf shown count log row.flaw
  pub missing : row.missing ≡ lacking_below shown.parent rows

-- a copy more is noted
abbrev pub AddsRow : CopyHeader → ℕ → Option LogFacts → List CopyRow → List CopyRow → Type 0
AddsRow header bytes log old new =
    (row : CopyRow) × IsRowOf header bytes log old row × (new ≡ old ++ row ∷ [])

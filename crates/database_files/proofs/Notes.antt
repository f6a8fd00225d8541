-- Notes of a closing.
use Rattle.std.proofs.Common.{◌<◌, ◌≤◌, ◌++◌, [], ◌∷◌, ℕ, List, IsUtf8, ap, arith, length, length-append, rules, subst, sym}
use Rattle.std.specs.Prelude.{decimal}
use Rattle.std.specs.Str.{IsAscii}
use Rattle.std.proofs.lemmas.Fmt.{IsAscii-decimal, length-decimal-le}
use Rattle.std.proofs.lemmas.Str.{IsAscii-append, IsUtf8-from_ascii}
use Rattle.database_files.specs.Closed.{SpellsNote}
use Rattle.database_files.specs.declared.closed_note.ClosedNote.{ClosedNote}

-- the bytes of a note are text
pub is_text : (note : ClosedNote) (bytes : List ℕ) → SpellsNote note bytes → IsUtf8 bytes
is_text note bytes it =
    let feed : IsAscii (10 ∷ []) = search rules in
    subst IsUtf8 (sym it.spelled) (IsUtf8-from_ascii (decimal note.end ++ 10 ∷ [])
    (IsAscii-append (decimal note.end) (10 ∷ []) (IsAscii-decimal note.end it.fits) feed))

-- and not many
pub is_few : (note : ClosedNote) (bytes : List ℕ) → SpellsNote note bytes → length bytes < 32
is_few note bytes it =
    let few : length (decimal note.end) ≤ 20 = length-decimal-le 20 note.end (omega arith) (omega (arith, it.fits)) it.fits in
    omega (arith, ap (length {A = ℕ}) it.spelled, length-append (decimal note.end) (10 ∷ []))

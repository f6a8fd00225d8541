-- The lines of a manifest, without those of files that are gone.
use Rattle.std.proofs.Common.{◌≡◌, ◌∙◌, ◌∷◌, Bool, List, [], ap, cond, false, inl, inr, not, refl, sym, true, true≢false, ℕ}
use Rattle.std.specs.Prelude.{◌≢◌, ◌⊎◌, codes, IsSome, None, Option, Some}
use Rattle.std.specs.Str.{bytes_eq}
use Rattle.std.proofs.lemmas.Slice.Eq.{bytes_eq-Decides}
use Rattle.manifest.specs.Entries.{Noted, file_of, without}
use Rattle.manifest.specs.declared.entry.FileSum.{FileSum}
use Rattle.saved_files.specs.Folder.{Entries}
use Rattle.database_files.specs.DatabaseFolder.{Tells}
use Rattle.manifest.specs.declared.sums.Sums.{Sums}
use Rattle.database_files.specs.Kept.{KeepsFoundLines, KeepsLines, KeepsLinesOf}

other_name : (a b : List ℕ) → a ≢ b → bytes_eq a b ≡ false
other_name a b apart = go (bytes_eq a b) refl
  where
    go : (t : Bool) → bytes_eq a b ≡ t → t ≡ false
    go true is = absurd (apart ((bytes_eq-Decides a b).0 is))
    go false is = refl

one_line : (n name : List ℕ) → n ≢ name → (e : Noted) (es : List Noted) → file_of n (without name es) ≡ file_of n es
    → file_of n (without name (e ∷ es)) ≡ file_of n (e ∷ es)
one_line n name apart e es rest = go (bytes_eq e.name name) refl
  where
    go : (b : Bool) → bytes_eq e.name name ≡ b → file_of n (cond (not b) (e ∷ without name es) (without name es))
        ≡ cond (bytes_eq e.name n) (Some e.file) (file_of n es)
    go true is = rest ∙ sym (ap (λ (t : Bool). cond t (Some e.file) (file_of n es))
        (other_name e.name n (λ same. apart (sym same ∙ (bytes_eq-Decides e.name name).0 is))))
    go false is = ap (λ (file : Option FileSum). cond (bytes_eq e.name n) (Some e.file) file) rest

-- what is noted of other names stays
others_stay : (n name : List ℕ) → n ≢ name → (es : List Noted) → file_of n (without name es) ≡ file_of n es
others_stay n name apart [] = refl
others_stay n name apart (e ∷ es) = one_line n name apart e es (others_stay n name apart es)

-- nothing is dropped
pub all_lines : (entries : Option Entries) (lines : List Noted) → KeepsLines entries lines lines
all_lines None lines = tt
all_lines (Some there) lines = λ n stands. refl

-- the line of a file that is gone is dropped
pub lines_without : (entries : Option Entries) (name : List ℕ) (old mid : List Noted) → Tells entries name false
    → KeepsLines entries old mid → KeepsLines entries old (without name mid)
lines_without None name old mid gone kept = tt
lines_without (Some there) name old mid gone kept = λ n stands.
    others_stay n name (λ same. stands (ap there same ∙ gone)) mid ∙ kept n stands

-- ---- the line of the log

not_the_log : (n : List ℕ) → (n ≢ codes "log") ⊎ (false ≡ true) → n ≢ codes "log"
not_the_log n why = elim why [ inl other ↦ other | inr is ↦ absurd (true≢false (sym is)) ]

-- all lines of this log are kept
pub lines_of_this : (entries : Option Entries) (old new : List Noted) → KeepsLines entries old new
    → KeepsLinesOf entries true old new
lines_of_this None old new kept = tt
lines_of_this (Some there) old new kept = λ n stands why. kept n stands

-- the line of another log is dropped
pub lines_of_another : (entries : Option Entries) (old mid : List Noted) → KeepsLines entries old mid
    → KeepsLinesOf entries false old (without (codes "log") mid)
lines_of_another None old mid kept = tt
lines_of_another (Some there) old mid kept = λ n stands why.
    others_stay n (codes "log") (not_the_log n why) mid ∙ kept n stands

is_this : {P : Type 0} (sums : Option Sums) (is : Bool) → (IsSome sums → is ≡ true) → P ⊎ IsSome sums → P ⊎ (is ≡ true)
is_this {P} sums is summed why = elim why [ inl p ↦ inl p | inr some ↦ inr (summed some) ]

-- so it is with the lines that were found
pub found_lines : (entries : Option Entries) (sums : Option Sums) (is_of_this : Bool) (old new : List Noted)
    → (IsSome sums → is_of_this ≡ true) → KeepsLinesOf entries is_of_this old new → KeepsFoundLines entries sums old new
found_lines None sums is_of_this old new summed kept = tt
found_lines (Some there) sums is_of_this old new summed kept = λ manifest n stands why.
    kept n stands (is_this sums is_of_this summed why)

-- a manifest that is gone has no lines to be kept
pub gone_lines : (entries : Option Entries) (sums : Option Sums) (old new : List Noted)
    → Tells entries (codes "manifest") false → KeepsFoundLines entries sums old new
gone_lines None sums old new gone = tt
gone_lines (Some there) sums old new gone = λ manifest n stands why. absurd (manifest gone)

-- Files that are noted one after another.
use Rattle.std.proofs.Common.{◌≡◌, ◌∙◌, ◌+◌, ◌<◌, ◌≤◌, ◌^◌, ℕ, zero, suc, inl, inr, List, [], ◌∷◌, length, refl, sym, ap, subst, arith}
use Rattle.std.specs.Prelude.{◌≢◌, codes, decimal, Some, None, option_map}
use Rattle.std.proofs.lemmas.Bool.{cases_lt}
use Rattle.std.proofs.lemmas.List.{append_cancel_left}
use Rattle.std.proofs.lemmas.Fmt.{decimal_injective}
use Rattle.std.proofs.Math.ListN.{get_or-eq_default}
use Rattle.std.specs.Io.KnownBytes.{Appends}
use Rattle.manifest.specs.Entries.{Noted, file_of}
use Rattle.manifest.specs.Sums.{IsSumOf}
use Rattle.manifest.proofs.Public.{noted_known, others_kept}
use Rattle.copy_vault.specs.Archive.{archive_bytes}
use Rattle.copy_vault.specs.Copy.{CopyView}
use Rattle.copy_vault.specs.Vault.{CopyState, complete_of, dropped, state_of}
use Rattle.copy_coverage.specs.Retired.{IsRetired, RetiredView}
use Rattle.saved_files.specs.declared.saved_name.SavedName.{SavedName}
use Rattle.saved_files.specs.declared.saved_name.SavedName.TheVariants.{Log, Master, Copy}
use Rattle.saved_files.specs.Saved.{Parts, name_of, parts_of, place_of}
use Rattle.checked_files.specs.Left.{AreNoted, AreNotedBefore, Notes, NotesNoOther, NotesNoOtherBefore}

-- ---- the names

-- the first byte
abbrev first : List ℕ → ℕ
first [] = 0
first (x ∷ xs) = x

-- files at two places have two names
names_differ : (a b : SavedName) → place_of a < place_of b → place_of b < 2 ^ 64 → name_of a ≢ name_of b
names_differ Log Log lt few = omega (arith, lt)
names_differ Log Master lt few = λ same. cc
names_differ Log (Copy j) lt few = λ same. let heads : 108 ≡ 99 = ap first same in omega (arith, heads)
names_differ Master Log lt few = omega (arith, lt)
names_differ Master Master lt few = omega (arith, lt)
names_differ Master (Copy j) lt few = λ same. let heads : 109 ≡ 99 = ap first same in omega (arith, heads)
names_differ (Copy i) Log lt few = omega (arith, lt)
names_differ (Copy i) Master lt few = omega (arith, lt)
names_differ (Copy i) (Copy j) lt few = λ same.
    let equal = decimal_injective i j (omega arith) (omega arith)
    (append_cancel_left (codes "copy-") (decimal i) (decimal j) same) in omega (arith, equal)

-- two files have two places
same_place : (a b : SavedName) → place_of a ≡ place_of b → a ≡ b
same_place Log Log same = refl
same_place Log Master same = cc
same_place Log (Copy j) same = absurd (omega (arith, same))
same_place Master Log same = cc
same_place Master Master same = refl
same_place Master (Copy j) same = absurd (omega (arith, same))
same_place (Copy i) Log same = absurd (omega (arith, same))
same_place (Copy i) Master same = absurd (omega (arith, same))
same_place (Copy i) (Copy j) same = let is : i ≡ j = omega (arith, same) in ap Copy is

-- ---- one file more

same_bytes : (a b : List ℕ) → Some a ≡ Some b → a ≡ b
same_bytes a b same = cc

-- such bytes are these
abbrev pub Whole : List ℕ → List ℕ → Type 0
Whole all bytes = Appends (Some []) (Some bytes) all

pub none_noted : (parts : Parts) (entries : List Noted) → AreNotedBefore parts 0 entries
none_noted parts entries name bytes asked lt = absurd (omega (arith, lt))

-- a file is noted behind those before it
pub noted_more : (parts : Parts) (at : SavedName) (all : List ℕ) (old new : List Noted) (end : ℕ)
    → place_of at < 2 ^ 64 → end ≡ place_of at + 1 → parts at ≡ Some all
    → AreNotedBefore parts (place_of at) old → Notes at (Whole all) old new
    → AreNotedBefore parts end new
noted_more parts at all old new end few is asked before put name bytes here lt =
    elim (cases_lt (place_of name) (place_of at)) [
      | inl less ↦
          let it = before name bytes here less in
          let kept = others_kept (record { name = name_of at; file = put.file }) (name_of name) old
          (names_differ name at less few) in
          record {
            file = it.file;
            there = ap (file_of (name_of name)) put.added ∙ kept ∙ it.there;
            extent = it.extent;
            sum = it.sum;
          }
      | inr le ↦
          let same : name ≡ at = same_place name at (omega (arith, lt, is, le)) in
          let equal : all ≡ bytes = same_bytes all bytes (sym asked ∙ ap parts (sym same) ∙ here) in
          record {
            file = put.file;
            there = ap (λ (a : SavedName). file_of (name_of a) new) same ∙ ap (file_of (name_of at)) put.added
                ∙ noted_known (record { name = name_of at; file = put.file }) old;
            extent = put.extent;
            sum = subst (IsSumOf put.file.sum put.file.bytes) (put.right ∙ equal) put.sum;
          }
    ]

-- there is no such file
pub none_more : (parts : Parts) (at : SavedName) (entries : List Noted) (end : ℕ) → end ≡ place_of at + 1
    → parts at ≡ None → AreNotedBefore parts (place_of at) entries → AreNotedBefore parts end entries
none_more parts at entries end is none before name bytes here lt =
    elim (cases_lt (place_of name) (place_of at)) [
      | inl less ↦ before name bytes here less
      | inr le ↦
          let same : name ≡ at = same_place name at (omega (arith, lt, is, le)) in
          let gone : None ≡ Some bytes = sym none ∙ ap parts (sym same) ∙ here in
          absurd (cc)
    ]

-- ---- no other name

pub none_other : (parts : Parts) (entries : List Noted) → entries ≡ [] → NotesNoOtherBefore parts 0 entries
none_other parts entries none n free = ap (file_of n) none

pub no_other_more : (parts : Parts) (at : SavedName) (all : List ℕ) (fits : List ℕ → Type 0) (old new : List Noted)
    (end : ℕ) → end ≡ place_of at + 1 → parts at ≡ Some all
    → NotesNoOtherBefore parts (place_of at) old → Notes at fits old new → NotesNoOtherBefore parts end new
no_other_more parts at all fits old new end is asked before put n free =
    ap (file_of n) put.added
    ∙ others_kept (record { name = name_of at; file = put.file }) n old (free at all asked (omega (arith, is)))
    ∙ before n (λ name bytes here lt. free name bytes here (omega (arith, lt, is)))

pub no_other_past : (parts : Parts) (at : SavedName) (entries : List Noted) (end : ℕ) → end ≡ place_of at + 1
    → NotesNoOtherBefore parts (place_of at) entries → NotesNoOtherBefore parts end entries
no_other_past parts at entries end is before n free =
    before n (λ name bytes here lt. free name bytes here (omega (arith, lt, is)))

pub no_other : (parts : Parts) (end : ℕ) (entries : List Noted) → NotesNoOtherBefore parts end entries
    → NotesNoOther parts entries
no_other parts end entries before n free = before n (λ name bytes here lt. free name bytes here)

-- ---- the copies

-- an id that was not given is that of no complete copy
none_past : (copies : List CopyState) (id : ℕ) → length copies < id → complete_of (state_of copies id) ≡ None
none_past copies zero lt = refl
none_past copies (suc k) lt =
    let gone : state_of copies (suc k) ≡ dropped = get_or-eq_default copies dropped (omega (arith, lt)) in
    ap complete_of gone

-- each file has a place below those of the copies that may be
within : (it : RetiredView) → IsRetired it → (name : SavedName) (bytes : List ℕ) → parts_of it name ≡ Some bytes
    → place_of name < 1027
within it few Log bytes asked = omega arith
within it few Master bytes asked = omega arith
within it few (Copy id) bytes asked = elim (cases_lt (length it.copies) id) [
  | inl lt ↦ let none = none_past it.copies id lt in cc
  | inr le ↦ omega (arith, le, few.copies.few)
]

-- all files are noted
pub all_noted : (it : RetiredView) (end : ℕ) (entries : List Noted) → IsRetired it → 1027 ≤ end
    → AreNotedBefore (parts_of it) end entries → AreNoted (parts_of it) entries
all_noted it end entries few past before name bytes asked =
    before name bytes asked (omega (arith, within it few name bytes asked, past))

-- a complete copy is asked for
pub asked_copy : (it : RetiredView) (copies : List CopyState) (id : ℕ) (copy : CopyView) → copies ≡ it.copies
    → Some copy ≡ complete_of (state_of copies id) → parts_of it (Copy id) ≡ Some (archive_bytes copy)
asked_copy it copies id copy same is =
    ap (λ (cs : List CopyState). option_map archive_bytes (complete_of (state_of cs id))) (sym same)
    ∙ ap (option_map archive_bytes) (sym is)

pub none_copy : (it : RetiredView) (copies : List CopyState) (id : ℕ) → copies ≡ it.copies
    → None ≡ complete_of (state_of copies id) → parts_of it (Copy id) ≡ None
none_copy it copies id same is =
    ap (λ (cs : List CopyState). option_map archive_bytes (complete_of (state_of cs id))) (sym same)
    ∙ ap (option_map archive_bytes) (sym is)

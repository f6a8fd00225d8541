-- The names of the files of a backup.
use Rattle.std.proofs.Common.{◌≡◌, ◌∙◌, ℕ, ◌+◌, ◌/◌, ◌%◌, List, [], ◌∷◌, ◌++◌, Bool, true, false, true≢false, ap, arith}
use Rattle.std.proofs.Common.{get_or, inl, inr, refl, subst, suc, sym, zero}
use Rattle.std.specs.Prelude.{◌≢◌, ◌⊎◌, ◌||◌, codes, decimal, if◌then◌else◌, nat_eq, nat_lt}
use Rattle.std.specs.Fmt.{digit_glyph, digits, digits_onto}
use Rattle.std.specs.Io.{StartsWith}
use Rattle.std.specs.Str.{bytes_eq}
use Rattle.std.proofs.lemmas.Bool.Decides.{nat_tests}
use Rattle.std.proofs.lemmas.Slice.Eq.{bytes_eq-Decides}
use Rattle.saved_files.specs.Folder.{IsBeside}
use Rattle.saved_files.specs.Saved.{name_of}
use Rattle.saved_files.specs.declared.saved_name.SavedName.TheVariants as saved
use Rattle.database_files.specs.Standing.{IsUnfinished}

-- two names are one, or they are not
pub by_test : (a b : List ℕ) → (a ≡ b) ⊎ (a ≢ b)
by_test a b = go (bytes_eq a b) refl
  where
    go : (t : Bool) → bytes_eq a b ≡ t → (a ≡ b) ⊎ (a ≢ b)
    go true is = inl ((bytes_eq-Decides a b).0 is)
    go false is = inr (λ same. true≢false (sym ((bytes_eq-Decides a b).1 same) ∙ is))

-- ---- whether a byte is in a name

abbrev pub has : ℕ → List ℕ → Bool
has b [] = false
has b (x ∷ xs) = nat_eq x b || has b xs

or_true : (a b : Bool) → b ≡ true → (a || b) ≡ true
or_true true b is = refl
or_true false b is = is

pub has_behind : (b : ℕ) (xs ys : List ℕ) → has b ys ≡ true → has b (xs ++ ys) ≡ true
has_behind b [] ys is = is
has_behind b (x ∷ xs) ys is = or_true (nat_eq x b) _ (has_behind b xs ys is)

pub has_in_none : (b : ℕ) (xs ys : List ℕ) → has b xs ≡ false → has b ys ≡ false → has b (xs ++ ys) ≡ false
has_in_none b [] ys p q = q
has_in_none b (x ∷ xs) ys p q = go (nat_eq x b) (has b xs) _ (λ none. has_in_none b xs ys none q) p
  where
    go : (t a c : Bool) → (a ≡ false → c ≡ false) → (t || a) ≡ false → (t || c) ≡ false
    go true a c rest p = p
    go false a c rest p = rest p

-- a dot and an h are no digits
pub data IsNoDigit : ℕ → Type 0 where
  a_dot : IsNoDigit 46
  an_h : IsNoDigit 104

no_digit : (b : ℕ) (t : Bool) (n : ℕ) (acc : List ℕ) → IsNoDigit b → has b acc ≡ false
    → has b ((if t then 48 + n % 10 else 87 + n % 10) ∷ acc) ≡ false
no_digit b true n acc a_dot none =
    let first : nat_eq (48 + n % 10) 46 ≡ false = grind (arith, nat_tests) in
    ap (λ (t : Bool). t || has 46 acc) first ∙ none
no_digit b false n acc a_dot none =
    let first : nat_eq (87 + n % 10) 46 ≡ false = grind (arith, nat_tests) in
    ap (λ (t : Bool). t || has 46 acc) first ∙ none
no_digit b true n acc an_h none =
    let first : nat_eq (48 + n % 10) 104 ≡ false = grind (arith, nat_tests) in
    ap (λ (t : Bool). t || has 104 acc) first ∙ none
no_digit b false n acc an_h none =
    let first : nat_eq (87 + n % 10) 104 ≡ false = grind (arith, nat_tests) in
    ap (λ (t : Bool). t || has 104 acc) first ∙ none

one_of : (b : ℕ) (t : Bool) (xs ys : List ℕ) → has b xs ≡ false → has b ys ≡ false
    → has b (if t then xs else ys) ≡ false
one_of b true xs ys p q = p
one_of b false xs ys p q = q

no_digits : (b k n : ℕ) (acc : List ℕ) → IsNoDigit b → has b acc ≡ false → has b (digits_onto k 10 false n acc) ≡ false
no_digits b zero n acc is none = none
no_digits b (suc k) n acc is none =
    let last = no_digit b (nat_lt (n % 10) 10) n acc is none in
    one_of b (nat_eq (n / 10) 0) (digit_glyph false (n % 10) ∷ acc) _ last
    (no_digits b k (n / 10) (digit_glyph false (n % 10) ∷ acc) is last)

pub digits_plain : (b n : ℕ) → IsNoDigit b → has b (decimal n) ≡ false
unfolding digits
digits_plain b n is = no_digits b 64 n [] is refl

-- ---- what is unfinished has a dot and an h in its name

pub is_finished : (n : List ℕ) → has 46 n ≡ false → ¬ IsUnfinished n
is_finished n none it = true≢false (sym (has_behind 46 it.0 (codes ".unfinished-" ++ it.1) refl)
    ∙ ap (has 46) (sym it.2) ∙ none)

pub is_whole : (n : List ℕ) → has 104 n ≡ false → ¬ IsUnfinished n
is_whole n none it = true≢false (sym (has_behind 104 it.0 (codes ".unfinished-" ++ it.1) refl)
    ∙ ap (has 104) (sym it.2) ∙ none)

pub log_finished : ¬ IsUnfinished (name_of saved.Log)
log_finished = is_finished (codes "log") refl

pub master_finished : ¬ IsUnfinished (name_of saved.Master)
master_finished = is_finished (codes "master") refl

pub manifest_finished : ¬ IsUnfinished (codes "manifest")
manifest_finished = is_finished (codes "manifest") refl

pub copy_finished : (id : ℕ) → ¬ IsUnfinished (name_of (saved.Copy id))
copy_finished id = is_finished (codes "copy-" ++ decimal id) (digits_plain 46 id a_dot)

pub beside_unfinished : (name n : List ℕ) → IsBeside name n → IsUnfinished n
beside_unfinished name n it = (name, decimal it.0, it.1)

-- ---- no two of them are one

pub copy_starts : (id : ℕ) → StartsWith (name_of (saved.Copy id)) (codes "copy-")
copy_starts id = refl

pub log_no_copy : ¬ StartsWith (name_of saved.Log) (codes "copy-")
log_no_copy same = let heads : 108 ≡ 99 = ap (λ (n : List ℕ). get_or n 0 0) same in absurd (omega (arith, heads))

pub master_no_copy : ¬ StartsWith (name_of saved.Master) (codes "copy-")
master_no_copy same = let heads : 109 ≡ 99 = ap (λ (n : List ℕ). get_or n 0 0) same in absurd (omega (arith, heads))

pub manifest_no_copy : ¬ StartsWith (codes "manifest") (codes "copy-")
manifest_no_copy same = let heads : 109 ≡ 99 = ap (λ (n : List ℕ). get_or n 0 0) same in absurd (omega (arith, heads))

pub copy_apart : (n : List ℕ) → ¬ StartsWith n (codes "copy-") → (id : ℕ) → name_of (saved.Copy id) ≢ n
copy_apart n none id same = none (subst (λ m. StartsWith m (codes "copy-")) same (copy_starts id))

pub log_master : name_of saved.Log ≢ name_of saved.Master
log_master same = let heads : 108 ≡ 109 = ap (λ (n : List ℕ). get_or n 0 0) same in absurd (omega (arith, heads))

pub log_manifest : name_of saved.Log ≢ codes "manifest"
log_manifest same = let heads : 108 ≡ 109 = ap (λ (n : List ℕ). get_or n 0 0) same in absurd (omega (arith, heads))

pub master_manifest : name_of saved.Master ≢ codes "manifest"
master_manifest same = let third : 115 ≡ 110 = ap (λ (n : List ℕ). get_or n 2 0) same in absurd (omega (arith, third))

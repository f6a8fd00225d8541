-- Pieces of a list, as lines and words are.
use Rattle.std.specs.Prelude.{ℕ, ◌≡◌, ◌≢◌, ◌+◌, ◌-◌, ◌<◌, ◌≤◌, zero, suc, List, [], ◌∷◌, ◌++◌, length, take, drop}
use Rattle.std.specs.Prelude.{get_or, refl, true, false, Bool, nat_eq, filter, cond}
use Rattle.std.proofs.Common.{sym, ap, ◌∙◌, arith, inl, inr}
use Rattle.std.proofs.lemmas.Bool.{cases_lt}
use Rattle.std.proofs.lemmas.Bool.Decides.{nat_tests}
use Rattle.std.proofs.lemmas.List.{take_all, drop_all, get_or-drop, length-drop}
use Rattle.event_script.specs.Words.{onto_first, pieces_at, has_bytes, lines_of, words_of, without_return}

parts : (byte parting : ℕ) → byte ≡ parting → nat_eq byte parting ≡ true
parts byte parting e = grind (arith, nat_tests)

differs : (byte parting : ℕ) → byte ≢ parting → nat_eq byte parting ≡ false
differs byte parting other = grind (arith, nat_tests)

-- a byte that does not part
onto : (parting byte : ℕ) (bytes : List ℕ) → byte ≢ parting
    → pieces_at parting (byte ∷ bytes) ≡ onto_first byte (pieces_at parting bytes)
onto parting byte bytes other =
    ap (λ (b : Bool). cond b ([] ∷ pieces_at parting bytes) (onto_first byte (pieces_at parting bytes)))
    (differs byte parting other)

-- none of the bytes parts
pub whole : (parting : ℕ) (bytes : List ℕ) → ((k : ℕ) → k < length bytes → get_or bytes k 0 ≢ parting)
    → pieces_at parting bytes ≡ bytes ∷ []
whole parting [] none = refl
whole parting (byte ∷ bytes) none =
    onto parting byte bytes (none 0 (omega arith))
    ∙ ap (onto_first byte) (whole parting bytes (λ k lt. none (suc k) (omega arith)))

-- the first byte that parts
pub cut : (parting : ℕ) (bytes : List ℕ) (n : ℕ) → ((k : ℕ) → k < n → get_or bytes k 0 ≢ parting)
    → n < length bytes → get_or bytes n 0 ≡ parting
    → pieces_at parting bytes ≡ take n bytes ∷ pieces_at parting (drop (suc n) bytes)
cut parting [] n none within there = absurd (omega arith)
cut parting (byte ∷ bytes) zero none within there =
    ap (λ (b : Bool). cond b ([] ∷ pieces_at parting bytes) (onto_first byte (pieces_at parting bytes)))
    (parts byte parting there)
cut parting (byte ∷ bytes) (suc n) none within there =
    onto parting byte bytes (none 0 (omega arith))
    ∙ ap (onto_first byte) (cut parting bytes n (λ k lt. none (suc k) (omega arith)) (omega arith) there)

-- spaces in front
pub spaces : (bytes : List ℕ) (n : ℕ) → n ≤ length bytes → ((k : ℕ) → k < n → get_or bytes k 0 ≡ 32)
    → words_of bytes ≡ words_of (drop n bytes)
spaces bytes zero within all = refl
spaces [] (suc n) within all = absurd (omega arith)
spaces (byte ∷ bytes) (suc n) within all =
    let first : byte ≡ 32 = all 0 (omega arith) in
    ap (λ (b : ℕ). words_of (b ∷ bytes)) first ∙ spaces bytes n (omega arith) (λ k lt. all (suc k) (omega arith))

-- a word at the end
pub last_word : (text : List ℕ) → 0 < length text → ((k : ℕ) → k < length text → get_or text k 0 ≢ 32)
    → words_of text ≡ text ∷ []
last_word [] some none = absurd (omega arith)
last_word (byte ∷ text) some none = ap (filter has_bytes) (whole 32 (byte ∷ text) none)

-- a space is left out in front
after_space : (text : List ℕ) (n : ℕ) → n < length text → get_or text n 0 ≡ 32
    → words_of (drop (suc n) text) ≡ words_of (drop n text)
after_space [] n within there = absurd (omega arith)
after_space (byte ∷ text) zero within there = sym (ap (λ (b : ℕ). words_of (b ∷ text)) there)
after_space (byte ∷ text) (suc n) within there = after_space text n (omega arith) there

-- a word before a space
pub first_word : (text : List ℕ) (n : ℕ) → 0 < n → ((k : ℕ) → k < n → get_or text k 0 ≢ 32)
    → n < length text → get_or text n 0 ≡ 32
    → words_of text ≡ take n text ∷ words_of (drop n text)
first_word [] n some none within there = absurd (omega arith)
first_word (byte ∷ text) zero some none within there = absurd (omega arith)
first_word (byte ∷ text) (suc n) some none within there =
    ap (filter has_bytes) (cut 32 (byte ∷ text) (suc n) none within there)
    ∙ ap (λ (ws : List (List ℕ)). (byte ∷ take n text) ∷ ws) (after_space text n (omega arith) there)

-- the first word, and what stands behind it
pub next : (text : List ℕ) (n : ℕ) → 0 < n → n ≤ length text → ((k : ℕ) → k < n → get_or text k 0 ≢ 32)
    → (n < length text → get_or text n 0 ≡ 32)
    → words_of text ≡ take n text ∷ words_of (drop n text)
next text n some within none there = elim (cases_lt n (length text)) [
  | inl lt ↦ first_word text n some none lt (there lt)
  | inr le ↦ let all : take n text ≡ text = take_all n text le in
      let rest : drop n text ≡ [] = drop_all n text le in
      last_word text (omega arith) (λ k lt. none k (omega arith))
      ∙ ap (λ (w : List ℕ). w ∷ []) (sym all)
      ∙ ap (λ (r : List ℕ). take n text ∷ words_of r) (sym rest)
]

push : (c : Bool) (a : ℕ) (xs ys : List ℕ) → a ∷ cond c xs ys ≡ cond c (a ∷ xs) (a ∷ ys)
push true a xs ys = refl
push false a xs ys = refl

returned : (bytes : List ℕ) (byte : ℕ)
    → without_return (bytes ++ (byte ∷ [])) ≡ cond (nat_eq byte 13) bytes (bytes ++ (byte ∷ []))
returned [] byte = refl
returned (a ∷ []) byte = push (nat_eq byte 13) a [] (byte ∷ [])
returned (a ∷ b ∷ bytes) byte =
    ap (λ (xs : List ℕ). a ∷ xs) (returned (b ∷ bytes) byte)
    ∙ push (nat_eq byte 13) a (b ∷ bytes) (b ∷ bytes ++ (byte ∷ []))

pub dropped_return : (line text : List ℕ) → line ≡ text ++ (13 ∷ []) → without_return line ≡ text
dropped_return line text e = ap without_return e ∙ returned text 13

pub kept_return : (line text : List ℕ) (byte : ℕ) → line ≡ text ++ (byte ∷ []) → byte ≢ 13
    → without_return line ≡ line
kept_return line text byte e other =
    ap without_return e ∙ returned text byte
    ∙ ap (λ (b : Bool). cond b text (text ++ (byte ∷ []))) (differs byte 13 other) ∙ sym e

-- what a slice to the end has
pub tail : (bytes : List ℕ) (i : ℕ) → take (length bytes - i) (drop i bytes) ≡ drop i bytes
tail bytes i = take_all (length bytes - i) (drop i bytes) (omega (arith, length-drop i bytes))

-- all is spaces
pub no_word : (bytes text : List ℕ) (s n : ℕ) → text ≡ drop s bytes → s ≤ length bytes
    → ((k : ℕ) → k < s → get_or bytes k 0 ≡ 32) → (s < length bytes → get_or bytes s 0 ≢ 32) → n ≡ 0
    → (n < length text → get_or text n 0 ≡ 32) → words_of bytes ≡ []
no_word bytes text s n e within all other nothing there = elim (cases_lt s (length bytes)) [
  | inl lt ↦
      let start : s + 0 ≡ s = omega arith in
      let first : get_or text 0 0 ≡ get_or bytes s 0 =
      ap (λ (xs : List ℕ). get_or xs 0 0) e ∙ get_or-drop s bytes 0 0 ∙ ap (λ (i : ℕ). get_or bytes i 0) start in
      let space : get_or text n 0 ≡ 32 = there (omega (arith, ap length e, length-drop s bytes)) in
      absurd (other lt (sym first ∙ ap (λ (i : ℕ). get_or text i 0) (sym nothing) ∙ space))
  | inr le ↦
      let rest : drop s bytes ≡ [] = drop_all s bytes le in
      spaces bytes s within all ∙ ap words_of rest
]

-- a word behind spaces
pub a_word : (bytes text rest : List ℕ) (s n : ℕ) → text ≡ drop s bytes → rest ≡ drop n text → s ≤ length bytes
    → ((k : ℕ) → k < s → get_or bytes k 0 ≡ 32) → 0 < n → n ≤ length text
    → ((k : ℕ) → k < n → get_or text k 0 ≢ 32) → (n < length text → get_or text n 0 ≡ 32)
    → words_of bytes ≡ take n text ∷ words_of rest
a_word bytes text rest s n e f within all some fits none there =
    spaces bytes s within all ∙ ap words_of (sym e) ∙ next text n some fits none there
    ∙ ap (λ (r : List ℕ). take n text ∷ words_of r) (sym f)

-- the last line
pub one_line : (bytes : List ℕ) (n : ℕ) → length bytes ≤ n → ((k : ℕ) → k < n → get_or bytes k 0 ≢ 10)
    → lines_of bytes ≡ bytes ∷ []
one_line bytes n all none = whole 10 bytes (λ k lt. none k (omega arith))

-- a line before a line feed
pub a_line : (bytes : List ℕ) (n behind : ℕ) → behind ≡ n + 1 → ((k : ℕ) → k < n → get_or bytes k 0 ≢ 10)
    → n < length bytes → get_or bytes n 0 ≡ 10
    → lines_of bytes ≡ take n bytes ∷ lines_of (take (length bytes - behind) (drop behind bytes))
a_line bytes n behind e none within there =
    let after : suc n ≡ behind = omega arith in
    cut 10 bytes n none within there
    ∙ ap (λ (i : ℕ). take n bytes ∷ lines_of (drop i bytes)) after
    ∙ ap (λ (r : List ℕ). take n bytes ∷ lines_of r) (sym (tail bytes behind))

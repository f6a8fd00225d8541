-- A line that is read again, piece by piece. A piece counts as the number that its digits and letters
-- write, so a number counts as itself.
use Rattle.std.proofs.Common.{◌≡◌, ◌∙◌, ℕ, zero, suc, ◌+◌, ◌*◌, ◌<◌, ◌^◌, List, [], ◌∷◌, ◌++◌, Bool, false}
use Rattle.std.proofs.Common.{append_assoc, get_or, refl, ap, arith}
use Rattle.std.specs.Prelude.{codes, ◌==◌, ◌||◌, if◌then◌else◌}
use Rattle.std.specs.Fmt.{decimal}
use Rattle.std.specs.Char.{digit_value}
use Rattle.std.specs.Str.Parse.{AllDigits, digits_value_after}
use Rattle.std.proofs.lemmas.Fmt.{decimal_is_IsNumeral}
use Rattle.std.proofs.lemmas.Bool.Decides.{nat_tests}
use Rattle.file_view.specs.RecordText.{Both, Fixed, Number, Text, text_of}

-- ---- characters

-- neither a digit nor a letter
abbrev is_mark : ℕ → Bool
is_mark c = digit_value c == 36

-- a space, a comma or a colon ends a piece; the other marks are passed over
abbrev ends_piece : ℕ → Bool
ends_piece c = c == 32 || c == 44 || c == 58

-- the pieces before a place, and the piece that stands there so far; or the pieces of a whole line
pub data State : Type 0 where
  Within : (pieces : List ℕ) → (now : ℕ) → State
  Ended : (pieces : List ℕ) → State

abbrev pub start : State
start = Within [] 0

abbrev at_mark : List ℕ → ℕ → ℕ → State
at_mark pieces now c =
    if c == 10 then Ended (pieces ++ now ∷ [])
    else (if ends_piece c then Within (pieces ++ now ∷ []) 0 else Within pieces now)

abbrev step : State → ℕ → State
step (Within pieces now) c =
    if is_mark c then at_mark pieces now c else Within pieces (now * 10 + digit_value c)
step (Ended pieces) c = Ended pieces

abbrev pub run : State → List ℕ → State
run s [] = s
run s (c ∷ cs) = run (step s c) cs

-- behind a line feed
abbrev pub ended : State → List ℕ
ended (Within pieces now) = pieces ++ now ∷ []
ended (Ended pieces) = pieces

-- the piece at a place
abbrev pub at : List ℕ → ℕ → ℕ
at pieces i = get_or pieces i 0

-- a word as it is read
abbrev pub word : List ℕ → ℕ
word text = at (ended (run start text)) 0

-- ---- what is read of texts in turn

run_both : (s : State) (xs ys : List ℕ) → run s (xs ++ ys) ≡ run (run s xs) ys
run_both s [] ys = refl
run_both s (x ∷ xs) ys = run_both (step s x) xs ys

run_ended : (pieces xs : List ℕ) → run (Ended pieces) xs ≡ Ended pieces
run_ended pieces [] = refl
run_ended pieces (x ∷ xs) = run_ended pieces xs

-- a line feed ends the line, whatever follows
line_feed : (s : State) (xs : List ℕ) → run s (codes "\n" ++ xs) ≡ Ended (ended s)
line_feed (Within pieces now) xs = run_ended (pieces ++ now ∷ []) xs
line_feed (Ended pieces) xs = run_ended pieces xs

no_mark : (c : ℕ) → digit_value c < 10 → is_mark c ≡ false
no_mark c lt = grind (arith, nat_tests)

run_digits : (pieces : List ℕ) (now : ℕ) (ds : List ℕ) → AllDigits 10 ds
    → run (Within pieces now) ds ≡ Within pieces (digits_value_after 10 now ds)
run_digits pieces now [] are = refl
run_digits pieces now (c ∷ ds) are =
    ap (λ b. run (if b then at_mark pieces now c else Within pieces (now * 10 + digit_value c)) ds)
    (no_mark c are.0)
    ∙ run_digits pieces (now * 10 + digit_value c) ds are.1

-- ---- a text of fixed ones and of numbers, read again

-- its numbers fit 64 bits
abbrev pub Fits : Text → Type 0
Fits (Fixed text) = Unit {0}
Fits (Number n) = n < 2 ^ 64
Fits (Both a b) = Fits a × Fits b

-- a number that stands for itself is read as itself
abbrev with_number : State → ℕ → State
with_number (Within pieces zero) n = Within pieces n
with_number (Within pieces (suc k)) n = run (Within pieces (suc k)) (decimal n)
with_number (Ended pieces) n = Ended pieces

abbrev pub read : State → Text → State
read s (Fixed text) = run s text
read s (Number n) = with_number s n
read s (Both a b) = read (read s a) b

read_number : (s : State) (n : ℕ) → n < 2 ^ 64 → run s (decimal n) ≡ with_number s n
read_number (Within pieces zero) n fits =
    let it = decimal_is_IsNumeral n fits in
    run_digits pieces 0 (decimal n) it.0.1 ∙ ap (Within pieces) it.1
read_number (Within pieces (suc k)) n fits = refl
read_number (Ended pieces) n fits = run_ended pieces (decimal n)

read_text : (s : State) (t : Text) → Fits t → run s (text_of t) ≡ read s t
read_text s (Fixed text) fits = refl
read_text s (Number n) fits = read_number s n fits
read_text s (Both a b) fits =
    run_both s (text_of a) (text_of b) ∙ ap (λ u. run u (text_of b)) (read_text s a fits.0)
    ∙ read_text (read s a) b fits.1

-- a line is read, whatever follows
pub read_line : (t : Text) (xs : List ℕ) → Fits t
    → ended (run start (text_of t ++ codes "\n" ++ xs)) ≡ ended (read start t)
read_line t xs fits =
    ap (λ (bs : List ℕ). ended (run start bs)) (append_assoc (text_of t) (codes "\n") xs)
    ∙ ap ended (run_both start (text_of t) (codes "\n" ++ xs))
    ∙ ap (λ u. ended (run u (codes "\n" ++ xs))) (read_text start t fits)
    ∙ ap ended (line_feed (read start t) xs)

-- The lines of bytes that are read one after another.
use Rattle.std.proofs.Common.{ℕ, ◌≡◌, ◌≢◌, ◌+◌, ◌-◌, ◌<◌, ◌≤◌, suc, List, [], ◌∷◌, ◌++◌, length, take, drop, get_or}
use Rattle.std.proofs.Common.{refl, ap, sym, subst, ◌∙◌, arith, append_assoc, append-nil}
use Rattle.std.specs.Prelude.{Bool, true, false, codes, cond, nat_eq, nat_le, IfSome, Option, Some, None}
use Rattle.std.specs.Prelude.{slice_range}
use Rattle.std.specs.Io.KnownBytes.{Consumes, IsAtEnd, prepend_known}
use Rattle.std.specs.List.{All}
use Rattle.std.proofs.KnownBytes.{Consumes-nil, Consumes-trans}
use Rattle.std.proofs.Math.Seq.{drop-cons}
use Rattle.std.proofs.lemmas.Bool.Decides.{nat_tests}
use Rattle.std.proofs.lemmas.List.{length-take}
use Rattle.std.proofs.lemmas.List.Elements.{All-append, All-cons, All-head, All-nil, All-tail}
use Rattle.event_script.specs.Words.{lines_of, onto_first}
use Rattle.page_core.specs.Input.{GoesOn}
use Rattle.session_lines.specs.Lines.{AreAllLines, AreFirstLines, GivesLine, IsOver, IsReadSoFar, Line, LosesLines, SaysQuit}
use Rattle.session_lines.specs.Lines.{line_of, lines_in, lines_of_pieces, too_long, unended, whole}
use Rattle.session_lines.specs.Commands.{SpellsText}
use Rattle.session_lines.specs.declared.line_reader.NextLine.TheVariants as next

-- ---- a buffer before a reader

range_none : (items : List ℕ) (from to : ℕ) → to ≤ from → slice_range items from to ≡ []
range_none items from to le =
    let none : to - from ≡ 0 = omega arith in
    ap (λ (n : ℕ). take n (drop from items)) none

range_step : (items : List ℕ) (from to byte : ℕ) → from < to → from < length items
    → byte ≡ get_or items from byte → slice_range items from to ≡ byte ∷ slice_range items (from + 1) to
range_step items from to byte lt within is =
    let count : to - from ≡ suc (to - (from + 1)) = omega arith in
    let next : suc from ≡ from + 1 = omega arith in
    ap (λ (n : ℕ). take n (drop from items)) count
    ∙ ap (λ (bs : List ℕ). take (suc (to - (from + 1))) bs) (drop-cons items from byte within)
    ∙ ap (λ (b : ℕ). b ∷ take (to - (from + 1)) (drop (suc from) items)) (sym is)
    ∙ ap (λ (i : ℕ). byte ∷ take (to - (from + 1)) (drop i items)) next

first_given : (byte : ℕ) (bytes : List ℕ) (rest : Option (List ℕ))
    → Consumes (prepend_known (byte ∷ bytes) rest) (prepend_known bytes rest) (byte ∷ [])
first_given byte bytes None = tt
first_given byte bytes (Some xs) = refl

pub byte_given : (start rest : Option (List ℕ)) (items : List ℕ) (from to byte : ℕ) → from < to → from < length items
    → byte ≡ get_or items from byte → Consumes start (prepend_known (slice_range items from to) rest) []
    → Consumes start (prepend_known (slice_range items (from + 1) to) rest) (byte ∷ [])
byte_given start rest items from to byte lt within is so_far =
    let behind = slice_range items (from + 1) to in
    Consumes-trans start (prepend_known (slice_range items from to) rest) (prepend_known behind rest) [] (byte ∷ [])
    so_far
    (subst (λ (bs : List ℕ). Consumes (prepend_known bs rest) (prepend_known behind rest) (byte ∷ []))
    (sym (range_step items from to byte lt within is)) (first_given byte behind rest))

filled : (old new : Option (List ℕ)) (bytes : List ℕ) → Consumes old new bytes
    → Consumes (prepend_known [] old) (prepend_known bytes new) []
filled None new bytes taken = tt
filled (Some xs) None bytes taken = absurd taken
filled (Some xs) (Some ys) bytes taken = taken

pub bytes_filled : (start old new : Option (List ℕ)) (items after : List ℕ) (from to count : ℕ) → to ≤ from
    → GoesOn old new (take 0 items) (take (0 + count) after)
    → Consumes start (prepend_known (slice_range items from to) old) []
    → Consumes start (prepend_known (slice_range after 0 count) new) []
bytes_filled start old new items after from to count le more so_far =
    let all : 0 + count ≡ count - 0 = omega arith in
    let bytes = take (count - 0) after in
    let given : Consumes old new bytes =
    subst (λ (n : ℕ). Consumes old new (take n after)) all (more old [] (Consumes-nil old)) in
    Consumes-trans start (prepend_known (slice_range items from to) old) (prepend_known bytes new) [] [] so_far
    (subst (λ (bs : List ℕ). Consumes (prepend_known bs old) (prepend_known bytes new) [])
    (sym (range_none items from to le)) (filled old new bytes given))

end_known : (rest : Option (List ℕ)) → IsAtEnd rest → IsAtEnd (prepend_known [] rest)
end_known None end = tt
end_known (Some xs) end = end

pub bytes_ended : (start old new : Option (List ℕ)) (items after : List ℕ) (from to : ℕ) → to ≤ from
    → IsAtEnd new → GoesOn old new (take 0 items) (take 0 items)
    → Consumes start (prepend_known (slice_range items from to) old) []
    → Consumes start (prepend_known (slice_range after from to) new) []
    × IsAtEnd (prepend_known (slice_range after from to) new)
bytes_ended start old new items after from to le end more so_far =
    let Ends : List ℕ → Type 0 = λ bs. Consumes start (prepend_known bs new) [] × IsAtEnd (prepend_known bs new) in
    let none = range_none items from to le in
    subst Ends (sym (range_none after from to le)) (
      Consumes-trans start (prepend_known (slice_range items from to) old) (prepend_known [] new) [] [] so_far
          (subst (λ (bs : List ℕ). Consumes (prepend_known bs old) (prepend_known [] new) []) (sym none)
          (filled old new [] (more old [] (Consumes-nil old)))),
      end_known new end,
    )

-- ---- pieces

-- no line feed is among them
abbrev pub HasNoFeed : List ℕ → Type 0
HasNoFeed bytes = All (λ (byte : ℕ). byte ≢ 10) bytes

pub no_feed_more : (bytes : List ℕ) (byte : ℕ) → HasNoFeed bytes → byte ≢ 10 → HasNoFeed (bytes ++ byte ∷ [])
no_feed_more bytes byte none other =
    All-append (λ (b : ℕ). b ≢ 10) bytes (byte ∷ []) none
    (All-cons (λ (b : ℕ). b ≢ 10) byte [] other (All-nil (λ (b : ℕ). b ≢ 10)))

differs : (byte : ℕ) → byte ≢ 10 → nat_eq byte 10 ≡ false
differs byte other = grind (arith, nat_tests)

onto : (byte : ℕ) (bytes : List ℕ) → byte ≢ 10 → lines_of (byte ∷ bytes) ≡ onto_first byte (lines_of bytes)
onto byte bytes other =
    ap (λ (b : Bool). cond b ([] ∷ lines_of bytes) (onto_first byte (lines_of bytes))) (differs byte other)

ended_piece : (bytes rest : List ℕ) → HasNoFeed bytes → lines_of (bytes ++ 10 ∷ rest) ≡ bytes ∷ lines_of rest
ended_piece [] rest none = refl
ended_piece (byte ∷ bytes) rest none =
    onto byte (bytes ++ 10 ∷ rest) (All-head (λ (b : ℕ). b ≢ 10) byte bytes none)
    ∙ ap (onto_first byte) (ended_piece bytes rest (All-tail (λ (b : ℕ). b ≢ 10) byte bytes none))

last_piece : (bytes : List ℕ) → HasNoFeed bytes → lines_of bytes ≡ bytes ∷ []
last_piece [] none = refl
last_piece (byte ∷ bytes) none =
    onto byte bytes (All-head (λ (b : ℕ). b ≢ 10) byte bytes none)
    ∙ ap (onto_first byte) (last_piece bytes (All-tail (λ (b : ℕ). b ≢ 10) byte bytes none))

first_piece : (is_feed : Bool) (byte : ℕ) (pieces : List (List ℕ)) → (piece : List ℕ) × (others : List (List ℕ))
    × (cond is_feed ([] ∷ pieces) (onto_first byte pieces) ≡ piece ∷ others)
first_piece true byte pieces = ([], pieces, refl)
first_piece false byte [] = (byte ∷ [], [], refl)
first_piece false byte (piece ∷ pieces) = (byte ∷ piece, pieces, refl)

some_piece : (bytes : List ℕ) → (piece : List ℕ) × (others : List (List ℕ)) × (lines_of bytes ≡ piece ∷ others)
some_piece [] = ([], [], refl)
some_piece (byte ∷ bytes) = first_piece (nat_eq byte 10) byte (lines_of bytes)

-- a line that a line feed ends, in front of others
ended_line : (bytes rest : List ℕ) → HasNoFeed bytes
    → lines_in (bytes ++ 10 ∷ rest) ≡ line_of whole bytes ∷ lines_in rest
ended_line bytes rest none =
    let some = some_piece rest in
    ap lines_of_pieces (ended_piece bytes rest none)
    ∙ ap (λ (pieces : List (List ℕ)). lines_of_pieces (bytes ∷ pieces)) some.2
    ∙ ap (λ (pieces : List (List ℕ)). line_of whole bytes ∷ lines_of_pieces pieces) (sym some.2)

last_line : (bytes : List ℕ) → HasNoFeed bytes → 0 < length bytes → lines_in bytes ≡ line_of unended bytes ∷ []
last_line [] none some = absurd (omega arith)
last_line (byte ∷ bytes) none some = ap lines_of_pieces (last_piece (byte ∷ bytes) none)

-- ---- lines that are lost

loses_ended : (old new : Option (List ℕ)) (bytes : List ℕ) (line : Line) → Consumes old new (bytes ++ 10 ∷ [])
    → HasNoFeed bytes → line_of whole bytes ≡ line → LosesLines old new (line ∷ [])
loses_ended None new bytes line taken none is = tt
loses_ended (Some xs) None bytes line taken none is = absurd taken
loses_ended (Some xs) (Some ys) bytes line taken none is =
    ap lines_in (taken ∙ append_assoc bytes (10 ∷ []) ys) ∙ ended_line bytes ys none
    ∙ ap (λ (l : Line). l ∷ lines_in ys) is

loses_last : (old new : Option (List ℕ)) (bytes : List ℕ) (line : Line) → Consumes old new bytes → IsAtEnd new
    → HasNoFeed bytes → 0 < length bytes → line_of unended bytes ≡ line → LosesLines old new (line ∷ [])
loses_last None new bytes line taken end none some is = tt
loses_last (Some xs) None bytes line taken end none some is = absurd taken
loses_last (Some xs) (Some ys) bytes line taken end none some is =
    ap lines_in (taken ∙ ap (λ (rest : List ℕ). bytes ++ rest) end ∙ append-nil bytes) ∙ last_line bytes none some
    ∙ ap (λ (l : Line). l ∷ []) is ∙ ap (λ (rest : List ℕ). line ∷ lines_in rest) (sym end)

short : (kind : List ℕ → Line) (bytes : List ℕ) → length bytes ≤ 1024 → line_of kind bytes ≡ kind bytes
short kind bytes le =
    let test : nat_le (length bytes) 1024 ≡ true = grind (arith, nat_tests) in
    ap (λ (b : Bool). cond b (kind bytes) too_long) test

long : (kind : List ℕ → Line) (bytes : List ℕ) → 1024 < length bytes → line_of kind bytes ≡ too_long
long kind bytes lt =
    let test : nat_le (length bytes) 1024 ≡ false = grind (arith, nat_tests) in
    ap (λ (b : Bool). cond b (kind bytes) too_long) test

-- a line stands in the buffer
kept : (kind : List ℕ → Line) (buffer bytes : List ℕ) (len : ℕ) → length buffer ≡ 1024
    → IsReadSoFar buffer len false bytes → line_of kind bytes ≡ kind (take len buffer)
kept kind buffer bytes len size read =
    short kind bytes (omega (arith, size, ap length read.1, length-take len buffer)) ∙ ap kind read.1

pub nothing_more : (start reached new : Option (List ℕ)) (bytes : List ℕ) → Consumes start reached bytes
    → Consumes reached new [] → Consumes start new bytes
nothing_more start reached new bytes taken none =
    subst (Consumes start new) (append-nil bytes) (Consumes-trans start reached new bytes [] taken none)

-- what a line feed ends
pub gives_ended : (old new : Option (List ℕ)) (buffer bytes : List ℕ) (len : ℕ) (is_long : Bool)
    → length buffer ≡ 1024 → HasNoFeed bytes → IsReadSoFar buffer len is_long bytes
    → Consumes old new (bytes ++ 10 ∷ [])
    → GivesLine old new buffer (cond is_long next.TooLong (next.Line len))
gives_ended old new buffer bytes len false size none read taken =
    (read.0, loses_ended old new bytes (whole (take len buffer)) taken none (kept whole buffer bytes len size read))
gives_ended old new buffer bytes len true size none read taken =
    loses_ended old new bytes too_long taken none (long whole bytes (omega (arith, size, read.1)))

-- what the end of the input ends
pub gives_long : (old new : Option (List ℕ)) (buffer bytes : List ℕ) (len : ℕ) → length buffer ≡ 1024
    → HasNoFeed bytes → IsReadSoFar buffer len true bytes → Consumes old new bytes → IsAtEnd new
    → GivesLine old new buffer next.TooLong
gives_long old new buffer bytes len size none read taken end =
    loses_last old new bytes too_long taken end none (omega (arith, size, read.1))
    (long unended bytes (omega (arith, size, read.1)))

pub gives_unended : (old new : Option (List ℕ)) (buffer bytes : List ℕ) (len : ℕ) → 0 < len
    → length buffer ≡ 1024 → HasNoFeed bytes → IsReadSoFar buffer len false bytes → Consumes old new bytes
    → IsAtEnd new → GivesLine old new buffer (next.Unended len)
gives_unended old new buffer bytes len some size none read taken end = (
  read.0,
  loses_last old new bytes (unended (take len buffer)) taken end none
      (omega (arith, some, read.0, ap length read.1, length-take len buffer))
      (kept unended buffer bytes len size read),
)

-- the line says to quit
pub over_at_quit : (old new : Option (List ℕ)) (bytes : List ℕ) → LosesLines old new (whole bytes ∷ [])
    → SpellsText bytes (codes "quit") → IfSome old (λ input. IsOver (lines_in input))
over_at_quit None new bytes lost says = tt
over_at_quit (Some xs) None bytes lost says = absurd lost
over_at_quit (Some xs) (Some ys) bytes lost says = subst IsOver (sym lost) says

-- ---- lines that are taken one after another

-- this line was lost, and does not say to quit
abbrev pub IsTaken : Option (List ℕ) → Option (List ℕ) → Line → Type 0
IsTaken old new line = LosesLines old new (line ∷ []) × ¬ SaysQuit line

-- these lines were, one after another
pub record AreTaken (old new : Option (List ℕ)) (lines : List Line) : Type 0 where
  pub lost : LosesLines old new lines
  pub go_on : All (λ (line : Line). ¬ SaysQuit line) lines

loses_none : (left : Option (List ℕ)) → LosesLines left left []
loses_none None = tt
loses_none (Some xs) = refl

loses_more : (old mid new : Option (List ℕ)) (lines : List Line) (line : Line) → LosesLines old mid lines
    → LosesLines mid new (line ∷ []) → LosesLines old new (lines ++ line ∷ [])
loses_more None mid new lines line first next = tt
loses_more (Some xs) None new lines line first next = absurd first
loses_more (Some xs) (Some ys) None lines line first next = absurd next
loses_more (Some xs) (Some ys) (Some zs) lines line first next =
    first ∙ ap (λ (ls : List Line). lines ++ ls) next ∙ sym (append_assoc lines (line ∷ []) (lines_in zs))

pub none_taken : (left : Option (List ℕ)) → AreTaken left left []
none_taken left = record {
  lost = loses_none left;
  go_on = All-nil (λ (line : Line). ¬ SaysQuit line);
}

pub one_taken : (old mid new : Option (List ℕ)) (lines : List Line) (line : Line) → AreTaken old mid lines
    → IsTaken mid new line → AreTaken old new (lines ++ line ∷ [])
one_taken old mid new lines line so_far next = record {
  lost = loses_more old mid new lines line so_far.lost next.0;
  go_on = All-append (λ (l : Line). ¬ SaysQuit l) lines (line ∷ []) so_far.go_on
      (All-cons (λ (l : Line). ¬ SaysQuit l) line [] next.1 (All-nil (λ (l : Line). ¬ SaysQuit l)));
}

pub first_lines : (old new : Option (List ℕ)) (lines : List Line) → AreTaken old new lines → AreFirstLines old lines
first_lines None new lines taken = tt
first_lines (Some xs) None lines taken = absurd taken.lost
first_lines (Some xs) (Some ys) lines taken = (lines_in ys, record { first = taken.lost; go_on = taken.go_on })

pub all_lines : (old new : Option (List ℕ)) (lines : List Line) → AreTaken old new lines
    → IfSome new (λ input. IsOver (lines_in input)) → AreAllLines old lines
all_lines None new lines taken over = tt
all_lines (Some xs) None lines taken over = absurd taken.lost
all_lines (Some xs) (Some ys) lines taken over =
    (lines_in ys, record { first = taken.lost; go_on = taken.go_on }, over)

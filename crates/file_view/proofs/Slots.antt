-- The text of slots, one more at a time.
use Rattle.std.proofs.Common.{◌≡◌, ◌≢◌, ℕ, ◌+◌, ◌<◌, ◌≤◌, zero, suc, Bool, true, false, cond, nat_eq, refl}
use Rattle.std.proofs.Common.{List, [], ◌∷◌, ◌++◌, length, take, sym, ap, ◌∙◌, arith}
use Rattle.std.specs.Prelude.{codes}
use Rattle.std.specs.List.{flat_map}
use Rattle.std.proofs.lemmas.Bool.Decides.{nat_tests}
use Rattle.std.proofs.lemmas.Grind.{flat_map-append}
use Rattle.std.proofs.lemmas.List.{append-nil, append_assoc, length-take-le}
use Rattle.file_view.specs.PageText.{slot_json, slot_text, slots_json, slots_text, with_commas}

more : (from : ℕ) (numbers : List ℕ) (number : ℕ)
    → slots_text from (numbers ++ number ∷ []) ≡ slots_text from numbers ++ slot_text (from + length numbers) number
more from [] number =
    let here : from + 0 ≡ from = omega arith in
    append-nil (slot_text from number) ∙ ap (λ (n : ℕ). slot_text n number) (sym here)
more from (first ∷ numbers) number =
    let here : suc from + length numbers ≡ from + suc (length numbers) = omega arith in
    ap (λ (bs : List ℕ). slot_text from first ++ bs)
    (more (suc from) numbers number ∙ ap (λ (n : ℕ). slots_text (suc from) numbers ++ slot_text n number) here)
    ∙ sym (append_assoc (slot_text from first) (slots_text (suc from) numbers)
    (slot_text (from + suc (length numbers)) number))

-- a slot more
pub slots_more : (numbers : List ℕ) (slot number : ℕ) → slot < length numbers
    → take (slot + 1) numbers ≡ take slot numbers ++ number ∷ []
    → slots_text 0 (take (slot + 1) numbers) ≡ slots_text 0 (take slot numbers) ++ slot_text slot number
slots_more numbers slot number lt is =
    let count : 0 + length (take slot numbers) ≡ slot =
    let below : slot ≤ length numbers = omega arith in
    omega (arith, length-take-le slot numbers below) in
    ap (slots_text 0) is ∙ more 0 (take slot numbers) number
    ∙ ap (λ (n : ℕ). slots_text 0 (take slot numbers) ++ slot_text n number) count

-- ---- in JSON

-- there are no texts
abbrev pub is_none : List (List ℕ) → Bool
is_none [] = true
is_none (text ∷ texts) = false

by_bool : (b : Bool) (object : List ℕ) (old new more : List (List ℕ)) → new ≡ old ++ more
    → cond b new (object ∷ new) ≡ cond b old (object ∷ old) ++ more
by_bool true object old new more is = is
by_bool false object old new more is = ap (λ (texts : List (List ℕ)). object ∷ texts) is

json_more : (from : ℕ) (numbers : List ℕ) (number : ℕ)
    → slots_json from (numbers ++ number ∷ [])
    ≡ slots_json from numbers ++ slots_json (from + length numbers) (number ∷ [])
json_more from [] number =
    let here : from + 0 ≡ from = omega arith in
    ap (λ (n : ℕ). slots_json n (number ∷ [])) (sym here)
json_more from (first ∷ numbers) number =
    let here : suc from + length numbers ≡ from + suc (length numbers) = omega arith in
    by_bool (nat_eq first 0) (slot_json from first) (slots_json (suc from) numbers)
    (slots_json (suc from) (numbers ++ number ∷ []))
    (slots_json (from + suc (length numbers)) (number ∷ []))
    (json_more (suc from) numbers number
    ∙ ap (λ (n : ℕ). slots_json (suc from) numbers ++ slots_json n (number ∷ [])) here)

-- a slot more
slot_more : (numbers : List ℕ) (slot number : ℕ) → slot < length numbers
    → take (slot + 1) numbers ≡ take slot numbers ++ number ∷ []
    → slots_json 0 (take (slot + 1) numbers)
    ≡ slots_json 0 (take slot numbers) ++ slots_json slot (number ∷ [])
slot_more numbers slot number lt is =
    let count : 0 + length (take slot numbers) ≡ slot =
    let below : slot ≤ length numbers = omega arith in
    omega (arith, length-take-le slot numbers below) in
    ap (slots_json 0) is ∙ json_more 0 (take slot numbers) number
    ∙ ap (λ (n : ℕ). slots_json 0 (take slot numbers) ++ slots_json n (number ∷ [])) count

tested : (n : ℕ) → n ≢ 0 → nat_eq n 0 ≡ false
tested n some = grind (arith, nat_tests)

one_shown : (slot number : ℕ) → number ≢ 0 → slots_json slot (number ∷ []) ≡ slot_json slot number ∷ []
one_shown slot number some =
    ap (λ b. cond b [] (slot_json slot number ∷ [])) (tested number some)

one_passed : (slot number : ℕ) → number ≡ 0 → slots_json slot (number ∷ []) ≡ []
one_passed slot zero none = refl
one_passed slot (suc k) none = absurd (omega (arith, none))

-- one that is shown
pub slot_shown : (numbers : List ℕ) (slot number : ℕ) → slot < length numbers
    → take (slot + 1) numbers ≡ take slot numbers ++ number ∷ [] → number ≢ 0
    → slots_json 0 (take (slot + 1) numbers) ≡ slots_json 0 (take slot numbers) ++ slot_json slot number ∷ []
slot_shown numbers slot number lt is some =
    slot_more numbers slot number lt is
    ∙ ap (λ (texts : List (List ℕ)). slots_json 0 (take slot numbers) ++ texts) (one_shown slot number some)

-- and one that is not
pub slot_passed : (numbers : List ℕ) (slot number : ℕ) → slot < length numbers
    → take (slot + 1) numbers ≡ take slot numbers ++ number ∷ [] → number ≡ 0
    → slots_json 0 (take (slot + 1) numbers) ≡ slots_json 0 (take slot numbers)
slot_passed numbers slot number lt is none =
    slot_more numbers slot number lt is
    ∙ ap (λ (texts : List (List ℕ)). slots_json 0 (take slot numbers) ++ texts) (one_passed slot number none)
    ∙ append-nil (slots_json 0 (take slot numbers))

-- a text more
with_more : (texts : List (List ℕ)) (text : List ℕ)
    → with_commas (texts ++ text ∷ []) ≡ with_commas texts ++ (cond (is_none texts) [] (codes ",") ++ text)
with_more [] text = append-nil text
with_more (first ∷ texts) text =
    let comma : List ℕ → List ℕ = λ it. codes "," ++ it in
    ap (λ (bs : List ℕ). first ++ bs)
    (flat_map-append comma texts (text ∷ [])
    ∙ ap (λ (bs : List ℕ). flat_map comma texts ++ bs) (append-nil (comma text)))
    ∙ sym (append_assoc first (flat_map comma texts) (comma text))

pub text_more : (texts : List (List ℕ)) (text old before after : List ℕ) (first : Bool)
    → before ≡ old ++ with_commas texts → first ≡ is_none texts
    → after ≡ before ++ (cond first [] (codes ",") ++ text)
    → after ≡ old ++ with_commas (texts ++ text ∷ [])
text_more texts text old before after first were none put =
    put ∙ ap (λ (bs : List ℕ). bs ++ (cond first [] (codes ",") ++ text)) were
    ∙ ap (λ (b : Bool). (old ++ with_commas texts) ++ (cond b [] (codes ",") ++ text)) none
    ∙ append_assoc old (with_commas texts) (cond (is_none texts) [] (codes ",") ++ text)
    ∙ ap (λ (bs : List ℕ). old ++ bs) (sym (with_more texts text))

pub some_more : (texts : List (List ℕ)) (text : List ℕ) → false ≡ is_none (texts ++ text ∷ [])
some_more [] text = refl
some_more (first ∷ texts) text = refl

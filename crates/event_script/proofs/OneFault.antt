-- The input of a script has one fault at most.
use Rattle.std.proofs.Common.{◌≡◌, ℕ, ◌+◌, ◌-◌, ◌<◌, ◌≤◌, List, [], ◌∷◌, ◌++◌, take, drop, refl, sym, ap, subst}
use Rattle.std.proofs.Common.{◌∙◌, arith, inl, inr}
use Rattle.std.specs.Prelude.{Option, None, Some, IsSome, get_or}
use Rattle.event_script.specs.LineFault.{why_bad}
use Rattle.std.proofs.lemmas.Bool.{cases_lt}
use Rattle.std.proofs.lemmas.List.{append_assoc, append-nil, take-append-drop, take-take}
use Rattle.event_script.specs.declared.fault.ScriptFault.{ScriptFault}
use Rattle.event_script.specs.declared.fault.ScriptFault.TheVariants.{OutOfMemory, Input, ReadFault, BadLine}
use Rattle.event_script.specs.Read.{IsOfInput, Refuses}
use Rattle.event_script.specs.Script.{IsFirstBad, Said, parsed_line, said_in}
use Rattle.event_script.specs.Words.{lines_of}
use Rattle.event_script.proofs.Scripts.{followed, one_more}

-- lines that are no script are none with more lines behind them
still_bad : (lines more : List (List ℕ)) → said_in lines ≡ None → said_in (lines ++ more) ≡ None
still_bad lines [] bad = ap said_in (append-nil lines) ∙ bad
still_bad lines (line ∷ more) bad =
    ap said_in (sym (append_assoc lines (line ∷ []) more))
    ∙ still_bad (lines ++ line ∷ []) more
    (one_more lines line ∙ ap (λ (said : Option Said). followed said (parsed_line line)) bad)

not_some : (said : Option Said) → said ≡ None → ¬ IsSome said
not_some None bad some = cc
not_some (Some said) bad some = cc

not_before : (lines : List (List ℕ)) (m n : ℕ) → IsFirstBad lines m → IsFirstBad lines n → ¬ (m < n)
not_before lines m n one two lt =
    let front = take (n - 1) lines in
    let same : take m front ≡ take m lines = take-take m (n - 1) lines (omega (arith, lt)) in
    let bad : said_in (take m front) ≡ None = ap said_in same ∙ one.bad in
    not_some (said_in front) (ap said_in (sym (take-append-drop m front))
    ∙ still_bad (take m front) (drop m front) bad) two.before

same_line : (lines : List (List ℕ)) (m n : ℕ) → IsFirstBad lines m → IsFirstBad lines n → m ≡ n
same_line lines m n one two = elim (cases_lt m n) [
  | inl lt ↦ absurd (not_before lines m n one two lt)
  | inr le ↦ elim (cases_lt n m) [
    | inl lt ↦ absurd (not_before lines n m two one lt)
    | inr ge ↦ omega (arith, le, ge)
  ]
]

pub one_fault : (input : List ℕ) (a b : ScriptFault) → IsOfInput a → IsOfInput b → Refuses input a → Refuses input b
    → a ≡ b
one_fault input OutOfMemory b first second one two = absurd first
one_fault input ReadFault b first second one two = absurd first
one_fault input Input OutOfMemory first second one two = absurd second
one_fault input Input ReadFault first second one two = absurd second
one_fault input Input Input first second one two = refl
one_fault input Input (BadLine n w) first second one two = absurd (one two.0)
one_fault input (BadLine m v) OutOfMemory first second one two = absurd second
one_fault input (BadLine m v) ReadFault first second one two = absurd second
one_fault input (BadLine m v) Input first second one two = absurd (two one.0)
one_fault input (BadLine m v) (BadLine n w) first second one two =
    let same : m ≡ n = same_line (lines_of input) m n one.1 two.1 in
    let why : v ≡ w = one.2 ∙ ap (λ (k : ℕ). why_bad (get_or (lines_of input) (k - 1) [])) same ∙ sym two.2 in
    ap (λ (k : ℕ). BadLine k v) same ∙ ap (BadLine n) why

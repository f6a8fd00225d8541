-- What a reader gave, and what it had.
use Rattle.std.proofs.Common.{List, ℕ, [], ◌≡◌, ◌++◌, sym, ap, subst, ◌∙◌}
use Rattle.std.specs.Prelude.{Option, Some, None, IfSome, Result, Ok, Err, IfErr, OnOk}
use Rattle.std.specs.Io.KnownBytes.{Consumes, IsAtEnd}
use Rattle.std.proofs.lemmas.List.{append-nil}
use Rattle.std.proofs.KnownBytes.{Consumes-nil, Consumes-trans}
use Rattle.page_core.specs.Input.{StaysKnown}

pub of_input : (old new : Option (List ℕ)) (given : List ℕ) (P : List ℕ → Type 0) → Consumes old new given
    → ((rest : List ℕ) → (IsAtEnd new → rest ≡ []) → P (given ++ rest)) → IfSome old P
of_input None new given P taken h = tt
of_input (Some input) None given P taken h = absurd taken
of_input (Some input) (Some rest) given P taken h = subst P (sym taken) (h rest (λ none. none))

pub at_some : (old : Option (List ℕ)) (input : List ℕ) (P : List ℕ → Type 0) → old ≡ Some input → IfSome old P → P input
at_some old input P e h = let Q : Option (List ℕ) → Type 0 = λ o. IfSome o P in subst Q e h

pub of_rest : (old mid : Option (List ℕ)) (given : List ℕ) (P : List ℕ → Type 0) → Consumes old mid given
    → IfSome mid (λ rest. P (given ++ rest)) → IfSome old P
of_rest None mid given P taken h = tt
of_rest (Some input) None given P taken h = absurd taken
of_rest (Some input) (Some rest) given P taken h = subst P (sym taken) h

pub of_all : (old new : Option (List ℕ)) (given : List ℕ) (P : List ℕ → Type 0) → Consumes old new given → IsAtEnd new
    → P given → IfSome old P
of_all old new given P taken end h = of_input old new given P taken
    (λ rest none. subst P (sym (append-nil given) ∙ ap (λ (r : List ℕ). given ++ r) (sym (none end))) h)

pub known_same : (old : Option (List ℕ)) → StaysKnown old old
known_same old = ([], Consumes-nil old)

pub known_more : (old mid new : Option (List ℕ)) → StaysKnown old mid → StaysKnown mid new → StaysKnown old new
known_more old mid new first second =
    (first.0 ++ second.0, Consumes-trans old mid new first.0 second.0 first.1 second.1)

-- ---- what follows of an answer

pub if_err : {T E : Type 0} (r : Result T E) (P Q : E → Type 0) → ((e : E) → P e → Q e) → IfErr r P → IfErr r Q
if_err (Ok x) P Q step h = tt
if_err (Err e) P Q step h = step e h

pub on_ok : {T E : Type 0} (r : Result T E) (P Q : Type 0) → (P → Q) → OnOk r P → OnOk r Q
on_ok (Ok x) P Q step h = step h
on_ok (Err e) P Q step h = tt

pub always_ok : {T E : Type 0} (r : Result T E) (P : Type 0) → P → OnOk r P
always_ok (Ok x) P h = h
always_ok (Err e) P h = tt

-- Bytes that were read, a piece after another.
use Rattle.std.proofs.Common.{◌≡◌, ℕ, ◌+◌, List, ◌++◌, take, sym, subst, ap, ◌∙◌, arith}
use Rattle.std.specs.Prelude.{Option}
use Rattle.std.specs.Io.KnownBytes.{Consumes}
use Rattle.std.proofs.lemmas.List.{append-nil}
use Rattle.page_core.specs.Input.{GoesOn}

-- a piece more
pub more_given : (start old new : Option (List ℕ)) (before after items all : List ℕ) (count : ℕ)
    → GoesOn old new (take 0 before) (take (0 + count) after) → Consumes start old items
    → all ≡ items ++ take count after → Consumes start new all
more_given start old new before after items all count goes given is =
    let counted : 0 + count ≡ count = omega arith in
    let more : items ++ take (0 + count) after ≡ all = ap (λ (k : ℕ). items ++ take k after) counted ∙ sym is in
    subst (Consumes start new) more
    (goes start items (subst (Consumes start old) (sym (append-nil items)) given))

-- and no more
pub all_given : (start old new : Option (List ℕ)) (before items : List ℕ)
    → GoesOn old new (take 0 before) (take 0 before) → Consumes start old items → Consumes start new items
all_given start old new before items goes given =
    subst (Consumes start new) (append-nil items)
    (goes start items (subst (Consumes start old) (sym (append-nil items)) given))

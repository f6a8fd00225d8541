-- Bytes that are read piece by piece.
use Rattle.std.proofs.Common.{ℕ, ◌+◌, List, ◌++◌, take, sym, subst, zero-add}
use Rattle.std.specs.Prelude.{Option}
use Rattle.std.specs.Io.KnownBytes.{Consumes}
use Rattle.std.proofs.lemmas.List.{append-nil}
use Rattle.page_core.specs.Input.{GoesOn}

-- a reader that is asked with an empty buffer goes on from what it gave before
pub took : (start old new : Option (List ℕ)) (given before after : List ℕ) (count : ℕ)
    → GoesOn old new (take 0 before) (take (0 + count) after) → Consumes start old given
    → Consumes start new (given ++ take count after)
took start old new given before after count goes h =
    subst (λ (k : ℕ). Consumes start new (given ++ take k after)) (zero-add count)
    (goes start given (subst (Consumes start old) (sym (append-nil given)) h))

pub took_none : (start old new : Option (List ℕ)) (given before : List ℕ)
    → GoesOn old new (take 0 before) (take 0 before) → Consumes start old given → Consumes start new given
took_none start old new given before goes h =
    subst (Consumes start new) (append-nil given) (goes start given (subst (Consumes start old) (sym (append-nil given)) h))

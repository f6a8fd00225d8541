-- Inputs that were read once, and whose bytes are kept.
use Rattle.std.specs.Prelude.{ℕ, ◌≡◌, ◌⊎◌, ◌++◌, List, [], ◌∷◌, Option, None, Some}
use Rattle.std.specs.Prelude.{if◌then◌else◌, string_bytes}
use Rattle.std.specs.Str.{bytes_eq}
use Rattle.file_inputs.specs.declared.read_once.KeptInput.{KeptInput}
use Rattle.file_inputs.specs.declared.read_once.OnceFile.{OnceFile}
use Rattle.file_inputs.specs.declared.read_once.OnceFile.TheVariants.{Kept, Opened}

-- the bytes that were kept under a name; of another file none are known
abbrev pub bytes_in : List KeptInput → List ℕ → Option (List ℕ)
bytes_in [] name = None
bytes_in (it ∷ rest) name =
    if bytes_eq (string_bytes it.name) name then Some it.bytes.items else bytes_in rest name

-- what an open file has left
abbrev pub left_of : OnceFile → Option (List ℕ)
left_of (Opened file) = None
left_of (Kept bytes) = Some bytes.now

-- all is kept that was, and at most a file of this name with it
abbrev pub KeepsOrAdds : List ℕ → List KeptInput → List KeptInput → Type 0
KeepsOrAdds name old new = (new ≡ old)
    ⊎ ((it : KeptInput) × (string_bytes it.name ≡ name) × (new ≡ old ++ it ∷ []))

-- The bytes of a slice that only contracts have.
use Rattle.std.specs.Prelude.{ℕ, List, [], ◌∷◌, ◌++◌}
use Rattle.file_devices.specs.declared.calls.Bytes.{Bytes, None, After'}

abbrev pub bytes_of : Bytes → List ℕ
bytes_of None = []
bytes_of (After' marker before last) = bytes_of before ++ last.value ∷ []

-- The text of a manifest.
use Rattle.std.specs.Prelude.{ℕ, ◌++◌, List, [], ◌∷◌, codes, decimal}
use Rattle.std.specs.List.{flat_map}
use Rattle.hex.specs.Hex.{encode_lower}
use Rattle.manifest.specs.declared.entry.Extent.{Extent}
use Rattle.manifest.specs.declared.entry.Extent.TheVariants.{Whole, First}
use Rattle.manifest.specs.Entries.{Noted, Listed}

-- what stands before a length, and behind it: the sum of a whole file begins a line
abbrev pub word_of : Extent → List ℕ
word_of Whole = codes "# whole "
word_of First = codes "# first "

abbrev pub break_of : Extent → ℕ
break_of Whole = 10
break_of First = 32

-- how much of a file is summed
abbrev pub length_text : Extent → ℕ → List ℕ
length_text extent bytes = word_of extent ++ (decimal bytes ++ break_of extent ∷ [])

-- a sum and a name, as `sha256sum` writes them
abbrev pub sum_text : List ℕ → List ℕ → List ℕ
sum_text sum name = encode_lower sum ++ (codes "  " ++ (name ++ 10 ∷ []))

abbrev pub entry_text : Noted → List ℕ
entry_text entry =
    length_text entry.file.extent entry.file.bytes ++ sum_text entry.file.sum.0 entry.name

abbrev pub head_text : List ℕ → List ℕ
head_text database = codes "# imgcopy manifest 1 database " ++ (encode_lower database ++ 10 ∷ [])

abbrev pub manifest_text : Listed → List ℕ
manifest_text it = head_text it.database ++ flat_map entry_text it.entries

-- Why a file that a manifest names is not compared, and how long the file is that is named.
use Rattle.std.proofs.Common.{◌≡◌, ◌⊎◌, ◌<◌, ◌≤◌, ◌^◌, ◌∙◌, ℕ, List, length, refl, ap, arith, inl, inr, sym, take}
use Rattle.std.proofs.Common.{Bool, true, false, None, Some}
use Rattle.std.specs.Prelude.{Option, if◌then◌else◌}
use Rattle.std.proofs.lemmas.List.{length-take}
use Rattle.manifest.specs.declared.entry.Extent.{Extent}
use Rattle.manifest.specs.declared.entry.Extent.TheVariants.{First, Whole}
use Rattle.manifest.specs.declared.entry.FileSum.{FileSum}
use Rattle.manifest.specs.Entries.{Listed, file_of}
use Rattle.manifest.specs.Sums.{count_of}
use Rattle.manifest.specs.Checking.{IsNamed, summed_of}
use Rattle.checked_files.specs.Known.{Fits, FitsLength, is_behind, known_of, said_by, said_of}
use Rattle.checked_files.specs.declared.known.Known.{Known}
use Rattle.checked_files.specs.declared.known.Known.TheVariants.{Named, Nothing}
use Rattle.checked_files.specs.declared.known.ManifestUse.{ManifestUse}
use Rattle.checked_files.specs.declared.known.ManifestUse.TheVariants.{Aside, Beside, Told}
use Rattle.checked_files.specs.declared.known.ReadFile.{ReadFile}

said : (in_part behind : Bool) (entry : Option FileSum) (file : FileSum) → entry ≡ Some file
    → ((if in_part then Nothing else said_by entry behind) ≡ Named file) ⊎ (in_part ≡ true) ⊎ (behind ≡ true)
said true behind entry file is = inr (inl refl)
said false true entry file is = inr (inr refl)
said false false entry file is = inl (ap (λ it. said_by it false) is)

pub reason : (choice : ManifestUse) (manifest : Listed) (it : ReadFile) (file : FileSum)
    → file_of it.name.now manifest.entries ≡ Some file
    → (known_of choice (Some manifest) it ≡ Named file)
    ⊎ (choice ≡ Aside) ⊎ (it.in_part ≡ true) ⊎ (is_behind manifest it ≡ true)
reason Aside manifest it file is = inr (inl refl)
reason Beside manifest it file is =
    elim (said it.in_part (is_behind manifest it) (file_of it.name.now manifest.entries) file is)
    [ inl named ↦ inl named | inr why ↦ inr (inr why) ]
reason (Told told) manifest it file is =
    elim (said it.in_part (is_behind manifest it) (file_of it.name.now manifest.entries) file is)
    [ inl named ↦ inl named | inr why ↦ inr (inr why) ]

fits : (extent : Extent) (count : ℕ) (bytes : List ℕ) → length bytes < 2 ^ 64
    → count ≡ count_of (summed_of extent count bytes) → Fits extent count (length bytes)
fits Whole count bytes few is = omega (arith, few, is)
fits First count bytes few is = omega (arith, few, is, length-take count bytes)

pub named_fits : (file : FileSum) (bytes : List ℕ) → length bytes < 2 ^ 64 → IsNamed file bytes
    → FitsLength file (length bytes)
named_fits file bytes few it = fits file.extent file.bytes bytes few it.many

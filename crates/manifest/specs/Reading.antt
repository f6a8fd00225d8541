-- An entry that is read behind those of a manifest.
use Rattle.std.specs.Prelude.{ℕ, ◌≡◌, ◌≢◌, ◌<◌, ◌++◌, List, [], ◌∷◌, length}
use Rattle.manifest.specs.declared.reading.Stop.{Stop}
use Rattle.manifest.specs.declared.reading.Stop.TheVariants.{OutOfMemory, Bad}
use Rattle.manifest.specs.Entries.{IsNoted, Lacks, Listed, Noted}
use Rattle.manifest.specs.Text.{entry_text}

-- the manifest after one entry more
abbrev pub with_entry : Listed → Noted → Listed
with_entry it entry =
    record { database = it.database; entries = it.entries ++ entry ∷ [] }

-- an entry may stand behind those of a manifest
pub record MayFollow (it : Listed) (entry : Noted) : Type 0 where
  pub noted : IsNoted entry
  pub new : Lacks entry.name it.entries
  pub few : length it.entries < 4096

-- an entry that may follow stands here, and is added
pub record TakesEntry (old new : Listed) (bytes rest : List ℕ) : Type 0 where
  pub entry : Noted
  pub follows : MayFollow old entry
  pub text : bytes ≡ entry_text entry ++ rest
  pub added : new ≡ with_entry old entry

-- no entry that may follow stands here
abbrev pub Ends : Listed → List ℕ → Type 0
Ends it bytes =
    (entry : Noted) (rest : List ℕ) → MayFollow it entry → bytes ≢ entry_text entry ++ rest

abbrev pub StopsAt : Listed → List ℕ → Stop → Type 0
StopsAt it bytes OutOfMemory = Unit {0}
StopsAt it bytes (Bad left why) = Ends it bytes

-- A new database.
use Rattle.std.proofs.Common.{◌≡◌, ℕ, subst, sym}
use Rattle.std.specs.Prelude.{IfSome, Option, Some}
use Rattle.engine_rules.specs.EngineState.{EngineState, new_state}
use Rattle.saved_files.specs.Folder.{Entries}
use Rattle.database_files.specs.DatabaseFolder.{HasNoOtherVolume}
use Rattle.database_opening.specs.Opened.{BeginsAnew, IsNew}
use Rattle.database_files.specs.Found.{TellsOfNoLog}
use Rattle.database_opening.specs.declared.first_line.FirstLine.{FirstLine}
use Rattle.database_opening.specs.declared.first_line.FirstLine.TheVariants.{New}

is_new : (told : Option ℕ) (pages frames : ℕ) (first : FirstLine) (engine : EngineState) → told ≡ Some pages
    → engine ≡ new_state pages frames → first ≡ New pages → IsNew told frames first engine
is_new told pages frames first engine is made said =
    subst (λ (t : Option ℕ). IsNew t frames first engine) (sym is) (made, said)

pub begins_anew : (entries : Option Entries) (told : Option ℕ) (pages frames : ℕ) (first : FirstLine)
    (engine : EngineState) → IfSome entries TellsOfNoLog → HasNoOtherVolume entries → told ≡ Some pages
    → engine ≡ new_state pages frames → first ≡ New pages → BeginsAnew entries told frames first engine
begins_anew entries told pages frames first engine none volume is made said =
    (none, volume, is_new told pages frames first engine is made said)

-- Copies that are taken up, one after another.
use Rattle.std.proofs.Common.{◌≡◌, ◌++◌, List, [], ◌∷◌}
use Rattle.std.proofs.lemmas.Grind.{fold-append}
use Rattle.database_opening.specs.Copies.{ids_passed, ids_unread}
use Rattle.database_files.specs.declared.found_copies.CopyFile.{CopyFile}

pub ids_more : (files : List CopyFile) (file : CopyFile)
    → ids_unread (files ++ file ∷ []) ≡ ids_passed (ids_unread files) file
ids_more files file = fold-append ids_passed [] files (file ∷ [])

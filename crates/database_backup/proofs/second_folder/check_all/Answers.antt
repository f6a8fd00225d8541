use Rattle.std.proofs.Common.{◌∙◌, ℕ, List, subst}
use Rattle.std.specs.Prelude.{IfSome}
use Rattle.std.specs.List.{All}
use Rattle.std.proofs.lemmas.List.{take_all}
use Rattle.saved_files.specs.Saved.{name_of}
use Rattle.saved_files.specs.declared.saved_name.SavedName.TheVariants as saved
use Rattle.database_backup.specs.Backups.{IsCopyOf}
use Rattle.database_backup.proofs.SecondFolders.{of_same_read}
use Rattle.database_backup.proofs.second_folder.check_all.Goals as goal

pub returns : goal.returns
returns g c =
    let first = g.O.Folder.entries c.args.from.now in
    let second = g.F.Folder.entries c.args.folder.now in
    of_same_read (λ it. it.items) first c.args.log.now c.args.copies.now c.in_ok-older.older second
    c.in_ok-older.ensures c.in_ok-check_beginning.ensures.begins
    (λ none. c.in_ok-check_master.ensures (c.is_some.ensures ∙ none))
    (subst (λ (ids : List ℕ). IfSome second (λ it.
    All (λ id. IsCopyOf first (name_of (saved.Copy id)) (it (name_of (saved.Copy id)))) ids))
    (take_all c.loop-id.id-index c.args.copies.now c.loop-id-test.false) c.loop-id.invariant)

use Rattle.std.proofs.Common.{◌≡◌, ◌∙◌, ◌<◌, ℕ, List, ap, arith, get_or, length, map, string_bytes, subst, sym}
use Rattle.std.specs.List.{Contains}
use Rattle.std.proofs.lemmas.List.{get_or-map, length-map}
use Rattle.saved_files.specs.Folder.{Changes, KeepsOthers}
use Rattle.database_files.proofs.FolderChanges.{none_removed, removed_more}
use Rattle.database_files.proofs.inventory.remove_all.Goals as goal

there_too : {A B : Type 0} (f : A → B) (xs : List A) (i : ℕ) (x : A) → i < length xs → x ≡ get_or xs i x
    → Contains (map f xs) (f x)
there_too f xs i x lt is =
    (i, omega (arith, lt, length-map xs f), get_or-map f xs i x (f x) lt ∙ ap f (sym is))

pub loop-name-init : goal.loop-name-init
loop-name-init g c = record {
  claimed = c.requires;
  others = none_removed (map string_bytes c.args.names.now) (g.F.Folder.entries c.args.folder.now);
}

pub loop-name-preserved : goal.loop-name-preserved
loop-name-preserved g c = record {
  claimed = c.remove_file.ensures.claimed;
  others = removed_more (map string_bytes c.args.names.now) (string_bytes c.name-item.result) _ _ _
      (there_too string_bytes c.args.names.now c.loop-name.name-index c.name-item.result c.loop-name-test.true c.name-item.is)
      c.loop-name.invariant.others
      (subst (λ (n : List ℕ). Changes (KeepsOthers n) (g.F.Folder.entries c.loop-name.folder)
      (g.F.Folder.entries c.remove_file.new.folder)) c.as_str.ensures.value c.remove_file.ensures.others);
}

pub returns-in_err-remove_file-clause-others : goal.returns-in_err-remove_file-clause-others
returns-in_err-remove_file-clause-others g c =
    removed_more (map string_bytes c.args.names.now) (string_bytes c.name-item.result) _ _ _
    (there_too string_bytes c.args.names.now c.loop-name.name-index c.name-item.result c.loop-name-test.true c.name-item.is)
    c.loop-name.invariant.others
    (subst (λ (n : List ℕ). Changes (KeepsOthers n) (g.F.Folder.entries c.loop-name.folder)
    (g.F.Folder.entries c.remove_file.new.folder)) c.as_str.ensures.value c.remove_file.ensures.others)

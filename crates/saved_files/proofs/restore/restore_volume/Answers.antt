use Rattle.std.proofs.Common.{◌≡◌, ◌∙◌, refl, ap, map, subst, List, ℕ, IfErr, OnOk}
use Rattle.std.specs.Prelude.{Option}
use Rattle.media_restore.specs.Files.{Files, Leaves, WritesVolume}
use Rattle.saved_files.proofs.restore.restore_volume.Goals as goal

-- what files of these bytes are
abbrev files_of : Option (List ℕ) → Option (List ℕ) → List (Option (List ℕ)) → Files
files_of log master archives = record { log = log; master = master; archives = archives }

-- files of the same bytes are the same
same_files : {a b c d : Option (List ℕ)} {xs ys : List (Option (List ℕ))}
    → a ≡ b → c ≡ d → xs ≡ ys → files_of a c xs ≡ files_of b d ys
same_files log master archives = rw (log, master, archives) refl

pub returns-clause-ok : goal.returns-clause-ok
returns-clause-ok g c =
    subst (λ files. OnOk c.restore_files.result (WritesVolume files
    (g.W.Write.contents c.args.writer.now) (g.W.Write.contents c.restore_files.new.writer)))
    (same_files c.told_late-log.ensures c.told_late-master.ensures (ap (map _) c.deref_mut.ensures.value ∙ c.in_ok-readers.ensures))
    c.restore_files.ensures.ok

pub returns-clause-err : goal.returns-clause-err
returns-clause-err g c =
    subst (λ files. IfErr c.restore_files.result (Leaves files
    (g.W.Write.contents c.args.writer.now) (g.W.Write.contents c.restore_files.new.writer)))
    (same_files c.told_late-log.ensures c.told_late-master.ensures (ap (map _) c.deref_mut.ensures.value ∙ c.in_ok-readers.ensures))
    c.restore_files.ensures.err

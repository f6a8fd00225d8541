use Rattle.std.proofs.Common.{◌∙◌, refl, rules, sym, ap, arith}
use Rattle.std.specs.Prelude.{option_map, Some}
use Rattle.log_records.specs.Log.{Log, log_bytes}
use Rattle.log_store.specs.Master.{master_bytes}
use Rattle.manifest.specs.Entries.{Listed}
use Rattle.saved_files.specs.declared.saved_name.SavedName.TheVariants as name
use Rattle.saved_files.specs.Saved.{parts_of}
use Rattle.checked_files.proofs.Lefts.{asked_copy, no_other_more, no_other_past, none_copy, none_more, none_noted, none_other, noted_more}
use Rattle.checked_files.proofs.left_manifest.manifest_of.Goals.{in-Some-complete+in_ok-note_file-3, in_default-complete}
use Rattle.checked_files.proofs.left_manifest.manifest_of.Goals.{in-Some+in_ok-note_file-2, in_default}
use Rattle.checked_files.proofs.left_manifest.manifest_of.Goals as goal

-- the files before the copies, of which none has the id 0
pub loop-id-init : goal.loop-id-init
loop-id-init c =
    let parts = parts_of c.args.retired.now in
    let log = c.in_ok-note_file.ensures.noted in
    let noted = noted_more parts name.Log _ _ _ 1 (omega arith) (omega arith)
    (ap (λ (log : Log). Some (log_bytes log)) (sym c.log.ensures.log)) (none_noted parts _) log in
    let only = no_other_more parts name.Log _ _ _ _ 1 (omega arith) refl
    (none_other parts _ (ap (λ (it : Listed). it.entries) c.new-manifest.ensures)) log in
    elim c.match-master.branch [
      | in-Some+in_ok-note_file-2 w ↦
          let asked = ap (option_map master_bytes) (sym c.master.ensures.master ∙ w.in-Some.is) in
          let master = w.in_ok-note_file-2.ensures.noted in
          rw w.manifest-is (record {
            noted = none_more parts (name.Copy 0) _ 3 (omega arith) refl
                (noted_more parts name.Master _ _ _ 2 (omega arith) (omega arith) asked noted master);
            only = no_other_past parts (name.Copy 0) _ 3 (omega arith)
                (no_other_more parts name.Master _ _ _ _ 2 (omega arith) asked only master);
            database = search rules;
          })
      | in_default w ↦ rw w.manifest-is (record {
        noted = none_more parts (name.Copy 0) _ 3 (omega arith) refl
            (none_more parts name.Master _ 2 (omega arith) (search rules) noted);
        only = no_other_past parts (name.Copy 0) _ 3 (omega arith)
            (no_other_past parts name.Master _ 2 (omega arith) only);
        database = search rules;
      })
    ]

pub loop-id-preserved : goal.loop-id-preserved
loop-id-preserved c =
    let it = c.args.retired.now in
    elim c.match-complete.branch [
      | in-Some-complete+in_ok-note_file-3 w ↦
          let asked = asked_copy it c.vault-vault.result.now.copies c.loop-id.id w.in-Some-complete.copy.now
          c.vault-vault.ensures
          (sym (ap (option_map (λ copy. copy.now)) w.in-Some-complete.is) ∙ c.complete.ensures) in
          rw w.manifest-is (record {
            noted = noted_more (parts_of it) (name.Copy c.loop-id.id) _ _ _ _ (omega arith) (omega arith) asked
                c.loop-id.invariant.noted w.in_ok-note_file-3.ensures.noted;
            only = no_other_more (parts_of it) (name.Copy c.loop-id.id) _ _ _ _ _ (omega arith) asked
                c.loop-id.invariant.only w.in_ok-note_file-3.ensures.noted;
            database = w.in_ok-note_file-3.ensures.database ∙ c.loop-id.invariant.database;
          })
      | in_default-complete w ↦ rw w.manifest-is (record {
        noted = none_more (parts_of it) (name.Copy c.loop-id.id) _ _ (omega arith)
            (none_copy it c.vault-vault.result.now.copies c.loop-id.id c.vault-vault.ensures
            w.in_default-complete.ensures) c.loop-id.invariant.noted;
        only = no_other_past (parts_of it) (name.Copy c.loop-id.id) _ _ (omega arith) c.loop-id.invariant.only;
        database = c.loop-id.invariant.database;
      })
    ]

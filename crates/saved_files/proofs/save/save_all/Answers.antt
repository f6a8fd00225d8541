use Rattle.std.proofs.Common.{◌≡◌, ◌∙◌, ℕ, zero, suc, ◌+◌, ◌<◌, List, length, inl, inr, refl, sym, ap, arith}
use Rattle.std.proofs.lemmas.Bool.{cases_lt}
use Rattle.std.proofs.lemmas.Result.{err_from_is_err_and}
use Rattle.std.proofs.Math.ListN.{get_or-eq_default}
use Rattle.std.specs.Prelude.{Some, None, option_map}
use Rattle.copy_vault.specs.Archive.{archive_bytes}
use Rattle.copy_vault.specs.Copy.{CopyView}
use Rattle.copy_vault.specs.Vault.{CopyState, complete_of, dropped, state_of}
use Rattle.copy_coverage.specs.Retired.{IsRetired, RetiredView}
use Rattle.log_records.specs.Log.{Log, log_bytes}
use Rattle.log_store.specs.Master.{master_bytes}
use Rattle.saved_files.specs.declared.saved_name.SavedName.{SavedName}
use Rattle.saved_files.specs.declared.saved_name.SavedName.TheVariants as name
use Rattle.saved_files.specs.Saved.{parts_of, place_of}
use Rattle.saved_files.proofs.Saves.{first_left, first_saved, last_saved, next_left, next_none, next_saved, of_part}
use Rattle.saved_files.proofs.save.save_all.Goals.{in-Some+in_ok-save_file-2, in_default}
use Rattle.saved_files.proofs.save.save_all.Goals.{in-Some-complete+in_ok-save_file-3, in_default-complete}
use Rattle.saved_files.proofs.save.save_all.Goals as goal

-- an id that was not given is that of no complete copy
none_past : (copies : List CopyState) (id : ℕ) → length copies < id → complete_of (state_of copies id) ≡ None
none_past copies zero lt = refl
none_past copies (suc k) lt =
    let gone : state_of copies (suc k) ≡ dropped = get_or-eq_default copies dropped (omega (arith, lt)) in
    ap complete_of gone

-- each file has a place below those of the copies that may be
within : (it : RetiredView) → IsRetired it → (name : SavedName) (bytes : List ℕ) → parts_of it name ≡ Some bytes
    → place_of name < 1027
within it few name.Log bytes asked = omega arith
within it few name.Master bytes asked = omega arith
within it few (name.Copy id) bytes asked = elim (cases_lt (length it.copies) id) [
  | inl lt ↦ let none = none_past it.copies id lt in cc
  | inr le ↦ omega (arith, le, few.copies.few)
]

-- a complete copy is asked for
asked_copy : (it : RetiredView) (copies : List CopyState) (id : ℕ) (copy : CopyView) → copies ≡ it.copies
    → Some copy ≡ complete_of (state_of copies id) → parts_of it (name.Copy id) ≡ Some (archive_bytes copy)
asked_copy it copies id copy same is =
    ap (λ (cs : List CopyState). option_map archive_bytes (complete_of (state_of cs id))) (sym same)
    ∙ ap (option_map archive_bytes) (sym is)

none_copy : (it : RetiredView) (copies : List CopyState) (id : ℕ) → copies ≡ it.copies
    → None ≡ complete_of (state_of copies id) → parts_of it (name.Copy id) ≡ None
none_copy it copies id same is =
    ap (λ (cs : List CopyState). option_map archive_bytes (complete_of (state_of cs id))) (sym same)
    ∙ ap (option_map archive_bytes) (sym is)

pub returns-in_err-save_file-clause-left : goal.returns-in_err-save_file-clause-left
returns-in_err-save_file-clause-left g c =
    let asked = ap (λ (log : Log). Some (log_bytes log)) (sym c.log.ensures.log) in
    let p = err_from_is_err_and c.from_residual.result c.from_residual.ensures.1 in
    rw (p.1, p.2)
    (first_left (parts_of c.args.retired.now) _ _ _ _ _ _ asked c.in_err-save_file.ensures.left)

pub returns-in_err-save_file-clause-of_part : goal.returns-in_err-save_file-clause-of_part
returns-in_err-save_file-clause-of_part g c =
    let asked = ap (λ (log : Log). Some (log_bytes log)) (sym c.log.ensures.log) in
    let p = err_from_is_err_and c.from_residual.result c.from_residual.ensures.1 in
    rw (p.1, p.2) (of_part (parts_of c.args.retired.now) name.Log _ _ asked c.in_err-save_file.ensures.of_file)

pub returns-in_err-save_file-2-clause-left : goal.returns-in_err-save_file-2-clause-left
returns-in_err-save_file-2-clause-left g c =
    let parts = parts_of c.args.retired.now in
    let far = first_saved parts _ _ _ (ap (λ (log : Log). Some (log_bytes log)) (sym c.log.ensures.log))
    c.in_ok-save_file.ensures.put in
    let asked = ap (option_map master_bytes) (sym c.master.ensures.master) ∙ ap (option_map master_bytes) c.in-Some.is in
    let p = err_from_is_err_and c.from_residual-in_err-save_file-2.result
    c.from_residual-in_err-save_file-2.ensures.1 in
    rw (p.1, p.2)
    (next_left parts name.Master _ _ _ _ _ _ _ _ (omega arith) asked c.in_ok-save_file.ensures.given_up far
    c.in_err-save_file-2.ensures.left)

pub returns-in_err-save_file-2-clause-of_part : goal.returns-in_err-save_file-2-clause-of_part
returns-in_err-save_file-2-clause-of_part g c =
    let asked = ap (option_map master_bytes) (sym c.master.ensures.master) ∙ ap (option_map master_bytes) c.in-Some.is in
    let p = err_from_is_err_and c.from_residual-in_err-save_file-2.result
    c.from_residual-in_err-save_file-2.ensures.1 in
    rw (p.1, p.2)
    (of_part (parts_of c.args.retired.now) name.Master _ _ asked c.in_err-save_file-2.ensures.of_file)

pub loop-id-init : goal.loop-id-init
loop-id-init g c =
    let parts = parts_of c.args.retired.now in
    let far = first_saved parts _ _ _ (ap (λ (log : Log). Some (log_bytes log)) (sym c.log.ensures.log))
    c.in_ok-save_file.ensures.put in
    elim c.match-master.branch [
      | in-Some+in_ok-save_file-2 w ↦
          let asked = ap (option_map master_bytes) (sym c.master.ensures.master)
          ∙ ap (option_map master_bytes) w.in-Some.is in
          rw w.folder-is (record {
            saved = next_none parts (name.Copy 0) _ _ 3 refl refl
                (next_saved parts name.Master _ _ _ _ 2 (omega arith) refl asked far w.in_ok-save_file-2.ensures.put);
            given_up = w.in_ok-save_file-2.ensures.given_up ∙ c.in_ok-save_file.ensures.given_up;
            claimed = w.in_ok-save_file-2.ensures.claimed;
          })
      | in_default w ↦
          let none = ap (option_map master_bytes) (sym c.master.ensures.master)
          ∙ ap (option_map master_bytes) w.in_default.is in
          rw w.folder-is (record {
            saved = next_none parts (name.Copy 0) _ _ 3 refl refl (next_none parts name.Master _ _ 2 refl none far);
            given_up = c.in_ok-save_file.ensures.given_up;
            claimed = c.in_ok-save_file.ensures.claimed;
          })
    ]

pub returns-in_err-save_file-3-clause-left : goal.returns-in_err-save_file-3-clause-left
returns-in_err-save_file-3-clause-left g c =
    let it = c.args.retired.now in
    let asked = asked_copy it c.vault-vault.result.now.copies c.loop-id.id c.in-Some-complete.copy.now
    c.vault-vault.ensures
    (sym (ap (option_map (λ copy. copy.now)) c.in-Some-complete.is) ∙ c.complete.ensures) in
    let p = err_from_is_err_and c.from_residual-in_err-save_file-3.result
    c.from_residual-in_err-save_file-3.ensures.1 in
    rw (p.1, p.2)
    (next_left (parts_of it) (name.Copy c.loop-id.id) _ _ _ _ _ _ _ _ (omega arith) asked c.loop-id.invariant.given_up
    c.loop-id.invariant.saved c.in_err-save_file-3.ensures.left)

pub returns-in_err-save_file-3-clause-of_part : goal.returns-in_err-save_file-3-clause-of_part
returns-in_err-save_file-3-clause-of_part g c =
    let it = c.args.retired.now in
    let asked = asked_copy it c.vault-vault.result.now.copies c.loop-id.id c.in-Some-complete.copy.now
    c.vault-vault.ensures (sym (ap (option_map (λ copy. copy.now)) c.in-Some-complete.is) ∙ c.complete.ensures) in
    let p = err_from_is_err_and c.from_residual-in_err-save_file-3.result
    c.from_residual-in_err-save_file-3.ensures.1 in
    rw (p.1, p.2)
    (of_part (parts_of it) (name.Copy c.loop-id.id) _ _ asked c.in_err-save_file-3.ensures.of_file)

pub loop-id-preserved : goal.loop-id-preserved
loop-id-preserved g c =
    let it = c.args.retired.now in
    elim c.match-complete.branch [
      | in-Some-complete+in_ok-save_file-3 w ↦
          let asked = asked_copy it c.vault-vault.result.now.copies c.loop-id.id w.in-Some-complete.copy.now
          c.vault-vault.ensures
          (sym (ap (option_map (λ copy. copy.now)) w.in-Some-complete.is) ∙ c.complete.ensures) in
          rw w.folder-is (record {
            saved = next_saved (parts_of it) (name.Copy c.loop-id.id) _ _ _ _ _ (omega arith) (omega arith) asked
                c.loop-id.invariant.saved w.in_ok-save_file-3.ensures.put;
            given_up = w.in_ok-save_file-3.ensures.given_up ∙ c.loop-id.invariant.given_up;
            claimed = w.in_ok-save_file-3.ensures.claimed;
          })
      | in_default-complete w ↦ rw w.folder-is (record {
        saved = next_none (parts_of it) (name.Copy c.loop-id.id) _ _ _ (omega arith)
            (none_copy it c.vault-vault.result.now.copies c.loop-id.id c.vault-vault.ensures
            w.in_default-complete.ensures) c.loop-id.invariant.saved;
        given_up = c.loop-id.invariant.given_up;
        claimed = c.loop-id.invariant.claimed;
      })
    ]

pub returns-clause-saved : goal.returns-clause-saved
returns-clause-saved g c =
    last_saved (parts_of c.args.retired.now) (2 + c.loop-id.id) _ _
    (λ name bytes asked. omega (arith, within c.args.retired.now c.log.ensures.kept name bytes asked))
    c.loop-id.invariant.saved

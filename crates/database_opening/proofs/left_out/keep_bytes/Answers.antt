use Rattle.std.proofs.Common.{◌≡◌, List, ℕ, subst, sym, ◌∙◌}
use Rattle.std.specs.Prelude.{OnOk}
use Rattle.saved_files.specs.Folder.{Changes, Puts}
use Rattle.database_files.specs.MovedAside.{IsFree}
use Rattle.database_opening.proofs.Forgotten.{note_put}
use Rattle.database_files.proofs.Public.{put_and_synced}
use Rattle.database_opening.proofs.left_out.keep_bytes.Goals as goal

pub returns-clause-kept : goal.returns-clause-kept
returns-clause-kept g c =
    let name = c.as_str.result.now in
    let entries = g.F.Folder.entries in (
      name,
      (λ same. c.in_ok-name.ensures.apart (sym c.as_str.ensures.value ∙ same)),
      subst (λ (n : List ℕ). IsFree n (entries c.args.folder.now)) (sym c.as_str.ensures.value)
          c.in_ok-name.ensures.free,
      put_and_synced name (λ it. it ≡ c.args.bytes.now) (entries c.args.folder.now)
          (entries c.put_in_place-put.new.folder) (entries c.sync_names.new.self)
          (subst (λ r. OnOk r (Changes (Puts name (λ it. it ≡ c.args.bytes.now)) (entries c.args.folder.now)
          (entries c.put_in_place-put.new.folder))) c.in_default.is c.put_in_place-put.ensures.put)
          c.sync_names.ensures.same,
    )

pub returns-clause-note : goal.returns-clause-note
returns-clause-note g c =
    let name = c.as_str.result.now in
    let entries = g.F.Folder.entries in
    note_put name (λ it. it ≡ c.args.bytes.now) (entries c.args.folder.now) (entries c.put_in_place-put.new.folder)
    (entries c.sync_names.new.self) (λ same. c.in_ok-name.ensures.apart (sym c.as_str.ensures.value ∙ same))
    (subst (λ r. OnOk r (Changes (Puts name (λ it. it ≡ c.args.bytes.now)) (entries c.args.folder.now)
    (entries c.put_in_place-put.new.folder))) c.in_default.is c.put_in_place-put.ensures.put)
    c.sync_names.ensures.same

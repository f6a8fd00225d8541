use Rattle.std.proofs.Common.{rules, ◌≡◌, [], ◌∷◌, ◌++◌, length, ap, refl, sym, subst, ◌∙◌, arith}
use Rattle.std.proofs.lemmas.List.{length-take}
use Rattle.std.specs.Prelude.{is_ok, true}
use Rattle.file_devices.specs.Calls.{call, done}
use Rattle.file_devices.specs.FileLog.{LogOnDisk, known_of, synced_of}
use Rattle.file_devices.specs.declared.calls.Request.TheVariants.{SetLen}
use Rattle.file_devices.proofs.Kept.{kept_next, when_ok}
use Rattle.file_devices.proofs.Knowns.{KnowsFirst, bytes-cut, knows-cut}
use Rattle.file_devices.proofs.file_log.FileLog.cut.Goals as goal

pub invariant_of-self-2 : goal.invariant_of-self-2
invariant_of-self-2 g c =
    let disk = c.self.inside.disk in
    let end = c.self.inside.end in
    let ok : is_ok c.set_len.result ≡ true = search rules in
    let calls : c.set_len.new.self.calls ≡ disk.calls ++ done (SetLen end) ∷ [] =
    c.set_len.ensures.calls ∙ ap (λ b. disk.calls ++ call (SetLen end) b ∷ []) ok in
    let knows : KnowsFirst end (known_of disk.calls) (known_of c.set_len.new.self.calls) =
    subst (λ cs. KnowsFirst end (known_of disk.calls) (known_of cs)) (sym calls)
    (knows-cut disk.calls end c.self.invariant.lasts) in
    let cut = when_ok c.set_len.result ok c.set_len.ensures.cut in
    kept_next _ _ c.self.invariant refl refl refl refl knows c.set_len.ensures.clean c.set_len.ensures.kept
    (λ _. omega (arith, cut))
    (λ _. omega (
      arith,
      ap (λ cs. length (known_of cs).bytes) calls,
      ap length (bytes-cut disk.calls end c.self.invariant.lasts),
      length-take end (known_of disk.calls).bytes,
    ))

pub returns-clause-same : goal.returns-clause-same
returns-clause-same g c =
    let disk = c.self.inside.disk in
    let end = c.self.inside.end in
    let ok : is_ok c.set_len.result ≡ true = search rules in
    let calls : c.set_len.new.self.calls ≡ disk.calls ++ done (SetLen end) ∷ [] =
    c.set_len.ensures.calls ∙ ap (λ b. disk.calls ++ call (SetLen end) b ∷ []) ok in
    let knows : KnowsFirst end (known_of disk.calls) (known_of c.set_len.new.self.calls) =
    subst (λ cs. KnowsFirst end (known_of disk.calls) (known_of cs)) (sym calls)
    (knows-cut disk.calls end c.self.invariant.lasts) in
    knows.bytes ∙ ap (λ (v : LogOnDisk g.row.D.Denot). synced_of v) c.self.view_is

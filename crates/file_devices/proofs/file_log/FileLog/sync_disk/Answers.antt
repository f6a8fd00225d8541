use Rattle.std.proofs.Common.{rules, ◌≡◌, ◌+◌, ◌≤◌, [], ◌∷◌, ◌++◌, length, ap, refl, sym, subst, ◌∙◌, arith}
use Rattle.std.specs.Prelude.{IsTrue, is_ok, true}
use Rattle.file_devices.specs.Calls.{call, done}
use Rattle.file_devices.specs.FileLog.{IsTrusted, LogOnDisk, bytes_of, known_of}
use Rattle.file_devices.specs.TrackedDisk.{Begins}
use Rattle.file_devices.specs.declared.calls.Request.TheVariants.{Sync}
use Rattle.file_devices.proofs.Kept.{kept_settled, length-bytes, when_ok}
use Rattle.file_devices.proofs.file_log.FileLog.sync_disk.Goals as goal

pub invariant_of-self-2 : goal.invariant_of-self-2
invariant_of-self-2 g c =
    let disk = c.self.inside.disk in
    let ok : is_ok c.sync-synced.result ≡ true = search rules in
    let count : c.len.result ≡ length c.self.inside.waiting.items = search rules in
    let calls : c.sync-synced.new.self.calls ≡ disk.calls ++ done Sync ∷ [] =
    c.sync-synced.ensures.calls ∙ ap (λ b. disk.calls ++ call Sync b ∷ []) ok in
    let end = ap (λ n. c.self.inside.end + n) count ∙ sym (length-bytes _ c.self.invariant) in
    let known = subst (λ (v : LogOnDisk g.row.D.Denot). Begins (bytes_of v) (known_of v.calls).bytes)
    (sym c.self.view_is) c.requires.known in
    let seen = subst (λ (v : LogOnDisk g.row.D.Denot). IsTrusted g.D.Disk.is_clean v
    → Begins (bytes_of v) (g.D.Disk.seen v.disk)) (sym c.self.view_is) c.requires.seen in
    let alone = subst (λ (v : LogOnDisk g.row.D.Denot). IsTrue c.args.is_clear
    → (length (g.D.Disk.seen v.disk) ≤ length (bytes_of v)) × (length (known_of v.calls).bytes ≤ length (bytes_of v)))
    (sym c.self.view_is) c.requires.alone in
    kept_settled _ _ c.self.invariant calls end c.clear.ensures.items refl c.sync-synced.ensures.clean known
    (λ trusted. when_ok c.sync-synced.result ok c.sync-synced.ensures.lasts _ (seen trusted))
    (λ is. omega (arith, ap length c.sync-synced.ensures.seen, (alone is).0))
    (λ is. (alone is).1)

pub returns-clause-end : goal.returns-clause-end
returns-clause-end g c =
    let count : c.len.result ≡ length c.self.inside.waiting.items = search rules in
    ap (λ n. c.self.inside.end + n) count ∙ sym (length-bytes _ c.self.invariant)
    ∙ ap (λ (v : LogOnDisk g.row.D.Denot). length (bytes_of v)) c.self.view_is

use Rattle.std.proofs.Common.{rules, ◌≡◌, [], ◌∷◌, ◌++◌, length, take, ap, refl, sym, subst, ◌∙◌, arith}
use Rattle.std.specs.Prelude.{IsTrue, is_ok, true}
use Rattle.file_devices.specs.Calls.{call, done}
use Rattle.file_devices.specs.FileLog.{IsTrusted, LogOnDisk, bytes_of, known_of, synced_of}
use Rattle.file_devices.specs.TrackedDisk.{Begins}
use Rattle.file_devices.specs.declared.calls.Request.TheVariants.{Write}
use Rattle.file_devices.proofs.Kept.{kept_next, length-bytes, length-synced, never, when_ok}
use Rattle.file_devices.proofs.Knowns.{KnowsFirst, bytes-written, knows-written}
use Rattle.file_devices.proofs.file_log.FileLog.write.Goals as goal

pub invariant_of-self-else-is_err : goal.invariant_of-self-else-is_err
invariant_of-self-else-is_err g c =
    let disk = c.self.inside.disk in
    let end = c.self.inside.end in
    let next = c.deref.result.now in
    let ok : is_ok c.write_at-written.result ≡ true = search rules in
    let clear : IsTrue c.self.inside.is_clear =
    subst (λ (v : LogOnDisk g.row.D.Denot). IsTrue v.is_clear) (sym c.self.view_is) c.requires.clear in
    let short = c.self.invariant.known clear in
    let calls : c.write_at-written.new.self.calls ≡ disk.calls ++ done (Write end next) ∷ [] =
    c.write_at-written.ensures.calls ∙ ap (λ b. disk.calls ++ call (Write end next) b ∷ []) ok in
    let knows : KnowsFirst end (known_of disk.calls) (known_of c.write_at-written.new.self.calls) =
    subst (λ cs. KnowsFirst end (known_of disk.calls) (known_of cs)) (sym calls)
    (knows-written disk.calls end c.self.invariant.lasts next short) in
    kept_next _ _ c.self.invariant refl refl refl refl knows c.write_at-written.ensures.clean
    c.write_at-written.ensures.kept never never

pub returns-clause-known : goal.returns-clause-known
returns-clause-known g c =
    let disk = c.self.inside.disk in
    let end = c.self.inside.end in
    let next = c.deref.result.now in
    let ok : is_ok c.write_at-written.result ≡ true = search rules in
    let clear : IsTrue c.self.inside.is_clear =
    subst (λ (v : LogOnDisk g.row.D.Denot). IsTrue v.is_clear) (sym c.self.view_is) c.requires.clear in
    let short = c.self.invariant.known clear in
    let calls : c.write_at-written.new.self.calls ≡ disk.calls ++ done (Write end next) ∷ [] =
    c.write_at-written.ensures.calls ∙ ap (λ b. disk.calls ++ call (Write end next) b ∷ []) ok in
    ap (λ cs. (known_of cs).bytes) calls ∙ bytes-written disk.calls end c.self.invariant.lasts next short
    ∙ ap (λ w. take end (known_of disk.calls).bytes ++ w) c.deref.ensures.value
    ∙ ap (λ (v : LogOnDisk g.row.D.Denot). bytes_of v) c.self.view_is

pub returns-clause-written : goal.returns-clause-written
returns-clause-written g c trusted =
    let disk = c.self.inside.disk in
    let front = take c.self.inside.end (known_of disk.calls).bytes in
    let ok : is_ok c.write_at-written.result ≡ true = search rules in
    let trust =
    subst (λ (v : LogOnDisk g.row.D.Denot). IsTrusted g.D.Disk.is_clean v) (sym c.self.view_is) trusted in
    let begins : Begins front (g.D.Disk.seen disk.disk) =
    c.self.invariant.left trust (g.D.Disk.seen disk.disk) (g.met.D.Disk.seen_may_stay disk.disk) in
    let written = when_ok c.write_at-written.result ok c.write_at-written.ensures.written front
    (length-synced _ c.self.invariant) begins in
    subst (λ bytes. Begins bytes (g.D.Disk.seen c.write_at-written.new.self.disk))
    (ap (λ w. front ++ w) c.deref.ensures.value ∙ ap (λ (v : LogOnDisk g.row.D.Denot). bytes_of v) c.self.view_is)
    written

pub returns-clause-alone : goal.returns-clause-alone
returns-clause-alone g c =
    let clear : IsTrue c.self.inside.is_clear =
    subst (λ (v : LogOnDisk g.row.D.Denot). IsTrue v.is_clear) (sym c.self.view_is) c.requires.clear in
    omega (
      arith,
      c.write_at-written.ensures.short,
      c.self.invariant.alone clear,
      ap length c.deref.ensures.value,
      length-bytes _ c.self.invariant,
      ap (λ (v : LogOnDisk g.row.D.Denot). length (bytes_of v)) c.self.view_is,
    )

pub returns-clause-same : goal.returns-clause-same
returns-clause-same g c =
    let disk = c.self.inside.disk in
    let end = c.self.inside.end in
    let next = c.deref.result.now in
    let ok : is_ok c.write_at-written.result ≡ true = search rules in
    let clear : IsTrue c.self.inside.is_clear =
    subst (λ (v : LogOnDisk g.row.D.Denot). IsTrue v.is_clear) (sym c.self.view_is) c.requires.clear in
    let short = c.self.invariant.known clear in
    let calls : c.write_at-written.new.self.calls ≡ disk.calls ++ done (Write end next) ∷ [] =
    c.write_at-written.ensures.calls ∙ ap (λ b. disk.calls ++ call (Write end next) b ∷ []) ok in
    let knows : KnowsFirst end (known_of disk.calls) (known_of c.write_at-written.new.self.calls) =
    subst (λ cs. KnowsFirst end (known_of disk.calls) (known_of cs)) (sym calls)
    (knows-written disk.calls end c.self.invariant.lasts next short) in
    knows.bytes ∙ ap (λ (v : LogOnDisk g.row.D.Denot). synced_of v) c.self.view_is

use Rattle.std.proofs.Common.{rules, ◌≡◌, ◌^◌, ◌<◌, [], ◌∷◌, ◌++◌, length, ap, refl, ◌∙◌, arith}
use Rattle.std.specs.Prelude.{is_ok, true}
use Rattle.file_devices.specs.Calls.{call, done}
use Rattle.file_devices.specs.FileLog.{LogOnDisk}
use Rattle.file_devices.specs.declared.calls.Request.TheVariants.{SetLen, Sync, Write}
use Rattle.file_devices.proofs.Kept.{kept_alone, three_calls, when_ok}
use Rattle.file_devices.proofs.file_log.FileLog.keep.Goals as goal

pub invariant_of-self-2 : goal.invariant_of-self-2
invariant_of-self-2 g c =
    let front = c.args.front.now in
    let before = c.self-2.inside.disk.calls in
    let written : is_ok c.write_at.result ≡ true = search rules in
    let cut : is_ok c.set_len.result ≡ true = search rules in
    let synced : is_ok c.sync.result ≡ true = search rules in
    let first : c.write_at.new.self.calls ≡ before ++ done (Write 0 front) ∷ [] =
    c.write_at.ensures.calls ∙ ap (λ b. before ++ call (Write 0 front) b ∷ []) written in
    let second : c.set_len.new.self.calls ≡ (before ++ done (Write 0 front) ∷ []) ++ done (SetLen (length front)) ∷ [] =
    c.set_len.ensures.calls ∙ ap (λ b. c.write_at.new.self.calls ++ call (SetLen (length front)) b ∷ []) cut
    ∙ ap (λ cs. cs ++ done (SetLen (length front)) ∷ []) first in
    let third : c.sync.new.self.calls ≡ before ++ done (Write 0 front) ∷ done (SetLen (length front)) ∷ done Sync ∷ [] =
    c.sync.ensures.calls ∙ ap (λ b. c.set_len.new.self.calls ++ call Sync b ∷ []) synced
    ∙ ap (λ cs. cs ++ done Sync ∷ []) second
    ∙ three_calls before (done (Write 0 front)) (done (SetLen (length front))) (done Sync) in
    let waiting : c.self-2.inside.waiting.items ≡ [] =
    ap (λ (v : LogOnDisk g.row.D.Denot). v.waiting) (c.self-2.view_is ∙ c.give_up.ensures.left) in
    let short : length front < 2 ^ 64 = search rules in
    let seen = c.set_len.ensures.seen front (omega arith) (when_ok c.write_at.result written c.write_at.ensures.written [] refl refl) in
    kept_alone before front _ third refl waiting short
    (when_ok c.sync.result synced c.sync.ensures.lasts front seen)
    (omega (arith, ap length c.sync.ensures.seen, when_ok c.set_len.result cut c.set_len.ensures.cut))

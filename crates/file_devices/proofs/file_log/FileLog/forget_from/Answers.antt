use Rattle.std.proofs.Common.{rules, ◌≤◌, [], ◌++◌, length, take, ap, sym, ◌∙◌, arith}
use Rattle.file_devices.specs.FileLog.{LogOnDisk, bytes_of, known_of}
use Rattle.file_devices.proofs.Kept.{front_of_both, front_of_synced, length-synced}
use Rattle.file_devices.proofs.Knowns.{lasting_there}
use Rattle.file_devices.proofs.file_log.FileLog.forget_from.Goals as goal

pub returns-then-from-self-clause-bytes : goal.returns-then-from-self-clause-bytes
returns-then-from-self-clause-bytes g c =
    let known = known_of c.self.inside.disk.calls in
    let there : c.self.inside.end ≤ length known.bytes =
    omega (arith, c.self.invariant.lasts, lasting_there c.self.inside.disk.calls) in
    let low : c.args.from ≤ c.self.inside.end = search rules in
    ap (λ (v : LogOnDisk g.row.D.Denot). bytes_of v) c.give_up.ensures.left
    ∙ ap (λ (v : LogOnDisk g.row.D.Denot). take c.args.from (known_of v.calls).bytes ++ []) (sym c.self.view_is)
    ∙ front_of_synced known.bytes c.self.inside.waiting.items c.args.from c.self.inside.end there low
    ∙ ap (λ (v : LogOnDisk g.row.D.Denot). take c.args.from (bytes_of v)) c.self.view_is

pub returns-clause-bytes : goal.returns-clause-bytes
returns-clause-bytes g c =
    let synced = take c.self.inside.end (known_of c.self.inside.disk.calls).bytes in
    let high : c.self.inside.end ≤ c.args.from = search rules in
    ap (λ w. synced ++ w) c.truncate.ensures.items
    ∙ front_of_both synced c.self.inside.waiting.items c.args.from c.self.inside.end (length-synced _ c.self.invariant)
    high
    ∙ ap (λ (v : LogOnDisk g.row.D.Denot). take c.args.from (bytes_of v)) c.self.view_is

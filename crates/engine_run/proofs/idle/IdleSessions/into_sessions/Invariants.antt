use Rattle.std.proofs.Common.{◌≡◌, ◌++◌, ◌+◌, ◌<◌, ◌≤◌, reverse, vec_capacity, vec_len}
use Rattle.std.specs.List.{sum_by}
use Rattle.std.specs.Option.{option_map_or}
use Rattle.settlement.specs.Counts.{written_in}
use Rattle.engine_run.proofs.idle.IdleSessions.into_sessions.Given as goal

-- the shares are those of the sessions that are left, for which there is room
abbrev pub invariant-loop-folder : goal.invariant-loop-folder
invariant-loop-folder g l =
    (option_map_or (λ all. all.parts) l.shares 0 ≡ vec_len l.folders)
    × (option_map_or (λ all. all.amount) l.shares 0 ≡ sum_by written_in l.folders.items)
    × (0 < vec_len l.folders → g.G.Ledger.parts ≡ 65)
    × (vec_len l.room + vec_len l.folders ≤ 65) × (vec_capacity l.room ≡ 65)
    × (l.room.items ++ reverse l.folders.items ≡ reverse l.fn.self)

abbrev pub decreases-loop-folder : goal.decreases-loop-folder
decreases-loop-folder g l = goal.left-loop-folder g l

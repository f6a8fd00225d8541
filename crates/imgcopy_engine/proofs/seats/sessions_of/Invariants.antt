use Rattle.std.proofs.Common.{◌≡◌, ◌+◌, [], vec_len}
use Rattle.std.specs.List.{All}
use Rattle.imgcopy_engine.proofs.seats.sessions_of.Given as goal

-- as many sessions as were made, of an engine of which the same was there before
abbrev pub invariant-loop : goal.invariant-loop
invariant-loop g l =
    (vec_len l.sessions ≡ l.counter) × All (λ session. session ≡ []) l.sessions.items
    × (l.shared.sessions ≡ l.fn.shared.sessions + l.counter) × (l.shared.began ≡ l.fn.shared.began)

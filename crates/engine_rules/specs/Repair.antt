-- The repair of a stored page, which is rebuilt from a complete image copy and the log.
use Rattle.std.specs.Prelude.{ℕ, ◌≡◌, ◌⊎◌}
use Rattle.engine_rules.specs.EngineState.{EngineState, forced_through, page_now, with_stored}

-- the store failed: the log is forced through the page's LSN, and the page is stored as it is now,
-- or the old one stays; its last write is the one before
abbrev pub MayBeRepaired : ℕ → EngineState → EngineState → Type 0
MayBeRepaired page old new =
    let forced = forced_through old (page_now old page).lsn in
    (new ≡ forced) ⊎ (new ≡ with_stored forced page (page_now old page))

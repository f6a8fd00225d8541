use Rattle.engine_rules.specs.EngineState.{log_of}
use Rattle.engine_restart.specs.Lives.{last_life}
use Rattle.open_database.proofs.CutLives.{all_committed, last_cut}
use Rattle.open_database.proofs.PowerCuts.{front_restores}
use Rattle.open_database.proofs.power_laws.cut_lives_follow_one_another.Goals as goal

pub returns : goal.returns
returns c = record {
  fit = λ first later are. (last_cut first later are).1;
  commits = all_committed;
  restores = λ first later found id copy are begins valid is.
      let last = last_life first later in
      let of = last_cut first later are in
      let s = last.lost in
      let restorable = c.copies_may_be_restored.ensures (log_of s) s.forced_end s.stored s.copies of.1.copied in
      front_restores s last.left found id copy of.1 of.0.has begins valid is restorable
      (λ kept is_kept. c.a_complete_copy_restores.ensures.restores (log_of s) kept s.forced_end s.copies id copy
      of.1.valid restorable is_kept is);
}

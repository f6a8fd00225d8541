use Rattle.engine_rules.specs.EngineState.{log_of}
use Rattle.engine_restart.proofs.Lives.{commits_stand, last_of, lost_fit, numbers_committed, still_restored}
use Rattle.engine_restart.proofs.UndoneParts.{UndoLaws}
use Rattle.engine_restart.specs.Lives.{last_life}
use Rattle.engine_restart.proofs.laws.lives_follow_one_another.Goals as goal

pub returns : goal.returns
returns c =
    let known = c.undo_takes_back_what_is_pending.ensures in
    let laws : UndoLaws = record { each = known.each; losers = known.losers; falling = known.falling } in
    record {
      fit = lost_fit;
      commits = commits_stand;
      restores = λ first later found id copy are is_found is.
          let last = last_life first later in
          let of = last_of first later are in
          let s = last.lost in
          let restorable = c.copies_may_be_restored.ensures (log_of s) s.forced_end s.stored s.copies of.1.copied in
          still_restored laws first later found id copy are is_found is restorable
          (c.a_complete_copy_restores.ensures.restores (log_of s) last.left s.forced_end s.copies id copy of.1.valid
          restorable of.0.kept is);
      committed = numbers_committed laws;
    }

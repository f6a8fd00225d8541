-- The life of a shared engine goes on by each call.
use Rattle.std.proofs.Common.{ℕ, ◌≡◌, ◌++◌, ◌∷◌, [], List, arith, refl, sym}
use Rattle.std.specs.Prelude.{Result, Ok, Err}
use Rattle.std.proofs.lemmas.Grind.{common_steps}
use Rattle.log_records.specs.declared.record.Record.{Record}
use Rattle.engine_calls.specs.declared.event.Answer.{Answer}
use Rattle.settlement.specs.Counts.{txn_records_in}
use Rattle.engine_calls.specs.declared.event.Event.{Event}
use Rattle.engine_calls.specs.declared.event.Event.TheVariants as event
use Rattle.engine_calls.specs.declared.refusal.Refusal.{Refusal}
use Rattle.engine_rules.specs.EngineState.{EngineState, IsFit}
use Rattle.engine_rules.specs.Step.{Step}
use Rattle.engine_rules.proofs.Public.{run_push}
use Rattle.engine_run.specs.Life.{IsLifeOf}

-- by one call more
pub lives_on : (before : List Record) (old : EngineState) (event : Event) (reply : Result Answer Refusal) (new : EngineState)
    → IsLifeOf before old → Step old event reply new → IsLifeOf before new
lives_on before old event reply new life step = record {
  opened = life.opened;
  fit = life.fit;
  log_is = life.log_is;
  events = life.events ++ event ∷ [];
  replies = life.replies ++ reply ∷ [];
  run = run_push life.opened life.events life.replies old event reply new life.run step;
}

-- it begins with no call
pub life_begins : (before : List Record) (s : EngineState) → IsFit s → before ≡ s.log → IsLifeOf before s
life_begins before s fit is = record {
  opened = s;
  fit = fit;
  log_is = sym is;
  events = [];
  replies = [];
  run = refl;
}

-- the end of a checkpoint is no record of a transaction
pub ckpt_end_counts : (total : ℕ) (old : EngineState) (reply : Result Answer Refusal) (new : EngineState)
    → total ≡ txn_records_in old.log → Step old event.CkptEnd reply new → total ≡ txn_records_in new.log
ckpt_end_counts total old (Ok answer) new is step = grind (arith, common_steps)
ckpt_end_counts total old (Err why) new is step = grind (arith, common_steps)

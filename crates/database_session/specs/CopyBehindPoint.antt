-- A copy that is made behind a checkpoint.
use Rattle.std.specs.Prelude.{ℕ, List, Ok, Option}
use Rattle.std.specs.Io.KnownBytes.{Appends}
use Rattle.engine_calls.specs.declared.event.Answer.{Answer}
use Rattle.engine_rules.specs.EngineState.{EngineState}
use Rattle.database_session.specs.MadeFiles.{IsCleanFor}
use Rattle.database_session.specs.CommandCalls.{MakesCommand}
use Rattle.session_lines.specs.Commands.{one_line, text_of, IsCopied}
use Rattle.session_lines.specs.declared.said.Said.TheVariants.{Reply}
use Rattle.session_lines.specs.declared.operator_command.OperatorCommand.TheVariants.{Checkpoint, Copy}
use Rattle.session_lines.specs.declared.command_said.CommandSaid.{CommandSaid}
use Rattle.session_lines.specs.declared.command_said.CommandSaid.TheVariants.{Call}

-- a checkpoint was made and answered, and then the copy of this id, on this parent or a full one
pub record CopiesBehindPoint (parent : Option ℕ) (id : ℕ) (old new : EngineState) : Type 0 where
  pub between : EngineState
  pub point : Answer
  pub checkpoint : MakesCommand Checkpoint old (one_line (Call (Reply (Ok point)))) between
  pub clean : IsCleanFor Checkpoint old (one_line (Call (Reply (Ok point)))) between
  pub said : CommandSaid
  pub copied : IsCopied id said
  pub copy : MakesCommand (Copy parent) between (one_line said) new

-- the lines of a checkpoint and of that copy were written
pub record TellsCopy (id : ℕ) (before after : Option (List ℕ)) : Type 0 where
  pub between : Option (List ℕ)
  pub point : Answer
  pub first : Appends before between (text_of (one_line (Call (Reply (Ok point)))))
  pub said : CommandSaid
  pub copied : IsCopied id said
  pub last : Appends between after (text_of (one_line said))

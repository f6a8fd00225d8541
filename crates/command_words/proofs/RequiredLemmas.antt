-- One more argument of a command, and ids of two lengths.
use Rattle.std.proofs.Common.{◌≡◌, ◌∙◌, ℕ, List, length, true, false, ap}
use Rattle.std.specs.Str.{bytes_eq}
use Rattle.std.proofs.lemmas.Slice.Eq.{bytes_eq-Decides}
use Rattle.clap.specs.Built.{AddsArg}
use Rattle.clap.specs.Words.{App, Rule, app_of, rule_of, with_rule}
use Rattle.clap.specs.declared.builder.arg.Arg.{Arg}
use Rattle.clap.specs.declared.builder.command.Command.{Command as Parser}

-- a command with one more argument, as clap reads it
pub app_with : (old new : Parser) (a : Arg) (app : App) (rule : Rule) → AddsArg old a new → a.global ≡ false
    → app_of old ≡ app → rule_of a ≡ rule → app_of new ≡ with_rule app rule
app_with old new a app rule added local same is =
    added.shape local ∙ (ap (λ x. with_rule x (rule_of a)) same ∙ ap (with_rule app) is)

pub same_length : (x y : List ℕ) → bytes_eq x y ≡ true → length x ≡ length y
same_length x y same = ap length ((bytes_eq-Decides x y).0 same)

use Rattle.std.proofs.Common.{codes, sym, ◌∙◌}
use Rattle.std.specs.Str.Parse.{ExplainsUnsignedError, HasUnsignedDigitsIfOk, ParsesUnsigned}
use Rattle.clap.specs.Words.{found_of, without_minus}
use Rattle.clap.proofs.WalkLemmas.{one_text-rows}
use Rattle.command_words.proofs.ClapLemmas.{is_read}
use Rattle.command_words.proofs.command.pages_in.Goals as goal

pub returns-clause-read : goal.returns-clause-read
returns-clause-read c =
    is_read _ (λ bs r. ParsesUnsigned 32 10 bs r × ExplainsUnsignedError 10 bs r × HasUnsignedDigitsIfOk bs r)
    (without_minus c.requires.0) _ c.get_one.result c.unwrap.result
    (sym (one_text-rows (found_of c.args.matches.now) (codes "pages")) ∙ c.requires.1)
    (c.get_one.ensures.value (without_minus c.requires.0) c.requires.1)
    (λ u x given. given.0) c.unwrap.ensures

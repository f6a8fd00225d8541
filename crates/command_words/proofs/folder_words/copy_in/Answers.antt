use Rattle.std.proofs.Common.{subst}
use Rattle.std.specs.Str.Parse.{ExplainsUnsignedError, HasUnsignedDigitsIfOk, ParsesUnsigned}
use Rattle.clap.specs.Words.{found_of}
use Rattle.clap.proofs.WalkLemmas.{one_text-rows}
use Rattle.command_words.specs.Command.{IsTold}
use Rattle.command_words.proofs.FolderLemmas.{copy_read}
use Rattle.command_words.proofs.folder_words.copy_in.Goals as goal

pub returns-clause-read : goal.returns-clause-read
returns-clause-read c =
    subst (λ o. IsTold o c.get_one.result) (one_text-rows (found_of c.args.matches.now) c.args.id.now)
    (copy_read _ (λ bs r. ParsesUnsigned 32 10 bs r × ExplainsUnsignedError 10 bs r × HasUnsignedDigitsIfOk bs r)
    (found_of c.args.matches.now) c.args.id.now c.get_one.result c.requires c.get_one.ensures.none
    c.get_one.ensures.value (λ u x given. given.0))

use Rattle.std.proofs.Common.{ap, codes, refl, ◌∙◌}
use Rattle.std.specs.Str.{bytes_eq}
use Rattle.command_words.proofs.RedoLemmas.{one_word, two_words}
use Rattle.command_words.proofs.command.is_redo.Goals as goal

pub returns-in-1 : goal.returns-in-1
returns-in-1 g c = (λ yes. one_word g.S.AsStr.text c.args.words.now c.requires c.in-1.is, λ redo. refl)

pub returns-in-2 : goal.returns-in-2
returns-in-2 g c = two_words g.S.AsStr.text c.args.words.now c.index-words-1.result c.eq.result c.requires c.in-2.is
    (c.eq.ensures ∙ ap (λ t. bytes_eq t (codes "--")) (c.as_str.ensures ∙ ap g.S.AsStr.text c.index-words-1.is))

use Rattle.std.proofs.Common.{map}
use Rattle.command_words.specs.Command.{redo_app, redo_into_app}
use Rattle.command_words.proofs.NameLemmas.{only_by}
use Rattle.command_words.proofs.RedoLemmas.{comes_for_redo, only_for_redo, taken_redo, taken_redo_into}
use Rattle.command_words.proofs.command.redo_of.Goals as goal

pub returns-then-is_redo-clause-redo : goal.returns-then-is_redo-clause-redo
returns-then-is_redo-clause-redo g c = comes_for_redo _ c.redo_alone_of.result c.redo_alone_of.ensures.is_redo
    c.redo_alone_of.ensures.only

pub returns-then-is_redo-clause-redo_only : goal.returns-then-is_redo-clause-redo_only
returns-then-is_redo-clause-redo_only g c = only_for_redo _ c.redo_alone_of.result c.redo_alone_of.ensures.ok

pub returns-then-is_redo-clause-only : goal.returns-then-is_redo-clause-only
returns-then-is_redo-clause-only g c =
    let words = map g.S.AsStr.text c.args.words.now in
    only_by words redo_app c.redo_alone_of.result (taken_redo words (c.is_redo.ensures.0 c.if-is_redo.true))
    c.redo_alone_of.ensures.only

pub returns-else-is_redo-clause-only : goal.returns-else-is_redo-clause-only
returns-else-is_redo-clause-only g c =
    let words = map g.S.AsStr.text c.args.words.now in
    only_by words redo_into_app c.redo_into_of.result
    (taken_redo_into words c.requires (λ redo. let yes = c.is_redo.ensures.1 redo in cc)) c.redo_into_of.ensures.only

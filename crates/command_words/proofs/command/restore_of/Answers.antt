use Rattle.std.proofs.Common.{map, rules, sym, ◌≡◌, ◌∙◌}
use Rattle.command_words.specs.declared.command.UsageFault.TheVariants.{BadArguments}
use Rattle.command_words.proofs.FolderRestoreLemmas.{refused_as_files, refused_by_both}
use Rattle.command_words.proofs.command.restore_of.Goals as goal

pub returns-then-is_refused_else-clause-only :
    goal.returns-then-is_refused_else-clause-only
returns-then-is_refused_else-clause-only g c = λ taken.
    let is : c.in-Err-BadArguments.field-0 ≡ BadArguments c.in-Err-BadArguments.fault = search rules in
    sym is ∙ refused_by_both (map g.S.AsStr.text c.args.words.now) c.in-Err-BadArguments.field-0
    c.restore_folder_of-given.result c.requires c.in-Err-BadArguments.ensures.only c.restore_folder_of-given.ensures.only
    (c.is_refused_else.ensures c.if-is_refused_else.true) taken

pub returns-in-Err-BadArguments-clause-only :
    goal.returns-in-Err-BadArguments-clause-only
returns-in-Err-BadArguments-clause-only g c =
    let is : c.in-Err-BadArguments.field-0 ≡ BadArguments c.in-Err-BadArguments.fault = search rules in
    refused_as_files (map g.S.AsStr.text c.args.words.now) c.in-Err-BadArguments.field-0 c.in-Err-BadArguments.fault
    c.restore_folder_of-given.result c.requires is c.in-Err-BadArguments.ensures.only c.restore_folder_of-given.ensures.only

use Rattle.std.proofs.Common.{List, ap, sym, ◌∙◌}
use Rattle.page_core.specs.declared.page.Page.{Page}
use Rattle.copy_vault.specs.Chain.{content, last_of}
use Rattle.engine_restart.specs.Chained.{members}
use Rattle.engine_restart.proofs.Stands.{content_push, formatted_number}
use Rattle.engine_restart.proofs.copy_check.content_of.Goals as goal

pub returns-in-Some-default-clause-content : goal.returns-in-Some-default-clause-content
returns-in-Some-default-clause-content c =
    let older = members c.args.older.now in
    let p = c.args.number in
    c.copy.ensures
    ∙ ap (λ (pages : List Page). last_of (content older p) pages) c.in-Some-default.ensures.found
    ∙ sym (content_push older c.args.copy.now p)

pub returns-in-None-None-clause-numbered : goal.returns-in-None-None-clause-numbered
returns-in-None-None-clause-numbered c = ap (λ (page : Page). page.number) c.formatted.ensures ∙ formatted_number c.args.number

use Rattle.std.proofs.Common.{◌≡◌, ap, ◌∙◌}
use Rattle.page_core.specs.declared.page.Page.{Page}
use Rattle.page_core.specs.Page.{formatted}
use Rattle.copy_vault.specs.Chain.{content, last_of}
use Rattle.copy_vault.proofs.Chains.{content_newest, content_number}
use Rattle.copy_vault.proofs.chain.Chain.content.Goals as goal

made : (c : goal.After-page_or_formatted) → c.page_or_formatted.result ≡ content c.args.self.now c.args.number
made c =
    c.page_or_formatted.ensures ∙ ap (last_of (formatted c.args.number)) c.newest.ensures.newest
    ∙ content_newest c.args.self.now c.args.number

pub returns-clause-content : goal.returns-clause-content
returns-clause-content c = made c

pub returns-clause-numbered : goal.returns-clause-numbered
returns-clause-numbered c =
    ap (λ (p : Page). p.number) (made c)
    ∙ content_number c.args.self.now c.args.number c.newest.ensures.chain.complete

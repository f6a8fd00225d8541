use Rattle.std.proofs.Common.{◌≡◌, ◌<◌, ◌∙◌, length, sym, ap, subst, arith}
use Rattle.page_decisions.specs.Decisions.{AreDecidedBelow, least_undecided}
use Rattle.copy_vault.specs.Reading.{ReadingView}
use Rattle.page_decisions.proofs.Public.{least_is, none_left}
use Rattle.copy_vault.proofs.reading.ReadingCopy.undecided.Goals as goal

pub returns-then-first-count : goal.returns-then-first-count
returns-then-first-count c =
    let found = c.first_undecided-first.ensures in
    let lt : c.first_undecided-first.result < length c.self.inside.slots = omega arith in
    sym (least_is c.self.inside.slots c.first_undecided-first.result lt found.before (found.at lt))
    ∙ ap (λ (it : ReadingView). least_undecided it.copy.pages) c.self.view_is

pub returns-else-first-count : goal.returns-else-first-count
returns-else-first-count c =
    let found = c.first_undecided-first.ensures in
    let end : c.first_undecided-first.result ≡ length c.self.inside.slots = omega (arith, found.within) in
    sym (none_left c.self.inside.slots (subst (λ n. AreDecidedBelow n c.self.inside.slots) end found.before))
    ∙ ap (λ (it : ReadingView). least_undecided it.copy.pages) c.self.view_is

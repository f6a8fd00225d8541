use Rattle.std.proofs.Common.{◌≡◌, ◌<◌, ◌∙◌, sym, ap, subst, arith}
use Rattle.page_decisions.specs.Decisions.{least_undecided, undecided_count}
use Rattle.copy_vault.specs.Copy.{IsComplete}
use Rattle.copy_vault.specs.Reading.{ReadingView}
use Rattle.page_decisions.proofs.Public.{all_decided, none_counted, none_left}
use Rattle.copy_vault.proofs.reading.ReadingCopy.seal.Goals as goal

pub returns-then-left-gt0-clause-left : goal.returns-then-left-gt0-clause-left
returns-then-left-gt0-clause-left c = λ none.
    let pages = c.self.inside.slots in
    let some : 0 < undecided_count pages = omega (arith, c.left.ensures) in
    let same = ap (λ (it : ReadingView). least_undecided it.copy.pages) c.self.view_is in
    let zero = none_counted pages (same ∙ none) in
    omega (arith, some, zero)

pub new-requires : goal.new-requires
new-requires c =
    let pages = c.self.inside.slots in
    let inv = c.self.invariant in
    let none : undecided_count pages ≡ 0 = omega (arith, c.left.ensures) in
    let whole : IsComplete c.self.inside.kind pages =
    record { decided = all_decided pages none; in_place = inv.in_place; keeps = inv.keeps } in
    subst (IsComplete c.self.inside.kind) (sym c.marked-pages.ensures) whole

pub returns-clause-all : goal.returns-clause-all
returns-clause-all c =
    let pages = c.self.inside.slots in
    let none : undecided_count pages ≡ 0 = omega (arith, c.left.ensures) in
    sym (ap (λ (it : ReadingView). least_undecided it.copy.pages) c.self.view_is)
    ∙ none_left pages (all_decided pages none)

use Rattle.std.proofs.Common.{◌≡◌, ◌<◌, ◌-◌, List, length, map, ap, sym, subst, ◌∙◌}
use Rattle.page_decisions.specs.Decisions.{decision_at, undecided}
use Rattle.copy_vault.specs.Copy.{CopyView}
use Rattle.copy_vault.specs.Vault.{CopyState, VaultView, answer_in, decided, state_in, state_of, reading}
use Rattle.copy_vault.proofs.Vaults.{entry_read, vault_read, answer_here, decided_here, same_copy, was_undecided}
use Rattle.copy_vault.proofs.vault.Vault.decide.Goals as goal

pub decide-requires-clause-there : goal.decide-requires-clause-there
decide-requires-clause-there c =
    let entries = c.self.inside.entries.items in
    let h = was_undecided (state_of c.args.self.now.copies c.args.id) c.args.number c.requires.there
    c.requires.undecided in
    let same : map state_in entries ≡ c.args.self.now.copies = ap (λ (v : VaultView). v.copies) c.self.view_is in
    let there = entry_read entries c.args.self.now.copies c.id.inside.0 c.args.id h.0 c.index_mut.result.now same
    c.id.view_is h.1 c.index_mut.ensures.value in
    let is = same_copy c.in-Reading.copy c.index_mut.result.now h.0 c.in-Reading.is there.2 in
    subst (λ (copy : CopyView). c.args.number < length copy.pages) (sym is) h.2

pub decide-requires-clause-undecided : goal.decide-requires-clause-undecided
decide-requires-clause-undecided c =
    let entries = c.self.inside.entries.items in
    let h = was_undecided (state_of c.args.self.now.copies c.args.id) c.args.number c.requires.there
    c.requires.undecided in
    let same : map state_in entries ≡ c.args.self.now.copies = ap (λ (v : VaultView). v.copies) c.self.view_is in
    let there = entry_read entries c.args.self.now.copies c.id.inside.0 c.args.id h.0 c.index_mut.result.now same
    c.id.view_is h.1 c.index_mut.ensures.value in
    let is = same_copy c.in-Reading.copy c.index_mut.result.now h.0 c.in-Reading.is there.2 in
    subst (λ (copy : CopyView). decision_at copy.pages c.args.number ≡ undecided) (sym is) h.3

pub invariant_of-self : goal.invariant_of-self
invariant_of-self c =
    let entries = c.self.inside.entries.items in
    let h = was_undecided (state_of c.args.self.now.copies c.args.id) c.args.number c.requires.there
    c.requires.undecided in
    let same : map state_in entries ≡ c.args.self.now.copies = ap (λ (v : VaultView). v.copies) c.self.view_is in
    let there = entry_read entries c.args.self.now.copies c.id.inside.0 c.args.id h.0 c.index_mut.result.now same
    c.id.view_is h.1 c.index_mut.ensures.value in
    let made = c.decide.ensures in
    vault_read entries (c.id.inside.0 - 1) c.in-Reading.copy c.decide.new.self c.self.invariant there.0.there
    (there.1 ∙ c.in-Reading.is) (ap (λ (copy : CopyView). copy.id) made.copy)
    (ap (λ (copy : CopyView). copy.kind) made.copy)
    made.since

pub returns-clause-answer : goal.returns-clause-answer
returns-clause-answer c =
    let entries = c.self.inside.entries.items in
    let h = was_undecided (state_of c.args.self.now.copies c.args.id) c.args.number c.requires.there
    c.requires.undecided in
    let same : map state_in entries ≡ c.args.self.now.copies = ap (λ (v : VaultView). v.copies) c.self.view_is in
    let there = entry_read entries c.args.self.now.copies c.id.inside.0 c.args.id h.0 c.index_mut.result.now same
    c.id.view_is h.1 c.index_mut.ensures.value in
    let is = same_copy c.in-Reading.copy c.index_mut.result.now h.0 c.in-Reading.is there.2 in
    c.decide.ensures.answer
    ∙ answer_here entries (c.id.inside.0 - 1) c.in-Reading.copy c.args.page.now c.self.invariant
    (there.1 ∙ c.in-Reading.is)
    ∙ ap (λ (cs : List CopyState). answer_in cs (reading c.in-Reading.copy.copy) c.args.page.now) same
    ∙ ap (λ (s : CopyState). answer_in c.args.self.now.copies s c.args.page.now) (ap reading is ∙ sym h.1)

pub returns-clause-decided : goal.returns-clause-decided
returns-clause-decided c =
    let entries = c.self.inside.entries.items in
    let h = was_undecided (state_of c.args.self.now.copies c.args.id) c.args.number c.requires.there
    c.requires.undecided in
    let same : map state_in entries ≡ c.args.self.now.copies = ap (λ (v : VaultView). v.copies) c.self.view_is in
    let there = entry_read entries c.args.self.now.copies c.id.inside.0 c.args.id h.0 c.index_mut.result.now same
    c.id.view_is h.1 c.index_mut.ensures.value in
    let made = c.decide.ensures in
    decided_here entries (c.id.inside.0 - 1) c.args.id c.args.number c.in-Reading.copy c.decide.new.self
    c.args.page.now c.decide.result c.self.invariant there.0.there (sym c.id.view_is ∙ there.0.place)
    (there.1 ∙ c.in-Reading.is) made.answer made.copy
    ∙ ap (λ (cs : List CopyState). decided cs c.args.id c.args.number c.args.page.now) same

use Rattle.std.proofs.Common.{◌≡◌, ◌-◌, map, ap, sym, true, get_or, false, ◌∙◌}
use Rattle.std.specs.Prelude.{slice_set}
use Rattle.copy_vault.specs.Copy.{CopyView}
use Rattle.copy_vault.specs.Vault.{VaultView, state_in, state_of, room_in}
use Rattle.copy_vault.specs.declared.vault.VaultEntry.TheVariants as entry
use Rattle.page_core.proofs.Public.{on_ok}
use Rattle.copy_vault.proofs.Vaults.{entry_read, vault_read, room_made, is_reading, same_state, was_reading}
use Rattle.copy_vault.proofs.vault.Vault.make_room.Goals as goal

pub unreachable-requires : goal.unreachable-requires
unreachable-requires c =
    let entries = c.self.inside.entries.items in
    let was = was_reading (state_of c.args.self.now.copies c.args.id) c.requires in
    let same : map state_in entries ≡ c.args.self.now.copies = ap (λ (v : VaultView). v.copies) c.self.view_is in
    let there = entry_read entries c.args.self.now.copies c.id.inside.0 c.args.id was.0
    c.index_mut.result.now same c.id.view_is was.1 c.index_mut.ensures.value in
    let is = is_reading c.index_mut.result.now was.0 there.2 in
    c.in_default.not-Reading is.0 is.1

pub invariant_of-self : goal.invariant_of-self
invariant_of-self c =
    let entries = c.self.inside.entries.items in
    let was = was_reading (state_of c.args.self.now.copies c.args.id) c.requires in
    let same : map state_in entries ≡ c.args.self.now.copies = ap (λ (v : VaultView). v.copies) c.self.view_is in
    let there = entry_read entries c.args.self.now.copies c.id.inside.0 c.args.id was.0
    c.index_mut.result.now same c.id.view_is was.1 c.index_mut.ensures.value in
    let made = c.make_room.ensures in
    vault_read entries (c.id.inside.0 - 1) c.in-Reading.copy c.make_room.new.self c.self.invariant there.0.there
    (there.1 ∙ c.in-Reading.is) (ap (λ (copy : CopyView). copy.id) made.copy)
    (ap (λ (copy : CopyView). copy.kind) made.copy)
    made.since

pub returns-clause-room : goal.returns-clause-room
returns-clause-room c =
    let entries = c.self.inside.entries.items in
    let was = was_reading (state_of c.args.self.now.copies c.args.id) c.requires in
    let k = c.id.inside.0 - 1 in
    let same : map state_in entries ≡ c.args.self.now.copies = ap (λ (v : VaultView). v.copies) c.self.view_is in
    let there = entry_read entries c.args.self.now.copies c.id.inside.0 c.args.id was.0
    c.index_mut.result.now same c.id.view_is was.1 c.index_mut.ensures.value in
    on_ok c.make_room.result _ _ (λ (room : c.make_room.new.self.has_room ≡ true).
    ap (λ n. get_or (map room_in (slice_set entries k (entry.Reading c.make_room.new.self))) (n - 1) false)
    (sym c.id.view_is)
    ∙ room_made entries k c.make_room.new.self there.0.there room) c.make_room.ensures.room

pub returns-clause-copies : goal.returns-clause-copies
returns-clause-copies c =
    let entries = c.self.inside.entries.items in
    let was = was_reading (state_of c.args.self.now.copies c.args.id) c.requires in
    let same : map state_in entries ≡ c.args.self.now.copies = ap (λ (v : VaultView). v.copies) c.self.view_is in
    let there = entry_read entries c.args.self.now.copies c.id.inside.0 c.args.id was.0
    c.index_mut.result.now same c.id.view_is was.1 c.index_mut.ensures.value in
    same_state entries (c.id.inside.0 - 1) c.in-Reading.copy c.make_room.new.self (there.1 ∙ c.in-Reading.is)
    c.make_room.ensures.copy ∙ same

-- The rows of those who add to one slot together.
use Rattle.std.specs.Prelude.{ℕ, ◌==◌, ◌&&◌, ◌||◌, Bool, nat_lt, slice_index_or, vec_len}
use Rattle.std.specs.Prelude.{if◌then◌else◌}
use Rattle.page_core.specs.declared.page.TheConstants.{SLOTS}
use Rattle.slot_claims.specs.declared.adders.Adders.{Adders}
use Rattle.slot_claims.specs.declared.adders.PageAdders.{PageAdders}
use Rattle.slot_claims.specs.declared.adders.PageAdders.TheVariants.{One, Several}
use Rattle.slot_claims.specs.declared.row_set.RowSet.{RowSet}
use Rattle.slot_claims.specs.declared.slot_sets.SlotRows.{SlotRows}
use Rattle.slot_claims.specs.declared.slot_sets.SlotSets.{SlotSets}
use Rattle.slot_claims.specs.RowSet.{no_rows}

-- the rows of this slot, if they are its own
abbrev pub rows_named : SlotRows → ℕ → RowSet
rows_named there slot = if there.slot == slot then there.rows else no_rows

-- the rows of a slot among those of several slots: what stands in its place, if that names it
abbrev pub rows_among : SlotSets → ℕ → RowSet
rows_among sets slot =
    rows_named (slice_index_or sets.sets.items (slice_index_or sets.places slot 0)
    (record { slot = 0; rows = no_rows })) slot

-- no slot of the page has rows
abbrev pub no_adders : PageAdders
no_adders = One 0 no_rows

-- the rows of a slot of a page
abbrev pub rows_in : PageAdders → ℕ → RowSet
rows_in (One held rows) slot = if held == slot then rows else no_rows
rows_in (Several sets) slot = rows_among sets.value slot

-- the rows of a slot; one that no page has, has none
unfoldable pub rows_at : Adders → ℕ → ℕ → RowSet
rows_at adders page slot =
    if nat_lt slot SLOTS then rows_in (slice_index_or adders.pages.items page no_adders) slot
    else no_rows

-- ---- rows can be put on a slot without memory

-- the slot has a set
unfoldable pub has_set : SlotSets → ℕ → Bool
has_set sets slot =
    nat_lt (slice_index_or sets.places slot 0) (vec_len sets.sets)
    && (slice_index_or sets.sets.items (slice_index_or sets.places slot 0)
    (record { slot = 0; rows = no_rows })).slot == slot

-- the slot has a set of its page, or none has rows
abbrev pub has_set_in : PageAdders → ℕ → Bool
has_set_in (One held rows) slot = held == slot || rows.bits == 0
has_set_in (Several sets) slot = has_set sets.value slot

-- so it is of a slot of all pages
unfoldable pub has_set_at : Adders → ℕ → ℕ → Bool
has_set_at adders page slot =
    nat_lt slot SLOTS && nat_lt page (vec_len adders.pages)
    && has_set_in (slice_index_or adders.pages.items page no_adders) slot

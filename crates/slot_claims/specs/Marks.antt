-- The holders of all slots.
use Rattle.std.specs.Prelude.{ℕ, ◌+◌, ◌*◌, ◌&&◌, Bool, nat_lt, slice_index_or, vec_len}
use Rattle.std.specs.Prelude.{if◌then◌else◌}
use Rattle.page_core.specs.declared.page.TheConstants.{SLOTS}
use Rattle.slot_claims.specs.declared.holder_byte.Holder.{Holder}
use Rattle.slot_claims.specs.declared.holder_byte.Holder.TheVariants.{Nobody}
use Rattle.slot_claims.specs.declared.marks.Marks.{Marks}
use Rattle.slot_claims.specs.HolderByte.{holder_of}

-- who holds a slot; nobody holds one that no page has
unfoldable pub holder_at : Marks → ℕ → ℕ → Holder
holder_at marks page slot =
    if nat_lt slot SLOTS then holder_of
    (slice_index_or marks.marks.items (SLOTS * page + slot) (record { byte = 0 }))
    else Nobody

-- a holder can be put on a slot without memory: it has a mark
unfoldable pub has_mark : Marks → ℕ → ℕ → Bool
has_mark marks page slot =
    nat_lt slot SLOTS && nat_lt (SLOTS * page + slot) (vec_len marks.marks)

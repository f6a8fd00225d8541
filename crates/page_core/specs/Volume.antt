-- The pages of a volume, in a list.
use Rattle.std.specs.Prelude.{ℕ, ◌≡◌, ◌<◌, ◌-◌, ◌++◌, List, length, map, slice_index_or}
use Rattle.std.specs.List.{range_with_len}
use Rattle.page_core.specs.declared.page.Page.{Page}
use Rattle.page_core.specs.Page.{formatted, volume_bytes}

-- the pages of a new volume, so many
abbrev pub formatted_pages : ℕ → List Page
formatted_pages count = map formatted (range_with_len 0 count)

-- a volume that has grown to so many pages: behind those that it had stand formatted ones, each
-- with its number; one that had as many stays as it was
abbrev pub grown_to : ℕ → List Page → List Page
grown_to count pages =
    pages ++ map formatted (range_with_len (length pages) (count - length pages))

-- the pages stand in order of their numbers, which count from 0
abbrev pub AreNumbered : List Page → Type 0
AreNumbered pages = (k : ℕ) (d : Page) → k < length pages → (slice_index_or pages k d).number ≡ k

-- the bytes are the one spelling of a volume of these pages: the bytes of each page, one page after
-- another, in order of their numbers, and nothing else
pub record SpellsVolume (pages : List Page) (bytes : List ℕ) : Type 0 where
  pub numbered : AreNumbered pages
  pub spelled : bytes ≡ volume_bytes pages

-- Pages in frames, in the order in which they were fetched.
use Rattle.std.specs.Prelude.{ℕ, ◌≡◌, ◌==◌, ◌&&◌, ◌++◌, Bool, true, List, [], ◌∷◌}
use Rattle.std.specs.Prelude.{is_some, length, nat_le, not, Option, if◌then◌else◌}
use Rattle.std.specs.List.{list_any}
use Rattle.std.specs.Option.{option_map_or}
use Rattle.page_core.specs.declared.page.Page.{Page}
use Rattle.buffer_pool.specs.Marks.{MarksView, PassesNone}
use Rattle.buffer_pool.specs.Slots.{SlotsView, pages_in}

-- the page of this number has a frame
abbrev pub is_resident : List Page → ℕ → Bool
is_resident pages number = list_any (λ page. page.number == number) pages

abbrev pub IsResident : List Page → ℕ → Type 0
IsResident pages number = is_resident pages number ≡ true

-- no frame can be had for another page: each of so many is taken, and none has a clean page
abbrev pub is_full : ℕ → (ℕ → Bool) → List Page → Bool
is_full frames is_clean pages =
    nat_le frames (length pages) && not (list_any (λ page. is_clean page.number) pages)

-- the pages without the clean one that was fetched earliest
abbrev pub given_up : (ℕ → Bool) → List Page → List Page
given_up is_clean [] = []
given_up is_clean (page ∷ pages) =
    if is_clean page.number then pages else page ∷ given_up is_clean pages

-- the pages with a frame free, if one can be had
abbrev pub with_room : ℕ → (ℕ → Bool) → List Page → List Page
with_room frames is_clean pages =
    if nat_le frames (length pages) then given_up is_clean pages else pages

-- the pages after this one was fetched
abbrev pub fetched : ℕ → (ℕ → Bool) → List Page → Page → List Page
fetched frames is_clean pages page = with_room frames is_clean pages ++ page ∷ []

-- what the frames of a pool hold: in the order of fetch a slot for each page, with holes where
-- pages were given up; the pages; whether a frame is free; for how many more slots there is room
-- then; and marks for the search of a clean page
pub record FramesView : Type 0 where
  pub slots : List (Option Page)
  pub pages : List Page
  pub has_free : Bool
  pub room : ℕ
  pub marks : MarksView

-- the search for a clean page passes over none
abbrev pub IsSought : (ℕ → Bool) → FramesView → Type 0
IsSought is_clean frames = PassesNone is_clean frames.slots frames.marks

-- from the slots, a frame that may be free, and the marks
abbrev pub frames_view : SlotsView → Option Page → MarksView → FramesView
frames_view slots free marks = record {
  slots = slots.list;
  pages = pages_in slots.list;
  has_free = is_some free;
  room = option_map_or (λ frame. slots.spare) free 0;
  marks = marks;
}

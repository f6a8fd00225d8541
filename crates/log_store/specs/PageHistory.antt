-- What a log keeps of its pages, so that one of them is rebuilt by its own records alone.
use Rattle.std.specs.Prelude.{ℕ, ◌≡◌, ◌<◌, ◌≤◌, nat_lt, Bool, List, [], length, take, slice_get}
use Rattle.std.specs.Prelude.{slice_index_or, Option, None, IfSome}
use Rattle.std.specs.List.{All, filter, filter_map}
use Rattle.std.specs.Option.{option_map_or}
use Rattle.page_core.specs.declared.page.Page.{Page}
use Rattle.log_records.specs.declared.record.Record.{Record}
use Rattle.log_records.specs.Coverage.{changes}
use Rattle.log_records.specs.Image.{image, image_from}
use Rattle.log_records.specs.Record.{own_lsn}

-- of one page: how it was rebuilt last, and the numbers of its records, counted from 0: of all of
-- them, or of those behind the page that was rebuilt
pub record History : Type 0 where
  pub rebuilt : Option Page
  pub later : List ℕ

-- of all pages, for so many records of the log
pub record Histories : Type 0 where
  pub seen : ℕ
  pub pages : List History

-- the records of these numbers
abbrev pub records_at : List Record → List ℕ → List Record
records_at rs numbers = filter_map (slice_get rs) numbers

-- the record is above an LSN
abbrev pub is_above : ℕ → Record → Bool
is_above lsn r = nat_lt lsn (own_lsn r)

-- the page that was rebuilt last with the later records on it, or else an older image of the page
-- with those that it lacks
abbrev pub rolled : History → List Record → Page → Page
rolled it rs page = option_map_or (λ rebuilt. image_from rebuilt (records_at rs it.later))
    it.rebuilt (image_from page (filter (is_above page.lsn) (records_at rs it.later)))

-- it is the history of this page in so many of the first records
pub record IsHistory (rs : List Record) (seen number : ℕ) (it : History) : Type 0 where
  pub within : All (λ n. n < seen) it.later
  pub all : it.rebuilt ≡ None → records_at rs it.later ≡ filter (changes number) (take seen rs)
  pub behind : IfSome it.rebuilt (λ rebuilt.
      image_from rebuilt (records_at rs it.later) ≡ image (take seen rs) number)

-- each page has its history, and a page without one has no records
pub record AreHistories (rs : List Record) (it : Histories) : Type 0 where
  pub within : it.seen ≤ length rs
  pub each : (p : ℕ) (d : History) → p < length it.pages
      → IsHistory rs it.seen p (slice_index_or it.pages p d)
  pub others : (p : ℕ) → length it.pages ≤ p → filter (changes p) (take it.seen rs) ≡ []

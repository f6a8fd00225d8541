-- Page claims and their seats, as contracts see them.
use Rattle.std.specs.Prelude.{◌≡◌, ℕ, ◌+◌, ◌<◌, ◌≤◌, Bool, true, false, ◌||◌}
use Rattle.std.specs.Prelude.{List, [], length, map, min}
use Rattle.std.specs.List.{list_any}
use Rattle.page_claim.specs.declared.rule.ClaimView.{ClaimView}
use Rattle.page_claim.specs.declared.seats.ClaimSeat.{ClaimSeat}
use Rattle.page_claim.specs.declared.seats.PageClaims.{PageClaims}
use Rattle.page_claim.specs.Rule.{times, drawn, pages_below}

-- how many pages there are to claim
abbrev pub page_count : PageClaims → ℕ
page_count claims = claims.count

-- how many seats were made with the claims
abbrev pub seats_made : PageClaims → ℕ
seats_made claims = claims.table.shared.key.workers

-- what a seat knows
abbrev pub view_of : ClaimSeat → ClaimView
view_of it = it.seat.me.0

-- the pages that a seat was given, in the order of its claims
abbrev pub pages_of : ClaimSeat → List ℕ
pages_of it = (view_of it).pages

-- whether a claim of the seat was answered None
abbrev pub was_told_none : ClaimSeat → Bool
was_told_none it = it.ended

-- the seat claims pages of these claims
abbrev pub IsSeatOf : PageClaims → ClaimSeat → Type 0
IsSeatOf claims it =
    (it.seat.table_id ≡ claims.table.shared.table_id) × ((view_of it).count ≡ claims.count)

-- each page stands in the one list as often as in the other
abbrev pub HaveSamePages : List ℕ → List ℕ → Type 0
HaveSamePages pages others = (page : ℕ) → times page pages ≡ times page others

-- no page stands in the one list more often than in the other
abbrev pub AreAmong : List ℕ → List ℕ → Type 0
AreAmong pages others = (page : ℕ) → times page pages ≤ times page others

-- a seat before its first claim
abbrev pub IsNewSeat : ClaimSeat → Type 0
IsNewSeat it = (pages_of it ≡ []) × (was_told_none it ≡ false)

abbrev pub IsNewSeatOf : PageClaims → ClaimSeat → Type 0
IsNewSeatOf claims it = IsSeatOf claims it × IsNewSeat it

-- the pages of all seats' lists together
abbrev pub drawn_by : List ClaimSeat → List ℕ
drawn_by seats = drawn (map view_of seats)

-- whether one of the seats was told that no page is left
abbrev pub is_any_told_none : List ClaimSeat → Bool
is_any_told_none seats = list_any was_told_none seats

-- the view has what all of the seats have, but those that are left
pub record HasJoined (view : ClaimView) (left all : List ClaimSeat) : Type 0 where
  pub weights : view.weight + length left ≡ length all
  pub lists : (page : ℕ)
      → times page view.pages + times page (drawn_by left) ≡ times page (drawn_by all)
  pub marks : (view.ended || is_any_told_none left) ≡ is_any_told_none all

-- what the word tells of the seats, when no claim follows
pub record IsLastWord (claims : PageClaims) (seats : List ClaimSeat) (word : ℕ) : Type 0 where
  pub all : is_any_told_none seats ≡ true → page_count claims < word
  pub among : AreAmong (drawn_by seats) (pages_below (min word (page_count claims)))
  pub whole : length seats ≡ seats_made claims
      → HaveSamePages (drawn_by seats) (pages_below (min word (page_count claims)))

-- Seats are made and joined, and what the last word tells of them.
use Rattle.std.proofs.Common.{◌≡◌, ℕ, ◌+◌, Bool, true, false, ◌||◌, List, [], ◌∷◌, ◌++◌, length-append, get_or, min, sym, refl, ap, ◌∙◌, arith}
use Rattle.std.specs.List.{sum_by}
use Rattle.std.proofs.lemmas.List.{map-id}
use Rattle.std.proofs.lemmas.List.Folds.{list_any-append}
use Rattle.std.proofs.lemmas.List.FromFn.{map-range_with_len_more}
use Rattle.std.proofs.lemmas.List.Sums.{sum_by-cons, sum_by_push}
use mathlib.Core.Option.{some, some-injective, some-ne-none}
use lib.ListN.{get_elem?}
use Rattle.atomic_table.specs.Table.{State}
use Rattle.atomic_table.specs.declared.shared.Seat.{Seat}
use Rattle.page_claim.specs.declared.rule.ClaimView.{ClaimView}
use Rattle.page_claim.specs.declared.seats.ClaimSeat.{ClaimSeat}
use Rattle.page_claim.specs.declared.seats.PageClaims.{PageClaims}
use Rattle.page_claim.specs.Rule.{times, pages_below, IsFair, new_view, together}
use Rattle.page_claim.specs.Claims.{HasJoined, IsLastWord, IsNewSeatOf, drawn_by, is_any_told_none, view_of, was_told_none}
use Rattle.page_claim.proofs.Sums.{at-le-sum_by, held, sum_by_of_none, sum_by_of_one, times-append, times_drawn}

pub pages_below_more : (n : ℕ) → pages_below (n + 1) ≡ pages_below n ++ n ∷ []
pages_below_more n = let e = map-range_with_len_more (λ (x : ℕ). x) 0 n n (omega arith) in simp map-id at e

pub new_seat : (claims : PageClaims) (it : ClaimSeat) (seat : Seat (Unit {0}) ClaimView) (n : ℕ) → it.seat ≡ seat → it.ended ≡ false
    → seat.table_id ≡ claims.table.shared.table_id → seat.me.0 ≡ new_view claims.count n → IsNewSeatOf claims it
new_seat claims it seat n is goes table me = let view : it.seat.me.0 ≡ new_view claims.count n = ap (λ (s : Seat (Unit {0}) ClaimView). s.me.0) is ∙ me in
    ((ap (λ (s : Seat (Unit {0}) ClaimView). s.table_id) is ∙ table, ap (λ (v : ClaimView). v.count) view), (ap (λ (v : ClaimView). v.pages) view, goes))

times_drawn_by : (page : ℕ) (seats : List ClaimSeat) → times page (drawn_by seats) ≡ sum_by (λ it. held page (view_of it)) seats
times_drawn_by page [] = refl
times_drawn_by page (x ∷ xs) = let r = times_drawn_by page xs in let a = times-append page (view_of x).pages (drawn_by xs) in
    let b = sum_by-cons (λ (it : ClaimSeat). held page (view_of it)) x xs in omega arith

times_with_last : (page : ℕ) (seats : List ClaimSeat) (it : ClaimSeat) → times page (drawn_by (seats ++ it ∷ [])) ≡ times page (drawn_by seats) + times page (view_of it).pages
times_with_last page seats it = let a = times_drawn_by page (seats ++ it ∷ []) in let b = times_drawn_by page seats in let c = sum_by_push (λ (x : ClaimSeat). held page (view_of x)) seats it in omega arith

marks_of_three : (a b c : Bool) → ((a || b) || c) ≡ (a || (c || (b || false)))
marks_of_three true b c = refl
marks_of_three false true true = refl
marks_of_three false true false = refl
marks_of_three false false true = refl
marks_of_three false false false = refl

marks_of_two : (b c : Bool) → (b || c) ≡ (c || (b || false))
marks_of_two b c = marks_of_three false b c

mark_alone : (b : Bool) → (b || false) ≡ b
mark_alone true = refl
mark_alone false = refl

-- one seat more is joined
pub joined_one : (v : ClaimView) (left all : List ClaimSeat) (it : ClaimSeat) → HasJoined v (left ++ it ∷ []) all → HasJoined (together v (view_of it)) left all
joined_one v left all it h = record {
  weights = let w = h.weights in let l = length-append left (it ∷ []) in let one = it.one_worker in omega arith;
  lists = λ page. let w = h.lists page in let l = times_with_last page left it in let p = times-append page v.pages (view_of it).pages in omega arith;
  marks = ap (λ b. (v.ended || b) || is_any_told_none left) it.told ∙ marks_of_three v.ended it.ended (is_any_told_none left)
      ∙ ap (λ b. v.ended || b) (sym (list_any-append was_told_none left (it ∷ []))) ∙ h.marks;
}

pub joined_first : (left : List ClaimSeat) (it : ClaimSeat) → HasJoined (view_of it) left (left ++ it ∷ [])
joined_first left it = record {
  weights = let l = length-append left (it ∷ []) in let one = it.one_worker in omega arith;
  lists = λ page. let l = times_with_last page left it in omega arith;
  marks = ap (λ b. b || is_any_told_none left) it.told ∙ marks_of_two it.ended (is_any_told_none left) ∙ sym (list_any-append was_told_none left (it ∷ []));
}

first_word : (words : List ℕ) (word : ℕ) → get_elem? words 0 ≡ some word → get_or words 0 0 ≡ word
first_word [] word e = absurd (some-ne-none word (sym e))
first_word (x ∷ xs) word e = some-injective x word e

abbrev S : Type 0
S = State (Unit {0}) ClaimView

module _ (claims : PageClaims) (s : S) (r : IsFair claims.table.shared.key s) (words : List ℕ) (same : s.words ≡ words) (word : ℕ) (at0 : get_elem? words 0 ≡ some word) where
  is_word : get_or s.words 0 0 ≡ word
  is_word = ap (λ ws. get_or ws 0 0) same ∙ first_word words word at0

  listed : (page : ℕ) → sum_by (held page) s.views ≡ times page (pages_below (min word claims.count))
  listed page = sym (times_drawn page s.views) ∙ r.1.each_once page ∙ ap (λ n. times page (pages_below (min n claims.table.shared.key.count))) is_word
      ∙ ap (λ n. times page (pages_below (min word n))) claims.counted

  idle : (page id : ℕ) (v : ClaimView) → get_elem? s.views id ≡ some v → v.weight ≡ 0 → held page v ≡ 0
  idle page id v at e = ap (times page) (r.1.idle id v at e)

  pub last_word : (id : ℕ) (v : ClaimView) (seats : List ClaimSeat) → get_elem? s.views id ≡ some v → HasJoined v [] seats → IsLastWord claims seats word
  last_word id v seats at h = record {
    all = λ e. let t = r.1.told id v at (sym (mark_alone v.ended) ∙ h.marks ∙ e) in let w = is_word in let c = claims.counted in omega arith;
    among = λ page. let l = h.lists page in let le = at-le-sum_by (held page) s.views id v at in let e = listed page in omega arith;
    whole = λ every page. let l = h.lists page in let n = h.weights in let w = r.1.workers in
        let one = sum_by_of_one (held page) (λ (u : ClaimView). u.weight) s.views id v (idle page) at (omega arith) in let e = listed page in omega arith;
  }

  pub last_word_alone : IsLastWord claims [] word
  last_word_alone = record {
    all = λ e. cc;
    among = λ page. omega arith;
    whole = λ every page. let w = r.1.workers in let none = sum_by_of_none (held page) (λ (u : ClaimView). u.weight) s.views (idle page) (omega arith) in let e = listed page in omega arith;
  }

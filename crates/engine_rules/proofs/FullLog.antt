-- A log that one transaction fills: a Begin and 524,286 Adds, and then no Add and no Begin; but its Commit, and then a
-- Begin again.
use Rattle.std.proofs.Common.{◌≡◌, ℕ, zero, suc, ◌+◌, ◌<◌, ◌≤◌, Bool, true, false, not, eqb, ◌&&◌}
use Rattle.std.proofs.Common.{◌||◌, List, [], ◌∷◌, length, refl, ap, ◌∙◌, arith}
use Rattle.std.specs.Prelude.{Option, Some, None, Ok, nat_le}
use Rattle.std.specs.List.{filter, list_any, sum_by}
use Rattle.std.specs.Option.{option_map}
use Rattle.std.proofs.lemmas.Bool.{le-ltb, lt-leb, lt-ltb}
use Rattle.std.proofs.lemmas.List.{length_push}
use Rattle.page_core.specs.declared.change.Change.TheVariants.{Add}
use Rattle.page_core.specs.declared.change.ChangeKind.TheVariants as kind
use Rattle.log_records.specs.declared.limits.TheConstants.{MAX_OPEN, MAX_RECORDS}
use Rattle.log_records.specs.Log.{IsPageCount}
use Rattle.log_rules.specs.Transactions.{holder, is_open, is_rolling, keeps_out, last_lsn, open_in}
use Rattle.log_rules.specs.Transactions.{owed, owed_by, pending}
use Rattle.log_records.specs.Least.{least}
use Rattle.log_rules.proofs.Public.{is_open_push_own, is_rolling_push, open_in_push_last}
use Rattle.log_rules.proofs.Public.{open_in_push_same, claimed_update}
use Rattle.engine_calls.specs.declared.event.Event.{Event}
use Rattle.engine_calls.specs.declared.event.Event.TheVariants as event
use Rattle.engine_calls.specs.declared.refusal.Refusal.{Refusal}
use Rattle.engine_calls.specs.declared.refusal.Refusal.TheVariants.{LogFull, NoTxn, PageOut}
use Rattle.engine_calls.specs.declared.refusal.Refusal.TheVariants.{SlotBusy, TooManyTxns}
use Rattle.engine_calls.specs.declared.refusal.Refusal.TheVariants.{TxnRolling}
use Rattle.engine_rules.specs.EngineState.{EngineState, IsFit, commit_record, effect, end}
use Rattle.engine_rules.specs.EngineState.{new_state, update_record, with_page, volume_pages}
use Rattle.buffer_pool.specs.Frames.{is_resident}
use Rattle.buffer_pool.proofs.Public.{resident_later}
use Rattle.engine_rules.proofs.PageComes.{page_comes}
use Rattle.engine_rules.specs.Refusal.{active_refusal, frame_refusal, has_no_room, or_else}
use Rattle.engine_rules.specs.Refusal.{page_refusal, refused_if, refusal}
use Rattle.engine_rules.proofs.Fit.{fit_of_step, new_is_fit}
use Rattle.engine_rules.proofs.Follows.{add_follows}
use Rattle.engine_rules.proofs.Refusals.{change_passes}
use Rattle.log_records.proofs.Public.{count_behind-not_less}

-- the Add that comes again and again
abbrev an_add : Event
an_add = event.Add 1 0 0 1

-- what stands after a Begin and so many Adds, on a volume of one page
unfoldable pub filled : ℕ → EngineState
filled zero = (effect (new_state 1 1) event.Begin).state
filled (suc n) = (effect (filled n) an_add).state

record Filled (n : ℕ) (s : EngineState) : Type 0 where
  fit : IsFit s
  one_page : s.pages ≡ 1
  alone : open_in s.log ≡ 1 ∷ []
  still_open : is_open s.log 1 ≡ true
  active : is_rolling s.log 1 ≡ false
  count : length s.log ≡ n + 1
  owes : owed s.log ≡ n + 2
  frame : frame_refusal s 0 ≡ None

-- ---- what passes

passes : (test : Bool) (why : Refusal) → test ≡ false → refused_if test why ≡ None
passes test why not_so = ap (λ b. refused_if b why) not_so

then : (a b c : Option Refusal) → a ≡ None → b ≡ c → or_else a b ≡ c
then a b c none same = ap (λ o. or_else o b) none ∙ same

or_else_none : (a : Option Refusal) → or_else a None ≡ a
or_else_none None = refl
or_else_none (Some why) = refl

active_now : (n : ℕ) (s : EngineState) → Filled n s → active_refusal s 1 ≡ None
active_now n s is =
    then _ _ None (passes _ NoTxn (ap not is.still_open)) (passes _ TxnRolling is.active)

-- a page that is in memory needs no frame
frame_there : (s : EngineState) (p : ℕ) → is_resident s.resident p ≡ true → frame_refusal s p ≡ None
frame_there s p there = rw there refl

-- an Add is refused only for want of room
add_now : (n : ℕ) (s : EngineState) → Filled n s → refusal s an_add ≡ refused_if (has_no_room s 2) LogFull
add_now n s is =
    let room = refused_if (has_no_room s 2) LogFull in
    let one_page = is.one_page in
    let within : nat_le (volume_pages s) 0 ≡ false = lt-leb (volume_pages s) 0 (omega (arith, count_behind-not_less s.pages s.log)) in
    let place : page_refusal s 0 0 ≡ None = then _ _ None (passes _ PageOut within) refl in
    let other = λ (o : ℕ). not (eqb o 1) && list_any (keeps_out 0 0 kind.Add) (pending s.log o) in
    let free : holder s.log 0 0 kind.Add 1 ≡ None = ap (λ (ts : List ℕ). least (filter other ts)) is.alone in
    then _ _ room (active_now n s is) (then _ _ room place (then _ _ room (ap (option_map SlotBusy) free)
    (ap (or_else room) is.frame ∙ or_else_none room)))

-- and so is a Begin, as long as few are open
begin_now : (s : EngineState) → length (open_in s.log) < MAX_OPEN
    → refusal s event.Begin ≡ refused_if (has_no_room s 3) LogFull
begin_now s few = then _ _ _ (passes _ TooManyTxns (lt-leb MAX_OPEN (length (open_in s.log)) few)) refl

-- ---- the log fills

begun_is_fit : IsFit (filled 0)
unfolding filled
begun_is_fit =
    let one : IsPageCount 1 = record { least = omega arith; most = omega arith } in
    fit_of_step (new_state 1 1) event.Begin (Ok _) (filled 0) (new_is_fit 1 1 one) tt (refl, refl, refl)

filled_none : Filled 0 (filled 0)
unfolding filled
filled_none = record {
  fit = begun_is_fit;
  one_page = refl;
  alone = refl;
  still_open = refl;
  active = refl;
  count = refl;
  owes = refl;
  frame = refl;
}

adds_room : (n : ℕ) (s : EngineState) → Filled n s → n < 524286 → refusal s an_add ≡ None
adds_room n s is few =
    let count = is.count in
    let owes = is.owes in
    add_now n s is ∙ passes _ LogFull (le-ltb MAX_RECORDS (length s.log + owed s.log + 2) (omega arith))

filled_more : (n : ℕ) (s : EngineState) → Filled n s → n < 524286 → Filled (suc n) (effect s an_add).state
filled_more n s is few =
    let r = update_record s 1 0 0 (Add 1) in
    let free = (change_passes s 1 0 0 kind.Add (adds_room n s is few)).free in
    let may = add_follows s 1 0 0 1 (record { still_open = is.still_open; active = is.active }) free in
    let count = is.count in
    let owes = is.owes in
    let more = claimed_update s.log (end s) 1 (last_lsn s.log 1) 0 0 (Add 1) is.fit.linked may in
    record {
      fit = fit_of_step s an_add (Ok _) (effect s an_add).state is.fit (omega arith) (adds_room n s is few, refl, refl);
      one_page = is.one_page;
      alone = open_in_push_same s.log r refl refl ∙ is.alone;
      still_open = is_open_push_own s.log r 1 refl refl ∙ ap (λ b. b && true) is.still_open;
      active = is_rolling_push s.log r 1 refl ∙ ap (λ b. b || false) is.active;
      count = omega (arith, length_push s.log r);
      owes = omega (arith, length_push s.log r, more);
      frame = frame_there (effect s an_add).state 0
          (resident_later (with_page s 0).resident r 0
          ∙ page_comes s 0 is.fit (let one = is.one_page in omega (arith, count_behind-not_less s.pages s.log)));
    }

filled_is : (n : ℕ) → n ≤ 524286 → Filled n (filled n)
unfolding filled
filled_is zero le = filled_none
filled_is (suc n) le = filled_more n (filled n) (filled_is n (omega arith)) (omega arith)

-- ---- what is accepted and what is not

pub adds_are_accepted : (n : ℕ) → n < 524286 → refusal (filled n) an_add ≡ None
adds_are_accepted n few = adds_room n (filled n) (filled_is n (omega arith)) few

-- n is 524,286; as a variable it does not compute
pub no_add_fits : (n : ℕ) → n ≡ 524286 → refusal (filled n) an_add ≡ Some LogFull
no_add_fits n all =
    let s = filled n in
    let is = filled_is n (omega arith) in
    let count = is.count in
    let owes = is.owes in
    add_now n s is
    ∙ ap (λ b. refused_if b LogFull) (lt-ltb MAX_RECORDS (length s.log + owed s.log + 2) (omega arith))

pub no_begin_fits : (n : ℕ) → n ≡ 524286 → refusal (filled n) event.Begin ≡ Some LogFull
no_begin_fits n all =
    let s = filled n in
    let is = filled_is n (omega arith) in
    let count = is.count in
    let owes = is.owes in
    begin_now s (omega (arith, ap length is.alone))
    ∙ ap (λ b. refused_if b LogFull) (lt-ltb MAX_RECORDS (length s.log + owed s.log + 3) (omega arith))

pub its_commit_is_accepted : (n : ℕ) → n ≡ 524286 → refusal (filled n) (event.Commit 1) ≡ None
its_commit_is_accepted n all = active_now n (filled n) (filled_is n (omega arith))

pub then_a_begin_fits : (n : ℕ) → n ≡ 524286 → refusal (effect (filled n) (event.Commit 1)).state event.Begin ≡ None
then_a_begin_fits n all =
    let s = filled n in
    let is = filled_is n (omega arith) in
    let count = is.count in
    let after = (effect s (event.Commit 1)).state in
    let r = commit_record s 1 in
    let none : open_in after.log ≡ [] =
    open_in_push_last s.log r refl refl ∙ ap (filter (λ o. not (eqb o 1))) is.alone in
    let owes : owed after.log ≡ 0 = ap (sum_by (owed_by after.log)) none in
    begin_now after (omega (arith, ap length none))
    ∙ passes _ LogFull
    (le-ltb MAX_RECORDS (length after.log + owed after.log + 3) (omega (arith, length_push s.log r, owes)))

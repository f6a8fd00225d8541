-- Each engine is fit: a new one, and one after a step.
use Rattle.std.proofs.Common.{◌≡◌, ℕ, zero, suc, get_or, replicate, ◌+◌, ◌<◌, ◌≤◌, ◌++◌, List, []}
use Rattle.std.proofs.Common.{◌∷◌, length, take, lit≤, refl, sym, ap, ◌∙◌, subst, arith, true≢false}
use Rattle.std.specs.Prelude.{IfSome, IsSome, Option, Result, Some, None}
use Rattle.std.proofs.lemmas.List.FromFn.{get_or-map-range_with_len, length-map-range_with_len}
use Rattle.page_core.specs.declared.page.Page.{Page}
use Rattle.page_core.specs.Page.{formatted}
use Rattle.page_core.specs.Volume.{formatted_pages}
use Rattle.log_records.proofs.Public.{stored_later, change_within, count_behind-nil, more-none}
use Rattle.log_records.proofs.Public.{page_count-same, transaction_gives_none}
use Rattle.log_records.specs.Image.{image}
use Rattle.buffer_pool.proofs.Public.{images_later, resident_later}
use Rattle.buffer_pool.specs.Frames.{IsResident}
use Rattle.std.specs.List.{All}
use Rattle.std.proofs.lemmas.List.{length-replicate, length_push, take_all}
use Rattle.std.proofs.lemmas.List.Elements.{All-head, All-nil, All-tail, All-weaker}
use Rattle.log_records.specs.declared.limits.TheConstants.{MAX_RECORDS}
use Rattle.log_records.specs.declared.record.Record.{Record}
use Rattle.log_records.specs.Log.{IsPageCount, StandsAt, lsn_of, with_next}
use Rattle.log_records.specs.PageCount.{given_count}
use Rattle.log_records.specs.declared.page_change.PageChange.{PageChange}
use Rattle.log_records.specs.Record.{IsOfTransaction, change_of}
use Rattle.log_rules.specs.Linked.{MayFollow}
use Rattle.log_rules.specs.Transactions.{owed}
use Rattle.log_rules.proofs.Public.{linked_none, linked_push, valid_next}
use Rattle.copy_vault.specs.Copy.{CopyView}
use Rattle.copy_vault.specs.Vault.{complete, dropped, reading, state_of}
use Rattle.copy_coverage.specs.Copied.{AreCopied, copy_in}
use Rattle.copy_coverage.proofs.Public.{copied_forced, copied_later}
use Rattle.engine_calls.specs.declared.event.Answer.{Answer}
use Rattle.engine_calls.specs.declared.event.Event.{Event}
use Rattle.engine_calls.specs.declared.refusal.Refusal.{Refusal}
use Rattle.engine_rules.specs.Call.{Calls}
use Rattle.engine_rules.specs.EngineState.{AreCounted, AreStable, EngineState, HaveMaster, IsFit}
use Rattle.engine_rules.specs.EngineState.{with_appended, ckpt_end_effect, closed, end, end_ckpt_record}
use Rattle.engine_rules.specs.EngineState.{forced_to, gathering, image_of, log_of, new_state}
use Rattle.engine_rules.specs.EngineState.{point_of, with_copies, with_page, volume_pages}
use Rattle.engine_rules.specs.Gather.{Left, pages_left}
use Rattle.engine_calls.specs.EventFits.{EventFits}
use Rattle.engine_rules.specs.Run.{Run}
use Rattle.engine_rules.specs.Step.{Step}
use Rattle.engine_rules.proofs.Beside.{HasMaster, gathered_later, master_forced}
use Rattle.engine_rules.proofs.CkptFits.{forced_within, made_gathered, master_now, point_is_master}
use Rattle.engine_rules.proofs.Follows.{made_follows}
use Rattle.engine_rules.proofs.Forces.{Forces, all_forces}
use Rattle.engine_rules.proofs.Growth.{extended_fit, lsn_of_formatted}
use Rattle.engine_rules.proofs.Rooms.{room_forced, room_grows, room_push}
use Rattle.engine_rules.proofs.Stands.{stands}
use Rattle.engine_rules.proofs.Gathers.{AreGathered}
use Rattle.engine_rules.proofs.Moves.{Adds, Begun, Completes, Copied, Done, Extends, Fetched}
use Rattle.engine_rules.proofs.Moves.{Forced, Gathered, Here, Keeps, Moves, holding, Rest, Start}
use Rattle.engine_rules.proofs.Moves.{Stored, Then, moves}
use Rattle.engine_rules.proofs.Refusals.{CkptEnds}
use Rattle.engine_rules.proofs.PageComes.{dirty_after, fetched_fit, needed_within, page_comes}
use Rattle.engine_rules.proofs.Writes.{begun_fit, stored_fit}
use Rattle.engine_rules.proofs.Makes.{IsBeside, IsNoGrowth, Makes, MakesEndChkpt, gives_none}
use Rattle.engine_rules.proofs.Makes.{left_with, makes}

-- ---- a record is appended

-- what a record is that may be appended, with so much left of the gather
record MayCome (s : EngineState) (r : Record) (left : Left) : Type 0 where
  may_follow : MayFollow s.log r
  room : length (s.log ++ r ∷ []) + owed (s.log ++ r ∷ []) ≤ MAX_RECORDS
  stands_at : StandsAt (volume_pages s) (end s) r
  no_count : given_count r ≡ None
  gathered : AreGathered (with_next (log_of s) (r ∷ [])) s.stored left

fit_with : (s : EngineState) (r : Record) (left : Left) → IsFit s → MayCome s r left
    → IfSome (change_of r) (λ c. IsResident s.resident c.page) → IsFit (gathering (with_appended s r) left)
fit_with s r left fit come there =
    let at = come.stands_at in
    let few : length s.log < MAX_RECORDS = let room = come.room in omega (arith, length_push s.log r) in
    let count : volume_pages (with_appended s r) ≡ volume_pages s = page_count-same (log_of s) r come.no_count in
    record {
      valid = valid_next (log_of s) r fit.valid few at (more-none _ r come.no_count);
      linked = linked_push s.log r fit.linked come.may_follow;
      room = room_push s.log r s.forced_end fit.room come.room;
      forced = (fit.forced.0, omega (arith, fit.forced.1, length_push s.log r), fit.forced.2);
      counted = record {
        stored = omega (arith, fit.counted.stored, count);
        written = fit.counted.written ∙ sym count;
        writing = fit.counted.writing ∙ sym count;
      };
      resident = images_later s.log r s.resident fit.resident;
      held = λ q lt dirty.
          resident_later s.resident r q ∙ dirty_after s r q fit (omega (arith, lt, count)) at.lsn there dirty;
      stored = stored_later s.log (r ∷ []) s.stored s.written s.writing fit.stored;
      stable = record { pages = fit.stable.pages; images = fit.stable.images };
      gathered = come.gathered;
      master = master_now s r fit at.lsn;
      copied = copied_later (log_of s) r s.forced_end s.stored s.copies at.lsn
          (omega (arith, forced_within s fit, at.lsn)) fit.copied;
      noted = fit.noted;
    }

made_comes : (s : EngineState) (event : Event) (r : Record) → IsFit s → EventFits event → IsNoGrowth event
    → Makes s event r → MayCome s r (left_with s.left r)
made_comes s event r fit fits stays makes = record {
  may_follow = made_follows s event r fit makes;
  room = room_grows s event r fit makes;
  stands_at = stands s event r fit fits makes;
  no_count = gives_none s event r stays makes;
  gathered = made_gathered s event r fit fits stays makes;
}

-- what the record of a call is, at the end of the log
pub record Comes (s : EngineState) (r : Record) : Type 0 where
  pub of_transaction : IsOfTransaction r
  pub may_follow : MayFollow s.log r
  pub room : length (s.log ++ r ∷ []) + owed (s.log ++ r ∷ []) ≤ MAX_RECORDS
  pub stands_at : StandsAt (volume_pages s) (end s) r

pub comes : (s : EngineState) (r : Record) → IsFit s → Calls s r → Comes s r
comes s r fit calls =
    let makes = makes s calls.call r calls.accepted calls.made in
    record {
      of_transaction = calls.of_transaction;
      may_follow = made_follows s calls.call r fit makes;
      room = room_grows s calls.call r fit makes;
      stands_at = stands s calls.call r fit calls.fits makes;
    }

pub comes_few : (s : EngineState) (r : Record) → Comes s r → length s.log < MAX_RECORDS
comes_few s r come = let room = come.room in omega (arith, length_push s.log r)

-- with a page more in memory
pub comes_with : (s : EngineState) (p : ℕ) (r : Record) → Comes s r → Comes (with_page s p) r
comes_with s p r come = assumption (come)

-- the state with the record of an accepted call at the end of its log
pub fit_appended : (s : EngineState) (r : Record) → IsFit s → Comes s r
    → IfSome (change_of r) (λ c. IsResident s.resident c.page) → IsFit (with_appended s r)
fit_appended s r fit come there = fit_with s r s.left fit (record {
  may_follow = come.may_follow;
  room = come.room;
  stands_at = come.stands_at;
  no_count = transaction_gives_none r come.of_transaction;
  gathered = gathered_later
      (log_of s) r s.stored s.left fit.valid fit.linked come.of_transaction come.may_follow come.stands_at.lsn
      fit.gathered;
}) there

-- ---- the log is forced, and a checkpoint is the master

fit_forced : (s : EngineState) (lsn : ℕ) → IsFit s → Forces s (forced_to s lsn) → IsFit (forced_to s lsn)
fit_forced s lsn fit forces =
    let no_less : s.forced_end ≤ lsn = forces.1 in
    let forced = forces.0 in
    let counted : AreCounted (forced_to s lsn) = assumption (fit.counted) in
    let stable : AreStable (forced_to s lsn) = record {
      pages = All-weaker (λ page. page.lsn < s.forced_end) (λ page. page.lsn < lsn) (λ page low. omega arith) s.stored
          fit.stable.pages;
      images = λ p. later no_less (image_of s p) (fit.stable.images p);
    } in
    let master : HasMaster (log_of s) s.stored lsn s.master =
    master_forced (log_of s) s.stored s.forced_end lsn s.master no_less fit.master in
    let copied : AreCopied (log_of s) lsn s.stored s.copies =
    copied_forced (log_of s) s.forced_end lsn s.stored s.copies no_less fit.copied in
    let room = room_forced s.log s.forced_end lsn no_less fit.room in
    assumption (forced, counted, stable, master, copied, room, fit)
  where
    later : s.forced_end ≤ lsn → (o : Option Page) → IfSome o (λ image. image.lsn < s.forced_end)
        → IfSome o (λ image. image.lsn < lsn)
    later no_less None is = tt
    later no_less (Some image) is = omega arith

fit_completed : (s : EngineState) (event : Event) → IsFit s → EventFits event → IsNoGrowth event → ¬ IsBeside event
    → (passes : CkptEnds s) → IsFit (ckpt_end_effect s passes.ckpt).state
fit_completed s event fit fits stays ckpt passes =
    let c = passes.ckpt in
    let makes : Makes s event (end_ckpt_record s c) =
    MakesEndChkpt c ckpt passes.still_open passes.done passes.room in
    let after = closed s c in
    let now : IsFit after =
    fit_with s (end_ckpt_record s c) pages_left fit
    (made_comes s event (end_ckpt_record s c) fit fits stays makes) tt in
    let all : IsFit (forced_to after (end after)) = fit_forced after (end after) now (all_forces after now.forced) in
    let master = point_is_master s c fit passes.still_open passes.done in
    let noted : HaveMaster (Some (point_of s c)) s.copies = λ id copy is. refl in
    assumption (master, noted, all)

-- ---- the moves of a step

rest_fit : (event : Event) (reply : Result Answer Refusal) (s t : EngineState) → IsFit s → Rest event reply s t
    → IsFit t
rest_fit event reply s t fit Done = fit
rest_fit event reply s t fit (Then (Forced lsn forces) rest) =
    rest_fit event reply _ t (fit_forced s lsn fit (forces fit.forced)) rest
rest_fit event reply s t fit (Then (Begun page within forced) rest) =
    rest_fit event reply _ t (begun_fit s page fit within forced) rest
rest_fit event reply s t fit (Then (Stored page image written writing storing) rest) =
    rest_fit event reply _ t (stored_fit s event reply page image written writing fit storing) rest
rest_fit event reply s t fit (Then (Copied copies changes are) rest) =
    rest_fit event reply _ t (copied_fit (are fit).0 (are fit).1) rest
  where
    copied_fit : AreCopied (log_of s) s.forced_end s.stored copies → IsSome s.master → IsFit (with_copies s copies)
    copied_fit copied some =
        let noted : HaveMaster s.master copies = λ id copy is. some in
        assumption (copied, noted, fit)
rest_fit event reply s t fit (Then (Gathered left changes are) rest) =
    rest_fit event reply _ t (gathered_fit (are fit)) rest
  where
    gathered_fit : AreGathered (log_of s) s.stored left → IsFit (gathering s left)
    gathered_fit gathered = assumption (gathered, fit)

-- where a record is appended, the page that it changes is in memory
module _ (old : EngineState) (event : Event) (fit : IsFit old) where
  start_fit : (pages : List Page) → Start old event pages → IsFit (holding old pages)
  start_fit pages Here = fit
  start_fit pages (Fetched p none needs) =
      fetched_fit old p fit
      (subst (λ (o : Option ℕ). IfSome o (λ q. q < volume_pages old)) needs (needed_within old event fit none))

  added_fit : (pages : List Page) (r : Record) (left : Left) → Start old event pages → MayCome old r left
      → IfSome (change_of r) (λ c. pages ≡ (with_page old c.page).resident)
      → IsFit (gathering (with_appended (holding old pages) r) left)
  added_fit pages r left start come needs =
      fit_with (holding old pages) r left (start_fit pages start) (assumption (come))
      (there (change_of r) (change_within (volume_pages old) r come.stands_at.within) needs)
    where
      there : (o : Option PageChange) → IfSome o (λ c. c.page < volume_pages old)
          → IfSome o (λ c. pages ≡ (with_page old c.page).resident) → IfSome o (λ c. IsResident pages c.page)
      there None inside is = tt
      there (Some c) inside is =
          subst (λ (ps : List Page). IsResident ps c.page) (sym is) (page_comes old c.page fit inside)

moves_fit : (old : EngineState) (event : Event) (reply : Result Answer Refusal) (new : EngineState) → IsFit old
    → EventFits event → Moves old event reply new → IsFit new
moves_fit old event reply new fit fits (Keeps start unseen rest) =
    rest_fit event reply _ new (start_fit old event fit _ start) rest
moves_fit old event reply new fit fits (Adds r start makes stays needs shown rest) =
    rest_fit event reply _ new
    (added_fit old event fit _ r (left_with old.left r) start (made_comes old event r fit fits stays makes) needs) rest
moves_fit old event reply new fit fits (Completes passes ckpt masters stays unseen) =
    fit_completed old event fit fits stays ckpt passes
moves_fit old event reply new fit fits (Extends count none grows begins writes shown) = extended_fit old count fit none

pub fit_of_step : (old : EngineState) (event : Event) (reply : Result Answer Refusal) (new : EngineState) → IsFit old
    → EventFits event → Step old event reply new → IsFit new
fit_of_step old event reply new fit numbers step =
    moves_fit old event reply new fit numbers (moves old event reply new step)

pub fit_of_run : (old : EngineState) (events : List Event) (replies : List (Result Answer Refusal)) (new : EngineState)
    → IsFit old → All EventFits events → Run old events replies new → IsFit new
fit_of_run old [] [] new fit numbers is = subst IsFit (sym is) fit
fit_of_run old (event ∷ events) (reply ∷ replies) new fit numbers run =
    fit_of_run run.0 events replies new
    (fit_of_step old event reply run.0 fit (All-head EventFits event events numbers) run.1)
    (All-tail EventFits event events numbers) run.2
fit_of_run old [] (reply ∷ replies) new fit numbers run = absurd run
fit_of_run old (event ∷ events) [] new fit numbers run = absurd run

-- ---- a new engine

no_copy : (id : ℕ) → state_of [] id ≡ dropped
no_copy zero = refl
no_copy (suc k) = refl

none_some : (copy : CopyView) → ¬ (None ≡ Some copy)
none_some copy e = cc

not_reading : (copy : CopyView) → ¬ (dropped ≡ reading copy)
not_reading copy e = cc

not_complete : (copy : CopyView) → ¬ (dropped ≡ complete copy)
not_complete copy e = cc

no_copies : (s : EngineState) → AreCopied (log_of s) s.forced_end s.stored []
no_copies s = record {
  few = lit≤ tt;
  each = λ id copy is. absurd (none_some copy (ap copy_in (sym (no_copy id)) ∙ is));
  decided = λ id copy is. absurd (not_complete copy (sym (no_copy id) ∙ is));
  read = λ id copy is. absurd (not_reading copy (sym (no_copy id) ∙ is));
  covered = λ id copy older is. absurd (none_some copy (ap copy_in (sym (no_copy id)) ∙ is));
}

formatted_at : (pages p : ℕ) (d : Page) → p < pages → get_or (formatted_pages pages) p d ≡ formatted p
formatted_at pages p d lt = get_or-map-range_with_len formatted 0 pages p p d lt (omega arith)

get_or-replicate : {X : Type 0} (n : ℕ) (x : X) (i : ℕ) → get_or (replicate n x) i x ≡ x
get_or-replicate zero x i = refl
get_or-replicate (suc n) x zero = refl
get_or-replicate (suc n) x (suc i) = get_or-replicate n x i

pub new_is_fit : (pages frames : ℕ) → IsPageCount pages → IsFit (new_state pages frames)
new_is_fit pages frames count = record {
  valid = record {
    pages = count;
    count = omega arith;
    records = λ i d lt. absurd (omega arith);
    grows = λ i d lt. absurd (omega arith);
  };
  linked = linked_none;
  room = room_of_none;
  forced = (0, omega arith, refl);
  counted = record {
    stored = omega (arith, length-map-range_with_len formatted 0 pages, count_behind-nil pages);
    written = length-replicate pages 0 ∙ sym (count_behind-nil pages);
    writing = length-replicate pages None ∙ sym (count_behind-nil pages);
  };
  resident = All-nil (λ page. page ≡ image [] page.number);
  held = λ q lt dirty. absurd (true≢false dirty);
  stored = record {
    pages = λ p d lt.
        let page = formatted_at pages p d (omega (arith, length-map-range_with_len formatted 0 pages)) in
        rw (page, get_or-replicate {X = ℕ} pages 0 p)
        (record {
          past = record { count = 0; within = omega arith; made = refl };
          reached = omega (arith, lsn_of_formatted p);
        });
    images = λ p d lt. rw (get_or-replicate {X = Option Page} pages None p) tt;
  };
  stable = record {
    pages = λ p d lt.
        let page = formatted_at pages p d (omega (arith, length-map-range_with_len formatted 0 pages)) in
        rw page (omega (arith, lsn_of_formatted p));
    images = λ p. rw (get_or-replicate {X = Option Page} pages None p) tt;
  };
  gathered = tt;
  master = tt;
  copied = no_copies (new_state pages frames);
  noted = λ id copy is. absurd (none_some copy (ap copy_in (sym (no_copy id)) ∙ is));
}
  where
    room_of_none : (n : ℕ) → n ≤ 0 → lsn_of 0 ≤ lsn_of n
        → length (take n (new_state pages frames).log) + owed (take n (new_state pages frames).log) ≤ MAX_RECORDS
    room_of_none n le past = rw (take_all n (new_state pages frames).log (omega arith)) (omega arith)

-- What a peek tells of a place that no volume has.
use Rattle.std.proofs.Common.{ℕ, ◌≡◌, ◌≤◌, ◌⊎◌, Bool, true, false, Some, Result, Ok, Err, arith, refl, inl, inr}
use Rattle.std.specs.Prelude.{nat_le}
use Rattle.std.proofs.lemmas.Bool.{le-leb}
use Rattle.log_records.proofs.Public.{page_count-is_count}
use Rattle.page_core.specs.declared.page.TheConstants.{MAX_PAGES, SLOTS}
use Rattle.engine_calls.specs.declared.event.Answer.{Answer}
use Rattle.engine_calls.specs.declared.event.Event.{Event}
use Rattle.engine_calls.specs.declared.event.Event.TheVariants as event
use Rattle.engine_calls.specs.declared.refusal.Refusal.{Refusal}
use Rattle.engine_calls.specs.declared.refusal.Refusal.TheVariants.{PageOut, SlotOut}
use Rattle.engine_rules.specs.EngineState.{EngineState, log_of, volume_pages}
use Rattle.engine_rules.specs.Refusal.{refusal}
use Rattle.engine_rules.specs.Step.{Step}
use Rattle.engine_run.specs.Replies.{Replies}

-- a call that is refused replies so
replies : (s : EngineState) (event : Event) (why : Refusal) (reply : Result Answer Refusal)
    (new : EngineState) → refusal s event ≡ Some why → Step s event reply new → reply ≡ Err why
replies s event why (Ok answer) new is step = let none = step.0 in absurd (cc)
replies s event why (Err other) new is (inl (same, kept)) = cc
replies s event why (Err other) new is (inr (none, fails)) = absurd (cc)

page_out : (s : EngineState) (page slot : ℕ) → volume_pages s ≤ page
    → refusal s (event.Read page slot) ≡ Some PageOut
page_out s page slot past = rw (le-leb (volume_pages s) page past) refl

slot_out : (s : EngineState) (page slot : ℕ) → SLOTS ≤ slot
    → (refusal s (event.Read page slot) ≡ Some PageOut)
    ⊎ (refusal s (event.Read page slot) ≡ Some SlotOut)
slot_out s page slot past = by_page (nat_le (volume_pages s) page) refl
  where
    by_page : (b : Bool) → nat_le (volume_pages s) page ≡ b
        → (refusal s (event.Read page slot) ≡ Some PageOut)
        ⊎ (refusal s (event.Read page slot) ≡ Some SlotOut)
    by_page true is = inl (rw is refl)
    by_page false is = inr (rw (is, le-leb SLOTS slot past) refl)

pub peek_page : (page slot : ℕ) (reply : Result Answer Refusal) → Replies (event.Read page slot) reply
    → MAX_PAGES ≤ page → reply ≡ Err PageOut
peek_page page slot reply read past =
    let s = read.before in
    let few = page_count-is_count (log_of s) read.fit.valid in
    let out : volume_pages s ≤ page = omega (arith, few.most, past) in
    replies s (event.Read page slot) PageOut reply read.after (page_out s page slot out) read.step

pub peek_slot : (page slot : ℕ) (reply : Result Answer Refusal) → Replies (event.Read page slot) reply
    → SLOTS ≤ slot → (reply ≡ Err PageOut) ⊎ (reply ≡ Err SlotOut)
peek_slot page slot reply read past =
    let s = read.before in
    elim (slot_out s page slot past) [
      | inl is ↦ inl (replies s (event.Read page slot) PageOut reply read.after is read.step)
      | inr is ↦ inr (replies s (event.Read page slot) SlotOut reply read.after is read.step)
    ]

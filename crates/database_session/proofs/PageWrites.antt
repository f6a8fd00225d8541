-- Writes of a page, and what is dirty behind them.
use Rattle.std.proofs.Common.{◌≡◌, ℕ, ◌+◌, ◌<◌, ◌≤◌, Bool, [], true, false, length, get_or, refl, sym, ap, subst, ◌∙◌}
use Rattle.std.proofs.Common.{arith, inl, inr}
use Rattle.std.specs.Prelude.{Option, Some, None, Ok, Err, is_none, nat_le, is_some, ◌≢◌}
use Rattle.std.specs.Option.{option_map_or}
use Rattle.std.proofs.lemmas.Bool.{cases_eq, cases_lt, leb-false}
use Rattle.std.proofs.lemmas.List.{get_or-set_other, get_or-set_same, length-set}
use Rattle.page_core.specs.declared.page.Page.{Page}
use Rattle.page_core.specs.declared.page.TheConstants.{MAX_PAGES}
use Rattle.log_records.specs.Coverage.{dirty, next_dirty, rec_lsn}
use Rattle.log_records.specs.Image.{image}
use Rattle.log_records.proofs.Public.{image_is_clean, page_count-is_count}
use Rattle.engine_calls.specs.declared.event.Answer.TheVariants as answer
use Rattle.engine_calls.specs.declared.event.Event.TheVariants.{WriteBegin, WriteEnd}
use Rattle.engine_calls.specs.declared.refusal.Refusal.{Refusal}
use Rattle.engine_calls.specs.declared.refusal.Refusal.TheVariants.{NotDirty, NoWrite, PageOut, WriteBegun}
use Rattle.engine_rules.specs.EngineState.{EngineState, IsFit, Outcome, effect, ended_write}
use Rattle.engine_rules.specs.EngineState.{image_of, log_of, page_now, rec_lsn_of, volume_pages}
use Rattle.engine_rules.specs.Refusal.{or_else, refused_if}
use Rattle.engine_rules.specs.Step.{Step}
use Rattle.engine_rules.proofs.Public.{write_begin_passes, write_end_passes}
use Rattle.database_session.specs.PageWrites.{BeginsWrite, CleansPage, EndsWrite, HasNoDirtyPage}
use Rattle.database_session.proofs.DirtyPages.{IsFirst, clean_from, none_are_dirty}

-- ---- one call

-- none is there, by a test
none_if : {X : Type 0} (o : Option X) → is_none o ≡ true → o ≡ None
none_if None none = refl
none_if (Some x) none = absurd (cc)

no_write_is : (out none : Bool) → or_else (refused_if out PageOut) (refused_if none NoWrite) ≡ Some NoWrite
    → (out ≡ false) × (none ≡ true)
no_write_is true none is = absurd (cc)
no_write_is false true is = (refl, refl)
no_write_is false false is = absurd (cc)

not_dirty_is : (out begun none : Bool)
    → or_else (refused_if out PageOut) (or_else (refused_if begun WriteBegun) (refused_if none NotDirty)) ≡ Some NotDirty
    → none ≡ true
not_dirty_is true begun none is = absurd (cc)
not_dirty_is false true none is = absurd (cc)
not_dirty_is false false true is = refl
not_dirty_is false false false is = absurd (cc)

-- what the end of a write does, where this image is being written
abbrev end_of : EngineState → ℕ → Option Page → Outcome
end_of s page o =
    option_map_or (λ (it : Page). record { answer = answer.Written it.lsn; state = ended_write s page it })
    o (record { answer = answer.Written 0; state = s })

-- the call that ends a write, where it is answered, and where there is none to end
pub write_ended : (page lsn : ℕ) (old new : EngineState) → Step old (WriteEnd page) (Ok (answer.Written lsn)) new
    → EndsWrite page old new × (page < volume_pages old)
write_ended page lsn old new step = (step.2, (write_end_passes old page step.0).within)

pub none_to_end : (page : ℕ) (why : Refusal) (old new : EngineState) → why ≡ NoWrite
    → Step old (WriteEnd page) (Err why) new → EndsWrite page old new × (page < volume_pages old)
none_to_end page why old new is step =
    by_cause (subst (λ (it : Refusal). Step old (WriteEnd page) (Err it) new) is step)
  where
    by_cause : Step old (WriteEnd page) (Err NoWrite) new → EndsWrite page old new × (page < volume_pages old)
    by_cause (inl refused) =
        let tests = no_write_is (nat_le (volume_pages old) page) (is_none (image_of old page)) refused.0 in (
          refused.1 ∙ sym (ap (λ (o : Option Page). (end_of old page o).state) (none_if (image_of old page) tests.1)),
          leb-false _ _ tests.0,
        )
    by_cause (inr failed) = absurd failed.1

-- the call that begins one, where it is answered, and where the page is not dirty
pub write_begun : (page lsn : ℕ) (old new : EngineState) → Step old (WriteBegin page) (Ok (answer.Writing lsn)) new
    → BeginsWrite page old new
write_begun page lsn old new step =
    by_lsn (rec_lsn_of old page) (write_begin_passes old page step.0).dirty
  where
    by_lsn : (o : Option ℕ) → is_none o ≡ false
        → new ≡ option_map_or (λ lsn. (effect old (WriteBegin page)).state) o old
    by_lsn None some = absurd (cc)
    by_lsn (Some rec) some = step.2

pub none_to_begin : (page : ℕ) (why : Refusal) (old new : EngineState) → why ≡ NotDirty
    → Step old (WriteBegin page) (Err why) new → BeginsWrite page old new
none_to_begin page why old new is step =
    by_cause (subst (λ (it : Refusal). Step old (WriteBegin page) (Err it) new) is step)
  where
    by_cause : Step old (WriteBegin page) (Err NotDirty) new → BeginsWrite page old new
    by_cause (inl refused) =
        let clean = not_dirty_is (nat_le (volume_pages old) page) (is_some (image_of old page))
        (is_none (rec_lsn_of old page)) refused.0 in
        refused.1 ∙ sym (ap (λ (o : Option ℕ). option_map_or (λ lsn. (effect old (WriteBegin page)).state) o old)
        (none_if (rec_lsn_of old page) clean))
    by_cause (inr failed) = absurd failed.1

-- ---- a page is written

-- a call leaves the log, and the last writes of all pages but one
record Leaves (page : ℕ) (old new : EngineState) : Type 0 where
  log : new.log ≡ old.log
  others : (p : ℕ) → p ≢ page → get_or new.written p 0 ≡ get_or old.written p 0
  written : length new.written ≡ length old.written
  writing : length new.writing ≡ length old.writing

same_leaves : (page : ℕ) (old new : EngineState) → new ≡ old → Leaves page old new
same_leaves page old new is = record {
  log = ap (λ (s : EngineState). s.log) is;
  others = λ p other. ap (λ (s : EngineState). get_or s.written p 0) is;
  written = ap (λ (s : EngineState). length s.written) is;
  writing = ap (λ (s : EngineState). length s.writing) is;
}

ended_leaves : (page : ℕ) (it : Page) (old new : EngineState) → new ≡ ended_write old page it
    → Leaves page old new
ended_leaves page it old new is = record {
  log = ap (λ (s : EngineState). s.log) is;
  others = λ p other. ap (λ (s : EngineState). get_or s.written p 0) is
      ∙ get_or-set_other old.written page p it.lsn 0 other;
  written = ap (λ (s : EngineState). length s.written) is ∙ length-set old.written page it.lsn;
  writing = ap (λ (s : EngineState). length s.writing) is ∙ length-set old.writing page None;
}

begun_leaves : (page : ℕ) (old new : EngineState) → new ≡ (effect old (WriteBegin page)).state → Leaves page old new
begun_leaves page old new is = record {
  log = ap (λ (s : EngineState). s.log) is;
  others = λ p other. ap (λ (s : EngineState). get_or s.written p 0) is;
  written = ap (λ (s : EngineState). length s.written) is;
  writing = ap (λ (s : EngineState). length s.writing) is ∙ length-set old.writing page (Some (page_now old page));
}

leaves_both : (page : ℕ) (old mid new : EngineState) → Leaves page old mid → Leaves page mid new → Leaves page old new
leaves_both page old mid new one next = record {
  log = next.log ∙ one.log;
  others = λ p other. next.others p other ∙ one.others p other;
  written = next.written ∙ one.written;
  writing = next.writing ∙ one.writing;
}

-- what the end of a write does: there was none, or its image is stored
data Ended (page : ℕ) (old new : EngineState) : Type 0 where
  was_none : image_of old page ≡ None → new ≡ old → Ended page old new
  was_some : (it : Page) → image_of old page ≡ Some it → new ≡ ended_write old page it → Ended page old new

ended_how : (page : ℕ) (old new : EngineState) → EndsWrite page old new → Ended page old new
ended_how page old new ends = by_image (image_of old page) refl ends
  where
    by_image : (o : Option Page) → image_of old page ≡ o
        → new ≡ (end_of old page o).state → Ended page old new
    by_image None none is = was_none none is
    by_image (Some it) some is = was_some it some is

-- what the begin of one does: the page was clean, or an image of it is taken
data Begun (page : ℕ) (old new : EngineState) : Type 0 where
  was_clean : rec_lsn_of old page ≡ None → new ≡ old → Begun page old new
  was_dirty : new ≡ (effect old (WriteBegin page)).state → Begun page old new

begun_how : (page : ℕ) (old new : EngineState) → BeginsWrite page old new → Begun page old new
begun_how page old new begins = by_lsn (rec_lsn_of old page) refl begins
  where
    by_lsn : (o : Option ℕ) → rec_lsn_of old page ≡ o
        → new ≡ option_map_or (λ lsn. (effect old (WriteBegin page)).state) o old → Begun page old new
    by_lsn None none is = was_clean none is
    by_lsn (Some lsn) some is = was_dirty is

ends_leaves : (page : ℕ) (old new : EngineState) → EndsWrite page old new → Leaves page old new
ends_leaves page old new ends = by_case (ended_how page old new ends)
  where
    by_case : Ended page old new → Leaves page old new
    by_case (was_none none is) = same_leaves page old new is
    by_case (was_some it some is) = ended_leaves page it old new is

begins_leaves : (page : ℕ) (old new : EngineState) → BeginsWrite page old new → Leaves page old new
begins_leaves page old new begins = by_case (begun_how page old new begins)
  where
    by_case : Begun page old new → Leaves page old new
    by_case (was_clean none is) = same_leaves page old new is
    by_case (was_dirty is) = begun_leaves page old new is

-- no write of the page is in progress behind the end of one
none_in_progress : (page : ℕ) (old new : EngineState) → page < length old.writing → EndsWrite page old new
    → image_of new page ≡ None
none_in_progress page old new room ends = by_case (ended_how page old new ends)
  where
    by_case : Ended page old new → image_of new page ≡ None
    by_case (was_none none is) = ap (λ (s : EngineState). image_of s page) is ∙ none
    by_case (was_some it some is) =
        ap (λ (s : EngineState). image_of s page) is ∙ get_or-set_same old.writing page None None room

-- the image that is written is the page as it is now, or the page was clean
data IsReady (page : ℕ) (s : EngineState) : Type 0 where
  nothing_due : image_of s page ≡ None → rec_lsn_of s page ≡ None → IsReady page s
  as_now : image_of s page ≡ Some (page_now s page) → IsReady page s

ready : (page : ℕ) (old new : EngineState) → page < length old.writing → image_of old page ≡ None
    → BeginsWrite page old new → IsReady page new
ready page old new room idle begins = by_case (begun_how page old new begins)
  where
    by_case : Begun page old new → IsReady page new
    by_case (was_clean none is) =
        nothing_due (ap (λ (s : EngineState). image_of s page) is ∙ idle)
        (ap (λ (s : EngineState). rec_lsn_of s page) is ∙ none)
    by_case (was_dirty is) =
        as_now (ap (λ (s : EngineState). image_of s page) is
        ∙ get_or-set_same old.writing page (Some (page_now old page)) None room
        ∙ ap (λ (s : EngineState). Some (page_now s page)) (sym is))

-- the end of that write leaves the page clean
clean_then : (page : ℕ) (old new : EngineState) → page < length old.written
    → rec_lsn old.log page (image old.log page).lsn ≡ None → IsReady page old → EndsWrite page old new
    → rec_lsn_of new page ≡ None
clean_then page old new known clean ready ends = by_case ready (ended_how page old new ends)
  where
    by_case : IsReady page old → Ended page old new → rec_lsn_of new page ≡ None
    by_case (nothing_due idle none) (was_none no_image is) = ap (λ (s : EngineState). rec_lsn_of s page) is ∙ none
    by_case (nothing_due idle none) (was_some it some is) = absurd (cc)
    by_case (as_now begun) (was_none no_image is) = absurd (cc)
    by_case (as_now begun) (was_some it some is) =
        let same : page_now old page ≡ it = cc in
        ap (λ (s : EngineState). rec_lsn_of s page) is
        ∙ ap (rec_lsn old.log page) (get_or-set_same old.written page it.lsn 0 known)
        ∙ ap (λ (p : Page). rec_lsn old.log page p.lsn) (sym same)
        ∙ clean

-- the write in progress ends, another one begins and ends
pub cleans : (page : ℕ) (old ended begun new : EngineState) → IsFit old → page < volume_pages old
    → EndsWrite page old ended → BeginsWrite page ended begun → EndsWrite page begun new → CleansPage page old new
cleans page old ended begun new fit within first begins last =
    let one = ends_leaves page old ended first in
    let two = leaves_both page old ended begun one (begins_leaves page ended begun begins) in
    let all = leaves_both page old begun new two (ends_leaves page begun new last) in
    let room : page < length old.writing = let count = fit.counted.writing in omega arith in
    let idle = none_in_progress page old ended room first in
    let is_ready = ready page ended begun (let same = one.writing in omega arith) idle begins in
    let known : page < length begun.written =
    let count = fit.counted.written in let same = two.written in omega arith in
    record {
      clean = clean_then page begun new known
          (ap (λ rs. rec_lsn rs page (image rs page).lsn) two.log ∙ image_is_clean (log_of old) page fit.valid) is_ready last;
      others = λ p other. ap (λ rs. rec_lsn rs p (get_or new.written p 0)) all.log
          ∙ ap (rec_lsn old.log p) (all.others p other);
    }

-- ---- pages one after another

-- each page below a number is clean
abbrev pub IsCleanBelow : ℕ → EngineState → Type 0
IsCleanBelow cursor s = (p : ℕ) → p < cursor → rec_lsn_of s p ≡ None

pub clean_below : (cursor page next : ℕ) (old new : EngineState) → next ≡ page + 1 → IsCleanBelow cursor old
    → IsFirst old.log old.written cursor page → CleansPage page old new → IsCleanBelow next new
clean_below cursor page next old new is below first cleans p lt = elim (cases_eq p page) [
  | inl same ↦ ap (rec_lsn_of new) same ∙ cleans.clean
  | inr other ↦ cleans.others p other ∙ elim (cases_lt p cursor) [
    | inl low ↦ below p low
    | inr high ↦ first.before p high (omega arith)
  ]
]

-- how many pages there may be
pub few_pages : (s : EngineState) → IsFit s → length s.written ≤ MAX_PAGES
few_pages s fit =
    let most = (page_count-is_count (log_of s) fit.valid).most in
    let count = fit.counted.written in
    omega arith

-- no page is dirty from the cursor on, or the cursor is past all pages
pub none_left : (cursor : ℕ) (s : EngineState) → IsCleanBelow cursor s → next_dirty (dirty s.log s.written) cursor ≡ []
    → HasNoDirtyPage s
none_left cursor s below none = none_are_dirty s.log s.written (λ p lt. elim (cases_lt p cursor) [
  | inl low ↦ below p low
  | inr high ↦ clean_from s.log s.written cursor p none high lt
])

pub all_passed : (cursor : ℕ) (s : EngineState) → IsFit s → IsCleanBelow cursor s → MAX_PAGES ≤ cursor
    → HasNoDirtyPage s
all_passed cursor s fit below past =
    none_are_dirty s.log s.written (λ p lt. below p (let few = few_pages s fit in omega arith))

-- The state of a page, while its log grows and writes of it go on.
use Rattle.std.proofs.Common.{◌≡◌, ℕ, ◌*◌, ◌<◌, ◌≤◌, Bool, true, false, cond, List, [], ◌∷◌, ◌++◌, length, take}
use Rattle.std.proofs.Common.{refl, sym, ap, subst, ◌∙◌, arith}
use Rattle.std.specs.Prelude.{Option, Some, None, IfSome, IsSome, is_some}
use Rattle.std.specs.Option.{option_and_then, unwrap_or}
use Rattle.std.proofs.lemmas.Bool.{false≢true}
use Rattle.std.proofs.lemmas.List.{length_push, take_all}
use Rattle.page_core.specs.declared.page.Page.{Page}
use Rattle.log_records.specs.declared.record.Record.{Record}
use Rattle.log_records.specs.declared.record.Record.TheVariants.{Begin}
use Rattle.log_records.specs.Image.{image}
use Rattle.log_records.specs.Log.{IsLog, Log, lsn_of}
use Rattle.log_records.specs.Record.{own_lsn}
use Rattle.log_records.specs.Log.{with_next}
use Rattle.log_records.proofs.Public.{lsn-image}
use Rattle.log_records.specs.Coverage.{changes, rec_lsn}
use Rattle.log_records.proofs.Public.{image_is_clean, rec_later}
use Rattle.buffer_pool.specs.Pool.{IsStateOf, PageState, changed, unwritten, write_begun, write_ended}

-- an LSN below the log's end stays so
below_later : (log : Log) (next : Record) (lsn : ℕ) → lsn < lsn_of (length log.records)
    → lsn < lsn_of (length (log.records ++ next ∷ []))
below_later log next lsn low = omega (arith, length_push log.records next)

image_later : (log : Log) (next : Record) (o : Option Page) → IfSome o (λ q. q.lsn < lsn_of (length log.records))
    → IfSome o (λ q. q.lsn < lsn_of (length (log.records ++ next ∷ [])))
image_later log next None low = tt
image_later log next (Some q) low = below_later log next q.lsn low

-- ---- a record more that changes another page, or none

rec_same : (log : Log) (next : Record) (p lsn : ℕ) → IsLog log → own_lsn next ≡ lsn_of (length log.records)
    → changes p next ≡ false → lsn < lsn_of (length log.records)
    → rec_lsn log.records p lsn ≡ rec_lsn (log.records ++ next ∷ []) p lsn
rec_same log next p lsn valid own other low =
    let high : lsn < own_lsn next = omega arith in
    sym (rec_later log next p lsn valid own high
    ∙ ap (λ (b : Bool). cond b (Some (unwrap_or (rec_lsn log.records p lsn) (own_lsn next)))
    (rec_lsn log.records p lsn)) other)

pub state_same : (log : Log) (next : Record) (p : ℕ) (s : PageState) → IsLog log
    → own_lsn next ≡ lsn_of (length log.records) → changes p next ≡ false → IsStateOf log p s
    → IsStateOf (with_next log (next ∷ [])) p s
state_same log next p s valid own other is = record {
  written = below_later log next s.written is.written;
  image = image_later log next s.writing is.image;
  since = is.since ∙ since_same s.writing is.image;
  dirty = is.dirty ∙ rec_same log next p s.written valid own other is.written;
  idle = is.idle;
}
  where
    since_same : (o : Option Page) → IfSome o (λ q. q.lsn < lsn_of (length log.records))
        → option_and_then (λ q. rec_lsn log.records p q.lsn) o
        ≡ option_and_then (λ q. rec_lsn (log.records ++ next ∷ []) p q.lsn) o
    since_same None low = refl
    since_same (Some q) low = rec_same log next p q.lsn valid own other low

-- ---- a record more that changes the page

rec_noted : (log : Log) (next : Record) (p lsn : ℕ) → IsLog log → own_lsn next ≡ lsn_of (length log.records)
    → changes p next ≡ true → lsn < lsn_of (length log.records)
    → Some (unwrap_or (rec_lsn log.records p lsn) (own_lsn next)) ≡ rec_lsn (log.records ++ next ∷ []) p lsn
rec_noted log next p lsn valid own here low =
    let high : lsn < own_lsn next = omega arith in
    sym (rec_later log next p lsn valid own high
    ∙ ap (λ (b : Bool). cond b (Some (unwrap_or (rec_lsn log.records p lsn) (own_lsn next)))
    (rec_lsn log.records p lsn)) here)

pub state_changed : (log : Log) (next : Record) (p : ℕ) (s : PageState) → IsLog log
    → own_lsn next ≡ lsn_of (length log.records) → changes p next ≡ true → IsStateOf log p s
    → IsStateOf (with_next log (next ∷ [])) p (changed s (own_lsn next))
state_changed log next p s valid own here is = record {
  written = below_later log next s.written is.written;
  image = image_later log next s.writing is.image;
  since = since_noted s.writing s.since is.image is.since;
  dirty = ap (λ (o : Option ℕ). Some (unwrap_or o (own_lsn next))) is.dirty
      ∙ rec_noted log next p s.written valid own here is.written;
  idle = λ clean. absurd (cc);
}
  where
    since_noted : (o : Option Page) (since : Option ℕ) → IfSome o (λ q. q.lsn < lsn_of (length log.records))
        → since ≡ option_and_then (λ q. rec_lsn log.records p q.lsn) o
        → cond (is_some o) (Some (unwrap_or since (own_lsn next))) since
        ≡ option_and_then (λ q. rec_lsn (log.records ++ next ∷ []) p q.lsn) o
    since_noted None since low e = e
    since_noted (Some q) since low e =
        ap (λ (x : Option ℕ). Some (unwrap_or x (own_lsn next))) e ∙ rec_noted log next p q.lsn valid own here low

-- ---- a write of the page

-- no page has an LSN past the log's end
pub image_below : (log : Log) (p : ℕ) → IsLog log → (image log.records p).lsn < lsn_of (length log.records)
image_below log p valid =
    let rs = log.records in
    let whole : take (length rs) rs ≡ rs = take_all (length rs) rs (omega arith) in
    let most : (image rs p).lsn ≤ 64 * length rs =
    subst (λ (xs : List Record). (image xs p).lsn ≤ 64 * length rs) whole
    (lsn-image log valid p (length rs) (Begin 0 0) (omega arith)) in
    omega arith

pub state_begun : (log : Log) (p : ℕ) (s : PageState) (q : Page) → IsLog log → q ≡ image log.records p
    → IsSome s.rec_lsn → IsStateOf log p s → IsStateOf log p (write_begun s q)
state_begun log p s q valid now noted is =
    subst (λ (x : Page). IsStateOf log p (write_begun s x)) (sym now)
    (record {
      written = is.written;
      image = image_below log p valid;
      since = sym (image_is_clean log p valid);
      dirty = is.dirty;
      idle = λ clean. absurd (false≢true (subst IsSome clean noted));
    })

pub state_ended : (log : Log) (p : ℕ) (s : PageState) (q : Page) → s.writing ≡ Some q → IsStateOf log p s
    → IsStateOf log p (write_ended s q.lsn)
state_ended log p s q here is = record {
  written =
      subst (λ (o : Option Page). IfSome o (λ x. x.lsn < lsn_of (length log.records))) here is.image;
  image = tt;
  since = refl;
  dirty = is.since ∙ ap (option_and_then (λ x. rec_lsn log.records p x.lsn)) here;
  idle = λ clean. refl;
}

-- ---- the log's beginning

pub state_new : (pages p : ℕ) → IsStateOf (record { pages = pages; records = [] }) p unwritten
state_new pages p = record { written = omega arith; image = tt; since = refl; dirty = refl; idle = λ clean. refl }

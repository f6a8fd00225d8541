-- The pages of a flush pass, one behind the other.
use Rattle.std.proofs.Common.{ℕ, ◌≡◌, ◌+◌, ◌≤◌, arith, below_more, subst}
use Rattle.std.specs.Prelude.{Result, Err}
use Rattle.std.proofs.Common.{inl, inr}
use Rattle.engine_calls.specs.declared.event.Answer.{Answer}
use Rattle.engine_calls.specs.declared.event.Event.TheVariants as event
use Rattle.engine_calls.specs.declared.refusal.Refusal.{Refusal}
use Rattle.engine_rules.specs.Step.{reply_of}
use Rattle.engine_run.specs.Flushed.{AreFlushed, IsFlushed, PassesOver, RefusesFlush, RepliesOf}
use Rattle.engine_run.specs.Replies.{EngineCall, RepliesBy}

-- the write of a page was refused: where it begins, or where it ends
module _ {T : Type 0} (call : EngineCall) (answered : T → Answer) (page : ℕ) {result : Result T Refusal} {pages : ℕ}
    {why : Refusal} where
  pub begin_refused : RepliesOf call (event.WriteBegin page) (reply_of answered result) pages → result ≡ Err why
      → RefusesFlush call why
  begin_refused told is =
      (page, inl (subst (λ (r : Result T Refusal). RepliesBy call (event.WriteBegin page) (reply_of answered r)) is told.reply))

  pub end_refused : RepliesOf call (event.WriteEnd page) (reply_of answered result) pages → result ≡ Err why
      → RefusesFlush call why
  end_refused told is =
      (page, inr (subst (λ (r : Result T Refusal). RepliesBy call (event.WriteEnd page) (reply_of answered r)) is told.reply))

pub none_flushed : (call : EngineCall) → AreFlushed call 0
none_flushed call page before = absurd (omega (arith, before))

-- one page more
pub flushed_more : (call : EngineCall) (page pages : ℕ) → AreFlushed call page → IsFlushed call page pages
    → AreFlushed call (page + 1)
flushed_more call page pages so_far now =
    below_more (λ p. (n : ℕ) × IsFlushed call p n) page so_far (pages, now)

-- the last page of its volume
pub passed_last : (call : EngineCall) (page pages : ℕ) → AreFlushed call page → IsFlushed call page pages
    → pages ≤ page + 1 → PassesOver call
passed_last call page pages so_far now few = record {
  last = page;
  pages = pages;
  before = so_far;
  flushed = now;
  none_behind = omega (arith, few);
}

-- the last page that a volume may have
pub passed_all : (call : EngineCall) (count : ℕ) → count ≡ 65536 → AreFlushed call count → PassesOver call
passed_all call count is all =
    let here = all 65535 (omega (arith, is)) in
    record {
      last = 65535;
      pages = here.0;
      before = λ page before. all page (omega (arith, is, before));
      flushed = here.1;
      none_behind = omega arith;
    }

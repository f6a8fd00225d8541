-- Calls that begin copies, of which some are passed over.
use Rattle.std.proofs.Common.{ℕ, ◌≡◌, ◌+◌, ◌-◌, ◌<◌, ◌≤◌, ◌++◌, List, [], ◌∷◌, ap, arith, inl, inr, length, map, refl, subst, suc, sym, zero, ◌∙◌, ◌⊎◌}
use Rattle.std.specs.Prelude.{slice_index_or, Option, Some, None, Result, Ok, Err}
use Rattle.std.specs.List.{All, Contains}
use Rattle.std.specs.Cmp.{nat_eq_equiv}
use Rattle.std.proofs.lemmas.Bool.{cases_lt}
use Rattle.std.proofs.lemmas.List.{length-append, length-map, length-set}
use Rattle.std.proofs.lemmas.Map.Steps.{le-length_from_below}
use Rattle.std.proofs.lemmas.Map.Views.{list_any-from_Contains}
use Rattle.std.proofs.lemmas.List.Elements.{All-append, All-cons, All-nil}
use Rattle.engine_calls.specs.EventFits.{EventFits}
use Rattle.engine_calls.specs.declared.event.Answer.{Answer}
use Rattle.engine_calls.specs.declared.event.Answer.TheVariants.{Copied}
use Rattle.engine_calls.specs.declared.event.Event.{Event}
use Rattle.engine_calls.specs.declared.event.Event.TheVariants.{CopyInc, DropCopy}
use Rattle.engine_calls.specs.declared.refusal.Refusal.{Refusal}
use Rattle.engine_calls.specs.declared.refusal.Refusal.TheVariants.{CopyNotComplete, OutOfMemory, StoreFault}
use Rattle.copy_vault.specs.Vault.{dropped}
use Rattle.copy_vault.specs.declared.copy_id.CopyKind.{CopyKind}
use Rattle.copy_vault.specs.declared.copy_id.CopyKind.TheVariants.{Full, Inc}
use Rattle.engine_rules.specs.EngineState.{EngineState, opened_copy}
use Rattle.engine_rules.specs.Run.{Run}
use Rattle.engine_rules.specs.Step.{Fails, Step}
use Rattle.database_session.proofs.Runs.{run_append}
use Rattle.database_session.specs.Calls.{Makes, MakesOne, PassesOver, begun, copy_call, none_passed}
use Rattle.database_session.specs.Calls.{one_passed, waits}
use Rattle.database_session.specs.MadeFiles.{IsBegunAtOnce}
use Rattle.database_session.specs.UnplacedCopies.{Waits}
use Rattle.database_session.specs.declared.unplaced_copies.Stage.{Stage}
use Rattle.session_lines.specs.declared.said.Said.{Said}
use Rattle.session_lines.specs.declared.said.Said.TheVariants.{Reply}

-- ---- the ids of copies

abbrev id_of : Answer → ℕ
id_of (Copied id) = id
id_of other = 0

opened_next : (kind : CopyKind) (s new : EngineState) (id : ℕ) → Copied id ≡ (opened_copy s kind).answer
    → new ≡ (opened_copy s kind).state → (id ≡ length s.copies + 1) × (length new.copies ≡ length s.copies + 1)
opened_next kind s new id answer state = (
  ap id_of answer,
  ap (λ (it : EngineState). length it.copies) state ∙ length-append s.copies _,
)

-- a copy that is begun gets the next one
begun_next : (parent : Option ℕ) (s new : EngineState) (id : ℕ) → Step s (copy_call parent) (Ok (Copied id)) new
    → (id ≡ length s.copies + 1) × (length new.copies ≡ length s.copies + 1)
begun_next None s new id step = opened_next Full s new id step.1 step.2
begun_next (Some parent) s new id step = opened_next (Inc parent) s new id step.1 step.2

drop_fails : (s new : EngineState) (id : ℕ) (why : Refusal) → Fails s (DropCopy id) why new → new ≡ s
drop_fails s new id OutOfMemory fails = fails.1
drop_fails s new id StoreFault fails = fails.1
drop_fails s new id other fails = absurd fails

-- one that is dropped keeps it
dropped_keeps : (s new : EngineState) (id : ℕ) (reply : Result Answer Refusal) → Step s (DropCopy id) reply new
    → length new.copies ≡ length s.copies
dropped_keeps s new id (Ok answer) step =
    ap (λ (it : EngineState). length it.copies) step.2 ∙ length-set s.copies (id - 1) dropped
dropped_keeps s new id (Err why) step = ap (λ (it : EngineState). length it.copies) (elim step [
  | inl refused ↦ refused.1
  | inr failed ↦ drop_fails s new id why failed.1
])

-- a list that has so many ids, one after another, is no shorter than that
less_at : (ids : List ℕ) (first k q : ℕ) → slice_index_or ids k (first + q) ≡ first + q
    → slice_index_or (map (λ id. id - first) ids) k q ≡ q
less_at [] first k q is = refl
less_at (id ∷ ids) first zero q is = omega (arith, is)
less_at (id ∷ ids) first (suc k) q is = less_at ids first k q is

less : (ids : List ℕ) (first q : ℕ) → Contains ids (first + q) → Contains (map (λ id. id - first) ids) q
less ids first q has = (
  has.0,
  subst (λ (n : ℕ). has.0 < n) (sym (length-map ids (λ id. id - first))) has.1,
  less_at ids first has.0 q has.2,
)

-- so many ids, one after another, stand in a list that is no shorter than that
no_fewer : (ids : List ℕ) (first count : ℕ) → ((k : ℕ) → k < count → Contains ids (first + k)) → count ≤ length ids
no_fewer ids first count each =
    let lowered = map (λ id. id - first) ids in
    subst (λ (n : ℕ). count ≤ n) (length-map ids (λ id. id - first))
    (le-length_from_below lowered count (λ q below.
    list_any-from_Contains nat_eq_equiv q lowered (less ids first q (each q below))))

one_less : (k n : ℕ) → k < n + 1 → (k < n) ⊎ (k ≡ n)
one_less k n below = elim (cases_lt k n) [
  | inl less ↦ inl less
  | inr more ↦ inr (omega (arith, below, more))
]

-- ---- copies that are passed over

-- the engine has passed over so many copies, whose ids are not given
pub record HasPassed (parent : Option ℕ) (unread : List ℕ) (count : ℕ) (old new : EngineState) : Type 0 where
  pub events : List Event
  pub replies : List (Result Answer Refusal)
  pub fit : All EventFits events
  pub run : Run old events replies new
  pub passed : PassesOver (copy_call parent) events replies
  pub none : count ≡ 0 → new ≡ old
  pub begun_since : length new.copies ≡ length old.copies + count
  pub not_given : (k : ℕ) → k < count → Contains unread (length old.copies + 1 + k)

pub passed_none : (parent : Option ℕ) (unread : List ℕ) (s : EngineState) → HasPassed parent unread 0 s s
passed_none parent unread s = record {
  events = [];
  replies = [];
  fit = All-nil EventFits;
  run = refl;
  passed = none_passed;
  none = λ is. refl;
  begun_since = omega (arith);
  not_given = λ k below. absurd (omega (arith, below));
}

copy_call_fits : (parent : Option ℕ) → EventFits (copy_call parent)
copy_call_fits None = tt
copy_call_fits (Some id) = tt

-- one more was begun, and dropped
pub passed_more : (parent : Option ℕ) (unread : List ℕ) (count : ℕ) (old mid opened new : EngineState) (id : ℕ)
    (reply : Result Answer Refusal) → HasPassed parent unread count old mid → Contains unread id
    → Step mid (copy_call parent) (Ok (Copied id)) opened → Step opened (DropCopy id) reply new
    → HasPassed parent unread (count + 1) old new
passed_more parent unread count old mid opened new id reply so_far is_unread begins drops =
    let call = copy_call parent in
    let two : All EventFits (call ∷ DropCopy id ∷ []) =
    All-cons EventFits call (DropCopy id ∷ []) (copy_call_fits parent)
    (All-cons EventFits (DropCopy id) [] tt (All-nil EventFits)) in
    let next = begun_next parent mid opened id begins in
    let since = so_far.begun_since in
    let kept = dropped_keeps opened new id reply drops in
    record {
      events = so_far.events ++ call ∷ DropCopy id ∷ [];
      replies = so_far.replies ++ Ok (Copied id) ∷ reply ∷ [];
      fit = All-append EventFits so_far.events (call ∷ DropCopy id ∷ []) so_far.fit two;
      run = run_append old mid new so_far.events (call ∷ DropCopy id ∷ []) so_far.replies
          (Ok (Copied id) ∷ reply ∷ []) so_far.run (opened, begins, (new, drops, refl));
      passed = one_passed so_far.events so_far.replies id reply so_far.passed;
      none = λ is. absurd (omega (arith, is));
      begun_since = omega (arith, kept, next.1, since);
      not_given = λ k below. elim (one_less k count below) [
        | inl less ↦ so_far.not_given k less
        | inr last ↦ subst (Contains unread) (omega (arith, next.0, since, last)) is_unread
      ];
    }

-- no more are passed over than are not given
pub passed_few : (parent : Option ℕ) (unread : List ℕ) (count : ℕ) (old new : EngineState)
    → HasPassed parent unread count old new → count ≤ length unread
passed_few parent unread count old new so_far =
    no_fewer unread (length old.copies + 1) count so_far.not_given

-- the last one is answered
pub begins_last : (parent : Option ℕ) (unread : List ℕ) (count : ℕ) (old mid new : EngineState)
    (reply : Result Answer Refusal) → HasPassed parent unread count old mid → Step mid (copy_call parent) reply new
    → Makes (copy_call parent) old (Reply reply) new
begins_last parent unread count old mid new reply so_far step =
    let call = copy_call parent in
    record {
      events = so_far.events ++ call ∷ [];
      replies = so_far.replies ++ reply ∷ [];
      fit = All-append EventFits so_far.events (call ∷ []) so_far.fit
          (All-cons EventFits call [] (copy_call_fits parent) (All-nil EventFits));
      run = run_append old mid new so_far.events (call ∷ []) so_far.replies (reply ∷ []) so_far.run
          (new, step, refl);
      says = begun parent so_far.events so_far.replies reply so_far.passed;
    }

-- it is the first one, where each id is given
pub begins_once : (parent : Option ℕ) (unread : List ℕ) (count : ℕ) (old mid new : EngineState)
    (reply : Result Answer Refusal) → HasPassed parent unread count old mid → Step mid (copy_call parent) reply new
    → unread ≡ [] → MakesOne (copy_call parent) old (Reply reply) new
begins_once parent unread count old mid new reply so_far step all =
    let few = passed_few parent unread count old mid so_far in
    let nothing : length unread ≡ 0 = ap (λ (ids : List ℕ). length ids) all in (
      reply,
      subst (λ (s : EngineState). Step s (copy_call parent) reply new) (so_far.none (omega (arith, few, nothing))) step,
      refl,
    )

-- the parent waits for its file, so that no call is made
pub parent_waits : (parent : ℕ) (s : EngineState) → Makes (CopyInc parent) s (Reply (Err CopyNotComplete)) s
parent_waits parent s = record {
  events = [];
  replies = [];
  fit = All-nil EventFits;
  run = refl;
  says = waits parent;
}

-- what holds of an increment on this parent holds of the call that begins it
pub begun_at_once : (event : Event) (parent : Option ℕ) (id : ℕ) (unread : List ℕ) (stages : List Stage)
    (old : EngineState) (said : Said) (new : EngineState) → event ≡ copy_call parent → parent ≡ Some id
    → (unread ≡ [] → ¬ Waits stages id → MakesOne (CopyInc id) old said new)
    → IsBegunAtOnce event unread stages old said new
begun_at_once event parent id unread stages old said new is which once =
    subst (λ (it : Event). IsBegunAtOnce it unread stages old said new) (sym (is ∙ ap copy_call which)) once

-- From each record of an open transaction the way back meets what was pending as of that record.
use Rattle.std.proofs.Common.{◌≡◌, ◌⊎◌, ◌∙◌, ℕ, Bool, true, false, cond, eqb, eqb-true, arith}
use Rattle.std.proofs.Common.{List, [], ◌∷◌, ◌++◌, ap, inl, inr, refl, subst, sym, true≢false}
use Rattle.std.specs.Prelude.{Some, None, reverse, slice_get}
use Rattle.std.specs.Option.{option_map_or}
use Rattle.std.proofs.lemmas.Bool.{cases_eq}
use Rattle.std.proofs.lemmas.Option.{same_Some}
use Rattle.log_records.specs.declared.record.Record.{Record}
use Rattle.log_records.specs.declared.record.Record.TheVariants.{Begin, Update, Comp, Commit}
use Rattle.log_records.specs.declared.record.Record.TheVariants.{Abort, End, BeginChkpt}
use Rattle.log_records.specs.declared.record.Record.TheVariants.{ChkptPages, ChkptTxns, EndChkpt, Extend}
use Rattle.log_records.specs.Log.{IsLog, Log}
use Rattle.log_records.specs.Record.{own_lsn}
use Rattle.log_rules.specs.declared.pending_change.PendingChange.{PendingChange}
use Rattle.log_rules.specs.Linked.{IsLinked, MayFollow}
use Rattle.log_rules.specs.Savepoints.{stack_at, stack_from}
use Rattle.log_rules.specs.Transactions.{first_lsn, is_open, pending, pending_from, records_of}
use Rattle.log_rules.specs.Transactions.{txn_of, with_pending}
use Rattle.log_rules.proofs.Public.{next_is_new, none_before_begin, open_has_begun}
use Rattle.log_rules.proofs.Public.{some_from_begin}
use Rattle.log_rules.proofs.Public.{along_linked, linked_push}
use Rattle.log_rules.proofs.Public.{first_lsn_push, is_open_push_other, last_lsn_push}
use Rattle.log_rules.proofs.Public.{pending_push, records_of_push_other, records_of_push_own}
use Rattle.loser_undo.specs.Losers.{IsStackAt, Leads}
use Rattle.loser_undo.proofs.Rising.{ArePlaced, log_placed}
use Rattle.loser_undo.proofs.Traced.{aside_own, placed_front, still_leads, traced_of}

-- ---- one record more

-- the stack was there before the record, or it is the one at the record
abbrev IsFoundWith : List PendingChange → List Record → Record → ℕ → List PendingChange → Type 0
IsFoundWith ps xs r at s = (stack_from ps xs at ≡ Some s)
    ⊎ ((own_lsn r ≡ at) × (s ≡ with_pending (pending_from ps xs) r))

stack_push : (ps : List PendingChange) (xs : List Record) (r : Record) (at : ℕ)
    (s : List PendingChange) → stack_from ps (xs ++ r ∷ []) at ≡ Some s → IsFoundWith ps xs r at s
stack_push ps [] r at s found = by (eqb (own_lsn r) at) refl found
  where
    by : (b : Bool) → eqb (own_lsn r) at ≡ b → cond b (Some (with_pending ps r)) None ≡ Some s
        → IsFoundWith ps [] r at s
    by true same is = inr (eqb-true (own_lsn r) at same, sym (same_Some (with_pending ps r) s is))
    by false other is = absurd (cc)
stack_push ps (x ∷ xs) r at s found = by (eqb (own_lsn x) at) found (stack_push after xs r at s)
  where
    after : List PendingChange
    after = with_pending ps x

    by : (b : Bool) → cond b (Some after) (stack_from after (xs ++ r ∷ []) at) ≡ Some s
        → (stack_from after (xs ++ r ∷ []) at ≡ Some s → IsFoundWith after xs r at s)
        → (cond b (Some after) (stack_from after xs at) ≡ Some s)
        ⊎ ((own_lsn r ≡ at) × (s ≡ with_pending (pending_from after xs) r))
    by true is rest = inl is
    by false is rest = rest is

-- a transaction that is open behind a record of its own was open before, or begins with it
was_open : (rs : List Record) (r : Record) → IsLinked rs → MayFollow rs r
    → is_open (rs ++ r ∷ []) (txn_of r) ≡ true
    → (records_of rs (txn_of r) ≡ []) ⊎ (is_open rs (txn_of r) ≡ true)
was_open rs (Begin lsn t) linked may still =
    let next = may.next in
    inl (none_before_begin rs linked t (omega arith) (next_is_new rs linked t (omega arith)))
was_open rs (Update lsn t prev page slot change) linked may still =
    inr may.active.goes_on.still_open
was_open rs (Comp lsn t prev undo_next page slot change) linked may still = inr may.0.still_open
was_open rs (Commit lsn t prev) linked may still = inr may.goes_on.still_open
was_open rs (Abort lsn t prev) linked may still = inr may.goes_on.still_open
was_open rs (End lsn t prev) linked may still = inr may.0.still_open
was_open rs (BeginChkpt lsn) linked may still =
    absurd (aside_own rs (BeginChkpt lsn) linked may refl still)
was_open rs (ChkptPages lsn begin pages) linked may still =
    absurd (aside_own rs (ChkptPages lsn begin pages) linked may refl still)
was_open rs (ChkptTxns lsn begin t state last undo) linked may still =
    absurd (aside_own rs (ChkptTxns lsn begin t state last undo) linked may refl still)
was_open rs (EndChkpt lsn begin redo) linked may still =
    absurd (aside_own rs (EndChkpt lsn begin redo) linked may refl still)
was_open rs (Extend lsn pages) linked may still =
    absurd (aside_own rs (Extend lsn pages) linked may refl still)

-- the way back from an earlier record is as it was
still_stack : (rs : List Record) (r : Record) (t at : ℕ) (s : List PendingChange)
    → first_lsn (rs ++ r ∷ []) t ≡ first_lsn rs t → IsStackAt rs t at s
    → IsStackAt (rs ++ r ∷ []) t at s
still_stack rs r t at s first is = record {
  way = is.way;
  leads = subst (λ n. Leads (rs ++ r ∷ []) t n at is.way) (sym first)
      (still_leads rs r t (first_lsn rs t) at is.way is.leads);
  stack_is = is.stack_is;
}

-- the way back from the last record meets all that is pending
last_stack : (rs : List Record) (r : Record) (t : ℕ) → txn_of r ≡ t → IsLinked rs → MayFollow rs r
    → ArePlaced (rs ++ r ∷ []) → is_open (rs ++ r ∷ []) t ≡ true → (at : ℕ) (s : List PendingChange)
    → own_lsn r ≡ at → s ≡ with_pending (pending rs t) r → IsStackAt (rs ++ r ∷ []) t at s
last_stack rs r t same linked may placed still at s here is =
    let after = rs ++ r ∷ [] in
    let traced = traced_of after (linked_push rs r linked may) placed t still in
    record {
      way = traced.way;
      leads = subst (λ n. Leads after t (first_lsn after t) n traced.way)
          (last_lsn_push rs r t same ∙ here) traced.leads;
      stack_is = traced.pending ∙ ap reverse (pending_push rs r t same ∙ sym is);
    }

-- ---- all of them

abbrev AreStacks : List Record → Type 0
AreStacks rs = ArePlaced rs → (t : ℕ) → is_open rs t ≡ true → (at : ℕ) (s : List PendingChange)
    → stack_at rs t at ≡ Some s → IsStackAt rs t at s

own_stack : (rs : List Record) (r : Record) (t : ℕ) → txn_of r ≡ t → IsLinked rs → MayFollow rs r
    → AreStacks rs → ArePlaced (rs ++ r ∷ []) → is_open (rs ++ r ∷ []) t ≡ true → (at : ℕ)
    (s : List PendingChange) → IsFoundWith [] (records_of rs t) r at s
    → (records_of rs t ≡ []) ⊎ (is_open rs t ≡ true) → IsStackAt (rs ++ r ∷ []) t at s
own_stack rs r t same linked may before placed still at s (inr here) was =
    last_stack rs r t same linked may placed still at s here.0 here.1
own_stack rs r t same linked may before placed still at s (inl earlier) (inl none) =
    let no : None ≡ Some s = ap (λ xs. stack_from [] xs at) (sym none) ∙ earlier in
    absurd (cc)
own_stack rs r t same linked may before placed still at s (inl earlier) (inr live) =
    let some = some_from_begin rs t (open_has_begun rs t live) in
    still_stack rs r t at s (first_lsn_push rs r t same some)
    (before (placed_front rs r placed) t live at s earlier)

stacks_more : (rs : List Record) (r : Record) → IsLinked rs → MayFollow rs r → AreStacks rs
    → AreStacks (rs ++ r ∷ [])
stacks_more rs r linked may before placed t still at s found = elim (cases_eq (txn_of r) t) [
  | inl same ↦
      let own = records_of_push_own rs r t same in
      own_stack rs r t same linked may before placed still at s
      (stack_push [] (records_of rs t) r at s
      (ap (λ xs. stack_from [] xs at) (sym own) ∙ found))
      (subst (λ n. (records_of rs n ≡ []) ⊎ (is_open rs n ≡ true)) same
      (was_open rs r linked may (subst (λ n. is_open (rs ++ r ∷ []) n ≡ true) (sym same) still)))
  | inr other ↦
      let as_before = records_of_push_other rs r t other in
      still_stack rs r t at s (ap (λ xs. option_map_or own_lsn (slice_get xs 0) 0) as_before)
      (before (placed_front rs r placed) t (sym (is_open_push_other rs r t other) ∙ still) at s
      (ap (λ xs. stack_from [] xs at) (sym as_before) ∙ found))
]

pub stacks_are_met : (log : Log) (t at : ℕ) (s : List PendingChange) → IsLog log
    → IsLinked log.records → is_open log.records t ≡ true → stack_at log.records t at ≡ Some s
    → IsStackAt log.records t at s
stacks_are_met log t at s valid linked still found =
    along_linked AreStacks (λ placed n none. absurd (true≢false (sym none))) stacks_more
    log.records linked (log_placed log valid) t still at s found

-- What is known of each record of a transaction that goes on, along a log.
use Rattle.std.proofs.Common.{◌≡◌, ◌≢◌, ℕ, ◌-◌, ◌<◌, ◌≤◌, Bool, true, false, cond, ◌&&◌, ◌||◌, not}
use Rattle.std.proofs.Common.{◌⊎◌, eqb, List, [], ◌∷◌, ◌++◌}
use Rattle.std.proofs.Common.{get_or, slice_get, length, refl, sym, ap, subst, ◌∙◌, inl, inr, arith}
use Rattle.std.proofs.Common.{eq-eqb, ne_eqb, true≢false}
use Rattle.std.specs.Prelude.{Option, Some, None, Contains}
use Rattle.std.specs.List.{All, list_any}
use Rattle.std.specs.Option.{option_map_or, option_to_list}
use Rattle.std.proofs.lemmas.Bool.{cases_eq}
use Rattle.std.proofs.lemmas.List.{get_or_append_left, length_push}
use Rattle.std.proofs.lemmas.List.Elements.{All-append, All-nil, All-push, All-take}
use Rattle.std.proofs.lemmas.List.Elements.{All-weaker, Contains-append_left, Contains-push}
use Rattle.std.proofs.lemmas.List.Quantifiers.{all_pairs_push}
use Rattle.std.proofs.lemmas.Option.{same_Some}
use Rattle.std.proofs.Math.Bool.{and-false, or-false, or-true}
use Rattle.page_core.specs.declared.change.Change.{Change}
use Rattle.log_records.specs.declared.record.Record.{Record}
use Rattle.log_records.specs.declared.record.Record.TheVariants.{Begin, Update, Comp, Commit, Abort}
use Rattle.log_records.specs.declared.record.Record.TheVariants.{End, BeginChkpt}
use Rattle.log_records.specs.declared.record.Record.TheVariants.{ChkptPages, ChkptTxns, EndChkpt, Extend}
use Rattle.log_records.specs.Log.{IsLog, Log, lsn_of}
use Rattle.log_records.specs.Record.{own_lsn}
use Rattle.log_rules.specs.declared.pending_change.PendingChange.{PendingChange}
use Rattle.txn_table.specs.CountUpTo.{AreRising}
use Rattle.log_rules.specs.Linked.{IsLinked, MayFollow}
use Rattle.log_rules.specs.Savepoints.{stack_at, stack_from}
use Rattle.log_rules.specs.Transactions.{begun_by, first_lsn, is_abort, is_last, is_open}
use Rattle.log_rules.specs.Transactions.{is_rolling, pending}
use Rattle.log_rules.specs.Transactions.{pending_from, records_of, txn_of, with_pending}
use Rattle.log_rules.specs.Transactions.{without_last}
use Rattle.log_rules.proofs.Public.{next_is_new, none_before_begin, open_has_begun}
use Rattle.log_rules.proofs.Public.{some_from_begin, zero_not_open}
use Rattle.log_rules.proofs.Public.{along_linked, linked_push}
use Rattle.log_rules.proofs.Public.{first_lsn_push, is_open_push_other, is_open_push_own}
use Rattle.log_rules.proofs.Public.{is_rolling_push, pending_push}
use Rattle.log_rules.proofs.Public.{records_of_push_other, records_of_push_own}
use Rattle.txn_table.specs.declared.returns.Return.{Return}
use Rattle.txn_table.specs.Returns.{return_of, returns_of}
use Rattle.txn_table.proofs.Stacks.{first_of, returns_push, at_last, stack_push_own}
use Rattle.txn_table.proofs.Stacks.{stack_push_other, stack_stays, ArePlaced, placed_front}
use Rattle.txn_table.proofs.Stacks.{placed_last, stack_below, stack_of_last, Splits, splits_push}
use Rattle.txn_table.proofs.Stacks.{Ends, ends_or_none, take_front, splits_pop, splits_same}

-- ---- what is known of a record of a transaction that goes on

-- the last change has this LSN: the record is its Update
pub record HasLast (stack : List PendingChange) (at : ℕ) : Type 0 where
  pub front : List PendingChange
  pub p : PendingChange
  pub is : stack ≡ front ++ p ∷ []
  pub at_is : p.lsn ≡ at

abbrev pub return_at : ℕ → ℕ → ℕ → Return
return_at at t left = record { lsn = at; txn = t; left = left }

-- it is the Begin, an Update or a Comp
abbrev pub IsKind : List Record → ℕ → ℕ → List PendingChange → Type 0
IsKind rs t at stack = ((at ≡ first_lsn rs t) × (stack ≡ []))
    ⊎ (HasLast stack at ⊎ Contains (returns_of rs) (return_at at t (length stack)))

pub record IsKnown (rs : List Record) (t at : ℕ) (stack : List PendingChange) : Type 0 where
  pub splits : Splits (pending rs t) stack at
  pub below : All (λ p. p.lsn ≤ at) stack
  pub rising : AreRising stack
  pub kind : IsKind rs t at stack

-- the Update that made a pending change is there
abbrev pub IsUpdateAt : List Record → ℕ → ℕ → Type 0
IsUpdateAt rs t at = (stack : List PendingChange) × ((stack_at rs t at ≡ Some stack) × HasLast stack at)

-- the Comp is there
abbrev pub IsLeftAt : List Record → Return → Type 0
IsLeftAt rs x = (stack : List PendingChange) × ((stack_at rs x.txn x.lsn ≡ Some stack) × (length stack ≡ x.left))

pub record IsGoing (rs : List Record) (t : ℕ) : Type 0 where
  pub first : stack_at rs t (first_lsn rs t) ≡ Some []
  pub updates : All (λ p. IsUpdateAt rs t p.lsn) (pending rs t)
  pub sooner : All (λ p. p.lsn < lsn_of (length rs)) (pending rs t)
  pub rising : AreRising (pending rs t)
  pub known : (at : ℕ) (stack : List PendingChange) → stack_at rs t at ≡ Some stack → IsKnown rs t at stack

-- ---- the Comps

abbrev pub AreLeft : List Record → Type 0
AreLeft rs = All (IsLeftAt rs) (returns_of rs)

pub left_stays : (rs : List Record) (r : Record) (x : Return) → IsLeftAt rs x → IsLeftAt (rs ++ r ∷ []) x
left_stays rs r x left = by (cases_eq (txn_of r) x.txn)
  where
    by : (txn_of r ≡ x.txn) ⊎ (txn_of r ≢ x.txn) → IsLeftAt (rs ++ r ∷ []) x
    by (inl same) = (left.0, (stack_stays rs r x.txn x.lsn left.0 same left.1.0, left.1.1))
    by (inr other) = (left.0, (stack_push_other rs r x.txn x.lsn other ∙ left.1.0, left.1.1))

pub left_by_last : (rs : List Record) (r : Record) → ArePlaced rs → own_lsn r ≡ lsn_of (length rs)
    → All (IsLeftAt (rs ++ r ∷ [])) (option_to_list (return_of rs r))
left_by_last rs (Comp lsn t prev undo_next page slot change) placed own = by (is_rolling rs t)
  where
    r : Record
    r = Comp lsn t prev undo_next page slot change

    by : (b : Bool) → All (IsLeftAt (rs ++ Comp lsn t prev undo_next page slot change ∷ []))
        (option_to_list (cond b None (Some (return_at lsn t (length (without_last (pending rs t)))))))
    by true = All-nil (IsLeftAt (rs ++ Comp lsn t prev undo_next page slot change ∷ []))
    by false = All-push (IsLeftAt (rs ++ Comp lsn t prev undo_next page slot change ∷ [])) []
        (return_at lsn t (length (without_last (pending rs t))))
        (All-nil (IsLeftAt (rs ++ Comp lsn t prev undo_next page slot change ∷ []))) (
          without_last (pending rs t),
          (stack_of_last rs (Comp lsn t prev undo_next page slot change) t placed own refl, refl),
        )
left_by_last rs (Begin lsn t) placed own = All-nil (IsLeftAt (rs ++ Begin lsn t ∷ []))
left_by_last rs (Update lsn t prev page slot change) placed own =
    All-nil (IsLeftAt (rs ++ Update lsn t prev page slot change ∷ []))
left_by_last rs (Commit lsn t prev) placed own = All-nil (IsLeftAt (rs ++ Commit lsn t prev ∷ []))
left_by_last rs (Abort lsn t prev) placed own = All-nil (IsLeftAt (rs ++ Abort lsn t prev ∷ []))
left_by_last rs (End lsn t prev) placed own = All-nil (IsLeftAt (rs ++ End lsn t prev ∷ []))
left_by_last rs (BeginChkpt lsn) placed own = All-nil (IsLeftAt (rs ++ BeginChkpt lsn ∷ []))
left_by_last rs (ChkptPages lsn begin pages) placed own =
    All-nil (IsLeftAt (rs ++ ChkptPages lsn begin pages ∷ []))
left_by_last rs (ChkptTxns lsn begin t state last undo) placed own =
    All-nil (IsLeftAt (rs ++ ChkptTxns lsn begin t state last undo ∷ []))
left_by_last rs (EndChkpt lsn begin redo) placed own = All-nil (IsLeftAt (rs ++ EndChkpt lsn begin redo ∷ []))
left_by_last rs (Extend lsn pages) placed own = All-nil (IsLeftAt (rs ++ Extend lsn pages ∷ []))

pub left_more : (rs : List Record) (r : Record) → ArePlaced rs → own_lsn r ≡ lsn_of (length rs) → AreLeft rs
    → AreLeft (rs ++ r ∷ [])
left_more rs r placed own left =
    subst (All (IsLeftAt (rs ++ r ∷ []))) (sym (returns_push rs r))
    (All-append (IsLeftAt (rs ++ r ∷ [])) (returns_of rs) (option_to_list (return_of rs r))
    (All-weaker (IsLeftAt rs) (IsLeftAt (rs ++ r ∷ [])) (left_stays rs r) (returns_of rs) left)
    (left_by_last rs r placed own))

-- ---- one record more of the transaction

abbrev pub SplitsOn : List PendingChange → List PendingChange → ℕ → Type 0
SplitsOn old new lsn = (stack : List PendingChange) (at : ℕ) → at < lsn → Splits old stack at → Splits new stack at

pub record Goes (rs : List Record) (r : Record) (t : ℕ) : Type 0 where
  placed : ArePlaced rs
  own : own_lsn r ≡ lsn_of (length rs)
  same : txn_of r ≡ t
  same_first : first_lsn (rs ++ r ∷ []) t ≡ first_lsn rs t
  rising : AreRising (with_pending (pending rs t) r)
  sooner : All (λ p. p.lsn ≤ own_lsn r) (with_pending (pending rs t) r)
  updates : All (λ p. IsUpdateAt (rs ++ r ∷ []) t p.lsn) (with_pending (pending rs t) r)
  splits : SplitsOn (pending rs t) (with_pending (pending rs t) r) (own_lsn r)
  kind : IsKind (rs ++ r ∷ []) t (own_lsn r) (with_pending (pending rs t) r)

pub kind_stays : (rs : List Record) (r : Record) (t at : ℕ) (stack : List PendingChange)
    → first_lsn (rs ++ r ∷ []) t ≡ first_lsn rs t → IsKind rs t at stack → IsKind (rs ++ r ∷ []) t at stack
kind_stays rs r t at stack same (inl first) = inl (first.0 ∙ sym same, first.1)
kind_stays rs r t at stack same (inr (inl last)) = inr (inl last)
kind_stays rs r t at stack same (inr (inr there)) =
    inr (inr (subst (λ xs. Contains xs (return_at at t (length stack))) (sym (returns_push rs r))
    (Contains-append_left (returns_of rs) (option_to_list (return_of rs r)) (return_at at t (length stack)) there)))

pub goes_on : (rs : List Record) (r : Record) (t : ℕ) → Goes rs r t → IsGoing rs t → IsGoing (rs ++ r ∷ []) t
goes_on rs r t goes going =
    let now : pending (rs ++ r ∷ []) t ≡ with_pending (pending rs t) r = pending_push rs r t goes.same in
    record {
      first = ap (stack_at (rs ++ r ∷ []) t) goes.same_first
          ∙ stack_stays rs r t (first_lsn rs t) [] goes.same going.first;
      updates = subst (All (λ (p : PendingChange). IsUpdateAt (rs ++ r ∷ []) t p.lsn)) (sym now) goes.updates;
      sooner = subst (All (λ (p : PendingChange). p.lsn < lsn_of (length (rs ++ r ∷ [])))) (sym now)
          (All-weaker (λ (p : PendingChange). p.lsn ≤ own_lsn r)
          (λ (p : PendingChange). p.lsn < lsn_of (length (rs ++ r ∷ [])))
          (λ p le. let own = goes.own in omega (arith, le, own, length_push rs r))
          (with_pending (pending rs t) r) goes.sooner);
      rising = subst AreRising (sym now) goes.rising;
      known = known;
    }
  where
    now_is : pending (rs ++ r ∷ []) t ≡ with_pending (pending rs t) r
    now_is = pending_push rs r t goes.same

    old_known : (at : ℕ) (stack : List PendingChange) → stack_at rs t at ≡ Some stack
        → IsKnown (rs ++ r ∷ []) t at stack
    old_known at stack is =
        let was = going.known at stack is in
        let below : at < own_lsn r = let end = stack_below rs t at stack goes.placed is in
        let own = goes.own in omega arith in
        record {
          splits = subst (λ xs. Splits xs stack at) (sym (pending_push rs r t goes.same))
              (goes.splits stack at below was.splits);
          below = was.below;
          rising = was.rising;
          kind = kind_stays rs r t at stack goes.same_first was.kind;
        }

    new_known : (at : ℕ) (stack : List PendingChange) → own_lsn r ≡ at → with_pending (pending rs t) r ≡ stack
        → IsKnown (rs ++ r ∷ []) t at stack
    new_known at stack same is =
        subst (λ (n : ℕ). IsKnown (rs ++ r ∷ []) t n stack) same
        (subst (λ (xs : List PendingChange). IsKnown (rs ++ r ∷ []) t (own_lsn r) xs) is (record {
          splits = subst (λ xs. Splits xs (with_pending (pending rs t) r) (own_lsn r))
              (sym (pending_push rs r t goes.same)) (splits_same (with_pending (pending rs t) r) (own_lsn r));
          below = goes.sooner;
          rising = goes.rising;
          kind = goes.kind;
        }))

    known : (at : ℕ) (stack : List PendingChange) → stack_at (rs ++ r ∷ []) t at ≡ Some stack
        → IsKnown (rs ++ r ∷ []) t at stack
    known at stack is = by (stack_at rs t at) refl (sym (stack_push_own rs r t at goes.same) ∙ is)
      where
        by : (o : Option (List PendingChange)) → stack_at rs t at ≡ o
            → first_of o (at_last (pending rs t) r at) ≡ Some stack → IsKnown (rs ++ r ∷ []) t at stack
        by (Some there) was is = old_known at stack (was ∙ is)
        by None was is = last (cases_eq (own_lsn r) at)
          where
            last : (own_lsn r ≡ at) ⊎ (own_lsn r ≢ at) → IsKnown (rs ++ r ∷ []) t at stack
            last (inl same) = new_known at stack same (same_Some _ _
                (sym (ap (λ b. cond b (Some (with_pending (pending rs t) r)) None) (eq-eqb (own_lsn r) at same)) ∙ is))
            last (inr other) =
                let no = sym (ap (λ b. cond b (Some (with_pending (pending rs t) r)) None) (ne_eqb (own_lsn r) at other))
                ∙ is in cc

pub sooner_to : (rs : List Record) (r : Record) (changes : List PendingChange) → own_lsn r ≡ lsn_of (length rs)
    → All (λ p. p.lsn < lsn_of (length rs)) changes → All (λ p. p.lsn ≤ own_lsn r) changes
sooner_to rs r changes own all =
    All-weaker (λ (p : PendingChange). p.lsn < lsn_of (length rs)) (λ (p : PendingChange). p.lsn ≤ own_lsn r)
    (λ p lt. omega (arith, lt, own)) changes all

pub updates_stay : (rs : List Record) (r : Record) (t : ℕ) (changes : List PendingChange) → txn_of r ≡ t
    → All (λ p. IsUpdateAt rs t p.lsn) changes → All (λ p. IsUpdateAt (rs ++ r ∷ []) t p.lsn) changes
updates_stay rs r t changes same all =
    All-weaker (λ (p : PendingChange). IsUpdateAt rs t p.lsn) (λ (p : PendingChange). IsUpdateAt (rs ++ r ∷ []) t p.lsn)
    (λ p there. (there.0, (stack_stays rs r t p.lsn there.0 same there.1.0, there.1.1))) changes all

pub rising_pop : (changes : List PendingChange) → AreRising changes → AreRising (without_last changes)
rising_pop changes rising = by (ends_or_none changes)
  where
    by : (changes ≡ []) ⊎ Ends changes → AreRising (without_last changes)
    by (inl none) = subst AreRising (sym (ap without_last none)) (λ i j d below within. absurd (omega arith))
    by (inr e) = subst AreRising (sym (ap without_last e.is ∙ take_front e.front e.last)) front
      where
        all : AreRising (e.front ++ e.last ∷ [])
        all = subst AreRising e.is rising

        front : AreRising e.front
        front i j d below within =
            let long = length_push e.front e.last in
            subst (λ (n : ℕ). n < (get_or e.front j d).lsn)
            (ap (λ (p : PendingChange). p.lsn) (get_or_append_left e.front (e.last ∷ []) d i (omega arith)))
            (subst (λ (n : ℕ). (get_or (e.front ++ e.last ∷ []) i d).lsn < n)
            (ap (λ (p : PendingChange). p.lsn) (get_or_append_left e.front (e.last ∷ []) d j within))
            (all i j d below (omega arith)))

pub update_goes : (rs : List Record) (lsn t prev page slot : ℕ) (change : Change) → ArePlaced rs
    → lsn ≡ lsn_of (length rs) → is_open rs t ≡ true → IsGoing rs t
    → Goes rs (Update lsn t prev page slot change) t
update_goes rs lsn t prev page slot change placed own still going =
    let r = Update lsn t prev page slot change in
    let p : PendingChange = record { lsn = lsn; prev = prev; page = page; slot = slot; change = change } in
    let last : HasLast (pending rs t ++ p ∷ []) lsn = record { front = pending rs t; p = p; is = refl; at_is = refl } in
    record {
      placed = placed;
      own = own;
      same = refl;
      same_first = first_lsn_push rs r t refl (some_from_begin rs t (open_has_begun rs t still));
      rising = all_pairs_push (λ (a b : PendingChange). a.lsn < b.lsn) (pending rs t) p going.rising
          (λ k d lt. omega (arith, going.sooner k d lt, own));
      sooner = All-push (λ (q : PendingChange). q.lsn ≤ lsn) (pending rs t) p
          (sooner_to rs r (pending rs t) own going.sooner) (omega arith);
      updates = All-push (λ (q : PendingChange). IsUpdateAt (rs ++ r ∷ []) t q.lsn) (pending rs t) p
          (updates_stay rs r t (pending rs t) refl going.updates)
          (pending rs t ++ p ∷ [], (stack_of_last rs r t placed own refl, last));
      splits = λ stack at below s. splits_push (pending rs t) stack at p below s;
      kind = inr (inl last);
    }

pub comp_goes : (rs : List Record) (lsn t prev undo_next page slot : ℕ) (change : Change) → ArePlaced rs
    → lsn ≡ lsn_of (length rs) → is_open rs t ≡ true → is_rolling rs t ≡ false → IsGoing rs t
    → Goes rs (Comp lsn t prev undo_next page slot change) t
comp_goes rs lsn t prev undo_next page slot change placed own still active going =
    let r = Comp lsn t prev undo_next page slot change in
    let ps = pending rs t in
    let x = return_at lsn t (length (without_last ps)) in
    let shown : return_of rs r ≡ Some x = ap (λ b. cond b None (Some x)) active in
    record {
      placed = placed;
      own = own;
      same = refl;
      same_first = first_lsn_push rs r t refl (some_from_begin rs t (open_has_begun rs t still));
      rising = rising_pop ps going.rising;
      sooner = All-take (λ (q : PendingChange). q.lsn ≤ lsn) (length ps - 1) ps (sooner_to rs r ps own going.sooner);
      updates = All-take (λ (q : PendingChange). IsUpdateAt (rs ++ r ∷ []) t q.lsn) (length ps - 1) ps
          (updates_stay rs r t ps refl going.updates);
      splits = λ stack at below s. splits_pop ps stack at s;
      kind = inr (inr (subst (λ xs. Contains xs x)
          (sym (returns_push rs r ∙ ap (λ o. returns_of rs ++ option_to_list o) shown))
          (Contains-push (returns_of rs) x)));
    }

pub begin_goes : (rs : List Record) (lsn t : ℕ) → records_of rs t ≡ [] → IsGoing (rs ++ Begin lsn t ∷ []) t
begin_goes rs lsn t none =
    record {
      first = ap (stack_at (rs ++ Begin lsn t ∷ []) t) first_is ∙ at_begin lsn
          ∙ ap (λ b. cond b (Some []) None) (eq-eqb lsn lsn refl);
      updates = subst (All (λ (p : PendingChange). IsUpdateAt (rs ++ Begin lsn t ∷ []) t p.lsn)) (sym nothing)
          (All-nil (λ (p : PendingChange). IsUpdateAt (rs ++ Begin lsn t ∷ []) t p.lsn));
      sooner = subst (All (λ (p : PendingChange). p.lsn < lsn_of (length (rs ++ Begin lsn t ∷ [])))) (sym nothing)
          (All-nil (λ (p : PendingChange). p.lsn < lsn_of (length (rs ++ Begin lsn t ∷ []))));
      rising = subst AreRising (sym nothing) (λ i j d below within. absurd (omega arith));
      known = λ at stack is. known at stack (cases_eq lsn at) (sym (at_begin at) ∙ is);
    }
  where
    alone : records_of (rs ++ Begin lsn t ∷ []) t ≡ Begin lsn t ∷ []
    alone = records_of_push_own rs (Begin lsn t) t refl ∙ ap (λ xs. xs ++ Begin lsn t ∷ []) none

    nothing : pending (rs ++ Begin lsn t ∷ []) t ≡ []
    nothing = ap (pending_from []) alone

    first_is : first_lsn (rs ++ Begin lsn t ∷ []) t ≡ lsn
    first_is = ap (λ xs. option_map_or own_lsn (slice_get xs 0) 0) alone

    at_begin : (at : ℕ) → stack_at (rs ++ Begin lsn t ∷ []) t at ≡ cond (eqb lsn at) (Some []) None
    at_begin at = ap (λ xs. stack_from [] xs at) alone

    known : (at : ℕ) (stack : List PendingChange) → (lsn ≡ at) ⊎ (lsn ≢ at)
        → cond (eqb lsn at) (Some []) None ≡ Some stack → IsKnown (rs ++ Begin lsn t ∷ []) t at stack
    known at stack (inl same) is =
        let empty : [] ≡ stack = same_Some _ _ (sym (ap (λ b. cond b (Some []) None) (eq-eqb lsn at same)) ∙ is) in
        subst (λ (xs : List PendingChange). IsKnown (rs ++ Begin lsn t ∷ []) t at xs) empty (record {
          splits = subst (λ xs. Splits xs [] at) (sym nothing) (splits_same [] at);
          below = All-nil (λ (p : PendingChange). p.lsn ≤ at);
          rising = λ i j d below within. absurd (omega arith);
          kind = inl (sym same ∙ sym first_is, refl);
        })
    known at stack (inr other) is =
        let no = sym (ap (λ b. cond b (Some []) None) (ne_eqb lsn at other)) ∙ is in cc

-- ---- one record more of another transaction

pub aside : (rs : List Record) (r : Record) (t : ℕ) → txn_of r ≢ t → IsGoing rs t → IsGoing (rs ++ r ∷ []) t
aside rs r t other going = record {
  first = ap (stack_at (rs ++ r ∷ []) t) same_first ∙ stack_push_other rs r t (first_lsn rs t) other ∙ going.first;
  updates = subst (All (λ (p : PendingChange). IsUpdateAt (rs ++ r ∷ []) t p.lsn)) (sym same_pending)
      (All-weaker (λ (p : PendingChange). IsUpdateAt rs t p.lsn) (λ (p : PendingChange). IsUpdateAt (rs ++ r ∷ []) t p.lsn)
      (λ p there. (there.0, (stack_push_other rs r t p.lsn other ∙ there.1.0, there.1.1))) (pending rs t) going.updates);
  sooner = subst (All (λ (p : PendingChange). p.lsn < lsn_of (length (rs ++ r ∷ [])))) (sym same_pending)
      (All-weaker (λ (p : PendingChange). p.lsn < lsn_of (length rs))
      (λ (p : PendingChange). p.lsn < lsn_of (length (rs ++ r ∷ [])))
      (λ p lt. omega (arith, lt, length_push rs r)) (pending rs t) going.sooner);
  rising = subst AreRising (sym same_pending) going.rising;
  known = λ at stack is.
      let was = going.known at stack (sym (stack_push_other rs r t at other) ∙ is) in
      record {
        splits = subst (λ xs. Splits xs stack at) (sym same_pending) was.splits;
        below = was.below;
        rising = was.rising;
        kind = kind_stays rs r t at stack same_first was.kind;
      };
}
  where
    same_records : records_of (rs ++ r ∷ []) t ≡ records_of rs t
    same_records = records_of_push_other rs r t other

    same_pending : pending (rs ++ r ∷ []) t ≡ pending rs t
    same_pending = ap (pending_from []) same_records

    same_first : first_lsn (rs ++ r ∷ []) t ≡ first_lsn rs t
    same_first = ap (λ xs. option_map_or own_lsn (slice_get xs 0) 0) same_records

-- ---- along a log

abbrev pub AreGoing : List Record → Type 0
AreGoing rs = ArePlaced rs
    → AreLeft rs × ((t : ℕ) → is_open rs t ≡ true → is_rolling rs t ≡ false → IsGoing rs t)

pub active_before : (rs : List Record) (r : Record) (t : ℕ) → txn_of r ≡ t → is_abort r ≡ false
    → is_rolling (rs ++ r ∷ []) t ≡ false → is_rolling rs t ≡ false
active_before rs r t same none active =
    sym (or-false (is_rolling rs t)) ∙ ap (λ b. is_rolling rs t || b) (sym none)
    ∙ sym (is_rolling_push rs r t same) ∙ active

pub ended : (rs : List Record) (r : Record) → begun_by r ≡ None → is_last r ≡ true
    → is_open (rs ++ r ∷ []) (txn_of r) ≡ true → ⊥
ended rs r none last still =
    true≢false (sym still ∙ is_open_push_own rs r (txn_of r) none refl ∙ ap (λ b. is_open rs (txn_of r) && not b) last
    ∙ and-false (is_open rs (txn_of r)))

pub of_none : (rs : List Record) (r : Record) → IsLinked rs → MayFollow rs r → txn_of r ≡ 0
    → is_open (rs ++ r ∷ []) (txn_of r) ≡ true → ⊥
of_none rs r linked may none still =
    true≢false (sym still ∙ ap (is_open (rs ++ r ∷ [])) none ∙ zero_not_open (rs ++ r ∷ []) (linked_push rs r linked may))

pub own_going : (rs : List Record) (r : Record) → IsLinked rs → MayFollow rs r → ArePlaced rs
    → own_lsn r ≡ lsn_of (length rs) → ((t : ℕ) → is_open rs t ≡ true → is_rolling rs t ≡ false → IsGoing rs t)
    → is_open (rs ++ r ∷ []) (txn_of r) ≡ true → is_rolling (rs ++ r ∷ []) (txn_of r) ≡ false
    → IsGoing (rs ++ r ∷ []) (txn_of r)
own_going rs (Begin lsn t) linked may placed own before still active =
    let next = may.next in
    let new = next_is_new rs linked t (omega arith) in
    begin_goes rs lsn t (none_before_begin rs linked t (omega arith) new)
own_going rs (Update lsn t prev page slot change) linked may placed own before still active =
    let was = before t may.active.goes_on.still_open may.active.active in
    goes_on rs (Update lsn t prev page slot change) t
    (update_goes rs lsn t prev page slot change placed own may.active.goes_on.still_open was) was
own_going rs (Comp lsn t prev undo_next page slot change) linked may placed own before still active =
    let quiet = active_before rs (Comp lsn t prev undo_next page slot change) t refl refl active in
    let was = before t may.0.still_open quiet in
    goes_on rs (Comp lsn t prev undo_next page slot change) t
    (comp_goes rs lsn t prev undo_next page slot change placed own may.0.still_open quiet was) was
own_going rs (Abort lsn t prev) linked may placed own before still active =
    absurd (true≢false (sym (or-true (is_rolling rs t)) ∙ sym (is_rolling_push rs (Abort lsn t prev) t refl) ∙ active))
own_going rs (Commit lsn t prev) linked may placed own before still active =
    absurd (ended rs (Commit lsn t prev) refl refl still)
own_going rs (End lsn t prev) linked may placed own before still active =
    absurd (ended rs (End lsn t prev) refl refl still)
own_going rs (BeginChkpt lsn) linked may placed own before still active =
    absurd (of_none rs (BeginChkpt lsn) linked may refl still)
own_going rs (ChkptPages lsn begin pages) linked may placed own before still active =
    absurd (of_none rs (ChkptPages lsn begin pages) linked may refl still)
own_going rs (ChkptTxns lsn begin t state last undo) linked may placed own before still active =
    absurd (of_none rs (ChkptTxns lsn begin t state last undo) linked may refl still)
own_going rs (EndChkpt lsn begin redo) linked may placed own before still active =
    absurd (of_none rs (EndChkpt lsn begin redo) linked may refl still)
own_going rs (Extend lsn pages) linked may placed own before still active =
    absurd (of_none rs (Extend lsn pages) linked may refl still)

pub going_more : (rs : List Record) (r : Record) → IsLinked rs → MayFollow rs r → AreGoing rs → AreGoing (rs ++ r ∷ [])
going_more rs r linked may before placed =
    let front = placed_front rs r placed in
    let own = placed_last rs r placed in
    let was = before front in (
      left_more rs r front own was.0,
      λ t still active. elim (cases_eq (txn_of r) t) [
        | inl same ↦
            subst (IsGoing (rs ++ r ∷ [])) same
            (own_going rs r linked may front own was.1
            (subst (λ n. is_open (rs ++ r ∷ []) n ≡ true) (sym same) still)
            (subst (λ n. is_rolling (rs ++ r ∷ []) n ≡ false) (sym same) active))
        | inr other ↦
            aside rs r t other (was.1 t (sym (is_open_push_other rs r t other) ∙ still)
            (sym (ap (list_any is_abort) (records_of_push_other rs r t other)) ∙ active))
      ],
    )

pub record Facts (rs : List Record) (t : ℕ) : Type 0 where
  pub left : AreLeft rs
  pub going : IsGoing rs t

pub facts_of_log : (log : Log) (t : ℕ) → IsLog log → IsLinked log.records → is_open log.records t ≡ true
    → is_rolling log.records t ≡ false → Facts log.records t
facts_of_log log t valid linked still active =
    let all = along_linked AreGoing
    (λ placed. (All-nil (IsLeftAt []), λ n none. absurd (true≢false (sym none)))) going_more log.records linked
    (λ i d lt. let stands = valid.records i d lt in stands.lsn) in
    record { left = all.0; going = all.1 t still active }

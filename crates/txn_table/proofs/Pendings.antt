-- Pending changes, and what they keep out.
use Rattle.std.proofs.Common.{◌≡◌, ◌∙◌, ◌<◌, ◌&&◌, ◌||◌, ◌++◌, ◌∷◌, [], ℕ, Bool, true, false, not, List, cond, eqb}
use Rattle.std.proofs.Common.{refl, sym, ap, subst, append_assoc, append-nil}
use Rattle.std.proofs.lemmas.Bool.{and_from, and_parts, eq-eqb, eqb-true}
use Rattle.std.proofs.lemmas.List.{map-append}
use Rattle.std.proofs.lemmas.List.Folds.{list_any-append}
use Rattle.std.specs.List.{list_any}
use Rattle.page_core.specs.declared.change.ChangeKind.{ChangeKind}
use Rattle.page_core.specs.declared.change.ChangeKind.TheVariants as kind
use Rattle.page_core.specs.Change.{kind_of}
use Rattle.slot_claims.specs.declared.claims.Claims.{Claims}
use Rattle.slot_claims.specs.declared.claims.Hold.{Hold}
use Rattle.log_rules.specs.declared.pending_change.PendingChange.{PendingChange}
use Rattle.slot_claims.specs.declared.row_set.TheConstants.{ROWS}
use Rattle.slot_claims.specs.Claims.{IsWeaker, SetsHold, hold_at, hold_with}
use Rattle.txn_table.specs.Pending.{Pending}
use Rattle.txn_table.specs.OpenEntry.{AreStacked, IsHeld, changes_of, hold_by}
use Rattle.log_rules.specs.Transactions.{is_add, keeps_out}

or_true : (x : Bool) → (x || true) ≡ true
or_true true = refl
or_true false = refl

or_false : (x : Bool) → (x || false) ≡ x
or_false true = refl
or_false false = refl

one_more : (b : Bool) (k : ChangeKind) (x y : Bool) → (let h : Hold = record {
  against_sets = x || ((b && not (is_add kind.Set && is_add k)) || false);
  against_adds = y || ((b && not (is_add kind.Add && is_add k)) || false);
} in h) ≡ cond b (hold_with (record { against_sets = x; against_adds = y }) k)
    (record { against_sets = x; against_adds = y })
one_more true kind.Set x y = rw (or_true x, or_true y)
one_more true kind.Add x y = rw (or_true x, or_false y)
one_more false k x y = rw (or_false x, or_false y)

pub hold_by-push : (cs : List PendingChange) (c : PendingChange) (page slot : ℕ)
    → hold_by (cs ++ c ∷ []) page slot
    ≡ cond (eqb c.page page && eqb c.slot slot) (hold_with (hold_by cs page slot) (kind_of c.change))
    (hold_by cs page slot)
unfolding hold_by
hold_by-push cs c page slot =
    rw (
      list_any-append (keeps_out page slot kind.Set) cs (c ∷ []),
      list_any-append (keeps_out page slot kind.Add) cs
          (c ∷ []),
    )
    (one_more (eqb c.page page && eqb c.slot slot) (kind_of c.change) (list_any (keeps_out page slot kind.Set) cs)
    (list_any (keeps_out page slot kind.Add) cs))

-- ---- the stack

pub stacked-push : (below : List PendingChange) (ps : List Pending) (q : Pending) → AreStacked below ps
    → q.before ≡ hold_by (below ++ changes_of ps) q.change.page q.change.slot → AreStacked below (ps ++ q ∷ [])
stacked-push below [] q s e = (rw append-nil at e, tt)
stacked-push below (p ∷ ps) q s e = (
  s.0,
  stacked-push (below ++ p.change ∷ []) ps q s.1
      (e ∙ ap (λ cs. hold_by cs q.change.page q.change.slot)
      (sym (append_assoc below (p.change ∷ []) (changes_of ps)))),
)

pub stacked-pop : (below : List PendingChange) (ps : List Pending) (q : Pending) → AreStacked below (ps ++ q ∷ [])
    → AreStacked below ps × (q.before ≡ hold_by (below ++ changes_of ps) q.change.page q.change.slot)
stacked-pop below [] q s = (tt, rw append-nil s.0)
stacked-pop below (p ∷ ps) q s =
    let rest : AreStacked (below ++ p.change ∷ []) ps ×
    (q.before ≡ hold_by ((below ++ p.change ∷ []) ++ changes_of ps) q.change.page q.change.slot)
    = stacked-pop (below ++ p.change ∷ []) ps q s.1 in (
      (s.0, rest.0),
      rest.1 ∙ ap (λ cs. hold_by cs q.change.page q.change.slot)
          (append_assoc below (p.change ∷ []) (changes_of ps)),
    )

-- ---- the claims with it

-- of one row
own : (before after : Claims) (page slot row : ℕ) (hold : Hold) → row < ROWS
    → SetsHold before after page slot row hold
    → (p s : ℕ) → hold_at after p s row ≡ cond (eqb page p && eqb slot s) hold (hold_at before p s row)
own before after page slot row hold within set p s =
    set p s row within
    ∙ ap (λ b. cond ((eqb page p && eqb slot s) && b) hold (hold_at before p s row)) (eq-eqb row row refl)
    ∙ (let both : (b : Bool) → cond (b && true) hold (hold_at before p s row) ≡ cond b hold (hold_at before p s row)
    = λ b. elim b as (λ v. cond (v && true) hold (hold_at before p s row) ≡ cond v hold (hold_at before p s row))
    [ true ↦ refl | false ↦ refl ] in
    both (eqb page p && eqb slot s))

-- two names of one slot are held alike
same_place : (cs : List PendingChange) (page slot p s : ℕ) → (eqb page p && eqb slot s) ≡ true
    → hold_by cs page slot ≡ hold_by cs p s
same_place cs page slot p s e =
    let both = and_parts (eqb page p) (eqb slot s) e in
    ap (λ n. hold_by cs n slot) (eqb-true page p both.0) ∙ ap (λ n. hold_by cs p n) (eqb-true slot s both.1)

cond_congr : (b : Bool) (x y z : Hold) → (b ≡ true → x ≡ y) → cond b x z ≡ cond b y z
cond_congr true x y z h = h refl
cond_congr false x y z h = refl

pub held-push : (before after : Claims) (row : ℕ) (ps : List Pending) (c : PendingChange) (h : Hold) → row < ROWS
    → IsHeld before row ps → h ≡ hold_at before c.page c.slot row
    → SetsHold before after c.page c.slot row (hold_with h (kind_of c.change))
    → IsHeld after row (ps ++ record { change = c; before = h } ∷ [])
held-push before after row ps c h within held e set =
    let q : Pending = record { change = c; before = h } in
    let here : h ≡ hold_by (changes_of ps) c.page c.slot = e ∙ held.held c.page c.slot in
    record {
      stacked = stacked-push [] ps q held.stacked here;
      held = λ page slot.
          own before after c.page c.slot row (hold_with h (kind_of c.change)) within set page slot
          ∙ cond_congr (eqb c.page page && eqb c.slot slot) (hold_with h (kind_of c.change))
          (hold_with (hold_by (changes_of ps) page slot) (kind_of c.change)) (hold_at before page slot row)
          (λ t. ap (λ x. hold_with x (kind_of c.change)) (here ∙ same_place (changes_of ps) c.page c.slot page slot t))
          ∙ ap (λ x. cond (eqb c.page page && eqb c.slot slot)
          (hold_with (hold_by (changes_of ps) page slot) (kind_of c.change)) x)
          (held.held page slot)
          ∙ sym (hold_by-push (changes_of ps) c page slot)
          ∙ sym (ap (λ cs. hold_by cs page slot) (map-append (λ (p : Pending). p.change) ps (q ∷ [])));
    }

-- what the pending changes kept out with one more
before-push : (before : Claims) (row : ℕ) (ps : List Pending) (q : Pending) → IsHeld before row (ps ++ q ∷ [])
    → (page slot : ℕ) → hold_at before page slot row
    ≡ cond (eqb q.change.page page && eqb q.change.slot slot)
    (hold_with (hold_by (changes_of ps) page slot) (kind_of q.change.change))
    (hold_by (changes_of ps) page slot)
before-push before row ps q held page slot =
    held.held page slot ∙ ap (λ cs. hold_by cs page slot) (map-append (λ (p : Pending). p.change) ps (q ∷ []))
    ∙ hold_by-push (changes_of ps) q.change page slot

back : (b : Bool) (x y z w : Hold) → (b ≡ true → x ≡ z) → y ≡ cond b w z → cond b x y ≡ z
back true x y z w h e = h refl
back false x y z w h e = e

pub held-pop : (before after : Claims) (row : ℕ) (ps : List Pending) (q : Pending) → row < ROWS
    → IsHeld before row (ps ++ q ∷ []) → SetsHold before after q.change.page q.change.slot row q.before
    → IsHeld after row ps
held-pop before after row ps q within held set =
    let below = stacked-pop [] ps q held.stacked in
    record {
      stacked = below.0;
      held = λ page slot.
          own before after q.change.page q.change.slot row q.before within set page slot
          ∙ back (eqb q.change.page page && eqb q.change.slot slot) q.before (hold_at before page slot row)
          (hold_by (changes_of ps) page slot) (hold_with (hold_by (changes_of ps) page slot) (kind_of q.change.change))
          (λ t. below.1 ∙ same_place (changes_of ps) q.change.page q.change.slot page slot t)
          (before-push before row ps q held page slot);
    }

-- ---- what a transaction may fall back to

-- what keeps Adds out keeps Sets out
adds_are_sets : (cs : List PendingChange) (page slot : ℕ) → list_any (keeps_out page slot kind.Add) cs ≡ true
    → list_any (keeps_out page slot kind.Set) cs ≡ true
adds_are_sets [] page slot some = some
adds_are_sets (c ∷ cs) page slot some =
    by_first (eqb c.page page && eqb c.slot slot) (is_add (kind_of c.change))
    (list_any (keeps_out page slot kind.Add) cs)
    (list_any (keeps_out page slot kind.Set) cs) (adds_are_sets cs page slot) some
  where
    by_first : (here add adds sets : Bool) → (adds ≡ true → sets ≡ true)
        → ((here && not (true && add)) || adds) ≡ true
        → ((here && not (false && add)) || sets) ≡ true
    by_first true add adds sets rest e = refl
    by_first false add adds sets rest e = rest e

sets_of : (cs : List PendingChange) (page slot : ℕ) → (hold_by cs page slot).against_adds ≡ true
    → (hold_by cs page slot).against_sets ≡ true
unfolding hold_by
sets_of cs page slot = adds_are_sets cs page slot

weaker-with : (h : Hold) (k : ChangeKind) → (h.against_adds ≡ true → h.against_sets ≡ true)
    → IsWeaker h (hold_with h k)
weaker-with h kind.Set sets = record { than_some = refl; than_adds = λ adds. refl; sets = sets }
weaker-with h kind.Add sets = record { than_some = refl; than_adds = λ adds. adds; sets = sets }

-- what a transaction kept out of a slot before its last change there
pub held-weaker : (before : Claims) (row : ℕ) (ps : List Pending) (q : Pending) → IsHeld before row (ps ++ q ∷ [])
    → IsWeaker q.before (hold_at before q.change.page q.change.slot row)
held-weaker before row ps q held =
    let page = q.change.page in
    let slot = q.change.slot in
    let h = hold_by (changes_of ps) page slot in
    let was : q.before ≡ h = (stacked-pop [] ps q held.stacked).1 in
    let now : hold_with h (kind_of q.change.change) ≡ hold_at before page slot row =
    sym (before-push before row ps q held page slot
    ∙ ap (λ b. cond b (hold_with h (kind_of q.change.change)) h)
    (and_from (eqb page page) (eqb slot slot) (eq-eqb page page refl) (eq-eqb slot slot refl))) in
    subst (λ x. IsWeaker x (hold_at before page slot row)) (sym was)
    (subst (IsWeaker h) now (weaker-with h (kind_of q.change.change) (sets_of (changes_of ps) page slot)))

-- What the table of losers says of its log.
use Rattle.std.proofs.Common.{◌≡◌, ◌∙◌, ℕ, suc, zero, ◌+◌, ◌<◌, ◌≤◌, Bool, true, false, cond, eqb, not, List, [], ◌∷◌, ◌++◌, length}
use Rattle.std.proofs.Common.{ap, ap₂, arith, get_or, map, ne_eqb, eq-eqb, refl, set, slice_get, subst, sym, take}
use Rattle.std.specs.Prelude.{Some}
use Rattle.std.specs.List.{All, AllByRecursion, filter, remove, sum_by}
use Rattle.std.proofs.lemmas.List.{length-map, length_push, map_push, take_more}
use Rattle.std.proofs.lemmas.List.Elements.{All-get_or, All-map, All-weaker, filter_passes}
use Rattle.std.proofs.lemmas.Option.{same_Some}
use Rattle.std.proofs.lemmas.Simd.{map-map}
use Rattle.page_core.specs.declared.change.Change.{Change}
use Rattle.log_records.specs.declared.limits.TheConstants.{MAX_OPEN}
use Rattle.log_records.specs.declared.record.Record.{Record}
use Rattle.log_records.specs.declared.record.Record.TheVariants.{Abort, Begin, BeginChkpt, ChkptPages, ChkptTxns, Commit}
use Rattle.log_records.specs.declared.record.Record.TheVariants.{Comp, End, EndChkpt, Extend, Update}
use Rattle.log_rules.specs.Linked.{IsLinked, MayFollow}
use Rattle.log_rules.specs.Table.{TxnEntry, Table, compensated, entry_after, entry_of, noted, owed_by_entry, table_of}
use Rattle.log_rules.specs.Transactions.{begun, is_open, last_lsn, open_in, owed}
use Rattle.log_rules.proofs.Public.{owed_in-table_of}
use Rattle.log_rules.proofs.Public.{along_linked}
use Rattle.log_rules.proofs.Public.{table_of_push}
use Rattle.loser_undo.specs.declared.tail.OpenTxn.{OpenTxn}
use Rattle.loser_undo.specs.Losers.{AreLosersOf, losers_of}
use Rattle.loser_undo.specs.Tail.{open_txn, open_txns}
use Rattle.loser_undo.proofs.Rising.{IsRising}

-- ---- how they are listed

pub record IsOpenTxn (rs : List Record) (o : OpenTxn) : Type 0 where
  pub still : is_open rs o.txn ≡ true
  pub last : o.last ≡ last_lsn rs o.txn

each_open : (rs : List Record) → All (IsOpenTxn rs) (open_txns rs)
each_open rs =
    All-map (IsOpenTxn rs) (open_txn rs) (open_in rs)
    (All-weaker (λ t. is_open rs t ≡ true) (λ t. IsOpenTxn rs (open_txn rs t))
    (λ t still. record { still = still; last = refl }) (open_in rs) (filter_passes (is_open rs) (begun rs)))

pub one_open : (rs : List Record) (items : List OpenTxn) (i : ℕ) (x : OpenTxn) → items ≡ open_txns rs
    → i < length items → x ≡ get_or items i x → IsOpenTxn rs x
one_open rs items i x same lt is =
    subst (IsOpenTxn rs) (sym is)
    (All-get_or (IsOpenTxn rs) items i x lt (subst (All (IsOpenTxn rs)) (sym same) (each_open rs)))

abbrev pub entry_at : List Record → OpenTxn → TxnEntry
entry_at rs o = entry_of rs o.txn

pub listed_more : (rs : List Record) (items : List OpenTxn) (i : ℕ) (x : OpenTxn) (found new : List TxnEntry) (e : TxnEntry)
    → i < length items → x ≡ get_or items i x → found ≡ map (entry_at rs) (take i items)
    → e ≡ entry_of rs x.txn → new ≡ found ++ e ∷ [] → new ≡ map (entry_at rs) (take (i + 1) items)
listed_more rs items i x found new e lt is before one push =
    push ∙ ap₂ (λ es e. es ++ e ∷ []) before (one ∙ ap (entry_at rs) is)
    ∙ sym (ap (map (entry_at rs)) (take_more items i x lt) ∙ map_push (entry_at rs) (take i items) (get_or items i x))

pub listed_all : (rs : List Record) (items : List OpenTxn) → items ≡ open_txns rs
    → map (entry_at rs) items ≡ losers_of rs
listed_all rs items same = ap (map (entry_at rs)) same ∙ map-map (entry_at rs) (open_txn rs) (open_in rs)

-- ---- what they are owed

pub owed_of : (rs : List Record) (losers : List TxnEntry) → AreLosersOf rs losers → sum_by owed_by_entry losers ≡ owed rs
owed_of rs losers are = ap (sum_by owed_by_entry) are.made ∙ owed_in-table_of rs

-- ---- one record more

abbrev entries_of : Table → List TxnEntry
entries_of table = table.entries

pub comp_of_losers : (rs : List Record) (r : Record) (lsn t prev undo_next page slot : ℕ) (change : Change)
    → IsLinked rs → MayFollow rs r → r ≡ Comp lsn t prev undo_next page slot change
    → losers_of (rs ++ r ∷ []) ≡ map (λ e. cond (eqb e.txn t) (compensated lsn e) e) (losers_of rs)
comp_of_losers rs r lsn t prev undo_next page slot change linked may is =
    ap entries_of (table_of_push rs r linked may) ∙ ap (λ x. entries_of (noted (table_of rs) x)) is

pub end_of_losers : (rs : List Record) (r : Record) (lsn t prev : ℕ) → IsLinked rs → MayFollow rs r → r ≡ End lsn t prev
    → losers_of (rs ++ r ∷ []) ≡ filter (λ e. not (eqb e.txn t)) (losers_of rs)
end_of_losers rs r lsn t prev linked may is =
    ap entries_of (table_of_push rs r linked may) ∙ ap (λ x. entries_of (noted (table_of rs) x)) is

-- ---- how many they are

le_filter : (p : TxnEntry → Bool) (es : List TxnEntry) → length (filter p es) ≤ length es
le_filter p [] = omega arith
le_filter p (e ∷ es) = by (p e) (le_filter p es)
  where
    by : (b : Bool) → length (filter p es) ≤ length es
        → length (cond b (e ∷ filter p es) (filter p es)) ≤ length (e ∷ es)
    by true le = omega (arith, le)
    by false le = omega (arith, le)

few_noted : (rs : List Record) (r : Record) → IsLinked rs → MayFollow rs r → length (losers_of rs) ≤ MAX_OPEN
    → length (entries_of (noted (table_of rs) r)) ≤ MAX_OPEN
few_noted rs (Begin lsn t) linked may few =
    let room = may.room in
    omega (
      arith,
      room,
      length-map (open_in rs) (entry_of rs),
      length_push (losers_of rs) (record {
        txn = t;
        first = lsn;
        last = lsn;
        rolling = false;
        pending = [];
      }),
    )
few_noted rs (Update lsn t prev page slot change) linked may few = omega (
  arith,
  few,
  length-map (losers_of rs)
      (λ e. cond (eqb e.txn t) (entry_after e (Update lsn t prev page slot change)) e),
)
few_noted rs (Comp lsn t prev undo_next page slot change) linked may few =
    omega (arith, few, length-map (losers_of rs) (λ e. cond (eqb e.txn t) (compensated lsn e) e))
few_noted rs (Commit lsn t prev) linked may few =
    omega (arith, few, le_filter (λ e. not (eqb e.txn t)) (losers_of rs))
few_noted rs (Abort lsn t prev) linked may few =
    omega (arith, few, length-map (losers_of rs) (λ e. cond (eqb e.txn t) (entry_after e (Abort lsn t prev)) e))
few_noted rs (End lsn t prev) linked may few =
    omega (arith, few, le_filter (λ e. not (eqb e.txn t)) (losers_of rs))
few_noted rs (BeginChkpt lsn) linked may few = few
few_noted rs (ChkptPages lsn begin pages) linked may few = few
few_noted rs (ChkptTxns lsn begin t state last undo) linked may few = few
few_noted rs (EndChkpt lsn begin redo) linked may few = few
few_noted rs (Extend lsn pages) linked may few = few

pub few_losers : (rs : List Record) → IsLinked rs → length (losers_of rs) ≤ MAX_OPEN
few_losers = along_linked (λ rs. length (losers_of rs) ≤ MAX_OPEN) (omega arith) (λ rs r linked may few.
    omega (arith, ap (λ (t : Table). length (entries_of t)) (table_of_push rs r linked may), few_noted rs r linked may few))

-- ---- the one at a place

-- of entries whose numbers rise the one at a place is the one of its number
abbrev pub AreInOrder : List TxnEntry → Type 0
AreInOrder es = IsRising (map (λ (e : TxnEntry). e.txn) es)

later : (P : ℕ → Type 0) (es : List TxnEntry) (i : ℕ) (e : TxnEntry) → AllByRecursion P (map (λ (x : TxnEntry). x.txn) es)
    → slice_get es i ≡ Some e → P e.txn
later P [] i e all is = absurd (cc)
later P (x ∷ es) zero e all is = subst (λ (y : TxnEntry). P y.txn) (same_Some x e is) all.0
later P (x ∷ es) (suc i) e all is = later P es i e all.1 is

without : (t : ℕ) (es : List TxnEntry) → AllByRecursion (λ n. t < n) (map (λ (x : TxnEntry). x.txn) es)
    → filter (λ x. not (eqb x.txn t)) es ≡ es
without t [] above = refl
without t (x ∷ es) above =
    let lt = above.0 in
    ap (λ b. cond (not b) (x ∷ filter (λ y. not (eqb y.txn t)) es) (filter (λ y. not (eqb y.txn t)) es))
    (ne_eqb x.txn t (λ e. absurd (omega (arith, lt, e))))
    ∙ ap (λ ys. x ∷ ys) (without t es above.1)

unchanged : (g : TxnEntry → TxnEntry) (t : ℕ) (es : List TxnEntry) → AllByRecursion (λ n. t < n) (map (λ (x : TxnEntry). x.txn) es)
    → map (λ x. cond (eqb x.txn t) (g x) x) es ≡ es
unchanged g t [] above = refl
unchanged g t (x ∷ es) above =
    let lt = above.0 in
    ap₂ (λ b ys. cond b (g x) x ∷ ys) (ne_eqb x.txn t (λ e. absurd (omega (arith, lt, e)))) (unchanged g t es above.1)

pub removed : (es : List TxnEntry) (i : ℕ) (e : TxnEntry) → AreInOrder es → slice_get es i ≡ Some e
    → remove es i ≡ filter (λ x. not (eqb x.txn e.txn)) es
removed [] i e rising is = absurd (cc)
removed (x ∷ es) zero e rising is =
    let same = same_Some x e is in
    let rest = filter (λ y. not (eqb y.txn e.txn)) es in
    sym (ap (λ b. cond (not b) (x ∷ rest) rest) (eq-eqb x.txn e.txn (ap (λ (y : TxnEntry). y.txn) same))
    ∙ without e.txn es
    (subst (λ (y : TxnEntry). AllByRecursion (λ n. y.txn < n) (map (λ (z : TxnEntry). z.txn) es)) same rising.0))
removed (x ∷ es) (suc i) e rising is =
    let lt = later (λ n. x.txn < n) es i e rising.0 is in
    let rest = filter (λ y. not (eqb y.txn e.txn)) es in
    ap (λ ys. x ∷ ys) (removed es i e rising.1 is)
    ∙ sym (ap (λ b. cond (not b) (x ∷ rest) rest) (ne_eqb x.txn e.txn (λ s. absurd (omega (arith, lt, s)))))

pub changed : (g : TxnEntry → TxnEntry) (es : List TxnEntry) (i : ℕ) (e d : TxnEntry) → AreInOrder es → slice_get es i ≡ Some e
    → set es i (g (get_or es i d)) ≡ map (λ x. cond (eqb x.txn e.txn) (g x) x) es
changed g [] i e d rising is = absurd (cc)
changed g (x ∷ es) zero e d rising is =
    let same = same_Some x e is in
    sym (ap₂ (λ b ys. cond b (g x) x ∷ ys) (eq-eqb x.txn e.txn (ap (λ (y : TxnEntry). y.txn) same))
    (unchanged g e.txn es
    (subst (λ (y : TxnEntry). AllByRecursion (λ n. y.txn < n) (map (λ (z : TxnEntry). z.txn) es)) same rising.0)))
changed g (x ∷ es) (suc i) e d rising is =
    let lt = later (λ n. x.txn < n) es i e rising.0 is in
    ap (λ ys. x ∷ ys) (changed g es i e d rising.1 is)
    ∙ sym (ap (λ b. cond b (g x) x ∷ map (λ y. cond (eqb y.txn e.txn) (g y) y) es)
    (ne_eqb x.txn e.txn (λ s. absurd (omega (arith, lt, s)))))

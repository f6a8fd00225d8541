-- The open checkpoint of a log, while the log goes on.
use Rattle.std.proofs.Common.{◌≡◌, ℕ, zero, suc, ◌+◌, ◌-◌, ◌/◌, ◌<◌, ◌≤◌, Bool, true, false, cond, eqb, List, [], ◌∷◌, ◌++◌}
use Rattle.std.proofs.Common.{length, get_or, take, map, refl, sym, ap, subst, ◌∙◌, arith, inl, inr, min}
use Rattle.std.specs.Prelude.{Option, Some, None, IfSome}
use Rattle.std.specs.List.{All, Contains, fold}
use Rattle.std.proofs.Math.Nat.{min-eq_left, min-eq_right}
use Rattle.std.proofs.lemmas.Bool.{cases_lt}
use Rattle.std.proofs.lemmas.List.{take_all, take_more}
use Rattle.std.proofs.lemmas.List.Elements.{All-append, All-cons, All-filter, All-from_recursion, All-head, All-map}
use Rattle.std.proofs.lemmas.List.Elements.{All-nil}
use Rattle.std.proofs.lemmas.List.Elements.{All-push, All-tail, All-weaker}
use Rattle.std.proofs.lemmas.List.Sums.{fold-append}
use Rattle.log_records.specs.declared.dirty_page.DirtyPage.{DirtyPage}
use Rattle.log_records.specs.declared.dirty_page.DirtyPages.{DirtyPages}
use Rattle.log_records.specs.declared.dirty_page.DirtyPages.TheVariants.{One, Two, Three}
use Rattle.log_records.specs.declared.record.Record.{Record}
use Rattle.log_records.specs.declared.record.Record.TheVariants.{Begin, Update, Comp, Commit, Abort, End, BeginChkpt}
use Rattle.log_records.specs.declared.record.Record.TheVariants.{ChkptPages, ChkptTxns, EndChkpt, Extend}
use Rattle.log_records.specs.DirtyPage.{entries_of}
use Rattle.log_records.specs.Log.{IsLog, Log, lsn_of, page_count_below, with_next}
use Rattle.log_records.proofs.Public.{page_count_at-append}
use Rattle.log_records.specs.Record.{AreDirtyPages, IsBefore, IsOfTransaction, IsRecord, own_lsn}
use Rattle.log_rules.specs.Checkpoint.{Checkpoint, checkpoint_after, open_checkpoint, redo_point}
use Rattle.log_rules.specs.Linked.{IsLinked, MayFollow}
use Rattle.log_rules.specs.Table.{TxnEntry, Table, entry_after, entry_of, noted, table_of}
use Rattle.log_rules.specs.Transactions.{first_lsn, open_in}
use Rattle.log_rules.proofs.Public.{table_of_push}
use Rattle.fuzzy_ckpt.specs.Ckpt.{CkptView, HasBehind, IsCkptOf, Phase, gathered, in_pages, in_txns}

-- ---- one record more

pub open_push : (rs : List Record) (r : Record)
    → open_checkpoint (rs ++ r ∷ []) ≡ checkpoint_after (open_checkpoint rs) r
open_push rs r = fold-append checkpoint_after None rs (r ∷ [])

after_transaction : (o : Option Checkpoint) (r : Record) → IsOfTransaction r → checkpoint_after o r ≡ o
after_transaction o (Begin lsn txn) of = refl
after_transaction o (Update lsn txn prev page slot change) of = refl
after_transaction o (Comp lsn txn prev undo_next page slot change) of = refl
after_transaction o (Commit lsn txn prev) of = refl
after_transaction o (Abort lsn txn prev) of = refl
after_transaction o (End lsn txn prev) of = refl
after_transaction o (BeginChkpt lsn) of = absurd of
after_transaction o (ChkptPages lsn begin pages) of = absurd of
after_transaction o (ChkptTxns lsn begin txn state last undo) of = absurd of
after_transaction o (EndChkpt lsn begin redo) of = absurd of
after_transaction o (Extend lsn count) of = absurd of

pub open_same : (rs : List Record) (r : Record) → IsOfTransaction r
    → open_checkpoint (rs ++ r ∷ []) ≡ open_checkpoint rs
open_same rs r of = open_push rs r ∙ after_transaction (open_checkpoint rs) r of

-- ---- the least of some RecLSNs

-- what holds of both numbers holds of the lesser one
min_has : (P : ℕ → Type 0) (n m : ℕ) → P n → P m → P (min n m)
min_has P n m a b = elim (cases_lt n m) [
  | inl less ↦ let le : n ≤ m = omega arith in subst P (sym (min-eq_left le)) a
  | inr le ↦ subst P (sym (min-eq_right le)) b
]

abbrev pub lowered : ℕ → List DirtyPage → ℕ
lowered n es = fold (λ least e. min least e.rec_lsn) n es

pub lowered_falls : (es : List DirtyPage) (n : ℕ) → lowered n es ≤ n
lowered_falls [] n = omega arith
lowered_falls (e ∷ es) n = let rest = lowered_falls es (min n e.rec_lsn) in omega arith

pub lowered_least : (es : List DirtyPage) (n : ℕ) → All (λ e. lowered n es ≤ e.rec_lsn) es
lowered_least [] n = All-nil (λ (e : DirtyPage). n ≤ e.rec_lsn)
lowered_least (e ∷ es) n =
    let low = lowered_falls es (min n e.rec_lsn) in
    All-cons (λ x. lowered (min n e.rec_lsn) es ≤ x.rec_lsn) e es (omega arith) (lowered_least es (min n e.rec_lsn))

pub lowered_has : (P : ℕ → Type 0) (es : List DirtyPage) (n : ℕ) → P n → All (λ e. P e.rec_lsn) es → P (lowered n es)
lowered_has P [] n p all = p
lowered_has P (e ∷ es) n p all =
    lowered_has P es (min n e.rec_lsn) (min_has P n e.rec_lsn p (All-head (λ x. P x.rec_lsn) e es all))
    (All-tail (λ x. P x.rec_lsn) e es all)

-- ---- what an open checkpoint has stands in its log

pub record AreBefore (at : ℕ) (c : Checkpoint) : Type 0 where
  pub begin : IsBefore at c.begin
  pub pages : All (λ e. IsBefore at e.rec_lsn) c.pages

pub later_before : (at next lsn : ℕ) → at ≤ next → IsBefore at lsn → IsBefore next lsn
later_before at next lsn le before =
    let earlier = before.earlier in record { place = before.place; earlier = omega arith }

all_later : (at next : ℕ) (c : Checkpoint) → at ≤ next → AreBefore at c → AreBefore next c
all_later at next c le are = record {
  begin = later_before at next c.begin le are.begin;
  pages = All-weaker (λ e. IsBefore at e.rec_lsn) (λ e. IsBefore next e.rec_lsn)
      (λ e is. later_before at next e.rec_lsn le is) c.pages are.pages;
}

entries_before : (at : ℕ) (pages : DirtyPages) → AreDirtyPages at pages
    → All (λ e. IsBefore at e.rec_lsn) (entries_of pages)
entries_before at (One a) are = All-from_recursion (λ e. IsBefore at e.rec_lsn) (a ∷ []) (are.rec_lsn, tt)
entries_before at (Two a b) are =
    All-from_recursion (λ e. IsBefore at e.rec_lsn) (a ∷ b ∷ []) (are.0.rec_lsn, (are.1.rec_lsn, tt))
entries_before at (Three a b c) are =
    All-from_recursion (λ e. IsBefore at e.rec_lsn) (a ∷ b ∷ c ∷ [])
    (are.0.rec_lsn, (are.1.rec_lsn, (are.2.rec_lsn, tt)))

stays_before : (at : ℕ) (o : Option Checkpoint) → IfSome o (AreBefore at) → IfSome o (AreBefore (at + 64))
stays_before at None are = tt
stays_before at (Some c) are = all_later at (at + 64) c (omega arith) are

before_step : (at : ℕ) (r : Record) → own_lsn r ≡ at → IsRecord r → (o : Option Checkpoint) → IfSome o (AreBefore at)
    → IfSome (checkpoint_after o r) (AreBefore (at + 64))
before_step at (BeginChkpt lsn) own valid o are =
    record {
      begin = record { place = valid; earlier = omega arith };
      pages = All-nil
          (λ (e : DirtyPage). IsBefore (at + 64) e.rec_lsn);
    }
before_step at (ChkptPages lsn begin pages) own valid None are = tt
before_step at (ChkptPages lsn begin pages) own valid (Some c) are =
    let old = all_later at (at + 64) c (omega arith) are in
    record {
      begin = old.begin;
      pages = All-append (λ e. IsBefore (at + 64) e.rec_lsn) c.pages (entries_of pages) old.pages
          (All-weaker (λ e. IsBefore lsn e.rec_lsn) (λ e. IsBefore (at + 64) e.rec_lsn)
          (λ e is. later_before lsn (at + 64) e.rec_lsn (omega arith) is) (entries_of pages)
          (entries_before lsn pages valid.2));
    }
before_step at (ChkptTxns lsn begin txn state last undo) own valid None are = tt
before_step at (ChkptTxns lsn begin txn state last undo) own valid (Some c) are =
    let old = all_later at (at + 64) c (omega arith) are in record { begin = old.begin; pages = old.pages }
before_step at (EndChkpt lsn begin redo) own valid o are = tt
before_step at (Extend lsn count) own valid o are = stays_before at o are
before_step at (Begin lsn txn) own valid o are = stays_before at o are
before_step at (Update lsn txn prev page slot change) own valid o are = stays_before at o are
before_step at (Comp lsn txn prev undo_next page slot change) own valid o are = stays_before at o are
before_step at (Commit lsn txn prev) own valid o are = stays_before at o are
before_step at (Abort lsn txn prev) own valid o are = stays_before at o are
before_step at (End lsn txn prev) own valid o are = stays_before at o are

before_each : (log : Log) → IsLog log → (n : ℕ) → n ≤ length log.records
    → IfSome (open_checkpoint (take n log.records)) (AreBefore (lsn_of n))
before_each log valid zero le = tt
before_each log valid (suc n) le =
    let rs = log.records in
    let r = get_or rs n (BeginChkpt 0) in
    let stands = valid.records n (BeginChkpt 0) (omega arith) in
    let next : n + 1 ≡ suc n = omega arith in
    let more : take (n + 1) rs ≡ take n rs ++ r ∷ [] = take_more rs n (BeginChkpt 0) (omega arith) in
    let lsn : lsn_of n + 64 ≡ lsn_of (suc n) = omega arith in
    let step = before_step (lsn_of n) r stands.lsn stands.valid (open_checkpoint (take n rs))
    (before_each log valid n (omega arith)) in
    subst (λ (k : ℕ). IfSome (open_checkpoint (take k rs)) (AreBefore (lsn_of (suc n)))) next
    (subst (λ (xs : List Record). IfSome (open_checkpoint xs) (AreBefore (lsn_of (suc n)))) (sym more)
    (subst (λ (o : Option Checkpoint). IfSome o (AreBefore (lsn_of (suc n)))) (sym (open_push (take n rs) r))
    (subst (λ (at : ℕ). IfSome (checkpoint_after (open_checkpoint (take n rs)) r) (AreBefore at)) lsn step)))

pub open_before : (log : Log) (c : Checkpoint) → IsLog log → open_checkpoint log.records ≡ Some c
    → AreBefore (lsn_of (length log.records)) c
open_before log c valid is =
    let rs = log.records in
    subst (λ (o : Option Checkpoint). IfSome o (AreBefore (lsn_of (length rs))))
    (ap open_checkpoint (take_all (length rs) rs (omega arith)) ∙ is)
    (before_each log valid (length rs) (omega arith))

-- and so does its redo point
pub redo_before : (at : ℕ) (c : Checkpoint) → AreBefore at c → IsBefore at (redo_point c)
redo_before at c are = lowered_has (IsBefore at) c.pages c.begin are.begin are.pages

-- ---- the open transactions that began before a place

-- what holds of an entry, if it began before a place
abbrev Old : ℕ → (ℕ → Type 0) → TxnEntry → Type 0
Old begin P e = e.first < begin → P e.txn

changed_old : (begin : ℕ) (P : ℕ → Type 0) (t : ℕ) (r : Record) → ((e : TxnEntry) → Old begin P e
    → Old begin P (entry_after e r))
    → (es : List TxnEntry) → All (Old begin P) es
    → All (Old begin P) (map (λ e. cond (eqb e.txn t) (entry_after e r) e) es)
changed_old begin P t r after es all =
    All-map (Old begin P) (λ e. cond (eqb e.txn t) (entry_after e r) e) es
    (All-weaker (Old begin P) (λ e. Old begin P (cond (eqb e.txn t) (entry_after e r) e))
    (λ e is. by_txn e is (eqb e.txn t)) es all)
  where
    by_txn : (e : TxnEntry) → Old begin P e → (b : Bool) → Old begin P (cond b (entry_after e r) e)
    by_txn e is true = after e is
    by_txn e is false = is

noted_old : (begin : ℕ) (P : ℕ → Type 0) (table : Table) (r : Record) → begin ≤ own_lsn r
    → All (Old begin P) table.entries → All (Old begin P) (noted table r).entries
noted_old begin P table (Begin lsn txn) le all = All-push (Old begin P) table.entries _ all
    (λ low. absurd (omega arith))
noted_old begin P table (Update lsn txn prev page slot change) le all =
    changed_old begin P txn (Update lsn txn prev page slot change) (λ e is. is) table.entries all
noted_old begin P table (Comp lsn txn prev undo_next page slot change) le all =
    changed_old begin P txn (Comp lsn txn prev undo_next page slot change) (λ e is. is) table.entries all
noted_old begin P table (Abort lsn txn prev) le all =
    changed_old begin P txn (Abort lsn txn prev) (λ e is. is) table.entries all
noted_old begin P table (Commit lsn txn prev) le all = All-filter _ (Old begin P) table.entries all
noted_old begin P table (End lsn txn prev) le all = All-filter _ (Old begin P) table.entries all
noted_old begin P table (BeginChkpt lsn) le all = all
noted_old begin P table (ChkptPages lsn b pages) le all = all
noted_old begin P table (ChkptTxns lsn b txn state last undo) le all = all
noted_old begin P table (EndChkpt lsn b redo) le all = all
noted_old begin P table (Extend lsn count) le all = all

of_map : {X Y : Type 0} (P : Y → Type 0) (f : X → Y) (xs : List X) → All P (map f xs) → All (λ x. P (f x)) xs
of_map P f [] all = All-nil (λ x. P (f x))
of_map P f (x ∷ xs) all =
    All-cons (λ x. P (f x)) x xs (All-head P (f x) (map f xs) all) (of_map P f xs (All-tail P (f x) (map f xs) all))

-- what holds of each of them holds so after a record more
pub old_kept : (rs : List Record) (r : Record) (begin : ℕ) (P : ℕ → Type 0) → IsLinked rs → MayFollow rs r
    → begin ≤ own_lsn r → All (λ t. first_lsn rs t < begin → P t) (open_in rs)
    → All (λ t. first_lsn (rs ++ r ∷ []) t < begin → P t) (open_in (rs ++ r ∷ []))
old_kept rs r begin P linked may le all =
    of_map (Old begin P) (entry_of (rs ++ r ∷ [])) (open_in (rs ++ r ∷ []))
    (subst (λ (t : Table). All (Old begin P) t.entries) (sym (table_of_push rs r linked may))
    (noted_old begin P (table_of rs) r le (All-map (Old begin P) (entry_of rs) (open_in rs) all)))

-- ---- a checkpoint that is being taken

pub begin_before : (log : Log) (it : CkptView Phase) → IsLog log → IsCkptOf log it
    → IsBefore (lsn_of (length log.records)) it.begin
begin_before log it valid is =
    subst (IsBefore (lsn_of (length log.records))) (sym is.same_begin)
    (open_before log is.ckpt valid is.still_open).begin

pub ckpt_redo_before : (log : Log) (it : CkptView Phase) → IsLog log → IsCkptOf log it
    → IsBefore (lsn_of (length log.records)) it.redo
ckpt_redo_before log it valid is =
    subst (IsBefore (lsn_of (length log.records))) (sym is.same_redo)
    (redo_before (lsn_of (length log.records)) is.ckpt (open_before log is.ckpt valid is.still_open))

-- the page count at its begin stays
pub pages_later : (log : Log) (r : Record) (it : CkptView Phase) → IsLog log → IsCkptOf log it
    → page_count_below (with_next log (r ∷ [])) it.begin ≡ page_count_below log it.begin
pages_later log r it valid is =
    let before = (begin_before log it valid is).earlier in
    page_count_at-append log (r ∷ []) ((it.begin - 1) / 64) (omega arith)

behind_kept : (rs : List Record) (r : Record) (phase : Phase) (c : Checkpoint) → IsLinked rs → MayFollow rs r
    → c.begin ≤ own_lsn r → HasBehind rs phase c → HasBehind (rs ++ r ∷ []) phase c
behind_kept rs r (in_pages from) c linked may le has = has
behind_kept rs r (in_txns from) c linked may le has =
    (has.0, old_kept rs r c.begin (λ t. t < from → Contains c.txns t) linked may le has.1)
behind_kept rs r gathered c linked may le has =
    old_kept rs r c.begin (λ t. Contains c.txns t) linked may le has

pub ckpt_kept : (log : Log) (r : Record) (it : CkptView Phase) → IsLog log → IsLinked log.records → IsOfTransaction r
    → MayFollow log.records r → own_lsn r ≡ lsn_of (length log.records) → IsCkptOf log it
    → IsCkptOf (with_next log (r ∷ [])) it
ckpt_kept log r it valid linked of may own is =
    let before = (open_before log is.ckpt valid is.still_open).begin.earlier in
    record {
      ckpt = is.ckpt;
      still_open = open_same log.records r of ∙ is.still_open;
      same_begin = is.same_begin;
      same_pages = is.same_pages ∙ sym (pages_later log r it valid is);
      same_redo = is.same_redo;
      behind = behind_kept log.records r it.phase is.ckpt linked may (omega arith) is.behind;
    }

-- an Extend leaves it, too
pub open_grown : (rs : List Record) (lsn count : ℕ) → open_checkpoint (rs ++ Extend lsn count ∷ []) ≡ open_checkpoint rs
open_grown rs lsn count = open_push rs (Extend lsn count)

pub ckpt_grown : (log : Log) (lsn count : ℕ) (it : CkptView Phase) → IsLog log → IsLinked log.records
    → lsn ≡ lsn_of (length log.records) → IsCkptOf log it → IsCkptOf (with_next log (Extend lsn count ∷ [])) it
ckpt_grown log lsn count it valid linked own is =
    let before = (open_before log is.ckpt valid is.still_open).begin.earlier in
    record {
      ckpt = is.ckpt;
      still_open = open_grown log.records lsn count ∙ is.still_open;
      same_begin = is.same_begin;
      same_pages = is.same_pages ∙ sym (pages_later log (Extend lsn count) it valid is);
      same_redo = is.same_redo;
      behind = behind_kept log.records (Extend lsn count) it.phase is.ckpt linked tt (omega arith) is.behind;
    }

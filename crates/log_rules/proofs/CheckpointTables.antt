-- The table of a log's checkpoints.
use Rattle.std.proofs.Common.{◌≡◌, ◌↔◌, ℕ, suc, ◌-◌, ◌/◌, ◌<◌, true, false, List, [], ◌∷◌, ◌++◌, length, map, get_or}
use Rattle.std.proofs.Common.{slice_get, refl, sym, ap, subst, ◌∙◌, arith, eqb, eqb-true, eq-eqb, All}
use Rattle.std.specs.Prelude.{Option, Some, None, IsSomeAnd, IfSome, Contains, min}
use Rattle.std.specs.List.{AllByRecursion}
use Rattle.std.specs.Option.{option_map, option_map_or, option_to_list}
use Rattle.std.proofs.lemmas.List.{append-nil, get_or-map, length-append, length-map, map_push}
use Rattle.std.proofs.lemmas.List.Sums.{fold-append}
use Rattle.std.proofs.lemmas.Option.{get_or_from_slice_get, slice_get-get_or, slice_get_within}
use Rattle.page_core.specs.declared.numbers.TheConstants.{LSN_STEP}
use Rattle.page_core.specs.declared.page.TheConstants.{MAX_PAGES}
use Rattle.log_records.specs.declared.dirty_page.DirtyPage.{DirtyPage}
use Rattle.log_records.specs.declared.dirty_page.DirtyPages.{DirtyPages}
use Rattle.log_records.specs.declared.dirty_page.DirtyPages.TheVariants.{One, Two, Three}
use Rattle.log_records.specs.declared.page_change.PageChange.{PageChange}
use Rattle.log_records.specs.declared.record.Record.{Record}
use Rattle.log_records.specs.declared.record.Record.TheVariants.{Begin, Update, Comp, Commit, Abort, End, BeginChkpt}
use Rattle.log_records.specs.declared.record.Record.TheVariants.{ChkptPages, ChkptTxns, EndChkpt, Extend}
use Rattle.log_records.specs.Coverage.{changes, changes_on}
use Rattle.log_records.specs.DirtyPage.{entries_of}
use Rattle.log_records.specs.Log.{IsLog, Log, lsn_of}
use Rattle.log_records.specs.Record.{IsDirtyPage, IsPageChange, IsRecord, change_of, own_lsn}
use Rattle.log_records.proofs.Public.{valid_change}
use Rattle.log_records.proofs.Public.{at_each, of_each}
use Rattle.std.proofs.lemmas.List.Elements.{All-contains_itself}
use Rattle.log_rules.specs.declared.no_page.TheConstants.{NO_PAGE}
use Rattle.log_rules.specs.Checked.{GoesWithCheckpoint}
use Rattle.log_rules.specs.declared.ckpt_point.CkptPoint.{CkptPoint}
use Rattle.log_rules.specs.Checkpoint.{Checkpoint, checkpoint_after, completed_by, completed_in, open_checkpoint, with_pages}
use Rattle.log_rules.specs.CheckpointTable.{AreChanges, Current, MayAddPages, MayAddTxn, MayClose, MayNoteCheckpoint}
use Rattle.log_rules.specs.CheckpointTable.{NamesChange, add_pages, checkpoint_table_of, complete_after, current_after, current_of, last_page_of}
use Rattle.log_rules.specs.CheckpointTable.{noted_checkpoint, page_of}
use Rattle.log_rules.proofs.Filters.{filter_map_push}
use Rattle.log_rules.specs.Linked.{ArePagesNow, HasOldTxns, MayEnd, MayRecordPages, MayRecordTxn}
use Rattle.log_rules.specs.Table.{TxnEntry, entry_of, table_of}
use Rattle.log_rules.specs.Transactions.{last_of, open_in}

-- ---- one record more

-- what stands behind a list has its own last entry
last_append : (xs : List DirtyPage) (y : DirtyPage) (ys : List DirtyPage)
    → last_of (xs ++ y ∷ ys) ≡ last_of (y ∷ ys)
last_append [] y ys = refl
last_append (x ∷ xs) y ys =
    let long = length-append xs (y ∷ ys) in
    let one : length (x ∷ (xs ++ y ∷ ys)) - 1 ≡ suc (length (xs ++ y ∷ ys) - 1) = omega (arith, long) in
    ap (slice_get (x ∷ (xs ++ y ∷ ys))) one ∙ last_append xs y ys

last_entry : (xs : List DirtyPage) (pages : DirtyPages)
    → option_map (λ e. e.page) (last_of (xs ++ entries_of pages)) ≡ Some (last_page_of pages)
last_entry xs (One a) = ap (option_map (λ (e : DirtyPage). e.page)) (last_append xs a [])
last_entry xs (Two a b) = ap (option_map (λ (e : DirtyPage). e.page)) (last_append xs a (b ∷ []))
last_entry xs (Three a b c) = ap (option_map (λ (e : DirtyPage). e.page)) (last_append xs a (b ∷ c ∷ []))

pages_added : (pages : DirtyPages) (c : Checkpoint)
    → current_of (with_pages (entries_of pages) c) ≡ add_pages pages (current_of c)
pages_added pages c = λ i. record {
  begin = c.begin;
  last_page = last_entry c.pages pages i;
  redo = fold-append (λ least (e : DirtyPage). min least e.rec_lsn) c.begin c.pages (entries_of pages) i;
  txns = c.txns;
}

current_step : (o : Option Checkpoint) (r : Record)
    → option_map current_of (checkpoint_after o r) ≡ current_after (option_map current_of o) r
current_step o (BeginChkpt lsn) = refl
current_step None (ChkptPages lsn begin pages) = refl
current_step (Some c) (ChkptPages lsn begin pages) = ap Some (pages_added pages c)
current_step None (ChkptTxns lsn begin txn state last undo) = refl
current_step (Some c) (ChkptTxns lsn begin txn state last undo) = refl
current_step o (EndChkpt lsn begin redo) = refl
current_step o (Extend lsn pages) = refl
current_step o (Begin lsn txn) = refl
current_step o (Update lsn txn prev page slot change) = refl
current_step o (Comp lsn txn prev undo_next page slot change) = refl
current_step o (Commit lsn txn prev) = refl
current_step o (Abort lsn txn prev) = refl
current_step o (End lsn txn prev) = refl

complete_step : (cs : List CkptPoint) (r : Record) → cs ++ option_to_list (completed_by r) ≡ complete_after cs r
complete_step cs (EndChkpt lsn begin redo) = refl
complete_step cs (Begin lsn txn) = append-nil cs
complete_step cs (Update lsn txn prev page slot change) = append-nil cs
complete_step cs (Comp lsn txn prev undo_next page slot change) = append-nil cs
complete_step cs (Commit lsn txn prev) = append-nil cs
complete_step cs (Abort lsn txn prev) = append-nil cs
complete_step cs (End lsn txn prev) = append-nil cs
complete_step cs (BeginChkpt lsn) = append-nil cs
complete_step cs (ChkptPages lsn begin pages) = append-nil cs
complete_step cs (ChkptTxns lsn begin txn state last undo) = append-nil cs
complete_step cs (Extend lsn pages) = append-nil cs

pub checkpoint_table_of_push : (rs : List Record) (r : Record)
    → checkpoint_table_of (rs ++ r ∷ []) ≡ noted_checkpoint (checkpoint_table_of rs) r
checkpoint_table_of_push rs r = λ i. record {
  changed = map_push page_of rs r i;
  current = current i;
  complete = complete i;
}
  where
    complete : completed_in (rs ++ r ∷ []) ≡ complete_after (completed_in rs) r
    complete = filter_map_push completed_by rs r ∙ complete_step (completed_in rs) r

    current : option_map current_of (open_checkpoint (rs ++ r ∷ []))
        ≡ current_after (option_map current_of (open_checkpoint rs)) r
    current = ap (option_map current_of) (fold-append checkpoint_after None rs (r ∷ []))
        ∙ current_step (open_checkpoint rs) r

-- ---- which record changed a page

-- a record changes a page where its word names it
word_of : (p : ℕ) (r : Record) → changes p r ≡ true → page_of r ≡ p
word_of p r = by_change (change_of r)
  where
    by_change : (o : Option PageChange) → option_map_or (λ c. eqb c.page p) o false ≡ true
        → option_map_or (λ c. c.page) o NO_PAGE ≡ p
    by_change None is = cc
    by_change (Some c) is = eqb-true c.page p is

from_word : (p : ℕ) (r : Record) → p < MAX_PAGES → page_of r ≡ p → changes p r ≡ true
from_word p r small = by_change (change_of r)
  where
    by_change : (o : Option PageChange) → option_map_or (λ c. c.page) o NO_PAGE ≡ p
        → option_map_or (λ c. eqb c.page p) o false ≡ true
    by_change None is = absurd (omega (arith, is, small))
    by_change (Some c) is = eq-eqb c.page p is

abbrev Names : List Record → ℕ → ℕ → Type 0
Names rs p lsn = slice_get (map page_of rs) (lsn / LSN_STEP - 1) ≡ Some p

-- a page that a record changes is one that a volume may have
changed_small : (p : ℕ) (r : Record) → IsRecord r → changes p r ≡ true → p < MAX_PAGES
changed_small p r is = by_change (change_of r) (valid_change r is).1
  where
    by_change : (o : Option PageChange) → IfSome o IsPageChange → option_map_or (λ c. eqb c.page p) o false ≡ true
        → p < MAX_PAGES
    by_change None fits named = cc
    by_change (Some c) fits named = let same = eqb-true c.page p named in let page = fits.page in omega (arith, same, page)

module _ (log : Log) (valid : IsLog log) where
  small : (p lsn : ℕ) → Contains (changes_on log.records p) lsn → p < NO_PAGE
  small p lsn has =
      let each = of_each (λ at. p < NO_PAGE) p log.records (λ k d lt is.
      changed_small p (get_or log.records k d) (valid.records k d lt).valid is) in
      each has.0 lsn has.1

  named : (p lsn : ℕ) → Contains (changes_on log.records p) lsn → Names log.records p lsn
  named p lsn has =
      let rs = log.records in
      let each = of_each (Names rs p) p rs (λ k d lt is.
      let r = get_or rs k d in
      let own : own_lsn r ≡ lsn_of k = (valid.records k d lt).lsn in
      let place : own_lsn r / 64 - 1 ≡ k = omega (arith, own) in
      let long = length-map rs page_of in
      ap (slice_get (map page_of rs)) place ∙ slice_get-get_or (map page_of rs) k NO_PAGE (omega (arith, long))
      ∙ ap Some (get_or-map page_of rs k d NO_PAGE lt ∙ word_of p r is)) in
      subst (Names rs p) has.2 (each has.0 lsn has.1)

  contained : (at : ℕ) (e : DirtyPage) → IsDirtyPage at e → Names log.records e.page e.rec_lsn
      → e.page < NO_PAGE → Contains (changes_on log.records e.page) e.rec_lsn
  contained at e is names page_there =
      let rs = log.records in
      let p = e.page in
      let i = e.rec_lsn / 64 - 1 in
      let r = get_or rs i (Begin 0 0) in
      let long = length-map rs page_of in
      let lt : i < length rs = omega (arith, long, slice_get_within (map page_of rs) i p names) in
      let word = sym (get_or-map page_of rs i (Begin 0 0) NO_PAGE lt)
      ∙ get_or_from_slice_get (map page_of rs) i p NO_PAGE names in
      let own : own_lsn r ≡ lsn_of i = (valid.records i (Begin 0 0) lt).lsn in
      let place = is.rec_lsn.place in
      let same : own_lsn r ≡ e.rec_lsn = omega (arith, own, place.aligned, place.past_header) in
      let each = at_each (Contains (changes_on rs p)) p rs (All-contains_itself (changes_on rs p)) in
      subst (Contains (changes_on rs p)) same (each i (Begin 0 0) lt (from_word p r page_there word))

  one_page : (at : ℕ) (e : DirtyPage) → IsDirtyPage at e
      → Contains (changes_on log.records e.page) e.rec_lsn ↔ NamesChange (map page_of log.records) e
  one_page at e is = (
    λ has. (small e.page e.rec_lsn has, named e.page e.rec_lsn has),
    λ it. contained at e is it.1 it.0,
  )

  pages_now : (lsn begin : ℕ) (pages : DirtyPages) → IsRecord (ChkptPages lsn begin pages)
      → ArePagesNow log.records pages ↔ AreChanges (map page_of log.records) pages
  pages_now lsn begin (One a) is = let x = one_page lsn a is.2 in (λ h. (x.0 h.0, tt), λ h. (x.1 h.0, tt))
  pages_now lsn begin (Two a b) is =
      let x = one_page lsn a is.2.0 in
      let y = one_page lsn b is.2.1 in
      (λ h. (x.0 h.0, (y.0 h.1.0, tt)), λ h. (x.1 h.0, (y.1 h.1.0, tt)))
  pages_now lsn begin (Three a b c) is =
      let x = one_page lsn a is.2.0 in
      let y = one_page lsn b is.2.1 in
      let z = one_page lsn c is.2.2 in
      (λ h. (x.0 h.0, (y.0 h.1.0, (z.0 h.1.1.0, tt))), λ h. (x.1 h.0, (y.1 h.1.0, (z.1 h.1.1.0, tt))))

-- ---- the open checkpoint

-- what is asked of the open checkpoint is asked of what the table keeps of it
of_current : (o : Option Checkpoint) (P : Checkpoint → Type 0) (Q : Current → Type 0)
    → ((c : Checkpoint) → P c ↔ Q (current_of c)) → IsSomeAnd o P ↔ IsSomeAnd (option_map current_of o) Q
of_current None P Q same = (λ h. h, λ h. h)
of_current (Some c) P Q same = same c

none_current : (o : Option Checkpoint) → (o ≡ None) ↔ (option_map current_of o ≡ None)
none_current None = (λ h. refl, λ h. refl)
none_current (Some c) = (λ h. cc, λ h. cc)

add_as_recorded : (begin : ℕ) (pages : DirtyPages) (c : Checkpoint)
    → MayRecordPages begin pages c ↔ MayAddPages begin pages (current_of c)
add_as_recorded begin pages c = (
  λ h. record { same = h.same; early = h.early; above = (last (last_of c.pages)).0 h.above },
  λ h. record { same = h.same; early = h.early; above = (last (last_of c.pages)).1 h.above },
)
  where
    last : (o : Option DirtyPage)
        → IfSome o (λ x. AllByRecursion (λ e. x.page < e.page) (entries_of pages))
        ↔ IfSome (option_map (λ x. x.page) o) (λ x. AllByRecursion (λ e. x < e.page) (entries_of pages))
    last None = (λ h. h, λ h. h)
    last (Some x) = (λ h. h, λ h. h)

txn_as_recorded : (begin txn : ℕ) (c : Checkpoint) → MayRecordTxn begin txn c ↔ MayAddTxn begin txn (current_of c)
txn_as_recorded begin txn c =
    (λ h. record { same = h.same; above = h.above }, λ h. record { same = h.same; above = h.above })

-- what is asked of each open transaction is asked of its entry
of_entries : (rs : List Record) (P : TxnEntry → Type 0)
    → All (λ t. P (entry_of rs t)) (open_in rs) ↔ All P (table_of rs).entries
of_entries rs P = (
  λ all k d lt.
      let long = length-map (open_in rs) (entry_of rs) in
      subst P (sym (get_or-map (entry_of rs) (open_in rs) k 0 d (omega (arith, long)))) (all k 0 (omega (arith, long))),
  λ all k d lt.
      let long = length-map (open_in rs) (entry_of rs) in
      subst P (get_or-map (entry_of rs) (open_in rs) k d (entry_of rs 0) lt)
      (all k (entry_of rs 0) (omega (arith, long))),
)

close_as_ended : (rs : List Record) (begin redo : ℕ) (c : Checkpoint)
    → (MayEnd begin redo c × HasOldTxns rs c) ↔ MayClose (table_of rs) begin redo (current_of c)
close_as_ended rs begin redo c =
    let old = of_entries rs (λ e. e.first < c.begin → Contains c.txns e.txn) in (
      λ h. record { same = h.0.same; least = h.0.least; complete = old.0 h.1 },
      λ h. (record { same = h.same; least = h.least }, old.1 h.complete),
    )

pub goes_as_noted : (log : Log) (r : Record) → IsLog log → IsRecord r
    → GoesWithCheckpoint log.records r
    ↔ MayNoteCheckpoint (table_of log.records) (checkpoint_table_of log.records) r
goes_as_noted log (BeginChkpt lsn) valid is = none_current (open_checkpoint log.records)
goes_as_noted log (ChkptPages lsn begin pages) valid is =
    let open_one = of_current (open_checkpoint log.records) (MayRecordPages begin pages) (MayAddPages begin pages)
    (add_as_recorded begin pages) in
    let now = pages_now log valid lsn begin pages is in
    (λ h. (open_one.0 h.0, now.0 h.1), λ h. (open_one.1 h.0, now.1 h.1))
goes_as_noted log (ChkptTxns lsn begin txn state last undo) valid is =
    of_current (open_checkpoint log.records) (MayRecordTxn begin txn) (MayAddTxn begin txn) (txn_as_recorded begin txn)
goes_as_noted log (EndChkpt lsn begin redo) valid is =
    of_current (open_checkpoint log.records) (λ c. MayEnd begin redo c × HasOldTxns log.records c)
    (MayClose (table_of log.records) begin redo) (close_as_ended log.records begin redo)
goes_as_noted log (Extend lsn pages) valid is = (λ h. h, λ h. h)
goes_as_noted log (Begin lsn txn) valid is = (λ h. h, λ h. h)
goes_as_noted log (Update lsn txn prev page slot change) valid is = (λ h. h, λ h. h)
goes_as_noted log (Comp lsn txn prev undo_next page slot change) valid is = (λ h. h, λ h. h)
goes_as_noted log (Commit lsn txn prev) valid is = (λ h. h, λ h. h)
goes_as_noted log (Abort lsn txn prev) valid is = (λ h. h, λ h. h)
goes_as_noted log (End lsn txn prev) valid is = (λ h. h, λ h. h)

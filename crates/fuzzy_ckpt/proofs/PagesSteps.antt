-- A step over pages: its record may come next, and what the checkpoint is after it.
use Rattle.std.proofs.Common.{◌≡◌, ℕ, ◌+◌, ◌-◌, ◌<◌, ◌≤◌, List, [], ◌∷◌, ◌++◌, length, get_or, refl}
use Rattle.std.proofs.Common.{sym, ap, subst, ◌∙◌}
use Rattle.std.proofs.Common.{arith, inl, inr, min, true≢false}
use Rattle.std.specs.Prelude.{Option, Some, None, IfSome, IsSomeAnd, MatchOption, nat_lt}
use Rattle.std.specs.List.{All, AllByRecursion, Contains, filter}
use Rattle.std.specs.Option.{option_map_or}
use Rattle.std.proofs.lemmas.Bool.{cases_lt}
use Rattle.std.proofs.lemmas.List.Elements.{All-append, All-contains, All-contains_itself, All-filter, All-get_or}
use Rattle.std.proofs.lemmas.List.Elements.{All-nil, All-weaker}
use Rattle.std.proofs.lemmas.List.Elements.{recursion_from_All}
use Rattle.std.proofs.lemmas.List.{length-map}
use Rattle.std.proofs.lemmas.List.Sums.{fold-append}
use Rattle.std.proofs.lemmas.Option.{get_or_from_slice_get, slice_get_within}
use Rattle.page_core.specs.declared.page.Page.{Page}
use Rattle.page_core.specs.declared.page.TheConstants.{MAX_PAGES}
use Rattle.log_records.specs.declared.dirty_page.DirtyPage.{DirtyPage}
use Rattle.log_records.specs.declared.dirty_page.DirtyPages.{DirtyPages}
use Rattle.log_records.specs.declared.dirty_page.DirtyPages.TheVariants.{One, Two, Three}
use Rattle.log_records.specs.declared.limits.TheConstants.{MAX_RECORDS}
use Rattle.log_records.specs.declared.record.Record.{Record}
use Rattle.log_records.specs.declared.record.Record.TheVariants.{ChkptPages}
use Rattle.log_records.specs.Coverage.{AreStored, Covers, IsPast, changes_on, dirty, next_dirty, rec_lsn}
use Rattle.log_records.specs.DirtyPage.{entries_of}
use Rattle.log_records.specs.Log.{IsLog, Log, StandsAt, page_count, with_next}
use Rattle.log_records.proofs.Public.{page_count-is_count}
use Rattle.log_records.specs.Record.{AreDirtyPages, IsBefore, IsDirtyPage}
use Rattle.log_records.proofs.Public.{valid_change}
use Rattle.log_records.proofs.Public.{clean_is_image, covers_later, covers_lower, dirty_covers, of_each}
use Rattle.log_records.proofs.Public.{not_changed}
use Rattle.log_rules.specs.Checkpoint.{Checkpoint, checkpoint_after}
use Rattle.log_rules.specs.Linked.{MayFollow, MayRecordPages}
use Rattle.log_rules.specs.Transactions.{last_of}
use Rattle.buffer_pool.specs.Pool.{IsPoolOf, PageState, PoolView, writing_of, written_of}
use Rattle.fuzzy_ckpt.specs.Ckpt.{AreCovered, CkptView, IsCkptOf, in_txns, pages_ckpt}
use Rattle.fuzzy_ckpt.specs.Steps.{Gathering, end_of, last_page, pages_step, past_pages}
use Rattle.fuzzy_ckpt.proofs.Covers.{now_covers}
use Rattle.fuzzy_ckpt.proofs.Dirty.{AreNext, IsEntry, last_is, lsn_at, next_dirty_are, none_between, none_left}
use Rattle.fuzzy_ckpt.proofs.Dirty.{pages_of_entries, upto_last}
use Rattle.fuzzy_ckpt.proofs.Ends.{end_is_lsn}
use Rattle.fuzzy_ckpt.proofs.Leasts.{from_none, from_some, least_in}
use Rattle.fuzzy_ckpt.proofs.Opens.{begin_before, ckpt_redo_before, lowered, lowered_falls, lowered_least, open_push, pages_later}

-- ---- one stored page

-- it lacks nothing below its RecLSN, and nothing at all where it has none
stored_covers : (log : Log) (stored : List Page) (written : List ℕ) (writing : List (Option Page)) (p bound : ℕ)
    (d : Page) → IsLog log → AreStored log.records stored written writing → p < length stored
    → ((lsn : ℕ) → lsn_at log.records written p ≡ Some lsn → bound ≤ lsn)
    → Covers log.records p (get_or stored p d) bound
stored_covers log stored written writing p bound d valid are there high = by_lsn (lsn_at log.records written p) refl
  where
    by_lsn : (o : Option ℕ) → lsn_at log.records written p ≡ o → Covers log.records p (get_or stored p d) bound
    by_lsn None none =
        let is = are.pages p d there in
        subst (λ (q : Page). Covers log.records p q bound)
        (sym (clean_is_image log p (get_or stored p d) (get_or written p 0) valid is.past is.reached none))
        (now_covers log p bound valid)
    by_lsn (Some lsn) some =
        let is = are.pages p d there in
        covers_lower log.records p (get_or stored p d) lsn bound (high lsn some)
        (dirty_covers log.records p (get_or stored p d) (get_or written p 0) lsn is.past is.reached some)

-- a page that the volume lacks has no changes
outside_covers : (log : Log) (p bound : ℕ) (page : Page) → IsLog log → page_count log ≤ p → IsPast log.records p page
    → Covers log.records p page bound
outside_covers log p bound page valid past_end past = record {
  past = past;
  reached = of_each (λ lsn. lsn < bound → lsn ≤ page.lsn) p log.records (λ i d lt e low.
      absurd (true≢false (sym e ∙ not_changed log p i d valid past_end lt)));
}

-- ---- the pages that a step has passed

module _ (log : Log) (stored : List Page) (written : List ℕ) (writing : List (Option Page)) (c : CkptView ℕ)
    (valid : IsLog log) (count : page_count log ≡ length written) (are : AreStored log.records stored written writing)
    (covered : AreCovered log.records stored (pages_ckpt c)) where
  pub more_covered : (pages : DirtyPages) → entries_of pages ≡ next_dirty (dirty log.records written) c.phase
      → AreCovered log.records stored (past_pages pages (pages_ckpt c))
  more_covered pages is = λ p d lt passed.
      let rs = log.records in
      let es = entries_of pages in
      let low = lowered c.redo es in
      let next : AreNext (lsn_at rs written) c.phase (length written) es =
      subst (AreNext (lsn_at rs written) c.phase (length written)) (sym is) (next_dirty_are rs written c.phase) in
      elim (cases_lt p c.phase) [
        | inl before ↦
            covers_lower rs p (get_or stored p d) c.redo low (lowered_falls es c.redo) (covered p d lt before)
        | inr behind ↦
            let last = (last_is (lsn_at rs written) c.phase (length written) pages next).1 in
            stored_covers log stored written writing p low d valid are lt (λ lsn some.
            All-contains (λ e. low ≤ e.rec_lsn) es (record { page = p; rec_lsn = lsn }) (lowered_least es c.redo)
            (none_between (lsn_at rs written) c.phase (length written) pages next p lsn behind
            (omega arith) passed some))
      ]

  pub none_covered : next_dirty (dirty log.records written) c.phase ≡ [] → (number : ℕ)
      → AreCovered log.records stored (record (pages_ckpt c) { phase = in_txns number })
  none_covered none number = λ p d lt passed.
      let rs = log.records in
      let next : AreNext (lsn_at rs written) c.phase (length written) [] =
      subst (AreNext (lsn_at rs written) c.phase (length written)) none (next_dirty_are rs written c.phase) in
      elim (cases_lt p c.phase) [
        | inl before ↦ covered p d lt before
        | inr behind ↦ elim (cases_lt p (length written)) [
          | inl within ↦
              let clean = none_left (lsn_at rs written) c.phase (length written) next p behind within in
              stored_covers log stored written writing p c.redo d valid are lt (λ lsn some.
              let both : None ≡ Some lsn = sym clean ∙ some in cc)
          | inr outside ↦
              outside_covers log p c.redo (get_or stored p d) valid (omega arith) (are.pages p d lt).past
        ]
      ]

-- ---- a RecLSN is the LSN of a change

pub rec_is_change : (rs : List Record) (p written lsn : ℕ) → rec_lsn rs p written ≡ Some lsn
    → Contains (changes_on rs p) lsn
rec_is_change rs p written lsn is =
    All-contains (Contains (changes_on rs p)) (filter (nat_lt written) (changes_on rs p)) lsn
    (All-filter (nat_lt written) (Contains (changes_on rs p)) (changes_on rs p) (All-contains_itself (changes_on rs p)))
    (least_in (filter (nat_lt written) (changes_on rs p)) lsn is)

-- ---- the checkpoint of the log

-- the last of some entries
last_has : (P : DirtyPage → Type 0) (es : List DirtyPage) → All P es → IfSome (last_of es) P
last_has P es all = by_last (last_of es) refl
  where
    by_last : (o : Option DirtyPage) → last_of es ≡ o → IfSome o P
    by_last None is = tt
    by_last (Some e) is =
        subst P (get_or_from_slice_get es (length es - 1) e e is)
        (All-get_or P es (length es - 1) e (slice_get_within es (length es - 1) e is) all)

if_weaker : (P Q : DirtyPage → Type 0) (o : Option DirtyPage) → ((e : DirtyPage) → P e → Q e) → IfSome o P → IfSome o Q
if_weaker P Q None f h = tt
if_weaker P Q (Some e) f h = f e h

-- no transaction stands in a record yet
pub none_kept : (log : Log) (c : CkptView ℕ) → IsCkptOf log (pages_ckpt c)
    → IsCkptOf log (record (pages_ckpt c) { phase = in_txns 0 })
none_kept log c is = record {
  ckpt = is.ckpt;
  still_open = is.still_open;
  same_begin = is.same_begin;
  same_pages = is.same_pages;
  same_redo = is.same_redo;
  behind = (subst (All (λ t. t < 0)) (sym is.behind.1) (All-nil (λ t. t < 0)), λ i d lt old low. absurd (omega arith));
}

pub more_kept : (log : Log) (c : CkptView ℕ) (lsn : ℕ) (pages : DirtyPages) → IsLog log → IsCkptOf log (pages_ckpt c)
    → c.phase ≤ last_page pages → All (λ e. e.page < last_page pages + 1) (entries_of pages)
    → IsCkptOf (with_next log (ChkptPages lsn c.begin pages ∷ [])) (past_pages pages (pages_ckpt c))
more_kept log c lsn pages valid is behind upto =
    let rs = log.records in
    let old = is.ckpt in
    let es = entries_of pages in
    record {
      ckpt = record old { pages = old.pages ++ es };
      still_open = open_push rs (ChkptPages lsn c.begin pages)
          ∙ ap (λ (o : Option Checkpoint). checkpoint_after o (ChkptPages lsn c.begin pages)) is.still_open;
      same_begin = is.same_begin;
      same_pages = is.same_pages ∙ sym (pages_later log (ChkptPages lsn c.begin pages) (pages_ckpt c) valid is);
      same_redo = ap (λ (n : ℕ). lowered n es) is.same_redo
          ∙ sym (fold-append (λ least (e : DirtyPage). min least e.rec_lsn) old.begin old.pages es);
      behind = (
        All-append (λ e. e.page < last_page pages + 1) old.pages es
            (All-weaker (λ e. e.page < c.phase) (λ e. e.page < last_page pages + 1)
            (λ e lt. omega arith) old.pages is.behind.0)
            upto,
        is.behind.1,
      );
    }

-- the next dirty pages may come next
pages_follow : (log : Log) (written : List ℕ) (c : CkptView ℕ) (pages : DirtyPages) (lsn : ℕ)
    → AreNext (lsn_at log.records written) c.phase (length written) (entries_of pages) → IsCkptOf log (pages_ckpt c)
    → MayFollow log.records (ChkptPages lsn c.begin pages)
pages_follow log written c pages lsn next is =
    let rs = log.records in
    let es = entries_of pages in
    let may : MayRecordPages c.begin pages is.ckpt = record {
      same = is.same_begin;
      early = is.behind.1;
      above = if_weaker (λ last. last.page < c.phase) (λ last. AllByRecursion (λ e. last.page < e.page) es)
          (last_of is.ckpt.pages)
          (λ last lt. recursion_from_All (λ e. last.page < e.page) es
          (All-weaker (IsEntry (lsn_at rs written) c.phase (length written)) (λ e. last.page < e.page)
          (λ e it. let later = it.later in omega arith) es next.each))
          (last_has (λ e. e.page < c.phase) is.ckpt.pages is.behind.0);
    } in (
      subst (λ (o : Option Checkpoint). IsSomeAnd o (MayRecordPages c.begin pages)) (sym is.still_open) may,
      recursion_from_All (λ e. Contains (changes_on rs e.page) e.rec_lsn) es
          (All-weaker (IsEntry (lsn_at rs written) c.phase (length written))
          (λ e. Contains (changes_on rs e.page) e.rec_lsn)
          (λ e it. rec_is_change rs e.page (get_or written e.page 0) e.rec_lsn it.dirty) es next.each),
    )

-- ---- the record

-- a change stands before the end
change_before : (log : Log) (p lsn : ℕ) → IsLog log → Contains (changes_on log.records p) lsn
    → IsBefore (end_of log.records) lsn
change_before log p lsn valid has =
    All-contains (IsBefore (end_of log.records)) (changes_on log.records p) lsn
    (of_each (IsBefore (end_of log.records)) p log.records (λ i d lt e.
    let stands = valid.records i d lt in
    let own = stands.lsn in
    record { place = (valid_change (get_or log.records i d) stands.valid).0; earlier = omega arith })) has

entry_is : (log : Log) (written : List ℕ) (from : ℕ) (e : DirtyPage) → IsLog log → page_count log ≡ length written
    → IsEntry (lsn_at log.records written) from (length written) e → IsDirtyPage (end_of log.records) e
entry_is log written from e valid count it =
    let within = it.within in
    let most = (page_count-is_count log valid).most in
    record {
      page = omega arith;
      rec_lsn = change_before log e.page e.rec_lsn valid
          (rec_is_change log.records e.page (get_or written e.page 0) e.rec_lsn it.dirty);
    }

are_pages : (log : Log) (written : List ℕ) (from : ℕ) (pages : DirtyPages) → IsLog log → page_count log ≡ length written
    → AreNext (lsn_at log.records written) from (length written) (entries_of pages)
    → AreDirtyPages (end_of log.records) pages
are_pages log written from (One a) valid count next =
    entry_is log written from a valid count (next.each 0 a (omega arith))
are_pages log written from (Two a b) valid count next = (
  entry_is log written from a valid count (next.each 0 a (omega arith)),
  entry_is log written from b valid count (next.each 1 b (omega arith)),
  next.rising.0 0 b (omega arith),
)
are_pages log written from (Three a b c) valid count next = (
  entry_is log written from a valid count (next.each 0 a (omega arith)),
  entry_is log written from b valid count (next.each 1 b (omega arith)),
  entry_is log written from c valid count (next.each 2 c (omega arith)),
  next.rising.0 0 b (omega arith),
  next.rising.1.0 0 c (omega arith),
)

-- the step of a search that found some
pages_found : (rs : List Record) (written : List ℕ) (c : CkptView ℕ) (pages : DirtyPages)
    → entries_of pages ≡ next_dirty (dirty rs written) c.phase
    → pages_step rs written c.phase (pages_ckpt c)
    ≡ record { next = Some (ChkptPages (end_of rs) c.begin pages); ckpt = past_pages pages (pages_ckpt c) }
pages_found rs written c pages found =
    let none : Gathering = record { next = None; ckpt = record (pages_ckpt c) { phase = in_txns 0 } } in
    let some : DirtyPages → Gathering = λ pages. record {
      next = Some (ChkptPages (end_of rs) c.begin pages);
      ckpt = past_pages pages (pages_ckpt c);
    } in
    ap (λ (o : Option DirtyPages). option_map_or some o none)
    (pages_of_entries pages (next_dirty (dirty rs written) c.phase) found)

-- ---- what holds of a step that has found dirty pages

pub record MorePages (log : Log) (stored : List Page) (written : List ℕ) (c : CkptView ℕ)
    (pages : DirtyPages) : Type 0 where
  pub step : pages_step log.records written c.phase (pages_ckpt c)
      ≡ record { next = Some (ChkptPages (end_of log.records) c.begin pages); ckpt = past_pages pages (pages_ckpt c) }
  pub fits : last_page pages < MAX_PAGES
  pub follows : MayFollow log.records (ChkptPages (end_of log.records) c.begin pages)
  pub stands : length log.records < MAX_RECORDS
      → StandsAt (page_count log) (end_of log.records) (ChkptPages (end_of log.records) c.begin pages)
  pub kept : IsCkptOf (with_next log (ChkptPages (end_of log.records) c.begin pages ∷ []))
      (past_pages pages (pages_ckpt c))
  pub covered : AreCovered (log.records ++ ChkptPages (end_of log.records) c.begin pages ∷ []) stored
      (past_pages pages (pages_ckpt c))

pub more_pages : (log : Log) (stored : List Page) (written : List ℕ) (writing : List (Option Page)) (c : CkptView ℕ)
    (pages : DirtyPages) → IsLog log → page_count log ≡ length written → AreStored log.records stored written writing
    → IsCkptOf log (pages_ckpt c) → AreCovered log.records stored (pages_ckpt c)
    → entries_of pages ≡ next_dirty (dirty log.records written) c.phase → MorePages log stored written c pages
more_pages log stored written writing c pages valid count are is covered found =
    let rs = log.records in
    let end = length written in
    let next : AreNext (lsn_at rs written) c.phase end (entries_of pages) =
    subst (AreNext (lsn_at rs written) c.phase end) (sym found) (next_dirty_are rs written c.phase) in
    let last = last_is (lsn_at rs written) c.phase end pages next in
    let most = (page_count-is_count log valid).most in
    let before = ckpt_redo_before log (pages_ckpt c) valid is in
    let low = lowered_falls (entries_of pages) c.redo in
    record {
      step = pages_found rs written c pages found;
      fits = let lt = last.1 in omega arith;
      follows = pages_follow log written c pages (end_of rs) next is;
      stands = λ few. record {
        lsn = refl;
        valid = (
          end_is_lsn (length rs) (omega arith),
          begin_before log (pages_ckpt c) valid is,
          are_pages log written c.phase pages valid count next,
        );
        within = recursion_from_All (λ e. e.page < page_count log) (entries_of pages)
            (All-weaker (IsEntry (lsn_at rs written) c.phase end) (λ e. e.page < page_count log)
            (λ e it. let lt = it.within in omega arith) (entries_of pages) next.each);
      };
      kept = more_kept log c (end_of rs) pages valid is last.0 (upto_last (lsn_at rs written) c.phase end pages next);
      covered = λ p d lt passed.
          let sooner = before.earlier in
          covers_later rs (ChkptPages (end_of rs) c.begin pages) p (get_or stored p d)
          (lowered c.redo (entries_of pages))
          (omega arith) (more_covered log stored written writing c valid count are covered pages found p d lt passed);
    }

-- ---- of a pool

count_is : {S : Type 0} (stored_in : S → List Page) (log : Log) (pool : PoolView S) → IsPoolOf stored_in log pool
    → page_count log ≡ length (written_of pool.states)
count_is stored_in log pool of = of.pages ∙ sym (length-map pool.states (λ (s : PageState). s.written))

-- what a pool answers of its dirty pages
abbrev Answers : List DirtyPage → ℕ → Option DirtyPages → Type 0
Answers table from o = MatchOption o (next_dirty table from ≡ []) (λ some. entries_of some ≡ next_dirty table from)

pub pool_more : {S : Type 0} (stored_in : S → List Page) (log : Log) (pool : PoolView S) (c : CkptView ℕ) (from : ℕ)
    (o : Option DirtyPages) (pages : DirtyPages) → IsPoolOf stored_in log pool → IsCkptOf log (pages_ckpt c)
    → AreCovered log.records (stored_in pool.store) (pages_ckpt c) → from ≡ c.phase
    → Answers (dirty log.records (written_of pool.states)) from o → o ≡ Some pages
    → MorePages log (stored_in pool.store) (written_of pool.states) c pages
pool_more stored_in log pool c from o pages of is covered same answer some =
    let table = dirty log.records (written_of pool.states) in
    more_pages log (stored_in pool.store) (written_of pool.states) (writing_of pool.states) c pages of.valid
    (count_is stored_in log pool of) of.stored is covered
    (from_some o pages (next_dirty table from ≡ []) (λ x. entries_of x ≡ next_dirty table from) some answer
    ∙ ap (next_dirty table) same)

pub pool_none : {S : Type 0} (stored_in : S → List Page) (log : Log) (pool : PoolView S) (c : CkptView ℕ) (from : ℕ)
    (o : Option DirtyPages) → IsPoolOf stored_in log pool
    → AreCovered log.records (stored_in pool.store) (pages_ckpt c) → from ≡ c.phase
    → Answers (dirty log.records (written_of pool.states)) from o → o ≡ None
    → AreCovered log.records (stored_in pool.store) (record (pages_ckpt c) { phase = in_txns 0 })
pool_none stored_in log pool c from o of covered same answer none =
    let table = dirty log.records (written_of pool.states) in
    none_covered log (stored_in pool.store) (written_of pool.states) (writing_of pool.states) c of.valid
    (count_is stored_in log pool of) of.stored covered
    (ap (next_dirty table) (sym same)
    ∙ from_none o (next_dirty table from ≡ []) (λ x. entries_of x ≡ next_dirty table from) none answer) 0

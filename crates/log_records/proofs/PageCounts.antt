-- The page count of a volume along its log: it never falls, so a record that names no page past the
-- count at its place names none past the count at any later one.
use Rattle.std.proofs.Common.{◌≡◌, ℕ, suc, ◌+◌, ◌-◌, ◌*◌, ◌/◌, ◌<◌, ◌≤◌, ◌++◌, ◌∷◌, [], List, length, get_or, take}
use Rattle.std.proofs.Common.{drop, refl, sym, ap, subst, ◌∙◌, arith, max, Option, Some, None, inl, inr, true, false, filter}
use Rattle.std.specs.Prelude.{IfSome, nat_lt}
use Rattle.std.specs.List.{AllByRecursion, filter_map, fold}
use Rattle.std.specs.Option.{option_map_or}
use Rattle.std.proofs.Math.Seq.{take-nil}
use Rattle.std.proofs.lemmas.Bool.{cases_lt, le-ltb, lt-ltb}
use Rattle.std.proofs.Math.Nat.{le-max_left}
use Rattle.std.proofs.lemmas.List.{append-nil, get_or-take, length-take, take-append-drop, take-append-le, take-take, take_all, take_more}
use Rattle.std.proofs.lemmas.List.Sums.{fold-append, fold_push}
use Rattle.std.proofs.lemmas.List.Elements.{filter_map-append}
use Rattle.log_records.specs.declared.dirty_page.DirtyPage.{DirtyPage}
use Rattle.log_records.specs.DirtyPage.{entries_of}
use Rattle.log_records.specs.declared.record.Record.{Record}
use Rattle.log_records.specs.declared.record.Record.TheVariants.{Begin, Update, Comp, Commit, Abort, End, BeginChkpt}
use Rattle.log_records.specs.declared.record.Record.TheVariants.{ChkptPages, ChkptTxns, EndChkpt, Extend}
use Rattle.log_records.specs.Log.{AreWithin, IsLog, IsWithin, Log, StandsAt, counts_of, lsn_of, page_count, page_count_at}
use Rattle.log_records.specs.Log.{page_count_below, with_next}
use Rattle.log_records.specs.PageCount.{GivesMore, count_after, count_behind, given_by, given_count}
use Rattle.log_records.specs.Record.{IsPageCount, IsRecord, own_lsn}
use Rattle.page_core.specs.PageCounts.{count_below, greatest, last_count}

-- ---- along a list of records

not_less : (count : ℕ) (given : Option ℕ) → (r : Record) → given_count r ≡ given → count ≤ count_after count r
not_less count None r is = rw is (omega arith)
not_less count (Some n) r is = rw is (le-max_left count n)

pub count_after-not_less : (count : ℕ) (r : Record) → count ≤ count_after count r
count_after-not_less count r = not_less count (given_count r) r refl

pub count_behind-nil : (count : ℕ) → count_behind count [] ≡ count
unfolding count_behind
count_behind-nil count = refl

pub count_behind-append : (count : ℕ) (rs more : List Record)
    → count_behind count (rs ++ more) ≡ count_behind (count_behind count rs) more
unfolding count_behind
count_behind-append count rs more = fold-append count_after count rs more

pub count_behind-push : (count : ℕ) (rs : List Record) (r : Record)
    → count_behind count (rs ++ r ∷ []) ≡ count_after (count_behind count rs) r
unfolding count_behind
count_behind-push count rs r = fold_push count_after count rs r

pub count_behind-not_less : (count : ℕ) (rs : List Record) → count ≤ count_behind count rs
unfolding count_behind
count_behind-not_less count [] = omega arith
count_behind-not_less count (r ∷ rs) =
    omega (arith, count_after-not_less count r, count_behind-not_less (count_after count r) rs)

-- a part of the records leaves no larger count than all of them
count_behind-part : (count : ℕ) (rs : List Record) (i : ℕ) → count_behind count (take i rs) ≤ count_behind count rs
count_behind-part count rs i =
    let first = take i rs in
    subst (λ (xs : List Record). count_behind count first ≤ count_behind count xs) (take-append-drop i rs)
    (rw (count_behind-append count first (drop i rs))
    (count_behind-not_less (count_behind count first) (drop i rs)))

pub count_behind-rises : (count : ℕ) (rs : List Record) (i j : ℕ) → i ≤ j
    → count_behind count (take i rs) ≤ count_behind count (take j rs)
count_behind-rises count rs i j le =
    subst (λ (xs : List Record). count_behind count xs ≤ count_behind count (take j rs)) (take-take i j rs le)
    (count_behind-part count (take j rs) i)

-- one record more of a list
pub count_behind-next : (count : ℕ) (rs : List Record) (i : ℕ) (d : Record) → i < length rs
    → count_behind count (take (i + 1) rs) ≡ count_after (count_behind count (take i rs)) (get_or rs i d)
count_behind-next count rs i d lt =
    ap (count_behind count) (take_more rs i d lt) ∙ count_behind-push count (take i rs) (get_or rs i d)

-- ---- of a log

pub page_count_at-all : (log : Log) (count : ℕ) → length log.records ≤ count → page_count_at log count ≡ page_count log
page_count_at-all log count all = ap (count_behind log.pages) (take_all count log.records all)

pub page_count_at-not_more : (log : Log) (count : ℕ) → page_count_at log count ≤ page_count log
page_count_at-not_more log count = count_behind-part log.pages log.records count

-- the log that is cut there
pub page_count-take : (log : Log) (count : ℕ)
    → page_count (record log { records = take count log.records }) ≡ page_count_at log count
page_count-take log count = refl

pub page_count_at-take : (log : Log) (i count : ℕ) → i ≤ count
    → page_count_at (record log { records = take count log.records }) i ≡ page_count_at log i
page_count_at-take log i count le = ap (count_behind log.pages) (take-take i count log.records le)

pub page_count_at-append : (log : Log) (more : List Record) (i : ℕ) → i ≤ length log.records
    → page_count_at (with_next log more) i ≡ page_count_at log i
page_count_at-append log more i le = ap (count_behind log.pages) (take-append-le i log.records more le)

pub page_count-append : (log : Log) (more : List Record)
    → page_count (with_next log more) ≡ count_behind (page_count log) more
page_count-append log more = count_behind-append log.pages log.records more

pub page_count-not_less : (log : Log) (more : List Record) → page_count log ≤ page_count (with_next log more)
page_count-not_less log more =
    rw (page_count-append log more) (count_behind-not_less (page_count log) more)

pub page_count-push : (log : Log) (r : Record) → page_count (with_next log (r ∷ [])) ≡ count_after (page_count log) r
page_count-push log r = count_behind-push log.pages log.records r

-- ---- the counts that it gave

pub after_given : (count : ℕ) (r : Record) (given : Option ℕ) → given_count r ≡ given
    → count_after count r ≡ option_map_or (max count) given count
after_given count r given is = ap (λ g. option_map_or (max count) g count) is

counts_last : (count : ℕ) (rs : List Record) → greatest count (filter_map given_by rs) ≡ fold count_after count rs
counts_last count [] = refl
counts_last count (r ∷ rs) = by_given (λ n. counts_last n rs) (given_count r) refl
  where
    by_given : ((n : ℕ) → greatest n (filter_map given_by rs) ≡ fold count_after n rs)
        → (given : Option ℕ) → given_count r ≡ given
        → greatest count (filter_map given_by (r ∷ rs)) ≡ fold count_after count (r ∷ rs)
    by_given rest None is = rw is (rest count)
    by_given rest (Some n) is = rw is (rest (max count n))

pub last_count-counts_of : (log : Log) → last_count (counts_of log) ≡ page_count log
unfolding count_behind
last_count-counts_of log = counts_last log.pages log.records

given_next : (rs : List Record) (i : ℕ) (d : Record) → i < length rs
    → filter_map given_by (take (i + 1) rs) ≡ filter_map given_by (take i rs) ++ filter_map given_by (get_or rs i d ∷ [])
given_next rs i d lt =
    ap (filter_map given_by) (take_more rs i d lt) ∙ filter_map-append given_by (take i rs) (get_or rs i d ∷ [])

pub given_next-none : (rs : List Record) (i : ℕ) (d : Record) → i < length rs → given_count (get_or rs i d) ≡ None
    → filter_map given_by (take (i + 1) rs) ≡ filter_map given_by (take i rs)
given_next-none rs i d lt none =
    given_next rs i d lt
    ∙ ap (λ gs. filter_map given_by (take i rs) ++ gs)
    (let empty : filter_map given_by (get_or rs i d ∷ []) ≡ [] = rw none refl in empty)
    ∙ append-nil (filter_map given_by (take i rs))

pub given_next-some : (rs : List Record) (i : ℕ) (d : Record) (n : ℕ) → i < length rs
    → given_count (get_or rs i d) ≡ Some n
    → filter_map given_by (take (i + 1) rs)
    ≡ filter_map given_by (take i rs) ++ (record { lsn = own_lsn (get_or rs i d); pages = n }) ∷ []
given_next-some rs i d n lt some =
    given_next rs i d lt
    ∙ ap (λ gs. filter_map given_by (take i rs) ++ gs)
    (let one : filter_map given_by (get_or rs i d ∷ []) ≡ (record { lsn = own_lsn (get_or rs i d); pages = n }) ∷ [] =
    rw some refl in one)

-- the records stand side by side, the first of them behind so many others
abbrev StandFrom : ℕ → List Record → Type 0
StandFrom before rs = (i : ℕ) (d : Record) → i < length rs → own_lsn (get_or rs i d) ≡ 64 * (before + i + 1)

abbrev counts_under : ℕ → ℕ → List Record → ℕ
counts_under lsn count rs = greatest count (filter (λ g. nat_lt g.lsn lsn) (filter_map given_by rs))

-- the counts below an LSN are those of the records before it
counts_below : (lsn before count : ℕ) (rs : List Record) → StandFrom before rs
    → counts_under lsn count rs ≡ fold count_after count (take ((lsn - 1) / 64 - before) rs)
counts_below lsn before count [] stand = rw (take-nil {A = Record} ((lsn - 1) / 64 - before)) refl
counts_below lsn before count (r ∷ rs) stand =
    let left = (lsn - 1) / 64 in
    let own : own_lsn r ≡ 64 * (before + 1) = stand 0 r (omega arith) ∙ omega arith in
    let rest : (n : ℕ) → counts_under lsn n rs ≡ fold count_after n (take (left - (before + 1)) rs) = λ n.
    counts_below lsn (before + 1) n rs (λ i d lt. stand (suc i) d (omega (arith, lt)) ∙ omega arith) in
    elim (cases_lt before left) [
      | inl lt ↦
          let one_more : left - before ≡ suc (left - (before + 1)) = omega (arith, lt) in
          rw one_more (below (lt-ltb (own_lsn r) lsn (omega (arith, lt, own))) rest (given_count r) refl)
      | inr le ↦
          let none_left : left - before ≡ 0 = omega (arith, le) in
          let none_later : left - (before + 1) ≡ 0 = omega (arith, le) in
          let later : counts_under lsn count rs ≡ count =
          rest count ∙ ap (λ k. fold count_after count (take k rs)) none_later in
          rw none_left (past (le-ltb (own_lsn r) lsn (omega (arith, le, own))) later (given_count r) refl)
    ]
  where
    below : nat_lt (own_lsn r) lsn ≡ true
        → ((n : ℕ) → counts_under lsn n rs ≡ fold count_after n (take ((lsn - 1) / 64 - (before + 1)) rs))
        → (given : Option ℕ) → given_count r ≡ given
        → counts_under lsn count (r ∷ rs)
        ≡ fold count_after count (r ∷ take ((lsn - 1) / 64 - (before + 1)) rs)
    below lower rest None is =
        let here : counts_under lsn count (r ∷ rs) ≡ fold count_after count (take ((lsn - 1) / 64 - (before + 1)) rs) =
        rw is (rest count) in
        here ∙ ap (λ n. fold count_after n (take ((lsn - 1) / 64 - (before + 1)) rs)) (sym (after_given count r None is))
    below lower rest (Some n) is =
        let more = max count n in
        let here : counts_under lsn count (r ∷ rs) ≡ fold count_after more (take ((lsn - 1) / 64 - (before + 1)) rs) =
        rw (is, lower) (rest more) in
        here
        ∙ ap (λ n. fold count_after n (take ((lsn - 1) / 64 - (before + 1)) rs)) (sym (after_given count r (Some n) is))

    past : nat_lt (own_lsn r) lsn ≡ false → counts_under lsn count rs ≡ count
        → (given : Option ℕ) → given_count r ≡ given → counts_under lsn count (r ∷ rs) ≡ count
    past higher rest None is = rw is rest
    past higher rest (Some n) is = rw (is, higher) rest

pub count_below-counts_of : (log : Log) (lsn : ℕ) → IsLog log
    → count_below (counts_of log) lsn ≡ page_count_below log lsn
unfolding count_behind
count_below-counts_of log lsn valid =
    let all : (lsn - 1) / 64 - 0 ≡ (lsn - 1) / 64 = omega arith in
    counts_below lsn 0 log.pages log.records (λ i d lt. (valid.records i d lt).lsn ∙ omega arith)
    ∙ ap (λ k. fold count_after log.pages (take k log.records)) all

-- ---- what stands within

entries_within : (n m : ℕ) → n ≤ m → (es : List DirtyPage) → AllByRecursion (λ e. e.page < n) es
    → AllByRecursion (λ e. e.page < m) es
entries_within n m le [] all = tt
entries_within n m le (e ∷ es) all = (omega (arith, all.0), entries_within n m le es all.1)

pub within_more : (n m : ℕ) → n ≤ m → (r : Record) → IsWithin n r → IsWithin m r
within_more n m le (Begin lsn txn) within = tt
within_more n m le (Update lsn txn prev page slot change) within = omega (arith, within)
within_more n m le (Comp lsn txn prev undo_next page slot change) within = omega (arith, within)
within_more n m le (Commit lsn txn prev) within = tt
within_more n m le (Abort lsn txn prev) within = tt
within_more n m le (End lsn txn prev) within = tt
within_more n m le (BeginChkpt lsn) within = tt
within_more n m le (ChkptPages lsn begin entries) within = entries_within n m le (entries_of entries) within
within_more n m le (ChkptTxns lsn begin txn state last undo_next) within = tt
within_more n m le (EndChkpt lsn begin redo) within = tt
within_more n m le (Extend lsn pages) within = tt

pub stands_more : (n m at : ℕ) (r : Record) → n ≤ m → StandsAt n at r → StandsAt m at r
stands_more n m at r le stands = record {
  lsn = stands.lsn;
  valid = stands.valid;
  within = within_more n m le r stands.within;
}

-- each record of a log stands within the volume as it is in the end
pub stands_in : (log : Log) → IsLog log → (i : ℕ) (d : Record) → i < length log.records
    → StandsAt (page_count log) (lsn_of i) (get_or log.records i d)
stands_in log valid i d lt =
    stands_more (page_count_at log i) (page_count log) (lsn_of i) (get_or log.records i d)
    (page_count_at-not_more log i) (valid.records i d lt)

pub all_within : (log : Log) → IsLog log → AreWithin (page_count log) log.records
all_within log valid i d lt = (stands_in log valid i d lt).within

-- ---- a count that a header may have

gives_a_count : (r : Record) → IsRecord r → IfSome (given_count r) IsPageCount
gives_a_count (Begin lsn txn) valid = tt
gives_a_count (Update lsn txn prev page slot change) valid = tt
gives_a_count (Comp lsn txn prev undo_next page slot change) valid = tt
gives_a_count (Commit lsn txn prev) valid = tt
gives_a_count (Abort lsn txn prev) valid = tt
gives_a_count (End lsn txn prev) valid = tt
gives_a_count (BeginChkpt lsn) valid = tt
gives_a_count (ChkptPages lsn begin entries) valid = tt
gives_a_count (ChkptTxns lsn begin txn state last undo_next) valid = tt
gives_a_count (EndChkpt lsn begin redo) valid = tt
gives_a_count (Extend lsn pages) valid = valid.1

greater_is_count : (count : ℕ) (given : Option ℕ) → IsPageCount count → IfSome given IsPageCount
    → IsPageCount (option_map_or (max count) given count)
greater_is_count count None is given_is = is
greater_is_count count (Some n) is given_is = record {
  least = omega (arith, is.least, given_is.least);
  most = omega (arith, is.most, given_is.most);
}

behind_is_count : (count : ℕ) (rs : List Record) → IsPageCount count
    → ((i : ℕ) (d : Record) → i < length rs → IsRecord (get_or rs i d)) → IsPageCount (fold count_after count rs)
behind_is_count count [] is valid = is
behind_is_count count (r ∷ rs) is valid =
    behind_is_count (count_after count r) rs
    (greater_is_count count (given_count r) is (gives_a_count r (valid 0 r (omega arith))))
    (λ i d lt. valid (suc i) d (omega (arith, lt)))

pub page_count-is_count : (log : Log) → IsLog log → IsPageCount (page_count log)
unfolding count_behind
page_count-is_count log valid =
    behind_is_count log.pages log.records valid.pages (λ i d lt. (valid.records i d lt).valid)

-- ---- a log that is cut, and one that goes on

pub valid_cut : (log : Log) (count : ℕ) → IsLog log → IsLog (record log { records = take count log.records })
valid_cut log count valid =
    let long = length-take count log.records in
    record {
      pages = valid.pages;
      count = omega (arith, long, valid.count);
      records = λ i d lt.
          let below : i < count = omega (arith, long, lt) in
          let there : i < length log.records = omega (arith, long, lt) in
          rw (get_or-take count log.records i d below, page_count_at-take log i count (omega arith))
          (valid.records i d there);
      grows = λ i d lt.
          let below : i < count = omega (arith, long, lt) in
          let there : i < length log.records = omega (arith, long, lt) in
          rw (get_or-take count log.records i d below, page_count_at-take log i count (omega arith))
          (valid.grows i d there);
    }

-- ---- a record that gives none

pub count_after-none : (count : ℕ) (r : Record) → given_count r ≡ None → count_after count r ≡ count
count_after-none count r none = rw none refl

pub more-none : (count : ℕ) (r : Record) → given_count r ≡ None → GivesMore count r
more-none count r none = rw none tt

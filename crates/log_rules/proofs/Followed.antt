-- What the records so far make says whether the next one may follow.
use Rattle.std.proofs.Common.{◌≡◌, ℕ, ◌<◌, ◌≤◌, ◌∷◌, ◌++◌, [], List, get_or, map, sym, ap, subst, subst₂, ◌∙◌, ◌↔◌, arith}
use Rattle.std.specs.Prelude.{slice_index}
use Rattle.std.proofs.lemmas.List.{append-nil, map-id}
use Rattle.std.proofs.lemmas.List.FromFn.{get_or-map-range_with_len, length-map-range_with_len}
use Rattle.page_core.specs.declared.page.Page.{Page}
use Rattle.page_core.specs.Change.{Replaces}
use Rattle.page_core.specs.Page.{formatted}
use Rattle.page_core.specs.PageCounts.{PageCounts}
use Rattle.page_core.specs.declared.page_counts.GivenCount.{GivenCount}
use Rattle.log_records.specs.declared.record.Record.{Record}
use Rattle.log_records.specs.declared.record.Record.TheVariants.{Begin, Update, Comp, Commit, Abort, End, BeginChkpt}
use Rattle.log_records.specs.declared.record.Record.TheVariants.{ChkptPages, ChkptTxns, EndChkpt, Extend}
use Rattle.log_rules.specs.Checked.{GoesWithCheckpoint, NamesNumber}
use Rattle.log_rules.specs.History.{IsMadeOf, Made, MayComeNext, NamesNumberOn, counts_after, followed, number_on}
use Rattle.log_rules.specs.History.{pages_after}
use Rattle.log_records.specs.Image.{image, redo_all, with_record}
use Rattle.log_rules.specs.Linked.{IsLinked, MayFollow, number_in}
use Rattle.log_records.specs.Log.{IsLog, IsWithin, Log, counts_of, page_count, with_next}
use Rattle.log_rules.specs.Table.{MayNote, Table, noted}
use Rattle.log_rules.proofs.Checks.{goes_with_checkpoint, may_note, names_number}
use Rattle.log_rules.proofs.CheckpointTables.{checkpoint_table_of_push, goes_as_noted}
use Rattle.log_rules.specs.CheckpointTable.{CheckpointTable, MayNoteCheckpoint, noted_checkpoint}
use Rattle.log_records.specs.Record.{IsOfCheckpoint, IsRecord}
use Rattle.log_rules.proofs.Checks.{may_follow as table_allows}
use Rattle.log_records.proofs.Public.{redo_all-append}
use Rattle.log_records.proofs.Public.{count_after-none, page_count-push}
use Rattle.log_records.proofs.Public.{redo_all-grown}
use Rattle.log_records.specs.PageCount.{GivesMore, count_after, given_by, given_count}
use Rattle.page_core.specs.Volume.{grown_to}
use Rattle.std.specs.Option.{option_map_or, option_to_list}
use Rattle.std.specs.Prelude.{IfSome}
use Rattle.std.proofs.Common.{Option, Some, None, length, max, refl}
use Rattle.std.proofs.lemmas.Option.{none-some}
use Rattle.std.proofs.Math.Nat.{max-eq_right}
use Rattle.log_rules.proofs.Filters.{filter_map_push}
use Rattle.log_rules.proofs.Steps.{table_of_push}

-- the number in a slot of a log's volume
pub number_of_volume : (rs : List Record) (n page slot : ℕ) (d : Page) → page < n
    → slice_index (get_or (redo_all rs n) page d).slots slot ≡ number_in rs page slot
number_of_volume rs n page slot d lt =
    ap (λ (p : Page). slice_index p.slots slot)
    (get_or-map-range_with_len (image rs) 0 n page page d lt (omega arith))

-- the number in a slot of the pages is that of the log
number_made : (log : Log) (made : Made) → IsMadeOf log made → (page slot : ℕ) → page < page_count log
    → number_on made.pages page slot ≡ number_in log.records page slot
number_made log made of page slot lt =
    ap (λ (pages : List Page). number_on pages page slot) of.pages
    ∙ number_of_volume log.records (page_count log) page slot (formatted page) lt

names : (log : Log) (made : Made) (r : Record) → IsMadeOf log made → IsWithin (page_count log) r
    → NamesNumberOn made.pages r → NamesNumber log.records r
names log made (Update lsn txn prev page slot change) of within on =
    subst (Replaces change) (number_made log made of page slot within) on
names log made (Begin lsn txn) of within on = tt
names log made (Comp lsn txn prev undo_next page slot change) of within on = tt
names log made (Commit lsn txn prev) of within on = tt
names log made (Abort lsn txn prev) of within on = tt
names log made (End lsn txn prev) of within on = tt
names log made (BeginChkpt lsn) of within on = tt
names log made (ChkptPages lsn begin pages) of within on = tt
names log made (ChkptTxns lsn begin txn state last undo) of within on = tt
names log made (EndChkpt lsn begin redo) of within on = tt
names log made (Extend lsn pages) of within on = tt

names_on : (log : Log) (made : Made) (r : Record) → IsMadeOf log made → IsWithin (page_count log) r
    → NamesNumber log.records r → NamesNumberOn made.pages r
names_on log made (Update lsn txn prev page slot change) of within named =
    subst (Replaces change) (sym (number_made log made of page slot within)) named
names_on log made (Begin lsn txn) of within named = tt
names_on log made (Comp lsn txn prev undo_next page slot change) of within named = tt
names_on log made (Commit lsn txn prev) of within named = tt
names_on log made (Abort lsn txn prev) of within named = tt
names_on log made (End lsn txn prev) of within named = tt
names_on log made (BeginChkpt lsn) of within named = tt
names_on log made (ChkptPages lsn begin pages) of within named = tt
names_on log made (ChkptTxns lsn begin txn state last undo) of within named = tt
names_on log made (EndChkpt lsn begin redo) of within named = tt
names_on log made (Extend lsn pages) of within named = tt

-- what the tables say of checkpoints is what the log says
goes : (log : Log) (made : Made) (r : Record) → IsMadeOf log made → IsLog log → IsRecord r
    → GoesWithCheckpoint log.records r ↔ MayNoteCheckpoint made.table made.checkpoints r
goes log made r of valid is =
    subst₂ (λ (t : Table) (c : CheckpointTable). GoesWithCheckpoint log.records r ↔ MayNoteCheckpoint t c r)
    (sym of.table) (sym of.checkpoints) (goes_as_noted log r valid is)

pub may_follow : (log : Log) (made : Made) (r : Record) → IsMadeOf log made → IsLog log → IsRecord r
    → IsWithin (page_count log) r → MayComeNext made r → MayFollow log.records r
may_follow log made r of valid is within may =
    table_allows log.records r (subst (λ (t : Table). MayNote t r) of.table may.may_note)
    (names log made r of within may.replaces) ((goes log made r of valid is).1 may.may_note_checkpoint)

-- the made pages are as many as the log says
count_made : (log : Log) (made : Made) → IsMadeOf log made → length made.pages ≡ page_count log
count_made log made of =
    ap length of.pages ∙ length-map-range_with_len (image log.records) 0 (page_count log)

pub may_come : (log : Log) (made : Made) (r : Record) → IsMadeOf log made → IsLog log → IsRecord r
    → IsWithin (page_count log) r → GivesMore (page_count log) r → MayFollow log.records r → MayComeNext made r
may_come log made r of valid is within more may = record {
  may_note = subst (λ (t : Table). MayNote t r) (sym of.table) (may_note log.records r may);
  may_note_checkpoint = (goes log made r of valid is).0 (goes_with_checkpoint log.records r may);
  replaces = names_on log made r of within (names_number log.records r may);
  more = subst (λ n. GivesMore n r) (sym (count_made log made of)) more;
}

-- so it gives more pages than the log, if it gives any
pub gives_more : (log : Log) (made : Made) (r : Record) → IsMadeOf log made → MayComeNext made r
    → GivesMore (page_count log) r
gives_more log made r of may = subst (λ n. GivesMore n r) (count_made log made of) may.more

-- ---- the pages after one more record

-- a record that gives a page count changes no page
changes_none : (r : Record) (count : ℕ) → given_count r ≡ Some count → (page : Page) → with_record page r ≡ page
changes_none (Extend lsn pages) count is page = refl
changes_none (Begin lsn txn) count is page = absurd (none-some count is)
changes_none (Update lsn txn prev number slot change) count is page = absurd (none-some count is)
changes_none (Comp lsn txn prev undo_next number slot change) count is page = absurd (none-some count is)
changes_none (Commit lsn txn prev) count is page = absurd (none-some count is)
changes_none (Abort lsn txn prev) count is page = absurd (none-some count is)
changes_none (End lsn txn prev) count is page = absurd (none-some count is)
changes_none (BeginChkpt lsn) count is page = absurd (none-some count is)
changes_none (ChkptPages lsn begin pages) count is page = absurd (none-some count is)
changes_none (ChkptTxns lsn begin txn state last undo) count is page = absurd (none-some count is)
changes_none (EndChkpt lsn begin redo) count is page = absurd (none-some count is)

pub pages_next : (log : Log) (r : Record) → IsLog log → GivesMore (page_count log) r
    → pages_after (redo_all log.records (page_count log)) r
    ≡ redo_all (log.records ++ r ∷ []) (page_count (with_next log (r ∷ [])))
pages_next log r valid more = by_given (given_count r) refl
  where
    by_given : (given : Option ℕ) → given_count r ≡ given
        → pages_after (redo_all log.records (page_count log)) r
        ≡ redo_all (log.records ++ r ∷ []) (page_count (with_next log (r ∷ [])))
    by_given None is =
        let count = page_count log in
        let here : pages_after (redo_all log.records count) r ≡ map (λ page. with_record page r) (redo_all log.records count) =
        ap (λ (g : Option ℕ). option_map_or (λ c. grown_to c (redo_all log.records count)) g
        (map (λ page. with_record page r) (redo_all log.records count))) is in
        here ∙ redo_all-append log.records (r ∷ []) count
        ∙ ap (redo_all (log.records ++ r ∷ [])) (sym (page_count-push log r ∙ count_after-none count r is))
    by_given (Some given) is =
        let count = page_count log in
        let greater : count < given = subst (λ (g : Option ℕ). IfSome g (λ c. count < c)) is more in
        let here : pages_after (redo_all log.records count) r ≡ grown_to given (redo_all log.records count) =
        ap (λ (g : Option ℕ). option_map_or (λ c. grown_to c (redo_all log.records count)) g
        (map (λ page. with_record page r) (redo_all log.records count))) is in
        let after : count_after count r ≡ given =
        ap (λ (g : Option ℕ). option_map_or (max count) g count) is ∙ max-eq_right (let le : count ≤ given = omega arith in le) in
        let grown = redo_all log.records given in
        let same : map (λ page. with_record page r) grown ≡ grown =
        (λ i. map (λ page. changes_none r given is page i) grown) ∙ map-id grown in
        here ∙ redo_all-grown log given valid (omega arith) ∙ sym same
        ∙ redo_all-append log.records (r ∷ []) given
        ∙ ap (redo_all (log.records ++ r ∷ [])) (sym (page_count-push log r ∙ after))

-- ---- the page counts after one more record

counts_pushed : (counts : PageCounts) (o : Option GivenCount)
    → option_map_or (λ given. let it : PageCounts = record counts { given = counts.given ++ given ∷ [] } in it) o counts
    ≡ (record counts { given = counts.given ++ option_to_list o })
counts_pushed counts None = λ i. record counts { given = sym (append-nil counts.given) i }
counts_pushed counts (Some given) = refl

counts_next : (log : Log) (r : Record) → counts_after (counts_of log) r ≡ counts_of (with_next log (r ∷ []))
counts_next log r =
    counts_pushed (counts_of log) (given_by r)
    ∙ ap (λ given. let it : PageCounts = record { first = log.pages; given = given } in it)
    (sym (filter_map_push given_by log.records r))

pub made_next : (log : Log) (made new : Made) (r : Record) → IsLinked log.records → IsMadeOf log made
    → IsLog log → GivesMore (page_count log) r
    → MayFollow log.records r → new ≡ followed made r → IsMadeOf (with_next log (r ∷ [])) new
made_next log made new r linked of valid more may e = record {
  table = ap (λ (m : Made). m.table) e ∙ ap (λ (t : Table). noted t r) of.table
      ∙ sym (table_of_push log.records r linked may);
  checkpoints = ap (λ (m : Made). m.checkpoints) e ∙ ap (λ (t : CheckpointTable). noted_checkpoint t r) of.checkpoints
      ∙ sym (checkpoint_table_of_push log.records r);
  counts = ap (λ (m : Made). m.counts) e ∙ ap (λ counts. counts_after counts r) of.counts ∙ counts_next log r;
  pages = ap (λ (m : Made). m.pages) e ∙ ap (λ pages. pages_after pages r) of.pages ∙ pages_next log r valid more;
}

-- ---- a record of a checkpoint changes neither the transactions nor the pages

same_pages : (made : Made) (checkpoints : CheckpointTable)
    → (record made { checkpoints = checkpoints; pages = map (λ page. page) made.pages })
    ≡ (record made { checkpoints = checkpoints })
same_pages made checkpoints =
    ap (λ pages. let m : Made = record made { checkpoints = checkpoints; pages = pages } in m) (map-id made.pages)

pub after_checkpoint : (made : Made) (r : Record) → IsOfCheckpoint r
    → (NamesNumberOn made.pages r)
    × (followed made r ≡ (record made { checkpoints = noted_checkpoint made.checkpoints r }))
after_checkpoint made (BeginChkpt lsn) is = (tt, same_pages made (noted_checkpoint made.checkpoints (BeginChkpt lsn)))
after_checkpoint made (ChkptPages lsn begin pages) is =
    (tt, same_pages made (noted_checkpoint made.checkpoints (ChkptPages lsn begin pages)))
after_checkpoint made (ChkptTxns lsn begin txn state last undo) is =
    (tt, same_pages made (noted_checkpoint made.checkpoints (ChkptTxns lsn begin txn state last undo)))
after_checkpoint made (EndChkpt lsn begin redo) is =
    (tt, same_pages made (noted_checkpoint made.checkpoints (EndChkpt lsn begin redo)))
after_checkpoint made (Extend lsn pages) is = absurd is
after_checkpoint made (Begin lsn txn) is = absurd is
after_checkpoint made (Update lsn txn prev page slot change) is = absurd is
after_checkpoint made (Comp lsn txn prev undo_next page slot change) is = absurd is
after_checkpoint made (Commit lsn txn prev) is = absurd is
after_checkpoint made (Abort lsn txn prev) is = absurd is
after_checkpoint made (End lsn txn prev) is = absurd is

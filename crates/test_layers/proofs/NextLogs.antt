-- A log with one record more is a log.
use Rattle.std.proofs.Common.{◌≡◌, ◌<◌, ◌∙◌, ℕ, length, [], ◌∷◌, arith}
use Rattle.std.specs.Prelude.{None}
use Rattle.log_records.specs.declared.record.Record.{Record}
use Rattle.log_records.specs.Log.{IsLog, Log, StandsAt, lsn_of, page_count, with_next}
use Rattle.log_records.specs.PageCount.{GivesMore, given_count}
use Rattle.log_records.proofs.Public.{count_after-none, count_behind-nil, more-none, page_count-push}
use Rattle.log_rules.proofs.Public.{valid_next}

-- one that gives the volume no page count
pub next_is_log : (log : Log) (r : Record) → IsLog log → length log.records < 1000000
    → StandsAt (page_count log) (lsn_of (length log.records)) r → given_count r ≡ None → IsLog (with_next log (r ∷ []))
next_is_log log r valid few stands none =
    valid_next log r valid (omega arith) stands (more-none (page_count log) r none)

-- ---- the page count of a log of such records

-- without records it is that of the header
pub count_is_of_header : (pages : ℕ) → page_count (record { pages = pages; records = [] }) ≡ pages
count_is_of_header pages = count_behind-nil pages

-- and it stays with a record that gives none
pub count_stays : (log : Log) (r : Record) → given_count r ≡ None → page_count (with_next log (r ∷ [])) ≡ page_count log
count_stays log r none = page_count-push log r ∙ count_after-none (page_count log) r none

pub gives_more : (count : ℕ) (r : Record) → given_count r ≡ None → GivesMore count r
gives_more count r none = more-none count r none

pub ruleset of_plain_records = (count_is_of_header, count_stays, gives_more)

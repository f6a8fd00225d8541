-- The changes that are kept, with those of a record more.
use Rattle.std.proofs.Common.{◌≡◌, ℕ, ◌+◌, ◌<◌, List, [], ◌∷◌, ◌++◌, length, sym, ap, subst, ◌∙◌, arith, drop, take, get_or, append_assoc}
use Rattle.std.specs.Option.{option_to_list}
use Rattle.std.proofs.Math.Seq.{get_or-append_seam}
use Rattle.std.proofs.lemmas.List.{length_push, take-append-drop, take_more}
use Rattle.log_records.specs.declared.limits.TheConstants.{MAX_RECORDS}
use Rattle.log_records.specs.declared.record.Record.{Record}
use Rattle.log_records.specs.Log.{IsLog, Log, lsn_of, with_next}
use Rattle.log_records.specs.Record.{IsRecord, own_lsn}
use Rattle.log_rules.proofs.Public.{filter_map_push}
use Rattle.page_redo.specs.Placed.{Placed, placed_by, placed_in}
use Rattle.std.proofs.Math.Seq.{take-append_seam}
use Rattle.log_records.proofs.Public.{valid_cut}

-- the last record of a log stands at its place
pub stands_last : (log : Log) (r : Record) → IsLog (with_next log (r ∷ []))
    → (n : ℕ) × ((n < MAX_RECORDS) × (own_lsn r ≡ lsn_of n))
stands_last log r valid =
    let n = length log.records in
    let long = length_push log.records r in
    let s = valid.records n r (omega (arith, long)) in (
      n,
      (
        omega (arith, valid.count, long),
        subst (λ (x : Record). own_lsn x ≡ lsn_of n) (get_or-append_seam log.records r [] r) s.lsn,
      ),
    )

pub valid_last : (log : Log) (r : Record) → IsLog (with_next log (r ∷ [])) → IsRecord r
valid_last log r valid =
    let s = valid.records (length log.records) r (omega (arith, length_push log.records r)) in
    subst IsRecord (get_or-append_seam log.records r [] r) s.valid

pub placed_more : (log : Log) (r : Record) (old new : List Placed) → old ≡ placed_in log.records
    → new ≡ old ++ option_to_list (placed_by r) → new ≡ placed_in (with_next log (r ∷ [])).records
placed_more log r old new is more =
    more ∙ ap (λ (xs : List Placed). xs ++ option_to_list (placed_by r)) is
    ∙ sym (filter_map_push placed_by log.records r)

-- ---- record after record

pub next_one : (log : Log) (rs : List Record) (k : ℕ) (r : Record) → k < length rs → r ≡ get_or rs k r
    → with_next (with_next log (take k rs)) (r ∷ []) ≡ with_next log (take (k + 1) rs)
next_one log rs k r lt is =
    ap (λ (xs : List Record). record log { records = xs })
    (append_assoc log.records (take k rs) (r ∷ [])
    ∙ ap (λ (xs : List Record). log.records ++ xs)
    (ap (λ (x : Record). take k rs ++ x ∷ []) is ∙ sym (take_more rs k r lt)))

front : (pages : ℕ) (xs ys : List Record)
    → IsLog (let l : Log = record { pages = pages; records = xs ++ ys } in l)
    → IsLog (let l : Log = record { pages = pages; records = xs } in l)
front pages xs ys valid =
    subst (λ (rs : List Record). IsLog (let l : Log = record { pages = pages; records = rs } in l)) (take-append_seam xs ys)
    (valid_cut (record { pages = pages; records = xs ++ ys }) (length xs) valid)

-- the first records of a log are a log
pub first_ones : (log : Log) (rs : List Record) (k : ℕ) → IsLog (with_next log rs) → IsLog (with_next log (take k rs))
first_ones log rs k valid =
    front log.pages (log.records ++ take k rs) (drop k rs)
    (subst (λ (xs : List Record). IsLog (record log { records = xs }))
    (sym (append_assoc log.records (take k rs) (drop k rs)
    ∙ ap (λ (xs : List Record). log.records ++ xs) (take-append-drop k rs)))
    valid)

-- Undo leaves the checkpoints of a log, and how many transactions began: its records are Comps and Ends.
use Rattle.std.proofs.Common.{◌≡◌, ℕ, ◌/◌, ◌-◌, Bool, true, false, cond, List, [], ◌∷◌, ◌++◌, length, take}
use Rattle.std.proofs.Common.{inl, inr, refl, sym, ap, ◌∙◌, arith}
use Rattle.std.specs.Prelude.{Option, Some, None}
use Rattle.std.specs.List.{fold}
use Rattle.std.specs.Option.{option_map}
use Rattle.std.proofs.lemmas.Bool.{cases_lt}
use Rattle.std.proofs.lemmas.List.{append-nil, length_push, take-append-le, take_all}
use Rattle.std.proofs.lemmas.List.Sums.{fold_push}
use Rattle.log_records.specs.declared.record.Record.{Record}
use Rattle.log_records.specs.Log.{Log, page_count_at}
use Rattle.log_records.specs.PageCount.{count_behind}
use Rattle.log_records.proofs.Public.{count_behind-push}
use Rattle.log_rules.specs.Checkpoint.{Checkpoint, checkpoint_after, open_checkpoint}
use Rattle.log_rules.specs.Transactions.{begun, begun_by}
use Rattle.log_rules.proofs.Public.{filter_map_push}
use Rattle.loser_undo.specs.Undo.{LostChange, after_undo, comp_of, end_of, is_undone, lost_changes, spent, taken_back}
use Rattle.loser_undo.specs.Undo.{with_comp, with_end}
use Rattle.fuzzy_ckpt.specs.declared.log_checkpoints.LogCheckpoints.{LogCheckpoints}
use Rattle.fuzzy_ckpt.specs.declared.point.Point.{Point}
use Rattle.fuzzy_ckpt.specs.LogCheckpoints.{AreCheckpointsOf, IsLastPoint, gathered_of}
use Rattle.fuzzy_ckpt.proofs.Public.{last_other}
use Rattle.engine_restart.specs.Restart.{undone_log}

-- what a Comp and an End leave so, undo leaves so
module _ (P : List Record → Type 0) (comp : (rs : List Record) (l : LostChange) → P rs → P (with_comp rs l))
    (ended : (rs : List Record) (t : ℕ) → P rs → P (with_end rs t)) where
  by_taken : (rs : List Record) (l : LostChange) → P rs → P (taken_back rs l)
  unfolding taken_back
  by_taken rs l was = by (is_undone (with_comp rs l) l.txn)
    where
      by : (b : Bool) → P (cond b (with_end (with_comp rs l) l.txn) (with_comp rs l))
      by true = ended (with_comp rs l) l.txn (comp rs l was)
      by false = comp rs l was

  by_ends : (rs : List Record) (ts : List ℕ) → P rs → P (fold with_end rs ts)
  by_ends rs [] was = was
  by_ends rs (t ∷ ts) was = by_ends (with_end rs t) ts (ended rs t was)

  by_comps : (rs : List Record) (ls : List LostChange) → P rs → P (fold taken_back rs ls)
  by_comps rs [] was = was
  by_comps rs (l ∷ ls) was = by_comps (taken_back rs l) ls (by_taken rs l was)

  undo_leaves : (rs : List Record) → P rs → P (after_undo rs)
  unfolding after_undo
  undo_leaves rs was = by_comps (fold with_end rs (spent rs)) (lost_changes rs) (by_ends rs (spent rs) was)

-- ---- the page counts

counts_stay : (pages : ℕ) (rs : List Record) (r : Record)
    → count_behind pages (rs ++ r ∷ []) ≡ count_behind pages rs → (n : ℕ)
    → count_behind pages (take n (rs ++ r ∷ [])) ≡ count_behind pages (take n rs)
counts_stay pages rs r same n = elim (cases_lt (length rs) n) [
  | inl more ↦
      ap (count_behind pages) (take_all n (rs ++ r ∷ []) (omega (arith, more, length_push rs r))) ∙ same
      ∙ ap (count_behind pages) (sym (take_all n rs (omega (arith, more))))
  | inr le ↦ ap (count_behind pages) (take-append-le n rs (r ∷ []) le)
]

undone_counts : (log : Log) (n : ℕ) → page_count_at (undone_log log) n ≡ page_count_at log n
undone_counts log =
    undo_leaves (λ rs. (n : ℕ) → count_behind log.pages (take n rs) ≡ page_count_at log n)
    (λ rs l was n. counts_stay log.pages rs (comp_of rs l) (count_behind-push log.pages rs (comp_of rs l)) n ∙ was n)
    (λ rs t was n. counts_stay log.pages rs (end_of rs t) (count_behind-push log.pages rs (end_of rs t)) n ∙ was n)
    log.records (λ n. refl)

-- ---- the checkpoints

undone_open : (rs : List Record) → open_checkpoint (after_undo rs) ≡ open_checkpoint rs
undone_open rs =
    undo_leaves (λ now. open_checkpoint now ≡ open_checkpoint rs)
    (λ now l was. fold_push checkpoint_after None now (comp_of now l) ∙ was)
    (λ now t was. fold_push checkpoint_after None now (end_of now t) ∙ was) rs refl

undone_last : (log : Log) (last : Option Point) → IsLastPoint log log.records last
    → IsLastPoint log (after_undo log.records) last
undone_last log last =
    undo_leaves (λ rs. IsLastPoint log rs last)
    (λ rs l. last_other log rs (comp_of rs l) last (λ e b d is. absurd (cc)))
    (λ rs t. last_other log rs (end_of rs t) last (λ e b d is. absurd (cc))) log.records

counted_so : (log : Log) (last : Option Point) → IsLastPoint log (after_undo log.records) last
    → IsLastPoint (undone_log log) (after_undo log.records) last
counted_so log None none = none
counted_so log (Some point) (is, latest) = (
  record { ended = is.ended; same_pages = is.same_pages ∙ sym (undone_counts log ((point.begin - 1) / 64)) },
  latest,
)

gathered_so : (log : Log) (o : Option Checkpoint)
    → option_map (gathered_of log) o ≡ option_map (gathered_of (undone_log log)) o
gathered_so log None = refl
gathered_so log (Some c) =
    ap (λ n. Some (record (gathered_of log c) { pages = n })) (sym (undone_counts log ((c.begin - 1) / 64)))

-- those of a log are those of the log after undo
pub undone_checkpoints : (log : Log) (it : LogCheckpoints) → AreCheckpointsOf log it
    → AreCheckpointsOf (undone_log log) it
undone_checkpoints log it are = record {
  last = counted_so log it.last (undone_last log it.last are.last);
  begun = are.begun ∙ gathered_so log (open_checkpoint log.records)
      ∙ ap (option_map (gathered_of (undone_log log))) (sym (undone_open log.records));
}

-- ---- the transactions that began

pub undone_begun : (rs : List Record) → begun (after_undo rs) ≡ begun rs
undone_begun rs =
    undo_leaves (λ now. begun now ≡ begun rs)
    (λ now l was. filter_map_push begun_by now (comp_of now l) ∙ append-nil (begun now) ∙ was)
    (λ now t was. filter_map_push begun_by now (end_of now t) ∙ append-nil (begun now) ∙ was) rs refl

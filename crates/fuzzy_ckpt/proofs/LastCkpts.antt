-- The checkpoints of a log, record by record.
use Rattle.std.proofs.Common.{◌≡◌, ℕ, suc, zero, ◌<◌, ◌≤◌, List, [], ◌∷◌, ◌++◌, length, take, take-suc, refl, sym, ap, ◌∙◌}
use Rattle.std.proofs.Common.{arith, inl, inr, subst, get_or, ◌-◌}
use Rattle.std.specs.Prelude.{Contains, Option, Some, None}
use Rattle.std.specs.Option.{option_map}
use Rattle.std.proofs.lemmas.List.{append-nil, get_or-take, get_or_default, get_or_push, length-take, length_push, take_all}
use Rattle.std.proofs.lemmas.Option.{slice_get-get_or}
use Rattle.std.proofs.lemmas.List.Elements.{Contains-append_cases, Contains-append_left, Contains-append_right}
use Rattle.log_records.specs.declared.record.Record.{Record}
use Rattle.log_records.specs.declared.record.Record.TheVariants.{Begin, EndChkpt}
use Rattle.log_records.specs.Log.{IsLog, Log, lsn_of, page_count_below}
use Rattle.log_records.specs.Record.{own_lsn}
use Rattle.log_rules.specs.declared.ckpt_point.CkptPoint.{CkptPoint}
use Rattle.log_rules.specs.Checkpoint.{Checkpoint, completed_by, completed_in}
use Rattle.log_rules.specs.Transactions.{last_of}
use Rattle.log_rules.proofs.Public.{filter_map_push}
use Rattle.log_store.specs.declared.checkpoints.OpenCkpt.{OpenCkpt}
use Rattle.log_store.specs.Analysis.{begun_of}
use Rattle.fuzzy_ckpt.specs.declared.point.Point.{Point}
use Rattle.fuzzy_ckpt.specs.Ckpt.{CkptView, Phase, gathered}
use Rattle.fuzzy_ckpt.specs.LogCheckpoints.{EndBy, IsLastPoint, gathered_of}

only_one : (r x : Record) → Contains (r ∷ []) x → r ≡ x
only_one r x (zero, lt, is) = is
only_one r x (suc i, lt, is) = absurd (omega (arith, lt))

-- a checkpoint ends
pub last_end : (log : Log) (rs : List Record) (lsn begin redo pages : ℕ) → EndBy rs lsn
    → pages ≡ page_count_below log begin
    → IsLastPoint log (rs ++ EndChkpt lsn begin redo ∷ [])
    (Some (record { begin = begin; end = lsn; redo = redo; pages = pages }))
last_end log rs lsn begin redo pages before same =
    let r = EndChkpt lsn begin redo in (
      record { ended = Contains-append_right rs (r ∷ []) r (0, omega arith, refl); same_pages = same },
      λ e b d has. elim (Contains-append_cases rs (r ∷ []) (EndChkpt e b d) has) [
        | inl old ↦ before e b d old
        | inr new ↦
            let one : r ≡ EndChkpt e b d = only_one r (EndChkpt e b d) new in
            let same : lsn ≡ e = cc in
            omega (arith, same)
      ],
    )

-- none ends
pub last_other : (log : Log) (rs : List Record) (r : Record) (last : Option Point)
    → ((e b d : ℕ) → ¬ (r ≡ EndChkpt e b d)) → IsLastPoint log rs last → IsLastPoint log (rs ++ r ∷ []) last
last_other log rs r None other none = λ e b d has.
    elim (Contains-append_cases rs (r ∷ []) (EndChkpt e b d) has) [
      | inl old ↦ none e b d old
      | inr new ↦ other e b d (only_one r (EndChkpt e b d) new)
    ]
last_other log rs r (Some point) other (is, before) = (
  record { ended = Contains-append_left rs (r ∷ []) _ is.ended; same_pages = is.same_pages },
  λ e b d has. elim (Contains-append_cases rs (r ∷ []) (EndChkpt e b d) has) [
    | inl old ↦ before e b d old
    | inr new ↦ absurd (other e b d (only_one r (EndChkpt e b d) new))
  ],
)

-- ---- the record at an index of a log

own_of : (log : Log) (i : ℕ) (r : Record) → IsLog log → i < length log.records → get_or log.records i r ≡ r
    → own_lsn r ≡ lsn_of i
own_of log i r valid lt at = subst (λ (x : Record). own_lsn x ≡ lsn_of i) at (valid.records i r lt).lsn

pub end_by_next : (log : Log) (i : ℕ) (r : Record) → IsLog log → i < length log.records
    → get_or log.records i r ≡ r → EndBy (take i log.records) (own_lsn r)
end_by_next log i r valid lt at = λ e b d (k, low, is).
    let x = EndChkpt e b d in
    let few = length-take i log.records in
    let below : k < i = omega (arith, few, low) in
    let there : get_or log.records k x ≡ x = sym (get_or-take i log.records k x below) ∙ is in
    let within : k < length log.records = omega (arith, below, lt) in
    let own = own_of log k x valid within there in
    omega (arith, own, own_of log i r valid lt at, below)

-- ---- the complete checkpoints of a log

-- one of them, with the page count at its begin
abbrev pub point_at : Log → CkptPoint → Point
point_at log c = record { begin = c.begin; end = c.end; redo = c.redo; pages = page_count_below log c.begin }

last_pushed : (cs : List CkptPoint) (c : CkptPoint) → last_of (cs ++ c ∷ []) ≡ Some c
last_pushed cs c =
    let i = length (cs ++ c ∷ []) - 1 in
    let long = length_push cs c in
    let within : i < length (cs ++ c ∷ []) = omega (arith, long) in
    let last : length cs ≡ i = omega (arith, long) in
    slice_get-get_or (cs ++ c ∷ []) i c within ∙ ap Some (get_or_push cs c c i last)

-- the last one of the records so far
abbrev HasLast : Log → List Record → Type 0
HasLast log rs = IsLastPoint log rs (option_map (point_at log) (last_of (completed_in rs)))

last_more : (log : Log) (rs : List Record) (r : Record) → EndBy rs (own_lsn r) → HasLast log rs
    → HasLast log (rs ++ r ∷ [])
last_more log rs (EndChkpt lsn begin redo) before last =
    let c : CkptPoint = record { begin = begin; end = lsn; redo = redo } in
    let is : last_of (completed_in (rs ++ EndChkpt lsn begin redo ∷ [])) ≡ Some c =
    ap (λ (cs : List CkptPoint). last_of cs) (filter_map_push completed_by rs (EndChkpt lsn begin redo))
    ∙ last_pushed (completed_in rs) c in
    subst (λ o. IsLastPoint log (rs ++ EndChkpt lsn begin redo ∷ []) (option_map (point_at log) o)) (sym is)
    (last_end log rs lsn begin redo (page_count_below log begin) before refl)
last_more log rs r before last =
    let same : completed_in (rs ++ r ∷ []) ≡ completed_in rs =
    filter_map_push completed_by rs r ∙ append-nil (completed_in rs) in
    subst (λ (cs : List CkptPoint). IsLastPoint log (rs ++ r ∷ []) (option_map (point_at log) (last_of cs))) (sym same)
    (last_other log rs r (option_map (point_at log) (last_of (completed_in rs))) (λ e b d is. absurd (cc)) last)

pub last_completed : (log : Log) → IsLog log → HasLast log log.records
last_completed log valid =
    subst (HasLast log) (take_all (length log.records) log.records (omega arith)) (up_to (length log.records) (omega arith))
  where
    up_to : (n : ℕ) → n ≤ length log.records → HasLast log (take n log.records)
    up_to zero le = λ e b d has. absurd (omega (arith, has.1))
    up_to (suc n) le =
        let lt : n < length log.records = omega arith in
        let r = get_or log.records n (Begin 0 0) in
        subst (HasLast log) (sym (take-suc log.records n (Begin 0 0) lt))
        (last_more log (take n log.records) r
        (end_by_next log n r valid lt (get_or_default log.records n r (Begin 0 0) lt)) (up_to n (omega arith)))

-- the open one, with the page count at its begin
abbrev pub begun_view : Log → OpenCkpt → CkptView Phase
begun_view log it = record {
  begin = it.begin;
  pages = page_count_below log it.begin;
  redo = it.redo;
  phase = gathered;
}

pub begun_at : (log : Log) (o : Option Checkpoint)
    → option_map (begun_view log) (option_map begun_of o) ≡ option_map (gathered_of log) o
begun_at log None = refl
begun_at log (Some c) = refl

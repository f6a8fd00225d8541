-- A log up to one of its records: how many records it has, and that no other log ends there.
use Rattle.std.proofs.Common.{◌≡◌, ◌≢◌, ℕ, ◌+◌, ◌-◌, ◌*◌, ◌/◌, ◌<◌, ◌≤◌, List, length, get_or, take, Option, Some, None}
use Rattle.std.proofs.Common.{inl, inr, sym, ap, subst, ◌∙◌, arith}
use Rattle.std.specs.Prelude.{IfSome, IsSomeAnd, slice_get}
use Rattle.std.specs.Io.Take.{take_inner, take_limit, take_remaining}
use Rattle.std.specs.Option.{option_map}
use Rattle.std.specs.declared.io.traits.Take.{Take}
use Rattle.std.proofs.lemmas.Option.{slice_get_cases}
use Rattle.page_core.specs.declared.page.Page.{Page}
use Rattle.page_core.specs.Page.{volume_bytes}
use Rattle.page_redo.specs.Stream.{SpellsVolumeOf}
use Rattle.log_records.specs.Image.{redo_all}
use Rattle.log_records.proofs.Public.{length-log, numbered-redo_all, same_log, spells_cut}
use Rattle.log_records.specs.Coverage.{up_to}
use Rattle.log_rules.specs.Linked.{IsLinked}
use Rattle.log_rules.proofs.Public.{linked-take}
use Rattle.copy_audit.specs.Audit.{IsOfLog}
use Rattle.std.proofs.lemmas.List.{length-take}
use Rattle.log_records.specs.declared.record.Record.{Record}
use Rattle.log_records.specs.Log.{IsLog, Log, SpellsLog, lsn_of, page_count}
use Rattle.log_records.specs.Record.{own_lsn}
use Rattle.log_store.specs.Fault.{IsPlace}
use Rattle.media_restore.specs.Until.{EndsWith, IsLogUntil, bytes_until}

-- the last of so many records
pub ends_with : (log : Log) (lsn : ℕ) → IsLog log → 0 < length log.records → lsn ≡ 64 * length log.records → EndsWith lsn log
ends_with log lsn valid some at = elim (slice_get_cases log.records (length log.records - 1)).1 [
  | inl it ↦ subst (λ (o : Option Record). IsSomeAnd o (λ r. own_lsn r ≡ lsn)) (sym it.2)
      (ap own_lsn (sym it.3) ∙ (valid.records (length log.records - 1) it.0 it.1).lsn ∙ omega (arith, some, at))
  | inr it ↦ absurd (omega (arith, it.0, some))
]

-- so many records a log has whose last one is there
pub counted : (log : Log) (lsn : ℕ) → IsLog log → EndsWith lsn log → (0 < length log.records) × (lsn ≡ 64 * length log.records)
counted log lsn valid last = elim (slice_get_cases log.records (length log.records - 1)).1 [
  | inl it ↦ let own : own_lsn it.0 ≡ lsn = subst (λ (o : Option Record). IsSomeAnd o (λ r. own_lsn r ≡ lsn)) it.2 last in
      let at = ap own_lsn (sym it.3) ∙ (valid.records (length log.records - 1) it.0 it.1).lsn in
      (omega (arith, it.1), omega (arith, own, at, it.1))
  | inr it ↦ absurd (subst (λ (o : Option Record). IsSomeAnd o (λ r. own_lsn r ≡ lsn)) it.1 last)
]

-- so many records end there
pub exactly : (count lsn : ℕ) → IsPlace lsn → count ≡ lsn / 64 → (0 < count) × (lsn ≡ 64 * count)
exactly count lsn place is =
    (omega (arith, place.aligned, place.past_header, is), omega (arith, place.aligned, place.past_header, is))

-- where the bytes up to there spell a log of another count, no log ends there
pub none_ends : (input : Option (List ℕ)) (lsn : ℕ) (log : Log) → IfSome (bytes_until lsn input) (SpellsLog log)
    → length log.records ≢ lsn / 64 → IfSome input (λ bytes. (ended : Log) → ¬ IsLogUntil (Some bytes) lsn ended)
none_ends None lsn log spells other = tt
none_ends (Some bytes) lsn log spells other = λ ended it.
    let count = counted ended lsn it.of_log.valid it.last in
    other (omega (arith, length-log log _ spells, length-log ended _ it.of_log.spelled, count.1))

-- and that log ends with another record
pub ends_elsewhere : (log : Log) (lsn : ℕ) → IsLog log → length log.records ≢ lsn / 64 → ¬ EndsWith lsn log
ends_elsewhere log lsn valid other last =
    let count = counted log lsn valid last in other (omega (arith, count.0, count.1))

-- what a reader gives that is cut there
pub cut_there : {T : Type 0} (remaining : T → Option (List ℕ)) (front : Take T) (lsn : ℕ) (inner : T)
    → take_limit front ≡ lsn + 64 → take_inner front ≡ inner
    → take_remaining remaining front ≡ bytes_until lsn (remaining inner)
cut_there remaining front lsn inner limit is =
    ap (λ (n : ℕ). option_map (take n) (remaining (take_inner front))) limit
    ∙ ap (λ r. option_map (take (lsn + 64)) (remaining r)) is

-- no other log has these bytes
pub one_log : (input : List ℕ) (lsn : ℕ) (ended log : Log) → IsLogUntil (Some input) lsn ended
    → IsOfLog (bytes_until lsn (Some input)) log → log ≡ ended
one_log input lsn ended log it other = same_log log ended (take (lsn + 64) input) other.spelled it.of_log.spelled

-- the log has the records of the whole one up to there
pub front_of : (input : List ℕ) (lsn : ℕ) (whole ended : Log) → SpellsLog whole input → IsLogUntil (Some input) lsn ended
    → ended ≡ record whole { records = up_to whole.records lsn }
front_of input lsn whole ended spells it =
    let n = length ended.records in
    let count = counted ended lsn it.of_log.valid it.last in
    let le : n ≤ length whole.records = omega (
      arith,
      length-log ended _ it.of_log.spelled,
      length-log whole input spells,
      length-take (lsn + 64) input,
      count.1,
    ) in
    let here : SpellsLog (record whole { records = take n whole.records }) (take (lsn + 64) input) =
    subst (λ k. SpellsLog (record whole { records = take n whole.records }) (take k input)) (omega (arith, count.1))
    (spells_cut whole input n le spells) in
    same_log ended (record whole { records = take n whole.records }) (take (lsn + 64) input) it.of_log.spelled here
    ∙ ap (λ k. record whole { records = take k whole.records }) (omega (arith, count.1))

so_many : (input : List ℕ) (whole : Log) (count lsn : ℕ) → SpellsLog whole input → IsLinked whole.records → 0 < count
    → count ≤ length whole.records → lsn ≡ 64 * count
    → IsLogUntil (Some input) lsn (record whole { records = take count whole.records })
so_many input whole count lsn spells linked some le at =
    let here : SpellsLog (record whole { records = take count whole.records }) (take (lsn + 64) input) =
    subst (λ k. SpellsLog (record whole { records = take count whole.records }) (take k input)) (omega (arith, at))
    (spells_cut whole input count le spells) in
    let long : length (take count whole.records) ≡ count = omega (arith, length-take count whole.records, le) in
    record {
      of_log = record { valid = here.valid; linked = linked-take whole.records linked count; spelled = here };
      last = ends_with (record whole { records = take count whole.records }) lsn here.valid (omega (arith, long, some))
          (omega (arith, long, at));
    }

-- each record of a linked log is the last one of such a log
pub each_ends : (input : List ℕ) (whole : Log) (i : ℕ) → SpellsLog whole input → IsLinked whole.records
    → i < length whole.records → IsLogUntil (Some input) (lsn_of i) (record whole { records = up_to whole.records (lsn_of i) })
each_ends input whole i spells linked lt =
    so_many input whole (lsn_of i / 64) (lsn_of i) spells linked (omega arith) (omega arith) (omega arith)

-- the bytes of the volume that a log makes
pub spelled_volume : (log : Log) (pages : List Page) → pages ≡ redo_all log.records (page_count log)
    → SpellsVolumeOf log (volume_bytes pages)
spelled_volume log pages made = record {
  numbered = numbered-redo_all log.records (page_count log);
  spelled = ap volume_bytes made;
}

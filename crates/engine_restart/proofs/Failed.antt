-- A restart that failed leaves a first part of undo's records.
use Rattle.std.proofs.Common.{ℕ, zero, suc, ◌≡◌, ◌+◌, ◌-◌, ◌*◌, ◌/◌, ◌<◌, ◌≤◌, List, [], ◌∷◌, ◌++◌, get_or, length, take, drop}
use Rattle.std.proofs.Common.{refl, sym, ap, subst, ◌∙◌, arith, inl, inr}
use Rattle.std.specs.List.{All, Contains, slice_range}
use Rattle.std.proofs.lemmas.Bool.{cases_lt}
use Rattle.std.proofs.lemmas.List.{ext_get_or, get_or-drop, get_or-take, get_or_default, length-drop, length-take}
use Rattle.std.proofs.lemmas.List.{take-append-drop, take-append-le, take-take}
use Rattle.file_devices.specs.FileLog.{LogOnDisk, bytes_of, synced_of}
use Rattle.file_devices.specs.TrackedDisk.{Begins}
use Rattle.log_prefix.specs.Front.{IsLongestFront}
use Rattle.log_records.specs.declared.record.Record.{Record}
use Rattle.log_records.specs.Log.{IsLog, Log, SpellsLog, log_bytes, lsn_of}
use Rattle.log_records.specs.Record.{own_lsn}
use Rattle.log_rules.specs.Linked.{IsLinked}
use Rattle.log_store.specs.Stores.{FailsBetween, StoreCall, SyncCall, at_a_store, at_the_sync}
use Rattle.loser_undo.specs.Undo.{after_undo}
use Rattle.page_core.specs.declared.format.Format.TheVariants.{Second}
use Rattle.engine_restart.specs.Interrupted.{IsFoundBehind, IsPartlyUndone, asked_in}
use Rattle.engine_restart.specs.Restart.{undone_log}
use Rattle.engine_restart.proofs.Interrupted.{log_stays, valid_before}

-- ---- what a device was asked to store are records of the log

part_of : {X : Type 0} (xs : List X) (a b : ℕ) (x : X) → Contains (slice_range xs a b) x → Contains xs x
part_of xs a b x (k, lt, at) =
    let m = b - a in
    let long = length-take m (drop a xs) in
    let rest = length-drop a xs in
    let below : k < m = omega (arith, lt, long) in (
      a + k,
      omega (arith, lt, long, rest),
      sym (get_or-drop a xs k x) ∙ sym (get_or-take m (drop a xs) k x below) ∙ at,
    )

module _ {D : Type 0} {called : StoreCall D} {synced : SyncCall D} where
  pub asked_there : (log : Log) (from to : ℕ) (old new : D) (fails : FailsBetween called synced log from to old new)
      (r : Record) → Contains (asked_in log from to fails) r → Contains log.records r
  asked_there log from to old new (at_a_store failed next synced) r is =
      part_of log.records (from / 64 - 1) ((to + 64) / 64 - 1) r is
  asked_there log from to old new (at_the_sync end reached why more stored fault none) r is =
      part_of log.records (from / 64 - 1) ((end + 64) / 64 - 1) r is

-- ---- and a log that has no others begins as undo does

same_front : {X : Type 0} (xs ys : List X)
    → ((i : ℕ) (d : X) → i < length xs → (i < length ys) × (get_or xs i d ≡ get_or ys i d))
    → (length xs ≤ length ys) × (xs ≡ take (length xs) ys)
same_front [] ys each = (omega arith, refl)
same_front (x ∷ xs) ys each =
    let last = each (length xs) x (omega arith) in
    let there = last.0 in
    let short : length xs + 1 ≤ length ys = omega (arith, there) in
    let long = length-take (suc (length xs)) ys in (
      omega (arith, short),
      ext_get_or x (x ∷ xs) (take (suc (length xs)) ys) (omega (arith, long, short))
          (λ i lt. (each i x lt).1 ∙ sym (get_or-take (suc (length xs)) ys i x (omega (arith, lt)))),
    )

module _ (log found : Log) (whole_valid : IsLog (undone_log log)) (valid : IsLog found)
    (begins : log ≡ record found { records = take (length log.records) found.records }) where
  abbrev n : ℕ
  n = length log.records

  abbrev whole : List Record
  whole = after_undo log.records

  front : log.records ≡ take n found.records
  front = ap (λ (l : Log). l.records) begins

  many : n ≤ length found.records
  many = let long = length-take n found.records in omega (arith, ap length front, long)

  more : n ≤ length whole
  more = let long = length-take n whole in omega (arith, ap length (log_stays log.records), long)

  each_there : All (Contains whole) (drop n found.records) → (i : ℕ) (d : Record) → i < length found.records
      → (i < length whole) × (get_or found.records i d ≡ get_or whole i d)
  each_there only i d lt = elim (cases_lt i n) [
    | inl early ↦ (
      omega (arith, early, more),
      sym (get_or-take n found.records i d early) ∙ ap (λ rs. get_or rs i d) (sym front ∙ sym (log_stays log.records))
          ∙ get_or-take n whole i d early,
    )
    | inr late ↦
        let r = get_or found.records i d in
        let place : n + (i - n) ≡ i = omega (arith, late) in
        let rest = length-drop n found.records in
        let at : get_or (drop n found.records) (i - n) d ≡ r =
        get_or-drop n found.records (i - n) d ∙ ap (λ k. get_or found.records k d) place in
        let undos : Contains whole r =
        subst (Contains whole) at (only (i - n) d (omega (arith, rest, lt, late))) in
        let there = undos.1 in
        let same : lsn_of i ≡ lsn_of undos.0 =
        sym (valid.records i d lt).lsn ∙ ap own_lsn (sym undos.2)
        ∙ (whole_valid.records undos.0 r undos.1).lsn in
        let k_is : i ≡ undos.0 = omega (arith, same) in (
          omega (arith, k_is, there),
          sym undos.2 ∙ ap (λ k. get_or whole k r) (sym k_is)
              ∙ get_or_default whole i r d (omega (arith, k_is, there)),
        )
  ]

  pub partly : All (Contains whole) (drop n found.records) → IsPartlyUndone log found
  partly only =
      let same = same_front found.records whole (each_there only) in
      record {
        count = length found.records;
        within = same.0;
        forced = omega (arith, many);
        made = ap (λ rs. record { pages = found.pages; records = rs }) same.1
            ∙ ap (λ k. record { pages = k; records = take (length found.records) whole })
            (sym (ap (λ (l : Log). l.pages) begins));
      }

-- ---- what is found

pub last_bytes : {D : Type 0} (device : LogOnDisk D) (left : List ℕ) (end : ℕ) → length (synced_of device) ≡ device.end
    → end ≤ device.end → Begins (synced_of device) left → take end left ≡ take end (bytes_of device)
last_bytes device left end counted low begins =
    let synced = synced_of device in
    let under : end ≤ length synced = omega (arith, counted, low) in
    sym (take-take end (length synced) left under) ∙ ap (take end) begins
    ∙ sym (take-append-le end synced device.waiting under)

pub leaves_a_part : (log found : Log) (asked : List Record)
    → ((forced it : Log) (written behind : List ℕ) → SpellsLog forced written → IsLinked forced.records
    → IsLongestFront (written ++ behind) it → forced ≡ record it { records = take (length forced.records) it.records })
    → ((r : Record) → Contains asked r → Contains (after_undo log.records) r)
    → IsLog (undone_log log) → IsLinked log.records → IsFoundBehind log asked found → IsPartlyUndone log found
leaves_a_part log found asked fronts undos valid linked is =
    let end = lsn_of (length log.records) in
    let spells : SpellsLog log (log_bytes log) = record {
      valid = valid_before log valid;
      format = Second;
      of_format = λ i d lt. tt;
      spelled = refl;
    } in
    let split : is.left ≡ log_bytes log ++ drop end is.left =
    sym (take-append-drop end is.left) ∙ ap (λ bs. bs ++ drop end is.left) is.holds in
    let begins = fronts log found (log_bytes log) (drop end is.left) spells linked
    (subst (λ bs. IsLongestFront bs found) split is.front) in
    partly log found valid is.front.front.spells.valid begins
    (λ i d lt. undos (get_or (drop (length log.records) found.records) i d) (is.only i d lt))

-- Undo's records, appended to a log one after another, and forced.
use Rattle.std.proofs.Common.{ℕ, ◌≡◌, ◌+◌, ◌*◌, ◌<◌, ◌≤◌, List, [], ◌∷◌, ◌++◌, append_assoc, get_or, length, take, refl, ap, subst, subst₂, sym, ◌∙◌, arith}
use Rattle.std.proofs.lemmas.List.{get_or_push, length-take, length_push, take_all}
use Rattle.log_records.specs.declared.limits.TheConstants.{MAX_RECORDS}
use Rattle.log_records.specs.declared.record.Record.{Record}
use Rattle.log_records.specs.Log.{IsLog, Log, SpellsLog, StandsAt, bytes_in, log_bytes, lsn_of, page_count, page_count_at, with_next}
use Rattle.log_records.specs.PageCount.{GivesMore}
use Rattle.log_records.proofs.Public.{format_in-take, format_of_log, length-log}
use Rattle.log_records.proofs.Public.{page_count_at-all, page_count_at-append}
use Rattle.log_store.specs.Device.{KeepsFirst}
use Rattle.log_store.specs.Stores.{FailsBetween, ForceFails, Forced, ForcesBetween, StoreCall, SyncCall}
use Rattle.log_store.specs.WrittenLog.{HoldsLog, IsWritten, WrittenLog, first_records}
use Rattle.loser_undo.specs.Recovery.{appended}
use Rattle.loser_undo.specs.UndoSink.{HasComeTo}
use Rattle.loser_undo.proofs.Public.{log_and_appended}
use Rattle.page_core.specs.declared.format.Format.{Format}
use Rattle.page_core.specs.declared.format.Format.TheVariants.{Second}
use Rattle.engine_restart.specs.Restart.{FailsUndo, ForcesMore, HasLasting, undone_log}

-- a record behind a log may stand there
pub record MayBeAppended (log : Log) (r : Record) : Type 0 where
  pub stands : StandsAt (page_count log) (lsn_of (length log.records)) r
  pub more : GivesMore (page_count log) r
  pub few : length log.records < MAX_RECORDS

pub may_append : (log : Log) (r : Record) → IsLog (with_next log (r ∷ [])) → MayBeAppended log r
may_append log r valid =
    let rs = log.records in
    let n = length rs in
    let long = length_push rs r in
    let there : n < length (rs ++ r ∷ []) = omega (arith, long) in
    let most = valid.count in
    let count : page_count_at (with_next log (r ∷ [])) n ≡ page_count log =
    page_count_at-append log (r ∷ []) n (omega arith) ∙ page_count_at-all log n (omega arith) in
    let last : get_or (rs ++ r ∷ []) n r ≡ r = get_or_push rs r r n refl in
    record {
      stands = subst (λ (m : ℕ). StandsAt m (lsn_of n) r) count
          (subst (StandsAt (page_count_at (with_next log (r ∷ [])) n) (lsn_of n)) last (valid.records n r there));
      more = subst (λ (m : ℕ). GivesMore m r) count
          (subst (GivesMore (page_count_at (with_next log (r ∷ [])) n)) last (valid.grows n r there));
      few = omega (arith, long, most);
    }

-- undo's next record behind a log that has grown by these
module _ (image : Log) (behind : List Record) (r : Record) (log : Log) (grown : log ≡ with_next image behind) where
  pub next_is : with_next log (r ∷ []) ≡ with_next image (behind ++ r ∷ [])
  next_is =
      ap (λ (l : Log). with_next l (r ∷ [])) grown
      ∙ ap (λ (rs : List Record). record image { records = rs }) (append_assoc image.records behind (r ∷ []))

  pub next_may : HasComeTo image (behind ++ r ∷ []) → MayBeAppended log r
  next_may come = may_append log r (subst IsLog (sym next_is) come.1.valid)

pub all_appended : (image log : Log) → log ≡ with_next image (appended image) → log ≡ undone_log image
all_appended image log is = is ∙ ap (λ (rs : List Record). record image { records = rs }) (log_and_appended image)

-- a device has all of a log that is forced
pub held : {D : Type 0} (bytes : D → List ℕ) (it : WrittenLog D) → IsWritten bytes it
    → it.forced_end ≡ lsn_of (length it.log.records) → HoldsLog bytes it.log it.device
held bytes it kept all =
    let count = kept.forced.0 in
    let known = kept.forced.1 in
    let front = take it.forced_end (bytes it.device) in
    let end = known.end in
    let same : count ≡ length it.log.records = omega (arith, end, all) in
    let whole : first_records count it.log ≡ it.log =
    ap (λ (rs : List Record). record it.log { records = rs }) (take_all count it.log.records (omega (arith, same))) in
    let spells : SpellsLog it.log front = subst (λ (l : Log). SpellsLog l front) whole known.stable in
    let second : spells.format ≡ Second =
    sym (format_of_log it.log front spells) ∙ format_in-take it.forced_end (bytes it.device) (omega (arith, all))
    ∙ known.second in
    subst (λ (k : ℕ). take k (bytes it.device) ≡ log_bytes it.log) all
    (spells.spelled ∙ ap (λ (f : Format). bytes_in f it.log) second)

pub has_lasting : {D : Type 0} (bytes : D → List ℕ) (lasting : D → ℕ) (it : WrittenLog D) (log : Log) (device : D)
    → IsWritten bytes it → it.forced_end ≡ lsn_of (length it.log.records) → it.forced_end ≤ lasting it.device
    → log ≡ it.log → device ≡ it.device → HasLasting bytes lasting log device
has_lasting bytes lasting it log device kept all lasts log_is device_is =
    subst (λ (l : Log). HasLasting bytes lasting l device) (sym log_is)
    (subst (HasLasting bytes lasting it.log) (sym device_is) (record {
      holds = held bytes it kept all;
      lasts = subst (λ (n : ℕ). n ≤ lasting it.device) all lasts;
    }))

-- what a force has made of a device, once nothing but undo's records was not forced yet
module _ {D : Type 0} (bytes : D → List ℕ) (old new : WrittenLog D) (log undone : Log) (device left : D)
    (from : old.forced_end ≡ lsn_of (length log.records)) (was : old.device ≡ device)
    (to : new.forced_end ≡ lsn_of (length new.log.records)) (log_is : undone ≡ new.log) (left_is : left ≡ new.device) where
  pub forces_more : (called : StoreCall D) (synced : SyncCall D) → Forced called synced old new
      → ForcesMore called synced log undone device left
  forces_more called synced forced =
      subst (λ (l : Log). ForcesMore called synced log l device left) (sym log_is)
      (subst (λ d. ForcesMore called synced log new.log device d) (sym left_is)
      (subst (λ d. ForcesMore called synced log new.log d new.device) was
      (subst₂ (λ a b. ForcesBetween called synced new.log.records a b old.device new.device) from to forced)))

  pub left_alone : IsWritten bytes new
      → (old.forced_end < new.forced_end → length (bytes new.device) ≡ new.forced_end)
      → length log.records < length undone.records → bytes left ≡ log_bytes undone
  left_alone kept no_more grew =
      let long : length undone.records ≡ length new.log.records = ap (λ (l : Log). length l.records) log_is in
      let all = no_more (omega (arith, from, to, grew, long)) in
      ap bytes left_is
      ∙ sym (take_all (lsn_of (length new.log.records)) (bytes new.device) (omega (arith, all, to)))
      ∙ held bytes new kept to ∙ ap log_bytes (sym log_is)

-- what a force of undo's records that failed has made of a device
module _ {D : Type 0} (old new : WrittenLog D) (log : Log) (device left : D)
    (from : old.forced_end ≡ lsn_of (length log.records)) (was : old.device ≡ device) (left_is : left ≡ new.device) where
  abbrev end : ℕ
  end = lsn_of (length log.records)

  pub fails_undo : (called : StoreCall D) (synced : SyncCall D) → new.log ≡ undone_log log
      → ForceFails called synced old new → FailsUndo called synced log device left
  fails_undo called synced log_is fails = (
    new.forced_end,
    subst (λ d. FailsBetween called synced (undone_log log) end new.forced_end device d) (sym left_is)
        (subst (λ d. FailsBetween called synced (undone_log log) end new.forced_end d new.device) was
        (subst (λ n. FailsBetween called synced (undone_log log) n new.forced_end old.device new.device) from
        (subst (λ l. FailsBetween called synced l old.forced_end new.forced_end old.device new.device) log_is fails))),
  )

  pub lasts_still : (bytes : D → List ℕ) (lasting : D → ℕ) → HasLasting bytes lasting log device
      → KeepsFirst old.forced_end (bytes old.device) (bytes new.device) → old.forced_end ≤ new.forced_end
      → new.forced_end ≤ lasting new.device → HasLasting bytes lasting log left
  lasts_still bytes lasting has keeps rising lasts = subst (HasLasting bytes lasting log) (sym left_is) (record {
    holds = subst (λ n. take n (bytes new.device) ≡ take n (bytes old.device)) from keeps.same
        ∙ ap (λ d. take end (bytes d)) was ∙ has.holds;
    lasts = omega (arith, from, rising, lasts);
  })

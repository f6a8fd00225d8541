-- What a log that is written keeps.
use Rattle.std.proofs.Common.{◌≡◌, ℕ, ◌+◌, ◌*◌, ◌<◌, ◌≤◌, List, [], ◌∷◌, ◌++◌, length, take, refl, sym, ap, ◌∙◌, arith}
use Rattle.std.proofs.Common.{subst, suc}
use Rattle.std.specs.Prelude.{slice_get, Some}
use Rattle.std.proofs.lemmas.List.{append-nil, length-append, length-take, length_push, take-append-le, take_all}
use Rattle.std.proofs.lemmas.Option.{get_or_from_slice_get, slice_get_within}
use Rattle.std.proofs.Math.Seq.{take-suc}
use Rattle.log_records.specs.declared.record.Record.{Record}
use Rattle.log_records.specs.Log.{IsLog, IsOfFormat, IsPageCount, Log, SpellsLog, StandsAt, format_in, header_bytes, lsn_of, page_count, page_count_at, with_next}
use Rattle.log_records.specs.Record.{own_lsn, record_bytes}
use Rattle.log_records.proofs.Public.{record_length}
use Rattle.log_store.specs.Device.{KeepsFirst}
use Rattle.log_store.specs.WrittenLog.{HasRecordAt, HoldsLog, IsWritten, WrittenLog, first_records, written_log}
use Rattle.log_store.proofs.Scans.{spells_next}
use Rattle.log_records.proofs.Public.{format_in-append, format_in-header, format_in-take, format_of_log, length-log, length-header}
use Rattle.log_records.specs.PageCount.{GivesMore, count_behind}
use Rattle.log_rules.proofs.Public.{valid_next}
use Rattle.page_core.specs.declared.format.Format.TheVariants.{Second}

-- the forced end lies on the device
pub on_device : {D : Type 0} (bytes : D → List ℕ) (pages : ℕ) (records : List Record) (forced room : ℕ) (device : D)
    → IsWritten bytes (written_log pages records forced room device) → lsn_of forced ≤ length (bytes device)
on_device bytes pages records forced room device kept =
    let count = kept.forced.0 in
    let known = kept.forced.1 in
    let front = take (lsn_of forced) (bytes device) in
    let there : count ≤ length records = known.there in
    let end : lsn_of forced ≡ lsn_of count = known.end in
    let long : length front ≡ 64 * (length (take count records) + 1) =
    length-log (record { pages = pages; records = take count records }) front known.stable in
    omega (arith, length-take (lsn_of forced) (bytes device), length-take count records)

-- a log that its device holds
pub written_held : {D : Type 0} (bytes : D → List ℕ) (log : Log) (count room : ℕ) (device : D) → IsLog log
    → count ≡ length log.records → HoldsLog bytes log device
    → IsWritten bytes (written_log log.pages log.records count room device)
written_held bytes log n room device valid counted holds =
    let count = length log.records in
    let all : take count log.records ≡ log.records = take_all count log.records (omega arith) in
    let spells : SpellsLog log (take (lsn_of count) (bytes device)) = record {
      valid = valid;
      format = Second;
      of_format = λ i d lt. tt;
      spelled = holds;
    } in
    record {
      valid = valid;
      forced = (
        count,
        record {
          there = omega arith;
          end = ap lsn_of counted;
          stable = subst (λ (rs : List Record). SpellsLog (record { pages = log.pages; records = rs })
              (take (lsn_of n) (bytes device))) (sym all)
              (subst (λ k. SpellsLog log (take (lsn_of k) (bytes device))) (sym counted) spells);
          second = sym (format_in-take (lsn_of count) (bytes device) (omega arith))
              ∙ format_of_log log (take (lsn_of count) (bytes device)) spells;
        },
      );
    }

-- a log without records, whose device has the header and nothing else
pub written_empty : {D : Type 0} (bytes : D → List ℕ) (pages room : ℕ) (device : D) → IsPageCount pages
    → bytes device ≡ header_bytes pages → IsWritten bytes (written_log pages [] 0 room device)
written_empty bytes pages room device count spelled =
    let valid : IsLog (record { pages = pages; records = [] }) = record {
      pages = count;
      count = omega arith;
      records = λ i d lt. absurd (omega arith);
      grows = λ i d lt. absurd (omega arith);
    } in
    let whole : take 64 (bytes device) ≡ bytes device =
    take_all 64 (bytes device) (omega (arith, ap length spelled, length-header Second pages)) in
    record {
      valid = valid;
      forced = (
        0,
        record {
          there = omega arith;
          end = refl;
          stable = record {
            valid = valid;
            format = Second;
            of_format = λ i d lt. absurd (omega arith);
            spelled = whole ∙ spelled ∙ sym (append-nil (header_bytes pages));
          };
          second = format_in-header Second pages (bytes device) (whole ∙ spelled);
        },
      );
    }

-- a record is appended in memory
pub written_push : {D : Type 0} (bytes : D → List ℕ) (pages : ℕ) (records : List Record) (forced room more : ℕ)
    (device : D) (r : Record) → IsWritten bytes (written_log pages records forced room device)
    → length records < 1048576 → StandsAt (count_behind pages records) (lsn_of (length records)) r
    → GivesMore (count_behind pages records) r
    → IsWritten bytes (written_log pages (records ++ r ∷ []) forced more device)
written_push bytes pages records forced room more device r kept few stands grows =
    let count = kept.forced.0 in
    let known = kept.forced.1 in
    let there : count ≤ length records = known.there in
    record {
      valid = valid_next (record { pages = pages; records = records }) r kept.valid few stands grows;
      forced = (
        count,
        record {
          there = omega (arith, there, length_push records r);
          end = known.end;
          stable = subst (λ (rs : List Record). SpellsLog (record { pages = pages; records = rs }) (take (lsn_of forced) (bytes device)))
              (sym (take-append-le count records (r ∷ []) there)) known.stable;
          second = known.second;
        },
      );
    }

-- a device keeps its first bytes, up to the forced end
pub written_kept : {D : Type 0} (bytes : D → List ℕ) (it : WrittenLog D) (after : D) (room : ℕ) → IsWritten bytes it
    → KeepsFirst it.forced_end (bytes it.device) (bytes after)
    → IsWritten bytes (record it { room = room; device = after })
written_kept bytes it after room kept keeps =
    let count = kept.forced.0 in
    let known = kept.forced.1 in
    let n = it.forced_end in
    let named : format_in (bytes after) ≡ Second =
    sym (format_in-take n (bytes after) (omega (arith, known.end))) ∙ ap format_in keeps.same
    ∙ format_in-take n (bytes it.device) (omega (arith, known.end)) ∙ known.second in
    record {
      valid = kept.valid;
      forced = (
        count,
        record {
          there = known.there;
          end = known.end;
          stable = subst (SpellsLog (first_records count it.log)) (sym keeps.same) known.stable;
          second = named;
        },
      );
    }

module _ {D : Type 0} (bytes : D → List ℕ) (pages : ℕ) (records : List Record) (forced room : ℕ) (device after : D)
    (kept : IsWritten bytes (written_log pages records forced room device)) (r : Record)
    (there : slice_get records forced ≡ Some r) where
  abbrev log : Log
  log = record { pages = pages; records = records }

  within : forced < length records
  within = slice_get_within records forced r there

  -- the record that comes next on the device stands in the log behind what is forced
  pub next_there : HasRecordAt log (lsn_of forced) r
  next_there = record { index = forced; place = refl; there = there }

  stands : StandsAt (page_count_at log forced) (lsn_of forced) r
  stands = subst (StandsAt (page_count_at log forced) (lsn_of forced)) (get_or_from_slice_get records forced r r there)
      (kept.valid.records forced r within)

  pub next_lsn : own_lsn r ≡ lsn_of forced
  next_lsn = stands.lsn

  -- it is stored: then one record more is forced
  pub written_next : bytes after ≡ take (lsn_of forced) (bytes device) ++ record_bytes r
      → IsWritten bytes (written_log pages records (forced + 1) room after)
  written_next stored =
      let count = kept.forced.0 in
      let known = kept.forced.1 in
      let same : count ≡ forced = (let end : lsn_of forced ≡ lsn_of count = known.end in omega arith) in
      let front = take (lsn_of forced) (bytes device) in
      let first : Log = record { pages = pages; records = take forced records } in
      let before : SpellsLog first front =
      subst (λ n. SpellsLog (record { pages = pages; records = take n records }) front) same known.stable in
      let many : length records ≤ 1048576 = kept.valid.count in
      let few : length (take forced records) ≡ forced = omega (arith, length-take forced records, within) in
      let grows : GivesMore (page_count_at log forced) r =
      subst (GivesMore (page_count_at log forced)) (get_or_from_slice_get records forced r r there)
      (kept.valid.grows forced r within) in
      let named : format_in front ≡ Second = format_in-take (lsn_of forced) (bytes device) (omega arith) ∙ known.second in
      let second : IsOfFormat (format_in front) r = subst (λ f. IsOfFormat f r) (sym named) tt in
      let longer : take (forced + 1) records ≡ take forced records ++ r ∷ [] =
      ap (λ n. take n records) (let one : forced + 1 ≡ suc forced = omega arith in one) ∙ take-suc records forced r within
      ∙ ap (λ (x : Record). take forced records ++ x ∷ []) (get_or_from_slice_get records forced r r there) in
      let spelled : SpellsLog (record { pages = pages; records = take (forced + 1) records }) (bytes after) =
      subst (λ (rs : List Record). SpellsLog (record { pages = pages; records = rs }) (bytes after)) (sym longer)
      (subst (SpellsLog (with_next first (r ∷ []))) (sym stored)
      (spells_next first r front (record_bytes r) before (let lt = within in omega (arith, few, many))
      (subst (λ n. StandsAt (page_count first) (lsn_of n) r) (sym few) stands) grows second refl)) in
      let whole : take (lsn_of (forced + 1)) (bytes after) ≡ bytes after =
      take_all (lsn_of (forced + 1)) (bytes after)
      (omega (arith, ap length stored, length-append front (record_bytes r), record_length.each r, length-log first front before, few)) in
      record {
        valid = kept.valid;
        forced = (
          forced + 1,
          record {
            there = (let lt = within in omega arith);
            end = refl;
            stable = subst (SpellsLog (record { pages = pages; records = take (forced + 1) records })) (sym whole) spelled;
            second = ap format_in stored
                ∙ format_in-append front (record_bytes r) (omega (arith, length-log first front before)) ∙ named;
          },
        );
      }

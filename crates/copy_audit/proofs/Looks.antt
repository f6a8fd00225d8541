-- An audit that goes on, row by row.
use Rattle.std.proofs.Common.{◌≡◌, ◌∙◌, ◌+◌, ◌<◌, ℕ, List, [], ◌∷◌, ◌++◌, length, get_or, map, refl, sym, ap, subst, arith}
use Rattle.std.specs.Prelude.{IfSome, Option, Some, None}
use Rattle.std.proofs.lemmas.List.{length-append}
use Rattle.page_core.specs.declared.page.Page.{Page}
use Rattle.log_records.specs.declared.record.Record.{Record}
use Rattle.log_records.specs.Log.{Log, lsn_of, page_count}
use Rattle.log_records.proofs.Public.{last_count-counts_of}
use Rattle.loser_undo.specs.Kept.{Kept}
use Rattle.page_core.specs.PageCounts.{last_count}
use Rattle.copy_vault.specs.declared.chain_reader.ChainReader.{ChainReader}
use Rattle.copy_vault.specs.ChainEach.{IsEachRead, IsReadingEach, ids_of, place_list, points_of}
use Rattle.copy_vault.specs.Chain.{rows}
use Rattle.copy_vault.specs.ChainReading.{AreWithinLog}
use Rattle.copy_vault.specs.Copy.{CopyView}
use Rattle.copy_audit.specs.declared.found.Found.{Found}
use Rattle.copy_audit.specs.declared.unsound.Unsound as fault
use Rattle.copy_audit.specs.Audit.{end_of}
use Rattle.copy_audit.specs.Audited.{IsLooked, IsLookedAt, IsNamed}
use Rattle.copy_audit.specs.Changes.{IsKeptOf}
use Rattle.copy_audit.specs.Rows.{AreFound}
use Rattle.copy_audit.proofs.Founds.{nothing_found, one_found}

-- so many rows were looked at, and this was found in them
pub record HasLooked (inputs lefts : List (Option (List ℕ))) (kept : Kept) (it : ChainReader) (members number : ℕ)
    (found : Option Found) : Type 0 where
  pub given : List (List (List Page))
  pub reading : IsReadingEach kept.counts inputs lefts it given
  pub count : length given ≡ number
  pub found_in : (log : Log) → IsKeptOf log kept → AreFound log.records (points_of it) members given found
  pub point_each : length (points_of it) ≡ members
  pub id_each : length (ids_of it) ≡ members
  pub end : it.end ≡ lsn_of kept.count

-- there is a page of this number
pub next_below : (inputs lefts now : List (Option (List ℕ))) (kept : Kept) (old new : ChainReader) (members number : ℕ)
    (found : Option Found) (row : List (List Page)) → (looked : HasLooked inputs lefts kept old members number found)
    → IsReadingEach kept.counts inputs now new (looked.given ++ row ∷ []) → number < last_count kept.counts
next_below inputs lefts now kept old new members number found row looked going =
    omega (
      arith,
      going.within,
      length-append looked.given (row ∷ []),
      looked.count,
      going.reading.all,
    )

-- nothing was looked at yet
pub looked_none : (inputs lefts : List (Option (List ℕ))) (kept : Kept) (it : ChainReader) (members : ℕ)
    → IsReadingEach kept.counts inputs lefts it [] → length (points_of it) ≡ members → length (ids_of it) ≡ members
    → it.end ≡ lsn_of kept.count → HasLooked inputs lefts kept it members 0 None
looked_none inputs lefts kept it members reading points ids end = record {
  given = [];
  reading = reading;
  count = refl;
  found_in = λ log is k p lt below. absurd (omega arith);
  point_each = points;
  id_each = ids;
  end = end;
}

pub looked_more : (inputs lefts now : List (Option (List ℕ))) (kept : Kept) (old new : ChainReader) (members number : ℕ)
    (found more : Option Found) (row : List (Option Page))
    → (looked : HasLooked inputs lefts kept old members number found)
    → IsReadingEach kept.counts inputs now new (looked.given ++ map place_list row ∷ [])
    → ids_of new ≡ ids_of old → points_of new ≡ points_of old → new.end ≡ old.end
    → length row ≡ members
    → ((log : Log) → IsKeptOf log kept → (given : List (List (List Page))) → length given ≡ number
    → AreFound log.records (points_of new) (length row) given found
    → AreFound log.records (points_of new) (length row) (given ++ map place_list row ∷ []) more)
    → HasLooked inputs now kept new (length row) (number + 1) more
looked_more inputs lefts now kept old new members number found more row looked going ids points end wide step = record {
  given = looked.given ++ map place_list row ∷ [];
  reading = going;
  count = omega (arith, length-append looked.given (map place_list row ∷ []), looked.count);
  found_in = λ log is. step log is looked.given looked.count
      (subst (λ (ps : List ℕ). AreFound log.records ps (length row) looked.given found) (sym points)
      (subst (λ (n : ℕ). AreFound log.records (points_of old) n looked.given found) (sym wide)
      (looked.found_in log is)));
  point_each = ap length points ∙ looked.point_each ∙ sym wide;
  id_each = ap length ids ∙ looked.id_each ∙ sym wide;
  end = end ∙ looked.end;
}

-- the member that was found is one of the chain
pub found_there : (rs : List Record) (points : List ℕ) (members : ℕ) (given : List (List (List Page)))
    (found : Option Found) → AreFound rs points members given found → IfSome found (λ it. it.member < members)
found_there rs points members given None is = tt
found_there rs points members given (Some found) is = is.there

-- ---- all rows were looked at

looked_at : (log : Log) (copies : List CopyView) (ids points : List ℕ) (given : List (List (List Page)))
    (found : Option Found) (named : Option fault.Unsound) → ids ≡ map (λ (c : CopyView). c.id) copies
    → points ≡ map (λ (c : CopyView). c.redo) copies → given ≡ rows copies (page_count log) → AreWithinLog (end_of log) copies
    → AreFound log.records points (length points) given found → IsNamed ids found named → IsLookedAt log copies named
looked_at log copies ids points given None named of_ids of_points of_given within none is =
    subst (IsLookedAt log copies) (sym is) (nothing_found log copies points given of_points of_given within none)
looked_at log copies ids points given (Some found) named of_ids of_points of_given within some is =
    subst (IsLookedAt log copies) (sym is) (record {
      id = get_or ids found.member 0;
      page = found.page;
      named = refl;
      first = one_found log copies ids points given found of_ids of_points of_given some;
    })

pub all_looked : (inputs lefts : List (Option (List ℕ))) (kept : Kept) (old new : ChainReader) (members number : ℕ)
    (found : Option Found) (named : Option fault.Unsound) → (looked : HasLooked inputs lefts kept old members number found)
    → IsEachRead kept.counts new.end inputs (ids_of new) (points_of new) looked.given
    → points_of new ≡ points_of old → new.end ≡ old.end
    → IsNamed (ids_of new) found named → (log : Log) → IsKeptOf log kept → IsLooked log inputs named
all_looked inputs lefts kept old new members number found named looked each points end names log is =
    let n = last_count-counts_of log in
    let read = subst (λ (k : Kept). IsEachRead k.counts new.end inputs (ids_of new) (points_of new) looked.given) is.same
    each in
    let last : new.end ≡ end_of log = end ∙ looked.end ∙ ap (λ (k : Kept). lsn_of k.count) is.same in
    let within = subst (λ (e : ℕ). AreWithinLog e read.copies) last read.within in
    let many : members ≡ length (points_of new) = sym (ap length points ∙ looked.point_each) in
    record {
      copies = read.copies;
      of_archives = record {
        spelled = read.spelled;
        fit = read.fit;
        within = within;
      };
      chain = read.chain;
      looked = looked_at log read.copies (ids_of new) (points_of new) looked.given found named read.id_each
          read.point_each (read.made ∙ ap (rows read.copies) n) within
          (subst (λ (m : ℕ). AreFound log.records (points_of new) m looked.given found) many
          (subst (λ (ps : List ℕ). AreFound log.records ps members looked.given found) (sym points)
          (looked.found_in log is))) names;
    }

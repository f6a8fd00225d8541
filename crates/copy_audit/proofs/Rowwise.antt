-- An audit that lists all unsound pages, row by row.
use Rattle.std.proofs.Common.{◌≡◌, ◌∙◌, ◌+◌, ◌<◌, ℕ, List, [], ◌∷◌, ◌++◌, length, map, false, refl, sym, ap, subst, arith}
use Rattle.std.specs.Prelude.{Option}
use Rattle.std.proofs.lemmas.List.{length-append}
use Rattle.page_core.specs.declared.page.Page.{Page}
use Rattle.log_records.specs.Log.{Log, lsn_of}
use Rattle.log_records.proofs.Public.{last_count-counts_of}
use Rattle.loser_undo.specs.Kept.{Kept}
use Rattle.page_core.specs.PageCounts.{last_count}
use Rattle.copy_vault.specs.declared.chain_reader.ChainReader.{ChainReader}
use Rattle.copy_vault.specs.ChainEach.{IsEachRead, IsReadingEach, ids_of, place_list, points_of}
use Rattle.copy_vault.specs.Chain.{rows}
use Rattle.copy_vault.specs.ChainReading.{AreWithinLog}
use Rattle.copy_audit.specs.declared.all_pages.UnsoundPages.{UnsoundPages}
use Rattle.copy_audit.specs.Audit.{end_of}
use Rattle.copy_audit.specs.Changes.{IsKeptOf}
use Rattle.copy_audit.specs.Told.{HasTold, IsTold}
use Rattle.copy_audit.proofs.Tells.{all_told}

-- so many rows were looked at, and these pages were told
pub record HasListed (inputs lefts : List (Option (List ℕ))) (kept : Kept) (it : ChainReader) (members number : ℕ)
    (told : UnsoundPages) : Type 0 where
  pub given : List (List (List Page))
  pub reading : IsReadingEach kept.counts inputs lefts it given
  pub count : length given ≡ number
  pub rows_told : (log : Log) → IsKeptOf log kept
      → HasTold log.records (points_of it) (ids_of it) members given number told
  pub point_each : length (points_of it) ≡ members
  pub id_each : length (ids_of it) ≡ members
  pub end : it.end ≡ lsn_of kept.count

-- there is a page of this number
pub listed_below : (inputs lefts now : List (Option (List ℕ))) (kept : Kept) (old new : ChainReader) (members number : ℕ)
    (told : UnsoundPages) (row : List (List Page)) → (listed : HasListed inputs lefts kept old members number told)
    → IsReadingEach kept.counts inputs now new (listed.given ++ row ∷ []) → number < last_count kept.counts
listed_below inputs lefts now kept old new members number told row listed going =
    omega (
      arith,
      going.within,
      length-append listed.given (row ∷ []),
      listed.count,
      going.reading.all,
    )

-- nothing was looked at yet
pub listed_none : (inputs lefts : List (Option (List ℕ))) (kept : Kept) (it : ChainReader) (members : ℕ)
    (told : UnsoundPages) → IsReadingEach kept.counts inputs lefts it [] → length (points_of it) ≡ members
    → length (ids_of it) ≡ members → it.end ≡ lsn_of kept.count → told.pages.items ≡ [] → told.has_more ≡ false
    → HasListed inputs lefts kept it members 0 told
listed_none inputs lefts kept it members told reading points ids end none no_more = record {
  given = [];
  reading = reading;
  count = refl;
  rows_told = λ log is. record {
    all = [];
    listed = refl;
    first = record { first = none; more = no_more };
  };
  point_each = points;
  id_each = ids;
  end = end;
}

pub listed_more : (inputs lefts now : List (Option (List ℕ))) (kept : Kept) (old new : ChainReader) (members number : ℕ)
    (told more : UnsoundPages) (row : List (Option Page))
    → (listed : HasListed inputs lefts kept old members number told)
    → IsReadingEach kept.counts inputs now new (listed.given ++ map place_list row ∷ [])
    → ids_of new ≡ ids_of old → points_of new ≡ points_of old → new.end ≡ old.end
    → length row ≡ members
    → ((log : Log) → IsKeptOf log kept → (given : List (List (List Page))) → length given ≡ number
    → HasTold log.records (points_of new) (ids_of new) (length row) given number told
    → HasTold log.records (points_of new) (ids_of new) (length row) (given ++ map place_list row ∷ []) (number + 1) more)
    → HasListed inputs now kept new (length row) (number + 1) more
listed_more inputs lefts now kept old new members number told more row listed going ids points end wide step =
    let given = listed.given in
    record {
      given = given ++ map place_list row ∷ [];
      reading = going;
      count = omega (arith, length-append given (map place_list row ∷ []), listed.count);
      rows_told = λ log is. step log is given listed.count
          (subst (λ (ps : List ℕ). HasTold log.records ps (ids_of new) (length row) given number told) (sym points)
          (subst (λ (is : List ℕ). HasTold log.records (points_of old) is (length row) given number told) (sym ids)
          (subst (λ (n : ℕ). HasTold log.records (points_of old) (ids_of old) n given number told) (sym wide)
          (listed.rows_told log is))));
      point_each = ap length points ∙ listed.point_each ∙ sym wide;
      id_each = ap length ids ∙ listed.id_each ∙ sym wide;
      end = end ∙ listed.end;
    }

-- all rows were looked at
pub all_listed : (inputs lefts : List (Option (List ℕ))) (kept : Kept) (old new : ChainReader) (members number : ℕ)
    (told : UnsoundPages) → (listed : HasListed inputs lefts kept old members number told)
    → IsEachRead kept.counts new.end inputs (ids_of new) (points_of new) listed.given
    → ids_of new ≡ ids_of old → points_of new ≡ points_of old → new.end ≡ old.end
    → (log : Log) → IsKeptOf log kept → IsTold log inputs told
all_listed inputs lefts kept old new members number told listed each ids points end log is =
    let n = last_count-counts_of log in
    let given = listed.given in
    let read = subst (λ (k : Kept). IsEachRead k.counts new.end inputs (ids_of new) (points_of new) given) is.same each in
    let last : new.end ≡ end_of log = end ∙ listed.end ∙ ap (λ (k : Kept). lsn_of k.count) is.same in
    let within = subst (λ (e : ℕ). AreWithinLog e read.copies) last read.within in
    let many : members ≡ length (points_of new) = sym (ap length points ∙ listed.point_each) in
    record {
      copies = read.copies;
      of_archives = record {
        spelled = read.spelled;
        fit = read.fit;
        within = within;
      };
      chain = read.chain;
      all_told = all_told log read.copies (ids_of new) (points_of new) given told read.id_each read.point_each
          (read.made ∙ ap (rows read.copies) n)
          (subst (λ (m : ℕ). HasTold log.records (points_of new) (ids_of new) m given (length given) told) many
          (subst (λ (k : ℕ). HasTold log.records (points_of new) (ids_of new) members given k told) (sym listed.count)
          (subst (λ (ps : List ℕ). HasTold log.records ps (ids_of new) members given number told) (sym points)
          (subst (λ (is : List ℕ). HasTold log.records (points_of old) is members given number told) (sym ids)
          (listed.rows_told log is)))));
    }

-- Fronts of bytes, and the faults behind them.
use Rattle.std.proofs.Common.{◌≡◌, ℕ, ◌+◌, ◌%◌, ◌<◌, ◌≤◌, List, ◌++◌, length, get_or, take, refl}
use Rattle.std.proofs.Common.{sym, ap, subst, ◌∙◌, arith, inl, inr}
use Rattle.std.specs.Prelude.{slice_range, Option, Some, None}
use Rattle.std.proofs.lemmas.Bool.{cases_lt}
use Rattle.std.proofs.lemmas.List.{length-take, take-append-le, take-take, take_all}
use Rattle.log_records.specs.declared.limits.TheConstants.{MAX_LOG_BYTES}
use Rattle.log_records.specs.declared.record.Record.{Record}
use Rattle.log_records.specs.declared.record.Record.TheVariants.{Begin}
use Rattle.log_records.specs.Record.{record_bytes}
use Rattle.log_records.specs.Log.{IsOfFormat, Log, SpellsLog, StandsAt, format_in, lsn_of, page_count, page_count_at}
use Rattle.log_records.specs.PageCount.{GivesMore}
use Rattle.log_records.proofs.Public.{same_record}
use Rattle.log_records.proofs.Public.{format_in-take, format_of_log, header_of_log, length-log}
use Rattle.log_records.proofs.Public.{record_of_log, same_log, spells_cut}
use Rattle.log_rules.specs.Linked.{IsLinked, MayFollow}
use Rattle.log_store.specs.declared.fault.LogReadFault.{LogReadFault}
use Rattle.log_store.specs.Fault.{HasFault, IsFirstFault, IsHeader, MayComeBehind}
use Rattle.log_store.specs.Fault.{Refuses, offset_of}
use Rattle.log_store.proofs.Public.{break_at, range_of_front}
use Rattle.log_prefix.specs.declared.cut.Cut.{Cut}
use Rattle.log_prefix.specs.declared.cut.CutReason.{CutReason}
use Rattle.log_prefix.specs.declared.cut.CutReason.TheVariants.{Torn, BadRecord, BadChain, TooLong}
use Rattle.log_prefix.specs.Front.{HasNoFront, HasRoom, IsCut, IsFront, IsFrontOf, IsLeftOut, IsLongestFront}
use Rattle.log_prefix.specs.Front.{StandsBehind, end_of, fault_of}

-- ---- one front

-- it reaches to its end
pub front_fits : (bytes : List ℕ) (log : Log) → IsFront bytes log → end_of log ≤ length bytes
front_fits bytes log f =
    let end = end_of log in
    omega (arith, length-log log (take end bytes) f.spells, length-take end bytes)

-- the bytes name its format
front_format : (bytes : List ℕ) (log : Log) → (f : IsFront bytes log) → format_in bytes ≡ f.spells.format
front_format bytes log f =
    let end = end_of log in
    sym (format_in-take end bytes (omega arith)) ∙ format_of_log log (take end bytes) f.spells

front_header : (bytes : List ℕ) (log : Log) → IsFront bytes log → IsHeader (take 64 bytes)
front_header bytes log f =
    let end = end_of log in
    let past : 64 ≤ end = omega arith in (
      f.spells.format,
      log.pages,
      f.spells.valid.pages,
      sym (take-take 64 end bytes past) ∙ header_of_log log (take end bytes) f.spells,
    )

-- bytes that do not begin with a header have no front
pub none_without_header : (bytes : List ℕ) → (¬ IsHeader (take 64 bytes)) → HasNoFront bytes
none_without_header bytes none log f = none (front_header bytes log f)

-- a whole log is a front
pub whole_front : (bytes : List ℕ) (log : Log) → SpellsLog log bytes → IsLinked log.records → IsFront bytes log
whole_front bytes log spells linked = record {
  spells = subst (SpellsLog log)
      (sym (take_all (end_of log) bytes (omega (arith, length-log log bytes spells)))) spells;
  linked = linked;
}

-- its records stand in the bytes
stands_in_front : (bytes : List ℕ) (log : Log) → IsFront bytes log → (i : ℕ) (d : Record) → i < length log.records
    → slice_range bytes (lsn_of i) (lsn_of i + 64) ≡ record_bytes (get_or log.records i d)
stands_in_front bytes log f i d lt =
    let end = end_of log in
    sym (range_of_front bytes end (lsn_of i) (lsn_of i + 64) (omega arith) (omega (arith, lt)) (front_fits bytes log f))
    ∙ record_of_log log (take end bytes) f.spells i d lt

-- ---- two fronts

-- the shorter one is the first records of the other
pub first_records : (bytes : List ℕ) (log other : Log) → IsFront bytes log → IsFront bytes other
    → length log.records ≤ length other.records
    → log ≡ record other { records = take (length log.records) other.records }
first_records bytes log other f g le =
    let cut : Log = record other { records = take (length log.records) other.records } in
    let short : end_of log ≤ end_of other = omega (arith, le) in
    same_log log cut (take (end_of log) bytes) f.spells
    (subst (SpellsLog cut) (take-take (end_of log) (end_of other) bytes short)
    (spells_cut other (take (end_of other) bytes) (length log.records) le g.spells))

-- behind a front that is not the longest stands a record that may come
record NextRecord (bytes : List ℕ) (log : Log) : Type 0 where
  room : HasRoom log
  there : Record
  fits : end_of log + 64 ≤ length bytes
  stands : StandsBehind bytes log there
  may : MayComeBehind log there

next_record : (bytes : List ℕ) (log other : Log) → IsFront bytes log → IsFront bytes other
    → length log.records < length other.records → NextRecord bytes log
next_record bytes log other f g lt =
    let n = length log.records in
    let r = get_or other.records n (Begin 0 0) in
    let le : n ≤ length other.records = omega (arith, lt) in
    let is = first_records bytes log other f g le in
    let count : page_count log ≡ page_count_at other n = ap page_count is in
    let reach = front_fits bytes other g in
    record {
      room = omega (arith, lt, g.spells.valid.count);
      there = r;
      fits = omega (arith, lt, reach);
      stands = record {
        stands = subst (λ k. StandsAt k (lsn_of n) r) (sym count) (g.spells.valid.records n (Begin 0 0) lt);
        of_format = subst (λ f. IsOfFormat f r) (sym (front_format bytes other g)) (g.spells.of_format n (Begin 0 0) lt);
        spelled = stands_in_front bytes other g n (Begin 0 0) lt;
      };
      may = (
        subst (λ (l : Log). MayFollow l.records r) (sym is) (g.linked n (Begin 0 0) lt),
        subst (λ k. GivesMore k r) (sym count) (g.spells.valid.grows n (Begin 0 0) lt),
      );
    }

-- ---- a cut ends the longest front

not_left_out : (bytes : List ℕ) (log : Log) (why : CutReason) → NextRecord bytes log → IsLeftOut bytes log why → ⊥
not_left_out bytes log Torn next h = let fits = next.fits in omega (arith, fits, h.2)
not_left_out bytes log BadRecord next h = h.2 next.there next.stands
not_left_out bytes log BadChain next h =
    let r = h.1.0 in
    let same : next.there ≡ r =
    same_record next.there r next.stands.stands.valid h.1.1.stands.valid (sym next.stands.spelled ∙ h.1.1.spelled) in
    h.1.2 (subst (MayComeBehind log) same next.may)
not_left_out bytes log TooLong next h = let room = next.room in omega (arith, room, h.0)

none_next : (bytes : List ℕ) (log : Log) (cut : Option Cut) → NextRecord bytes log → IsCut bytes log cut → ⊥
none_next bytes log None next h = let fits = next.fits in omega (arith, fits, length-log log bytes h)
none_next bytes log (Some cut) next h = not_left_out bytes log cut.why next h.1

pub longest_before : (bytes : List ℕ) (log : Log) (cut : Option Cut) → IsFront bytes log → IsCut bytes log cut
    → IsLongestFront bytes log
longest_before bytes log cut f h = record {
  front = f;
  longest = λ other g. elim (cases_lt (length log.records) (length other.records)) [
    | inl lt ↦ absurd (none_next bytes log cut (next_record bytes log other f g lt) h)
    | inr le ↦ le
  ];
}

pub found : (bytes : List ℕ) (log : Log) (cut : Option Cut) → IsFront bytes log → IsCut bytes log cut
    → IsFrontOf bytes (record { log = log; cut = cut })
found bytes log cut f h = record { longest = longest_before bytes log cut f h; cut = h }

-- bytes that are the spelling of a log are their own front
pub found_whole : (bytes : List ℕ) (log : Log) → SpellsLog log bytes → IsLinked log.records
    → IsFrontOf bytes (record { log = log; cut = None })
found_whole bytes log spells linked = found bytes log None (whole_front bytes log spells linked) spells

-- ---- from the first fault of the bytes

-- where a fault behind a front lies
pub record IsCutPlace (bytes : List ℕ) (at : ℕ) : Type 0 where
  pub aligned : at % 64 ≡ 0
  pub past_header : 64 ≤ at
  pub within : at ≤ length bytes
  pub most : at ≤ MAX_LOG_BYTES

pub cut_place : (bytes : List ℕ) (at : ℕ) (why : CutReason) → at ≡ offset_of (fault_of at why)
    → HasFault bytes (fault_of at why) → IsCutPlace bytes at
cut_place bytes at Torn e h =
    let place = h.0 in
    let short = place.in_longest in
    record { aligned = place.aligned; past_header = place.past_header; within = omega (arith, h.1); most = omega arith }
cut_place bytes at BadRecord e h =
    let place = h.place in
    let short = place.in_longest in
    let fits = h.whole in
    record { aligned = place.aligned; past_header = place.past_header; within = omega arith; most = omega arith }
cut_place bytes at BadChain e h =
    let place = h.place in
    let short = place.in_longest in
    let fits = (break_at bytes at h).0 in
    record { aligned = place.aligned; past_header = place.past_header; within = omega arith; most = omega arith }
cut_place bytes at TooLong e h = record {
  aligned = rw e refl;
  past_header = omega (arith, e);
  within = omega (arith, e, h);
  most = omega (arith, e);
}

left_out : (bytes : List ℕ) (at : ℕ) (why : CutReason) (log : Log) → at ≡ offset_of (fault_of at why)
    → HasFault bytes (fault_of at why) → SpellsLog log (take at bytes) → at ≡ end_of log → IsLeftOut bytes log why
left_out bytes at Torn log e h spells is =
    let short = h.0.in_longest in
    (omega (arith, short, is), omega (arith, is, h.1), omega (arith, is, h.2))
left_out bytes at BadRecord log e h spells is =
    let short = h.place.in_longest in
    let fits = h.whole in
    let same : h.before ≡ log = same_log h.before log (take at bytes) h.spells spells in (
      omega (arith, short, is),
      omega (arith, is, fits),
      λ r s. h.lacks (
        r,
        subst (λ k. StandsAt k at r) (sym (ap page_count same))
            (subst (λ k. StandsAt (page_count log) k r) (sym is) s.stands),
        s.of_format,
        ap (λ k. slice_range bytes k (k + 64)) is ∙ s.spelled,
      ),
    )
left_out bytes at BadChain log e h spells is =
    let short = h.place.in_longest in
    let same : h.before ≡ log = same_log h.before log (take at bytes) h.spells spells in (
      omega (arith, short, is),
      (
        h.there,
        record {
          stands = subst (λ k. StandsAt (page_count log) k h.there) is
              (subst (λ (l : Log). StandsAt (page_count l) at h.there) same h.stands);
          of_format = h.of_format;
          spelled = ap (λ k. slice_range bytes k (k + 64)) (sym is) ∙ h.spelled;
        },
        λ may. h.breaks (subst (λ (l : Log). MayComeBehind l h.there) (sym same) may),
      ),
    )
left_out bytes at TooLong log e h spells is = (omega (arith, e, is), omega (arith, e, is, h))

pub found_before : (bytes : List ℕ) (at : ℕ) (why : CutReason) (log : Log) → at ≡ offset_of (fault_of at why)
    → HasFault bytes (fault_of at why) → SpellsLog log (take at bytes) → IsLinked log.records
    → IsFrontOf bytes (record { log = log; cut = Some (record { at = at; why = why }) })
found_before bytes at why log e h spells linked =
    let place = cut_place bytes at why e h in
    let within = place.within in
    let is : at ≡ end_of log = omega (arith, within, length-log log (take at bytes) spells, length-take at bytes) in
    found bytes log (Some (record { at = at; why = why }))
    (record { spells = subst (λ n. SpellsLog log (take n bytes)) is spells; linked = linked })
    (is, left_out bytes at why log e h spells is)

pub first_of_refused : (bytes : List ℕ) (fault : LogReadFault) (at : ℕ) (why : CutReason) → fault ≡ fault_of at why
    → Refuses bytes fault → IsFirstFault bytes (fault_of at why)
first_of_refused bytes fault at Torn e h = subst (Refuses bytes) e h
first_of_refused bytes fault at BadRecord e h = subst (Refuses bytes) e h
first_of_refused bytes fault at BadChain e h = subst (Refuses bytes) e h
first_of_refused bytes fault at TooLong e h = subst (Refuses bytes) e h

-- ---- bytes that go on

pub more_front : (given rest : List ℕ) (log : Log) → IsFront given log → IsFront (given ++ rest) log
more_front given rest log f = record {
  spells = subst (SpellsLog log) (sym (take-append-le (end_of log) given rest (front_fits given log f))) f.spells;
  linked = f.linked;
}

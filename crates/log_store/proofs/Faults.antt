-- Which fault is the first.
use Rattle.std.proofs.Common.{◌≡◌, ℕ, ◌+◌, ◌-◌, ◌/◌, ◌<◌, ◌≤◌, List, ◌++◌, length, get_or, take, drop}
use Rattle.std.proofs.Common.{sym, ap, subst, ◌∙◌, arith, inl, inr}
use Rattle.std.specs.Prelude.{slice_range}
use Rattle.std.proofs.lemmas.Bool.{cases_lt}
use Rattle.std.proofs.lemmas.List.{length-drop, length-take, take-append-drop, take-take, take_all, take_at}
use Rattle.log_records.proofs.Public.{record_length, same_record}
use Rattle.log_store.specs.declared.fault.LogReadFault.{LogReadFault}
use Rattle.log_store.specs.declared.fault.LogReadFault.TheVariants.{OutOfMemory, BadHeader, BadRecord, BadChain, Torn}
use Rattle.log_store.specs.declared.fault.LogReadFault.TheVariants.{ReadFault, TooLong}
use Rattle.log_records.specs.declared.limits.TheConstants.{MAX_LOG_BYTES}
use Rattle.log_records.specs.declared.record.Record.{Record}
use Rattle.log_records.specs.declared.record.Record.TheVariants.{Begin}
use Rattle.log_records.specs.Record.{record_bytes}
use Rattle.log_records.specs.Log.{IsOfFormat, Log, StandsAt, SpellsLog, format_in, lsn_of, page_count, page_count_at}
use Rattle.log_records.specs.PageCount.{GivesMore}
use Rattle.log_rules.specs.Linked.{IsLinked, MayFollow}
use Rattle.log_store.specs.Fault.{BreaksChain, IsPlace, IsHeader, HasRecord, HasFault, IsFirstFault, LacksRecord, offset_of}
use Rattle.log_records.proofs.Public.{format_in-take, format_of_log, range_in, length-log, header_of_log, record_of_log, same_log, spells_cut}

-- a part of a beginning is a part of the bytes
pub range_of_front : (bytes : List ℕ) (n a b : ℕ) → a ≤ b → b ≤ n → n ≤ length bytes
    → slice_range (take n bytes) a b ≡ slice_range bytes a b
range_of_front bytes n a b le within long =
    let front = take n bytes in
    sym (range_in front (drop n bytes) a b le (omega (arith, length-take n bytes)))
    ∙ ap (λ (bs : List ℕ). slice_range bs a b) (take-append-drop n bytes)

-- a break of the chain lies within the bytes, behind a log of whole records
pub break_at : (bytes : List ℕ) (at : ℕ) (b : BreaksChain bytes at)
    → (at + 64 ≤ length bytes) × (at ≡ lsn_of (length b.before.records))
break_at bytes at b =
    let place = b.place.past_header in
    let wide : at + 64 - at ≡ 64 = omega arith in
    let long : length (take 64 (drop at bytes)) ≡ 64 =
    ap length (ap (λ n. take n (drop at bytes)) (sym wide) ∙ b.spelled) ∙ record_length.each b.there in
    let fits : at + 64 ≤ length bytes = omega (arith, long, length-take 64 (drop at bytes), length-drop at bytes) in
    (fits, omega (arith, fits, length-take at bytes, length-log b.before (take at bytes) b.spells))

-- ---- bytes that begin with a log

pub record StartsWith (log : Log) (bytes : List ℕ) : Type 0 where
  pub spells : SpellsLog log (take (lsn_of (length log.records)) bytes)
  pub linked : IsLinked log.records

-- they name its format
starts_format : (log : Log) (bytes : List ℕ) → (starts : StartsWith log bytes) → format_in bytes ≡ starts.spells.format
starts_format log bytes starts =
    let end = lsn_of (length log.records) in
    sym (format_in-take end bytes (omega arith)) ∙ format_of_log log (take end bytes) starts.spells

-- they are as long as its bytes
reaches : (log : Log) (bytes : List ℕ) → StartsWith log bytes → lsn_of (length log.records) ≤ length bytes
reaches log bytes starts =
    let end = lsn_of (length log.records) in
    omega (arith, length-log log (take end bytes) starts.spells, length-take end bytes)

-- its records stand in the bytes
stands_in_bytes : (log : Log) (bytes : List ℕ) → StartsWith log bytes → (i : ℕ) (d : Record) → i < length log.records
    → slice_range bytes (lsn_of i) (lsn_of i + 64) ≡ record_bytes (get_or log.records i d)
stands_in_bytes log bytes starts i d lt =
    let end = lsn_of (length log.records) in
    sym (range_of_front bytes end (lsn_of i) (lsn_of i + 64) (omega arith) (omega (arith, lt)) (reaches log bytes starts))
    ∙ record_of_log log (take end bytes) starts.spells i d lt

-- a log that the bytes spell up to one of its places is its first records
first_of : (log before : Log) (bytes : List ℕ) (at i : ℕ) → StartsWith log bytes → at ≡ lsn_of i
    → i ≤ length log.records → SpellsLog before (take at bytes)
    → before ≡ record log { records = take i log.records }
first_of log before bytes at i starts place le spells =
    let cut : Log = record log { records = take i log.records } in
    let short : lsn_of i ≤ lsn_of (length log.records) = omega (arith, le) in
    same_log before cut (take at bytes) spells
    (subst (λ n. SpellsLog cut (take n bytes)) (sym place)
    (subst (SpellsLog cut) (take-take (lsn_of i) (lsn_of (length log.records)) bytes short)
    (spells_cut log (take (lsn_of (length log.records)) bytes) i le starts.spells)))

-- ---- which fault is the first

-- no place of such a log lacks a record
none_lacks : (log : Log) (bytes : List ℕ) → StartsWith log bytes → (at : ℕ) → LacksRecord bytes at
    → lsn_of (length log.records) ≤ at
none_lacks log bytes starts at l =
    elim (cases_lt at (lsn_of (length log.records))) [
      | inr le ↦ le
      | inl lt ↦
          let aligned = l.place.aligned in
          let past = l.place.past_header in
          let i : ℕ = at / 64 - 1 in
          let place : at ≡ lsn_of i = omega arith in
          let below : i < length log.records = omega arith in
          let within : i ≤ length log.records = omega arith in
          let r = get_or log.records i (Begin 0 0) in
          let cut = first_of log l.before bytes at i starts place within l.spells in
          let count : page_count l.before ≡ page_count_at log i = ap page_count cut in
          let stands : StandsAt (page_count_at log i) at r =
          subst (λ n. StandsAt (page_count_at log i) n r) (sym place)
          (starts.spells.valid.records i (Begin 0 0) below) in
          let format : IsOfFormat (format_in bytes) r =
          subst (λ f. IsOfFormat f r) (sym (starts_format log bytes starts)) (starts.spells.of_format i (Begin 0 0) below) in
          let spelled : slice_range bytes at (at + 64) ≡ record_bytes r =
          ap (λ n. slice_range bytes n (n + 64)) place ∙ stands_in_bytes log bytes starts i (Begin 0 0) below in
          absurd (l.lacks (r, subst (λ n. StandsAt n at r) (sym count) stands, format, spelled))
    ]

-- no record of such a log breaks the chain
unbroken : (log : Log) (bytes : List ℕ) → StartsWith log bytes → (at : ℕ) → BreaksChain bytes at
    → lsn_of (length log.records) ≤ at
unbroken log bytes starts at b =
    let place = (break_at bytes at b).1 in
    let m = length b.before.records in
    elim (cases_lt m (length log.records)) [
      | inr past ↦ omega (arith, place, past)
      | inl below ↦
          let r = get_or log.records m b.there in
          let cut = first_of log b.before bytes at m starts place (omega (arith, below)) b.spells in
          let there_is : b.there ≡ r =
          same_record b.there r b.stands.valid (starts.spells.valid.records m b.there below).valid
          (sym b.spelled ∙ ap (λ (n : ℕ). slice_range bytes n (n + 64)) place
          ∙ stands_in_bytes log bytes starts m b.there below) in
          let follows : MayFollow b.before.records b.there =
          subst (λ (l : Log). MayFollow l.records b.there) (sym cut)
          (subst (MayFollow (take m log.records)) (sym there_is) (starts.linked m b.there below)) in
          let more : GivesMore (page_count b.before) b.there =
          subst (λ (l : Log). GivesMore (page_count l) b.there) (sym cut)
          (subst (GivesMore (page_count_at log m)) (sym there_is) (starts.spells.valid.grows m b.there below)) in
          absurd (b.breaks (follows, more))
    ]

has_header : (log : Log) (bytes : List ℕ) → StartsWith log bytes → IsHeader (take 64 bytes)
has_header log bytes starts =
    let end = lsn_of (length log.records) in
    let past : 64 ≤ end = omega arith in (
      starts.spells.format,
      log.pages,
      starts.spells.valid.pages,
      sym (take-take 64 end bytes past) ∙ header_of_log log (take end bytes) starts.spells,
    )

pub first_header : (bytes : List ℕ) → (¬ IsHeader (take 64 bytes)) → IsFirstFault bytes BadHeader
first_header bytes none = record { there = none; first = λ other h. omega arith }

-- nothing is at fault before this offset, of what the bytes may be at fault of
record IsSoundBefore (bytes : List ℕ) (end : ℕ) : Type 0 where
  header : IsHeader (take 64 bytes)
  records : (at : ℕ) → LacksRecord bytes at → end ≤ at
  whole : (at : ℕ) → IsPlace at → at < length bytes → length bytes < at + 64 → end ≤ at
  chain : (at : ℕ) → BreaksChain bytes at → end ≤ at
  short : MAX_LOG_BYTES < length bytes → end ≤ MAX_LOG_BYTES

comes_after : (bytes : List ℕ) (end : ℕ) → IsSoundBefore bytes end → (other : LogReadFault) → HasFault bytes other
    → end ≤ offset_of other
comes_after bytes end sound OutOfMemory h = absurd h
comes_after bytes end sound ReadFault h = absurd h
comes_after bytes end sound BadHeader h = absurd (h sound.header)
comes_after bytes end sound (BadRecord at) h = sound.records at h
comes_after bytes end sound (BadChain at) h = sound.chain at h
comes_after bytes end sound (Torn at) h = sound.whole at h.0 h.1 h.2
comes_after bytes end sound TooLong h = sound.short h

pub first_record : (log : Log) (bytes : List ℕ) → StartsWith log bytes → length log.records < 1048576
    → lsn_of (length log.records) + 64 ≤ length bytes
    → ¬ HasRecord bytes (lsn_of (length log.records)) (page_count log)
    → IsFirstFault bytes (BadRecord (lsn_of (length log.records)))
first_record log bytes starts few long none = record {
  there = record {
    place = record { aligned = omega arith; past_header = omega arith; in_longest = omega arith };
    whole = long;
    before = log;
    spells = starts.spells;
    lacks = none;
  };
  first = comes_after bytes (lsn_of (length log.records)) (record {
    header = has_header log bytes starts;
    records = none_lacks log bytes starts;
    whole = λ at place lt torn. let h1 = place.aligned in omega arith;
    chain = unbroken log bytes starts;
    short = λ lt. omega arith;
  });
}

-- a record that may not follow those before it
pub first_chain : (log : Log) (bytes : List ℕ) → StartsWith log bytes → length log.records < 1048576
    → BreaksChain bytes (lsn_of (length log.records)) → IsFirstFault bytes (BadChain (lsn_of (length log.records)))
first_chain log bytes starts few b =
    let long = (break_at bytes (lsn_of (length log.records)) b).0 in
    record {
      there = b;
      first = comes_after bytes (lsn_of (length log.records)) (record {
        header = has_header log bytes starts;
        records = none_lacks log bytes starts;
        whole = λ at place lt torn. let h1 = place.aligned in omega arith;
        chain = unbroken log bytes starts;
        short = λ lt. omega arith;
      });
    }

-- every record that a log may have is there, and more
pub first_too_long : (log : Log) (bytes : List ℕ) → StartsWith log bytes → length log.records ≡ 1048576
    → MAX_LOG_BYTES < length bytes → IsFirstFault bytes TooLong
first_too_long log bytes starts full long = record {
  there = long;
  first = comes_after bytes MAX_LOG_BYTES (record {
    header = has_header log bytes starts;
    records = λ at l. let past = none_lacks log bytes starts at l in omega arith;
    whole = λ at place lt torn. let h1 = place.aligned in let h2 = place.in_longest in omega arith;
    chain = λ at b. let past = unbroken log bytes starts at b in omega arith;
    short = λ lt. omega arith;
  });
}

-- less than a record stands behind it
pub first_torn : (log : Log) (bytes : List ℕ) → StartsWith log bytes → length log.records < 1048576
    → lsn_of (length log.records) < length bytes → length bytes < lsn_of (length log.records) + 64
    → IsFirstFault bytes (Torn (lsn_of (length log.records)))
first_torn log bytes starts few some torn = record {
  there = (record { aligned = omega arith; past_header = omega arith; in_longest = omega arith }, some, torn);
  first = comes_after bytes (lsn_of (length log.records)) (record {
    header = has_header log bytes starts;
    records = none_lacks log bytes starts;
    whole = λ other other_place lt short. let h1 = other_place.aligned in omega arith;
    chain = unbroken log bytes starts;
    short = λ lt. omega arith;
  });
}

-- ---- what is spelled as a log has no fault

pub starts_with : (log : Log) (given more : List ℕ) → SpellsLog log given → IsLinked log.records
    → StartsWith log (given ++ more)
starts_with log given more spells linked = record {
  spells = subst (SpellsLog log)
      (sym (take_at given more (lsn_of (length log.records)) (omega (arith, length-log log given spells)))) spells;
  linked = linked;
}

starts_alone : (log : Log) (bytes : List ℕ) → SpellsLog log bytes → IsLinked log.records → StartsWith log bytes
starts_alone log bytes spells linked = record {
  spells = subst (SpellsLog log)
      (sym (take_all (lsn_of (length log.records)) bytes (omega (arith, length-log log bytes spells)))) spells;
  linked = linked;
}

pub none_in_log : (log : Log) (bytes : List ℕ) → SpellsLog log bytes → IsLinked log.records → (fault : LogReadFault)
    → HasFault bytes fault → ⊥
none_in_log log bytes spells linked OutOfMemory h = h
none_in_log log bytes spells linked ReadFault h = h
none_in_log log bytes spells linked (BadChain at) h =
    let past = unbroken log bytes (starts_alone log bytes spells linked) at h in
    let fits = (break_at bytes at h).0 in
    omega (arith, length-log log bytes spells)
none_in_log log bytes spells linked BadHeader h = h (spells.format, log.pages, spells.valid.pages, header_of_log log bytes spells)
none_in_log log bytes spells linked (BadRecord at) h =
    let past = none_lacks log bytes (starts_alone log bytes spells linked) at h in
    let fits = h.whole in
    omega (arith, length-log log bytes spells)
none_in_log log bytes spells linked (Torn at) h =
    let h1 = h.0.aligned in let h2 = h.1 in let h3 = h.2 in omega (arith, length-log log bytes spells)
none_in_log log bytes spells linked TooLong h = omega (arith, length-log log bytes spells, spells.valid.count)

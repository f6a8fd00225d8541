-- A log that is read record by record.
use Rattle.std.proofs.Common.{◌≡◌, ℕ, ◌+◌, ◌-◌, ◌*◌, ◌^◌, ◌<◌, ◌≤◌, List, [], ◌∷◌, ◌++◌, length, take, drop, refl}
use Rattle.std.proofs.Common.{sym, ap, subst, ◌∙◌, arith, inl, inr, get_or, below_more}
use Rattle.std.specs.Prelude.{slice_range}
use Rattle.std.specs.Prelude.{Option, None, Some, IfSome}
use Rattle.std.specs.Io.KnownBytes.{Consumes}
pub use Rattle.page_core.proofs.Public.{if_err, on_ok, of_rest, of_all}
use Rattle.std.proofs.lemmas.Bool.{cases_lt}
use Rattle.std.proofs.lemmas.List.{append_assoc, append-nil, get_or_append_left, get_or_push, nil_from_length, take_all, take_at, drop_at}
use Rattle.std.proofs.lemmas.List.{length-append, length_push, flat_map_more, take-append-drop}
use Rattle.std.proofs.KnownBytes.{Consumes-trans}
use Rattle.log_store.specs.declared.fault.LogReadFault.{LogReadFault}
use Rattle.log_store.specs.declared.fault.LogReadFault.TheVariants.{OutOfMemory, BadHeader, BadRecord, BadChain, Torn}
use Rattle.log_store.specs.declared.fault.LogReadFault.TheVariants.{ReadFault, TooLong}
use Rattle.log_records.specs.declared.record.Record.{Record}
use Rattle.log_records.specs.Record.{record_bytes}
use Rattle.log_records.specs.Log.{IsLog, IsPageCount, Log, StandsAt, SpellsLog, bytes_in, format_in, header_in, lsn_of, page_count}
use Rattle.log_records.specs.Log.{IsOfFormat}
use Rattle.log_records.specs.PageCount.{GivesMore}
use Rattle.log_store.specs.Fault.{MayComeBehind}
use Rattle.page_core.specs.declared.format.Format.{Format}
use Rattle.log_records.specs.Log.{with_next}
use Rattle.log_rules.specs.History.{IsMadeOf, Made}
use Rattle.log_rules.specs.Linked.{IsLinked, MayFollow}
use Rattle.log_store.specs.Fault.{IsFirstFault, Refuses, HoldsNoFault, GaveNoFault}
use Rattle.log_store.specs.Fault.{offset_of}
use Rattle.log_store.specs.Scan.{HasAll, HasStopped, HasTaken}
use Rattle.log_records.proofs.Public.{length-redo_all}
use Rattle.log_records.proofs.Public.{format_in-append, format_in-header, format_of_log, length-header, length-log}
use Rattle.log_records.proofs.Public.{page_count-is_count}
use Rattle.log_store.proofs.Faults.{first_chain, first_record, first_too_long, first_torn, starts_with}
use Rattle.log_records.proofs.Public.{record_length}
use Rattle.log_rules.proofs.Public.{valid_next}
use Rattle.log_rules.proofs.Public.{linked_none, linked_push}
use Rattle.log_store.proofs.Inputs.{refuses_all, none_held, none_in_read}

-- ---- which fault comes behind a log's bytes

-- the next 64 bytes
next_range : (log : Log) (given unit rest : List ℕ) → SpellsLog log given → length unit ≡ 64
    → slice_range (given ++ (unit ++ rest)) (lsn_of (length log.records)) (lsn_of (length log.records) + 64) ≡ unit
next_range log given unit rest spells wide =
    let at = lsn_of (length log.records) in
    let end : length given ≡ at = omega (arith, length-log log given spells) in
    let sixty_four : at + 64 - at ≡ 64 = omega arith in
    ap (λ n. take n (drop at (given ++ (unit ++ rest)))) sixty_four ∙ ap (take 64) (drop_at given (unit ++ rest) at end)
    ∙ take_at unit rest 64 wide

too_long : (log : Log) (given more : List ℕ) → SpellsLog log given → IsLinked log.records → 1048576 ≤ length log.records
    → 0 < length more → IsFirstFault (given ++ more) TooLong
too_long log given more spells linked full some =
    first_too_long log (given ++ more) (starts_with log given more spells linked)
    (omega (arith, full, spells.valid.count))
    (omega (arith, length-log log given spells, length-append given more))

bad_record : (log : Log) (given unit rest : List ℕ) → SpellsLog log given → IsLinked log.records
    → length log.records < 1048576 → length unit ≡ 64
    → ((r : Record) → StandsAt (page_count log) (lsn_of (length log.records)) r → IsOfFormat (format_in given) r
    → unit ≡ record_bytes r → ⊥)
    → IsFirstFault (given ++ (unit ++ rest)) (BadRecord (lsn_of (length log.records)))
bad_record log given unit rest spells linked few wide none =
    first_record log (given ++ (unit ++ rest)) (starts_with log given (unit ++ rest) spells linked) few
    (omega (arith, length-log log given spells, length-append given (unit ++ rest), length-append unit rest))
    (λ has. none has.0 has.1
    (subst (λ f. IsOfFormat f has.0) (format_in-append given (unit ++ rest) (omega (arith, length-log log given spells))) has.2)
    (sym (next_range log given unit rest spells wide) ∙ has.3))

-- the next record is one, and may not follow
bad_chain : (log : Log) (r : Record) (given unit rest : List ℕ) → SpellsLog log given → IsLinked log.records
    → length log.records < 1048576
    → StandsAt (page_count log) (lsn_of (length log.records)) r → IsOfFormat (format_in given) r
    → unit ≡ record_bytes r → ¬ MayComeBehind log r
    → IsFirstFault (given ++ (unit ++ rest)) (BadChain (lsn_of (length log.records)))
bad_chain log r given unit rest spells linked few stands of_format e breaks =
    let wide : length unit ≡ 64 = ap length e ∙ record_length.each r in
    let starts = starts_with log given (unit ++ rest) spells linked in
    first_chain log (given ++ (unit ++ rest)) starts few
    (record {
      place = record { aligned = omega arith; past_header = omega arith; in_longest = omega arith };
      before = log;
      spells = starts.spells;
      linked = linked;
      there = r;
      stands = stands;
      of_format = subst (λ f. IsOfFormat f r)
          (sym (format_in-append given (unit ++ rest) (omega (arith, length-log log given spells)))) of_format;
      spelled = next_range log given unit rest spells wide ∙ e;
      breaks = breaks;
    })

-- ---- one record more

pub spells_next : (log : Log) (r : Record) (given unit : List ℕ) → SpellsLog log given → length log.records < 1048576
    → StandsAt (page_count log) (lsn_of (length log.records)) r → GivesMore (page_count log) r
    → IsOfFormat (format_in given) r → unit ≡ record_bytes r
    → SpellsLog (with_next log (r ∷ [])) (given ++ unit)
spells_next log r given unit spells few stands more of_format e = record {
  valid = valid_next log r spells.valid few stands more;
  format = spells.format;
  of_format = λ i d lt.
      below_more (λ n. IsOfFormat spells.format (get_or (log.records ++ r ∷ []) n d)) (length log.records)
      (λ n below. rw (get_or_append_left log.records (r ∷ []) d n below) (spells.of_format n d below))
      (rw (get_or_push log.records r d (length log.records) refl)
      (subst (λ f. IsOfFormat f r) (format_of_log log given spells) of_format)) i
      (omega (arith, length_push log.records r, lt));
  spelled = ap (λ (front : List ℕ). front ++ unit) spells.spelled
      ∙ ap (λ (end : List ℕ). bytes_in spells.format log ++ end) e
      ∙ flat_map_more record_bytes (header_in spells.format log.pages) log.records r;
}

-- ---- what the sink took

-- nothing yet
pub taken_none : {S : Type 0} (holds : S → Log → Type 0) (sink : S) (made : Made) (f : Format) (pages : ℕ)
    → IsPageCount pages → holds sink (record { pages = pages; records = [] }) → IsMadeOf (record { pages = pages; records = [] }) made
    → HasTaken holds f sink made 0 (header_in f pages)
taken_none holds sink made f pages count held of = record {
  log = record { pages = pages; records = [] };
  held = held;
  spells = record {
    valid = record {
      pages = count;
      count = omega arith;
      records = λ i d lt. absurd (omega arith);
      grows = λ i d lt. absurd (omega arith);
    };
    format = f;
    of_format = λ i d lt. absurd (omega arith);
    spelled = sym (append-nil (header_in f pages));
  };
  linked = linked_none;
  made_of = of;
  count_is = refl;
  format_is = format_in-header f pages (header_in f pages)
      (take_all 64 (header_in f pages) (omega (arith, length-header f pages)));
}

module _ {S : Type 0} (holds : S → Log → Type 0) (format : Format) (sink : S) (made : Made) (count : ℕ) (given : List ℕ)
    (taken : HasTaken holds format sink made count given) where
  -- how many pages the log has
  pub pages_are : length made.pages ≡ page_count taken.log
  pages_are = ap length taken.made_of.pages ∙ length-redo_all taken.log.records (page_count taken.log)

  pub pages_fit : length made.pages < 2 ^ 32
  pages_fit = omega (arith, pages_are, (page_count-is_count taken.log taken.spells.valid).most)

  -- the place of the next record
  stands_next : (r : Record) → StandsAt (length made.pages) (64 * (count + 1)) r
      → StandsAt (page_count taken.log) (lsn_of (length taken.log.records)) r
  stands_next r stands =
      let place : 64 * (count + 1) ≡ lsn_of (length taken.log.records) = omega (arith, taken.count_is) in
      subst (λ (n : ℕ). StandsAt n (lsn_of (length taken.log.records)) r) pages_are
      (subst (λ (n : ℕ). StandsAt (length made.pages) n r) place stands)

  pub valid_with : (r : Record) → count < 1048576 → StandsAt (length made.pages) (64 * (count + 1)) r
      → GivesMore (page_count taken.log) r → IsLog (with_next taken.log (r ∷ []))
  valid_with r few stands more =
      valid_next taken.log r taken.spells.valid (omega (arith, taken.count_is)) (stands_next r stands) more

  -- the bytes that were given reach past the header
  long_given : 64 ≤ length given
  long_given = omega (arith, length-log taken.log given taken.spells)

  pub taken_next : (after : S) (new : Made) (r : Record) (unit : List ℕ) → count < 1048576
      → StandsAt (length made.pages) (64 * (count + 1)) r → GivesMore (page_count taken.log) r → IsOfFormat format r
      → unit ≡ record_bytes r → MayFollow taken.log.records r
      → IsMadeOf (with_next taken.log (r ∷ [])) new → holds after (with_next taken.log (r ∷ []))
      → HasTaken holds format after new (count + 1) (given ++ unit)
  taken_next after new r unit few stands more of_format e may of held = record {
    log = with_next taken.log (r ∷ []);
    held = held;
    spells = spells_next taken.log r given unit taken.spells (omega (arith, taken.count_is)) (stands_next r stands) more
        (subst (λ f. IsOfFormat f r) (sym taken.format_is) of_format) e;
    linked = linked_push taken.log.records r taken.linked may;
    made_of = of;
    count_is = omega (arith, length_push taken.log.records r, taken.count_is);
    format_is = format_in-append given unit long_given ∙ taken.format_is;
  }

  pub taken_too_long : (more : List ℕ) → 1048576 ≤ count → 0 < length more → IsFirstFault (given ++ more) TooLong
  taken_too_long more full some =
      too_long taken.log given more taken.spells taken.linked (omega (arith, taken.count_is)) some

  pub taken_bad_record : (unit rest : List ℕ) → count < 1048576 → length unit ≡ 64
      → ((r : Record) → StandsAt (length made.pages) (64 * (count + 1)) r → IsOfFormat format r → unit ≡ record_bytes r → ⊥)
      → IsFirstFault (given ++ (unit ++ rest)) (BadRecord (64 * (count + 1)))
  taken_bad_record unit rest few wide none =
      let place : lsn_of (length taken.log.records) ≡ 64 * (count + 1) = omega (arith, taken.count_is) in
      subst (λ (n : ℕ). IsFirstFault (given ++ (unit ++ rest)) (BadRecord n)) place
      (bad_record taken.log given unit rest taken.spells taken.linked (omega (arith, taken.count_is)) wide
      (λ r stands of_format e. none r (subst (λ (n : ℕ). StandsAt n (64 * (count + 1)) r) (sym pages_are)
      (subst (λ (n : ℕ). StandsAt (page_count taken.log) n r) place stands))
      (subst (λ f. IsOfFormat f r) taken.format_is of_format) e))

  pub taken_bad_chain : (r : Record) (unit rest : List ℕ) → count < 1048576 → StandsAt (length made.pages) (64 * (count + 1)) r
      → IsOfFormat format r → unit ≡ record_bytes r → ¬ MayComeBehind taken.log r
      → IsFirstFault (given ++ (unit ++ rest)) (BadChain (64 * (count + 1)))
  taken_bad_chain r unit rest few stands of_format e breaks =
      let place : lsn_of (length taken.log.records) ≡ 64 * (count + 1) = omega (arith, taken.count_is) in
      subst (λ (n : ℕ). IsFirstFault (given ++ (unit ++ rest)) (BadChain n)) place
      (bad_chain taken.log r given unit rest taken.spells taken.linked (omega (arith, taken.count_is))
      (stands_next r stands) (subst (λ f. IsOfFormat f r) (sym taken.format_is) of_format) e breaks)

  -- all that was given is of that log
  pub all_taken : HasAll holds sink made given
  all_taken = record {
    log = taken.log;
    held = taken.held;
    spells = taken.spells;
    linked = taken.linked;
    made_of = taken.made_of;
  }

  pub length-taken : length given ≡ 64 * (count + 1)
  length-taken = omega (arith, length-log taken.log given taken.spells, taken.count_is)

  pub few_taken : count ≤ 1048576
  few_taken = omega (arith, taken.count_is, taken.spells.valid.count)

-- the records before a fault were taken
pub stopped_at : {S : Type 0} (holds : S → Log → Type 0) (format : Format) (sink : S) (made : Made) (count : ℕ)
    (given read behind : List ℕ) (old new : Option (List ℕ)) (fault : LogReadFault)
    → HasTaken holds format sink made count (given ++ read) → Consumes old new (read ++ behind)
    → offset_of fault ≡ 64 * (count + 1) → HasStopped holds sink made given old new fault
stopped_at holds format sink made count given read behind old new fault taken consumed at = record {
  read = read;
  behind = behind;
  consumed = consumed;
  all = all_taken holds format sink made count (given ++ read) taken;
  at = length-taken holds format sink made count (given ++ read) taken ∙ sym at;
}

-- what was read is cut in two
pub cut_read : (read bytes : List ℕ) (n : ℕ) → read ++ bytes ≡ (read ++ take n bytes) ++ drop n bytes
cut_read read bytes n =
    ap (λ (bs : List ℕ). read ++ bs) (sym (take-append-drop n bytes))
    ∙ sym (append_assoc read (take n bytes) (drop n bytes))

-- ---- what follows the whole records

regroup : (header read pending rest : List ℕ)
    → (header ++ read) ++ (pending ++ rest) ≡ header ++ ((read ++ pending) ++ rest)
regroup header read pending rest = simp append_assoc

-- less than a record stands behind the records that were read
torn_at : (log : Log) (given pending : List ℕ) → SpellsLog log given → IsLinked log.records → length pending < 64
    → 0 < length pending
    → length log.records < 1048576 → IsFirstFault (given ++ pending) (Torn (lsn_of (length log.records)))
torn_at log given pending spells linked short some few =
    first_torn log (given ++ pending) (starts_with log given pending spells linked) few
    (omega (arith, length-log log given spells, length-append given pending))
    (omega (arith, length-log log given spells, length-append given pending))

pub refuses_torn : (header read pending rest : List ℕ) (log : Log) → SpellsLog log (header ++ read)
    → IsLinked log.records
    → length pending < 64 → 0 < length pending → length log.records < 1048576 → rest ≡ []
    → Refuses (header ++ ((read ++ pending) ++ rest)) (Torn (lsn_of (length log.records)))
refuses_torn header read pending rest log spells linked short some few none =
    subst (λ (input : List ℕ). Refuses input (Torn (lsn_of (length log.records))))
    (append_assoc (header ++ read) pending rest ∙ regroup header read pending rest)
    (refuses_all ((header ++ read) ++ pending) rest (Torn (lsn_of (length log.records)))
    (torn_at log (header ++ read) pending spells linked short some few) none)

pub none_in_failed : (header read pending : List ℕ) (log : Log) → SpellsLog log (header ++ read) → IsLinked log.records
    → length pending < 64 → (1048576 ≤ length log.records → length pending ≡ 0)
    → HoldsNoFault (header ++ (read ++ pending))
none_in_failed header read pending log spells linked short few =
    let given = header ++ read in
    subst HoldsNoFault (append_assoc header read pending)
    (elim (cases_lt 0 (length pending)) [
      | inl some ↦
          elim (cases_lt (length log.records) 1048576) [
            | inl room ↦ none_held (given ++ pending) (Torn (lsn_of (length log.records)))
                (torn_at log given pending spells linked short some room) (λ held. held)
            | inr full ↦ absurd (omega (arith, few full))
          ]
      | inr none ↦
          let nothing : pending ≡ [] = nil_from_length pending (omega arith) in
          none_in_read log (given ++ pending)
          (subst (SpellsLog log) (sym (append-nil given)
          ∙ ap (λ (p : List ℕ). given ++ p) (sym nothing)) spells) linked
    ])

pub refuses_past_last : (header read pending rest : List ℕ) (log : Log) → SpellsLog log (header ++ read)
    → IsLinked log.records → 1048576 ≤ length log.records → 0 < length pending
    → Refuses (header ++ ((read ++ pending) ++ rest)) TooLong
refuses_past_last header read pending rest log spells linked full some =
    subst (λ (input : List ℕ). Refuses input TooLong) (regroup header read pending rest)
    (too_long log (header ++ read) (pending ++ rest) spells linked full (omega (arith, length-append pending rest)))

pub regrouped : (header read pending rest : List ℕ) (P : List ℕ → Type 0) → P ((header ++ read) ++ (pending ++ rest))
    → P (header ++ ((read ++ pending) ++ rest))
regrouped header read pending rest P h = subst P (regroup header read pending rest) h

-- ---- the header and what follows it

pub gave_more : (old mid new : Option (List ℕ)) (header : List ℕ) (fault : LogReadFault) → Consumes old mid header
    → GaveNoFault header mid new fault → GaveNoFault [] old new fault
gave_more old mid new header ReadFault taken gave =
    (header ++ gave.0, (Consumes-trans old mid new header gave.0 taken gave.1.0, gave.1.1))
gave_more old mid new header OutOfMemory taken gave = tt
gave_more old mid new header BadHeader taken gave = tt
gave_more old mid new header (BadRecord at) taken gave = tt
gave_more old mid new header (BadChain at) taken gave = tt
gave_more old mid new header (Torn at) taken gave = tt
gave_more old mid new header TooLong taken gave = tt

-- what is said of an input twice
pub both_some : (input : Option (List ℕ)) (P Q : List ℕ → Type 0) → IfSome input P → IfSome input Q
    → IfSome input (λ bytes. P bytes × Q bytes)
both_some None P Q p q = tt
both_some (Some bytes) P Q p q = (p, q)

-- the bytes before a fault
pub before_fault : (header read behind rest : List ℕ) (n : ℕ) → length (header ++ read) ≡ n
    → header ++ read ≡ take n ((header ++ (read ++ behind)) ++ rest)
before_fault header read behind rest n at =
    let regrouped : (header ++ read) ++ (behind ++ rest) ≡ (header ++ (read ++ behind)) ++ rest = simp append_assoc in
    sym (take_at (header ++ read) (behind ++ rest) n at) ∙ ap (take n) regrouped

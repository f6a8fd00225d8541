use Rattle.std.proofs.Common.{◌≡◌, ℕ, ◌+◌, ◌*◌, ◌++◌, List, sym, ap, subst, arith, length}
use Rattle.std.specs.Prelude.{IfErr, Result}
use Rattle.std.proofs.lemmas.List.{length-append}
use Rattle.page_core.specs.declared.page.Page.{Page}
use Rattle.page_core.specs.declared.format.Format.{Format}
use Rattle.log_records.specs.declared.record.Record.{Record}
use Rattle.log_records.specs.Log.{IsOfFormat, Log, StandsAt}
use Rattle.log_records.specs.Record.{record_bytes}
use Rattle.log_rules.specs.History.{Made}
use Rattle.log_store.specs.declared.fault.LogReadFault.{LogReadFault}
use Rattle.log_store.specs.Fault.{Refuses}
use Rattle.log_store.specs.Scan.{HasTaken}
use Rattle.log_store.proofs.Scans.{if_err, pages_fit, taken_bad_record, taken_too_long}
use Rattle.log_store.proofs.scan.take_record.Goals as goal

-- the fault of a record that these bytes spell
first_of : {S T : Type 0} (holds : S → Log → Type 0) (format : Format) (sink : S) (made : Made) (count : ℕ)
    (r : Record) (bytes : List ℕ) (answer : Result T LogReadFault) → IsOfFormat format r → bytes ≡ record_bytes r
    → IfErr answer (λ fault. (f : Format) (given rest : List ℕ) → IsOfFormat f r → HasTaken holds f sink made count given
    → Refuses (given ++ (record_bytes r ++ rest)) fault)
    → IfErr answer (λ fault. (given rest : List ℕ) → HasTaken holds format sink made count given
    → Refuses (given ++ (bytes ++ rest)) fault)
first_of holds format sink made count r bytes answer of_format e first =
    if_err answer
    (λ fault. (f : Format) (given rest : List ℕ) → IsOfFormat f r → HasTaken holds f sink made count given
    → Refuses (given ++ (record_bytes r ++ rest)) fault)
    (λ fault. (given rest : List ℕ) → HasTaken holds format sink made count given
    → Refuses (given ++ (bytes ++ rest)) fault)
    (λ fault said. λ given rest taken. subst (λ (bs : List ℕ). Refuses (given ++ (bs ++ rest)) fault) (sym e)
    (said format given rest of_format taken)) first

pub returns-then-count-ge-MAX_RECORDS-clause-first : goal.returns-then-count-ge-MAX_RECORDS-clause-first
returns-then-count-ge-MAX_RECORDS-clause-first g c = λ given rest taken.
    taken_too_long g.S.RecordSink.holds c.args.format c.args.sink.now c.args.history.now c.args.count given
    taken _ (omega arith)
    (omega (arith, length-append c.args.bytes.now rest))

pub overflow_cast-pages : goal.overflow_cast-pages
overflow_cast-pages g c = omega (
  arith,
  ap length c.pages.ensures,
  pages_fit g.S.RecordSink.holds c.args.format c.args.sink.now c.args.history.now c.args.count c.requires.so_far.0
      c.requires.so_far.1,
)

pub returns-in_default-record_at-clause-first : goal.returns-in_default-record_at-clause-first
returns-in_default-record_at-clause-first g c = λ given rest taken.
    taken_bad_record g.S.RecordSink.holds c.args.format c.args.sink.now c.args.history.now c.args.count given taken
    c.args.bytes.now rest (omega arith) c.requires.whole (λ r stands of_format e.
    cc (c.in_default-record_at.ensures.only r
    (subst (λ (pages : List Page). StandsAt (length pages) (64 * (c.args.count + 1)) r) (sym c.pages.ensures) stands) of_format e))

pub take_found-requires-in-Some-step_at-clause-stands : goal.take_found-requires-in-Some-step_at-clause-stands
take_found-requires-in-Some-step_at-clause-stands g c =
    c.in-Some-step_at.ensures.found.0 (length c.args.history.now.pages)

pub returns-in-Some-clause-first : goal.returns-in-Some-clause-first
returns-in-Some-clause-first g c =
    let found = c.in-Some.ensures.found in
    first_of g.S.RecordSink.holds c.args.format c.args.sink.now c.args.history.now c.args.count c.in-Some.update
    c.args.bytes.now c.take_found.result (found.1 c.args.format) found.2 c.take_found.ensures.first

pub returns-in-Some-step_at-clause-first : goal.returns-in-Some-step_at-clause-first
returns-in-Some-step_at-clause-first g c =
    let found = c.in-Some-step_at.ensures.found in
    first_of g.S.RecordSink.holds c.args.format c.args.sink.now c.args.history.now c.args.count c.in-Some-step_at.step
    c.args.bytes.now c.take_found-in-Some-step_at.result (found.1 c.args.format) found.2
    c.take_found-in-Some-step_at.ensures.first

pub returns-clause-first : goal.returns-clause-first
returns-clause-first g c =
    let found = c.in-Some-record_at.ensures.found in
    first_of g.S.RecordSink.holds c.args.format c.args.sink.now c.args.history.now c.args.count
    c.in-Some-record_at.other c.args.bytes.now c.take_found-2.result found.1 found.2 c.take_found-2.ensures.first

use Rattle.std.proofs.Common.{◌∙◌, ◌++◌, take, sym, subst, arith}
use Rattle.std.specs.Io.KnownBytes.{Consumes}
use Rattle.std.proofs.KnownBytes.{Consumes-trans}
use Rattle.std.proofs.lemmas.List.{take_all, length-append}
use Rattle.log_store.specs.declared.fault.LogReadFault.TheVariants.{BadHeader}
use Rattle.log_records.specs.Log.{SpellsLog, header_in}
use Rattle.log_store.specs.Fault.{Refuses, IsHeader, offset_of}
use Rattle.log_store.proofs.Faults.{first_header}
use Rattle.page_core.proofs.Public.{known_more}
use Rattle.log_store.proofs.Inputs.{of_input, goes_on_header}
use Rattle.log_store.proofs.Scans.{before_fault, both_some, of_rest, of_all, gave_more, taken_none}
use Rattle.log_store.proofs.scan.scan_to_fault.Goals as goal

pub returns-in_default-clause-first : goal.returns-in_default-clause-first
returns-in_default-clause-first g c =
    let header = c.read_header.new.header in
    let none : IsHeader (take 64 header) → ⊥ = λ h. cc (c.in_default.ensures.only h.0 h.1 (record { count = h.2; spelled = h.3 })) in
    of_input _ _ header (λ input. Refuses input BadHeader) c.in_ok-turns.ensures.ok
    (λ rest end. goes_on_header header rest (omega arith) (first_header header none))

pub read_records-requires-clause-taken : goal.read_records-requires-clause-taken
read_records-requires-clause-taken g c = (
  header_in c.in-Some.found.format c.in-Some.found.pages,
  taken_none g.S.RecordSink.holds c.in_ok-start.field-0 c.in_ok-start-2.field-0 c.in-Some.found.format c.in-Some.found.pages
      c.in-Some.ensures.found.count c.in_ok-start.ensures c.in_ok-start-2.ensures,
)

pub returns-in-Ok-clause-known : goal.returns-in-Ok-clause-known
returns-in-Ok-clause-known g c = known_more _ _ _ c.read_header.ensures.known c.read_records.ensures.known

pub returns-in-Ok-clause-found : goal.returns-in-Ok-clause-found
returns-in-Ok-clause-found g c =
    let header = header_in c.in-Some.found.format c.in-Some.found.pages in
    let consumed = subst (Consumes _ _) (sym (take_all 64 c.read_header.new.header (omega arith)) ∙ c.in-Some.ensures.found.spelled)
    c.in_ok-turns.ensures.ok in
    let none = taken_none g.S.RecordSink.holds c.in_ok-start.field-0 c.in_ok-start-2.field-0 c.in-Some.found.format
    c.in-Some.found.pages c.in-Some.ensures.found.count c.in_ok-start.ensures c.in_ok-start-2.ensures in
    let read = c.in-Ok.ensures.found header none in
    let all = read.1.1 in
    record {
      log = all.log;
      held = all.held;
      made_of = all.made_of;
      linked = all.linked;
      valid = all.spells.valid;
      behind = tt;
      ends = of_all _ _ (header ++ read.0) (SpellsLog all.log)
          (Consumes-trans _ _ _ header read.0 consumed read.1.0) c.in-Ok.ensures.end all.spells;
    }

pub returns-then-not-is_behind_log-clause-known : goal.returns-then-not-is_behind_log-clause-known
returns-then-not-is_behind_log-clause-known g c = known_more _ _ _ c.read_header.ensures.known c.read_records.ensures.known

pub returns-then-not-is_behind_log-clause-first : goal.returns-then-not-is_behind_log-clause-first
returns-then-not-is_behind_log-clause-first g c =
    let header = header_in c.in-Some.found.format c.in-Some.found.pages in
    let consumed = subst (Consumes _ _) (sym (take_all 64 c.read_header.new.header (omega arith)) ∙ c.in-Some.ensures.found.spelled)
    c.in_ok-turns.ensures.ok in
    let none = taken_none g.S.RecordSink.holds c.in_ok-start.field-0 c.in_ok-start-2.field-0 c.in-Some.found.format
    c.in-Some.found.pages c.in-Some.ensures.found.count c.in_ok-start.ensures c.in_ok-start-2.ensures in
    of_rest _ _ header (λ input. Refuses input c.in-Err.fault) consumed (c.in-Err.ensures.first header none)

pub returns-then-not-is_behind_log-clause-unread : goal.returns-then-not-is_behind_log-clause-unread
returns-then-not-is_behind_log-clause-unread g c =
    let header = header_in c.in-Some.found.format c.in-Some.found.pages in
    let consumed = subst (Consumes _ _) (sym (take_all 64 c.read_header.new.header (omega arith)) ∙ c.in-Some.ensures.found.spelled)
    c.in_ok-turns.ensures.ok in
    let none = taken_none g.S.RecordSink.holds c.in_ok-start.field-0 c.in_ok-start-2.field-0 c.in-Some.found.format
    c.in-Some.found.pages c.in-Some.ensures.found.count c.in_ok-start.ensures c.in_ok-start-2.ensures in
    gave_more _ _ _ header c.in-Err.fault consumed (c.in-Err.ensures.unread header none)

pub returns-clause-known : goal.returns-clause-known
returns-clause-known g c = known_more _ _ _ c.read_header.ensures.known c.read_records.ensures.known

pub returns-clause-found : goal.returns-clause-found
returns-clause-found g c =
    let header = header_in c.in-Some.found.format c.in-Some.found.pages in
    let consumed = subst (Consumes _ _) (sym (take_all 64 c.read_header.new.header (omega arith)) ∙ c.in-Some.ensures.found.spelled)
    c.in_ok-turns.ensures.ok in
    let none = taken_none g.S.RecordSink.holds c.in_ok-start.field-0 c.in_ok-start-2.field-0 c.in-Some.found.format
    c.in-Some.found.pages c.in-Some.ensures.found.count c.in_ok-start.ensures c.in_ok-start-2.ensures in
    let fault = c.in-Err.fault in
    let behind = c.is_behind_log.ensures.0 c.if-not-is_behind_log.false in
    let it = c.in-Err.ensures.stopped header none behind in
    record {
      log = it.all.log;
      held = it.all.held;
      made_of = it.all.made_of;
      linked = it.all.linked;
      valid = it.all.spells.valid;
      behind = behind;
      ends = both_some _ (λ input. SpellsLog it.all.log (take (offset_of fault) input)) (λ input. Refuses input fault)
          (of_input _ _ (header ++ (it.read ++ it.behind)) (λ input. SpellsLog it.all.log (take (offset_of fault) input))
          (Consumes-trans _ _ _ header (it.read ++ it.behind) consumed it.consumed)
          (λ rest end. subst (SpellsLog it.all.log) (before_fault header it.read it.behind rest (offset_of fault) it.at)
          it.all.spells))
          (of_rest _ _ header (λ input. Refuses input fault) consumed (c.in-Err.ensures.first header none));
    }

pub returns-clause-given : goal.returns-clause-given
returns-clause-given g c =
    let header = header_in c.in-Some.found.format c.in-Some.found.pages in
    let consumed = subst (Consumes _ _) (sym (take_all 64 c.read_header.new.header (omega arith)) ∙ c.in-Some.ensures.found.spelled)
    c.in_ok-turns.ensures.ok in
    let none = taken_none g.S.RecordSink.holds c.in_ok-start.field-0 c.in_ok-start-2.field-0 c.in-Some.found.format
    c.in-Some.found.pages c.in-Some.ensures.found.count c.in_ok-start.ensures c.in_ok-start-2.ensures in
    let it = c.in-Err.ensures.stopped header none (c.is_behind_log.ensures.0 c.if-not-is_behind_log.false) in (
      header ++ (it.read ++ it.behind),
      Consumes-trans _ _ _ header (it.read ++ it.behind) consumed it.consumed,
      omega (
        arith,
        it.at,
        length-append header it.read,
        length-append header (it.read ++ it.behind),
        length-append it.read it.behind,
      ),
    )

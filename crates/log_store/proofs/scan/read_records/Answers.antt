use Rattle.std.proofs.Common.{◌≡◌, ℕ, ◌+◌, ◌*◌, ◌/◌, ◌%◌, ◌<◌, ◌++◌, List, [], length, set, take, drop, sym, ap, subst}
use Rattle.std.proofs.Common.{◌∙◌}
use Rattle.std.proofs.Common.{arith, inl, inr}
use Rattle.std.specs.Io.KnownBytes.{Consumes}
use Rattle.std.proofs.lemmas.List.{append_assoc, append-nil, nil_from_length, length-take, length-drop}
use Rattle.std.proofs.lemmas.List.{take-set}
use Rattle.std.proofs.lemmas.Bool.{cases_lt}
use Rattle.std.proofs.lemmas.Result.{err_from_is_err_and}
use Rattle.log_store.specs.declared.fault.LogReadFault.TheVariants.{Torn, TooLong}
use Rattle.log_records.specs.Log.{Log, lsn_of}
use Rattle.log_rules.specs.History.{Made}
use Rattle.log_store.specs.Fault.{Refuses, offset_of}
use Rattle.log_store.specs.Scan.{HasTaken}
use Rattle.log_store.proofs.Inputs.{of_input}
use Rattle.log_store.proofs.Scans.{all_taken, cut_read, few_taken, stopped_at}
use Rattle.page_core.specs.declared.format.Format.{Format}
use Rattle.log_store.proofs.Scans.{refuses_torn, none_in_failed, refuses_past_last, regrouped, if_err, on_ok}
use Rattle.log_store.proofs.scan.read_records.Goals as goal
use Rattle.log_store.proofs.scan.read_records.Goals.{else-count-ge-MAX_RECORDS-via-then-count-ge-MAX_RECORDS+else-filled-gt0}
use Rattle.log_store.proofs.scan.read_records.Goals.{else-count-ge-MAX_RECORDS-via-else-count-ge-MAX_RECORDS}

-- the whole records among the bytes were taken
whole_taken : {S : Type 0} (holds : S → Log → Type 0) (format : Format) (sink : S) (made : Made) (count filled : ℕ)
    (given read bytes : List ℕ) → length bytes ≡ filled
    → HasTaken holds format sink made (count + length bytes / 64) ((given ++ read) ++ take (64 * (length bytes / 64)) bytes)
    → HasTaken holds format sink made (count + filled / 64) (given ++ (read ++ take (64 * (filled / 64)) bytes))
whole_taken holds format sink made count filled given read bytes width taken =
    subst (HasTaken holds format sink made (count + filled / 64)) (append_assoc given read (take (64 * (filled / 64)) bytes))
    (subst (λ (k : ℕ). HasTaken holds format sink made (count + k / 64) ((given ++ read) ++ take (64 * (k / 64)) bytes))
    width taken)

pub returns-in-End-clause-first : goal.returns-in-End-clause-first
returns-in-End-clause-first g c =
    let inv = c.loop.invariant in
    let pending = take c.loop.filled c.loop.buffer in
    let short = inv.short in
    let room = c.requires.room in
    if_err c.at_end.result _ _ (λ fault torn given taken.
    let so_far = inv.so_far given taken in
    let read = so_far.0 in
    let t = so_far.1.0 in
    let count = t.count_is in
    let some = torn.0 in
    let at : lsn_of (length t.log.records) ≡ 64 * (c.loop.count + 1) = omega arith in
    let is : fault ≡ Torn (lsn_of (length t.log.records)) = torn.1 ∙ ap Torn (sym at) in
    of_input _ _ (read ++ pending) (λ rest. Refuses (given ++ rest) fault) (c.in-End.ensures.1 _ read so_far.1.1)
    (λ rest end. subst (Refuses (given ++ ((read ++ pending) ++ rest))) (sym is)
    (refuses_torn given read pending rest t.log t.spells t.linked
    (omega (arith, length-take c.loop.filled c.loop.buffer))
    (omega (arith, length-take c.loop.filled c.loop.buffer))
    (elim (cases_lt (length t.log.records) 1048576) [
      | inl room ↦ room
      | inr full ↦ let none = inv.few (omega arith) in
          absurd (omega arith)
    ]) (end c.in-End.ensures.0)))) c.at_end.ensures.err

pub returns-in-End-clause-found : goal.returns-in-End-clause-found
returns-in-End-clause-found g c =
    let pending = take c.loop.filled c.loop.buffer in
    on_ok c.at_end.result _ _ (λ none given taken.
    let so_far = c.loop.invariant.so_far given taken in
    let read = so_far.0 in
    let t = so_far.1.0 in
    let nothing : pending ≡ [] = nil_from_length pending
    (omega (arith, length-take c.loop.filled c.loop.buffer, none)) in
    let all : read ++ pending ≡ read = ap (λ (bs : List ℕ). read ++ bs) nothing ∙ append-nil read in (
      read,
      (
        subst (Consumes _ _) all (c.in-End.ensures.1 _ read so_far.1.1),
        all_taken g.S.RecordSink.holds c.args.format c.loop.scan.sink c.loop.scan.history c.loop.count (given ++ read) t,
      ),
    )) c.at_end.ensures.ok

pub returns-in-Failed-clause-unread : goal.returns-in-Failed-clause-unread
returns-in-Failed-clause-unread g c = λ given taken.
    let inv = c.loop.invariant in
    let so_far = inv.so_far given taken in
    let t = so_far.1.0 in
    let pending = take c.loop.filled c.loop.buffer in
    let short = inv.short in
    let count = t.count_is in (
      so_far.0 ++ pending,
      (
        c.in-Failed.ensures _ so_far.0 so_far.1.1,
        none_in_failed given so_far.0 pending t.log t.spells t.linked
            (omega (arith, length-take c.loop.filled c.loop.buffer))
            (λ full. let none = inv.few (omega arith) in omega (arith, length-take c.loop.filled c.loop.buffer)),
      ),
    )

pub returns-in_err-seen-clause-first : goal.returns-in_err-seen-clause-first
returns-in_err-seen-clause-first g c =
    let p = err_from_is_err_and c.from_residual.result c.from_residual.ensures.1 in
    let bytes = take (c.loop.filled + c.in-More.more) c.read_more.new.buffer in
    let fault = c.in_err-seen.field-0.0 in
    rw (p.1, p.2) (λ given taken.
    let so_far = c.loop.invariant.so_far given taken in
    let read = so_far.0 in
    of_input _ _ (read ++ bytes) (λ rest. Refuses (given ++ rest) fault) (c.in-More.ensures.1 _ read so_far.1.1)
    (λ rest end. regrouped given read bytes rest (λ input. Refuses input fault)
    (c.in_err-seen.ensures.first (given ++ read) rest so_far.1.0)))

pub returns-then-filled-gt0-clause-first : goal.returns-then-filled-gt0-clause-first
returns-then-filled-gt0-clause-first g c = λ given taken.
    let inv = c.loop.invariant in
    let so_far = inv.so_far given taken in
    let read = so_far.0 in
    let filled = c.loop.filled + c.in-More.more in
    let whole = 64 * (filled / 64) in
    let bytes = take filled c.read_more.new.buffer in
    let width : length bytes ≡ filled = omega (arith, length-take filled c.read_more.new.buffer, c.in-More.ensures.0) in
    let further = read ++ take whole bytes in
    let pending = drop whole bytes in
    let t = whole_taken g.S.RecordSink.holds c.args.format c.take_records.new.sink c.take_records.new.history c.loop.count
    filled given read bytes width (c.in_ok-seen.ensures.ok (given ++ read) so_far.1.0) in
    let count = t.count_is in
    let full = c.if-count-ge-MAX_RECORDS.true in
    let rest_is = c.keep_rest-filled.ensures.rest in
    let some = c.if-filled-gt0.true in
    let long : 0 < length pending = omega (
      arith,
      length-drop whole bytes,
      length-take filled c.read_more.new.buffer,
      c.keep_rest-filled.ensures.count,
      c.in-More.ensures.0,
    ) in
    of_input _ _ (further ++ pending) (λ rest. Refuses (given ++ rest) TooLong)
    (subst (Consumes _ _) (cut_read read bytes whole) (c.in-More.ensures.1 _ read so_far.1.1))
    (λ rest end. refuses_past_last given further pending rest t.log t.spells t.linked (omega arith) long)

pub returns-in-End-clause-stopped : goal.returns-in-End-clause-stopped
returns-in-End-clause-stopped g c =
    if_err c.at_end.result _ _ (λ fault torn given taken behind.
    let so_far = c.loop.invariant.so_far given taken in
    stopped_at g.S.RecordSink.holds c.args.format c.loop.scan.sink c.loop.scan.history c.loop.count given so_far.0
    (take c.loop.filled c.loop.buffer) _ _ fault so_far.1.0 (c.in-End.ensures.1 _ so_far.0 so_far.1.1)
    (ap offset_of torn.1)) c.at_end.ensures.err

pub returns-in_err-seen-clause-stopped : goal.returns-in_err-seen-clause-stopped
returns-in_err-seen-clause-stopped g c =
    let p = err_from_is_err_and c.from_residual.result c.from_residual.ensures.1 in
    let bytes = take (c.loop.filled + c.in-More.more) c.read_more.new.buffer in
    rw (p.1, p.2) (λ given taken behind.
    let so_far = c.loop.invariant.so_far given taken in
    let read = so_far.0 in
    let it = c.in_err-seen.ensures.stopped (given ++ read) so_far.1.0 behind in
    let before = 64 * it.more in
    let holds = g.S.RecordSink.holds in
    let sink = c.take_records.new.sink in
    let made = c.take_records.new.history in
    let count = c.loop.count + it.more in
    stopped_at holds c.args.format sink made count given (read ++ take before bytes) (drop before bytes) _ _ _
    (subst (HasTaken holds c.args.format sink made count) (append_assoc given read (take before bytes)) it.taken)
    (subst (Consumes _ _) (cut_read read bytes before) (c.in-More.ensures.1 _ read so_far.1.1)) it.at)

pub returns-then-filled-gt0-clause-stopped : goal.returns-then-filled-gt0-clause-stopped
returns-then-filled-gt0-clause-stopped g c = λ given taken behind.
    let so_far = c.loop.invariant.so_far given taken in
    let read = so_far.0 in
    let filled = c.loop.filled + c.in-More.more in
    let whole = 64 * (filled / 64) in
    let bytes = take filled c.read_more.new.buffer in
    let width : length bytes ≡ filled = omega (arith, length-take filled c.read_more.new.buffer, c.in-More.ensures.0) in
    let holds = g.S.RecordSink.holds in
    let sink = c.take_records.new.sink in
    let made = c.take_records.new.history in
    let count = c.loop.count + filled / 64 in
    let t = whole_taken holds c.args.format sink made c.loop.count filled given read bytes width
    (c.in_ok-seen.ensures.ok (given ++ read) so_far.1.0) in
    let few = few_taken holds c.args.format sink made count (given ++ (read ++ take whole bytes)) t in
    let full = c.if-count-ge-MAX_RECORDS.true in
    stopped_at holds c.args.format sink made count given (read ++ take whole bytes) (drop whole bytes) _ _ TooLong t
    (subst (Consumes _ _) (cut_read read bytes whole) (c.in-More.ensures.1 _ read so_far.1.1)) (omega (arith, few, full))

pub loop-preserved : goal.loop-preserved
loop-preserved g c =
    let inv = c.loop.invariant in
    let filled = c.loop.filled + c.in-More.more in
    let whole = 64 * (filled / 64) in
    let bytes = take filled c.read_more.new.buffer in
    let width : length bytes ≡ filled = omega (arith, length-take filled c.read_more.new.buffer, c.in-More.ensures.0) in
    let kept = c.keep_rest-filled.result in
    record {
      short = c.keep_rest-filled.ensures.short;
      few = λ full. elim c.else-count-ge-MAX_RECORDS.branch [
        | else-count-ge-MAX_RECORDS-via-then-count-ge-MAX_RECORDS+else-filled-gt0 w ↦ let none =
            w.if-filled-gt0.false in omega arith
        | else-count-ge-MAX_RECORDS-via-else-count-ge-MAX_RECORDS w ↦ let room = w.if-count-ge-MAX_RECORDS.false in
            absurd (omega arith)
      ];
      so_far = λ given first.
          let so_far = inv.so_far given first in
          let read = so_far.0 in
          let taken = whole_taken g.S.RecordSink.holds c.args.format c.take_records.new.sink c.take_records.new.history
          c.loop.count filled given read bytes width (c.in_ok-seen.ensures.ok (given ++ read) so_far.1.0) in
          let both : read ++ bytes ≡ (read ++ take whole bytes)
          ++ take kept (set c.keep_rest-filled.new.buffer kept (c.in_ok-seen.seen % 256)) =
          cut_read read bytes whole
          ∙ ap (λ (bs : List ℕ). (read ++ take whole bytes) ++ bs) (sym (take-set c.keep_rest-filled.new.buffer kept _
          ∙ c.keep_rest-filled.ensures.rest)) in (
            read ++ take whole bytes,
            (
              taken,
              subst (Consumes _ _) both (c.in-More.ensures.1 _ read so_far.1.1),
            ),
          );
    }

pub returns-clause-unread : goal.returns-clause-unread
returns-clause-unread g c = λ given taken.
    let inv = c.loop.invariant in
    let so_far = inv.so_far given taken in
    let t = so_far.1.0 in
    let pending = take c.loop.filled c.loop.buffer in
    let short = inv.short in
    let count = t.count_is in (
      so_far.0 ++ pending,
      (
        so_far.1.1,
        none_in_failed given so_far.0 pending t.log t.spells t.linked
            (omega (arith, length-take c.loop.filled c.loop.buffer))
            (λ full. let none = inv.few (omega arith) in omega (arith, length-take c.loop.filled c.loop.buffer)),
      ),
    )

pub returns-in-End-clause-known : goal.returns-in-End-clause-known
returns-in-End-clause-known g c =
    let so_far = c.loop.invariant.so_far c.requires.taken.0 c.requires.taken.1 in
    let read = so_far.0 in
    (read ++ take c.loop.filled c.loop.buffer, c.in-End.ensures.1 _ read so_far.1.1)

pub returns-in-Failed-clause-known : goal.returns-in-Failed-clause-known
returns-in-Failed-clause-known g c =
    let so_far = c.loop.invariant.so_far c.requires.taken.0 c.requires.taken.1 in
    let read = so_far.0 in
    (read ++ take c.loop.filled c.loop.buffer, c.in-Failed.ensures _ read so_far.1.1)

pub returns-in_err-seen-clause-known : goal.returns-in_err-seen-clause-known
returns-in_err-seen-clause-known g c =
    let so_far = c.loop.invariant.so_far c.requires.taken.0 c.requires.taken.1 in
    let read = so_far.0 in (
      read ++ take (c.loop.filled + c.in-More.more) c.read_more.new.buffer,
      c.in-More.ensures.1 _ read so_far.1.1,
    )

pub returns-then-filled-gt0-clause-known : goal.returns-then-filled-gt0-clause-known
returns-then-filled-gt0-clause-known g c =
    let so_far = c.loop.invariant.so_far c.requires.taken.0 c.requires.taken.1 in
    let read = so_far.0 in (
      read ++ take (c.loop.filled + c.in-More.more) c.read_more.new.buffer,
      c.in-More.ensures.1 _ read so_far.1.1,
    )

pub returns-clause-known : goal.returns-clause-known
returns-clause-known g c =
    let so_far = c.loop.invariant.so_far c.requires.taken.0 c.requires.taken.1 in
    let read = so_far.0 in
    (read ++ take c.loop.filled c.loop.buffer, so_far.1.1)

pub at_end-requires : goal.at_end-requires
at_end-requires g c =
    let so_far = c.loop.invariant.so_far c.requires.taken.0 c.requires.taken.1 in
    let t = so_far.1.0 in
    omega (arith, t.count_is, t.spells.valid.count)

pub take_records-requires : goal.take_records-requires
take_records-requires g c =
    let so_far = c.loop.invariant.so_far c.requires.taken.0 c.requires.taken.1 in
    (c.requires.taken.0 ++ so_far.0, so_far.1.0)

use Rattle.std.proofs.Common.{◌≡◌, ℕ, ◌+◌, ◌-◌, ◌*◌, ◌/◌, ◌++◌, List, length, take, drop, sym, ap, subst, ◌∙◌, arith}
use Rattle.std.proofs.lemmas.List.{append_assoc, take-append-drop, drop-take, take-take}
use Rattle.std.proofs.lemmas.Result.{err_from_is_err_and}
use Rattle.log_store.specs.Fault.{Refuses}
use Rattle.log_store.specs.Scan.{HasTaken}
use Rattle.log_store.proofs.scan.take_records.Goals as goal

-- the first records, the next one, and the rest
parts : (bytes rest : List ℕ) (i : ℕ) → take (64 * i) bytes
    ++ (take (64 * i + 64 - 64 * i) (drop (64 * i) bytes) ++ (drop 64 (drop (64 * i) bytes) ++ rest)) ≡ bytes ++ rest
parts bytes rest i =
    let wide : 64 * i + 64 - 64 * i ≡ 64 = omega arith in
    let behind = drop (64 * i) bytes in
    ap (λ n. take (64 * i) bytes ++ (take n behind ++ (drop 64 behind ++ rest))) wide
    ∙ ap (λ (bs : List ℕ). take (64 * i) bytes ++ bs)
    (sym (append_assoc (take 64 behind) (drop 64 behind) rest)
    ∙ ap (λ (bs : List ℕ). bs ++ rest) (take-append-drop 64 behind))
    ∙ sym (append_assoc (take (64 * i) bytes) behind rest)
    ∙ ap (λ (bs : List ℕ). bs ++ rest) (take-append-drop (64 * i) bytes)

-- the first records and the next one
further : (bytes : List ℕ) (i : ℕ) → take (64 * i) bytes ++ take (64 * i + 64 - 64 * i) (drop (64 * i) bytes)
    ≡ take (64 * (i + 1)) bytes
further bytes i =
    let wide : 64 * i + 64 - 64 * i ≡ 64 = omega arith in
    let next : 64 * i + 64 ≡ 64 * (i + 1) = omega arith in
    ap (λ n. take (64 * i) bytes ++ take n (drop (64 * i) bytes)) wide
    ∙ ap (λ (bs : List ℕ). take (64 * i) bytes ++ bs) (sym (drop-take (64 * i) 64 bytes))
    ∙ ap (λ (bs : List ℕ). bs ++ drop (64 * i) (take (64 * i + 64) bytes))
    (sym (take-take (64 * i) (64 * i + 64) bytes (omega arith)))
    ∙ take-append-drop (64 * i) (take (64 * i + 64) bytes) ∙ ap (λ n. take n bytes) next

pub returns-in_err-take_record-clause-first : goal.returns-in_err-take_record-clause-first
returns-in_err-take_record-clause-first g c =
    let p = err_from_is_err_and c.from_residual.result c.from_residual.ensures.1 in
    rw (p.1, p.2) (λ given rest taken.
    let bytes = c.args.bytes.now in
    let i = c.loop-i.i in
    let so_far = take (64 * i) bytes in
    let fault = c.in_err-take_record.field-0.0 in
    subst (λ (input : List ℕ). Refuses input fault)
    (append_assoc given so_far _ ∙ ap (λ (bs : List ℕ). given ++ bs) (parts bytes rest i))
    (c.in_err-take_record.ensures.first (given ++ so_far) (drop 64 (drop (64 * i) bytes) ++ rest)
    (c.loop-i.invariant given taken)))

pub returns-in_err-take_record-clause-stopped : goal.returns-in_err-take_record-clause-stopped
returns-in_err-take_record-clause-stopped g c =
    let p = err_from_is_err_and c.from_residual.result c.from_residual.ensures.1 in
    rw (p.1, p.2) (λ given taken behind.
    let holds = g.S.RecordSink.holds in
    let i = c.loop-i.i in
    let read = given ++ take (64 * i) c.args.bytes.now in
    let same = c.in_err-take_record.ensures.stopped behind in
    record {
      more = i;
      taken = subst (λ made. HasTaken holds c.args.format c.take_record.new.sink made (c.args.count + i) read)
          (sym same.1)
          (subst (λ sink. HasTaken holds c.args.format sink c.loop-i.history (c.args.count + i) read) (sym same.0)
          (c.loop-i.invariant given taken));
      at = same.2;
    })

pub loop-i-preserved : goal.loop-i-preserved
loop-i-preserved g c = λ given taken.
    let bytes = c.args.bytes.now in
    let i = c.loop-i.i in
    let sink = c.take_record.new.sink in
    let made = c.take_record.new.history in
    let next = c.in_ok-take_record.ensures.ok (given ++ take (64 * i) bytes) (c.loop-i.invariant given taken) in
    let count : c.args.count + i + 1 ≡ c.args.count + (i + 1) = omega arith in
    subst (λ (n : ℕ). HasTaken g.S.RecordSink.holds c.args.format sink made n (given ++ take (64 * (i + 1)) bytes)) count
    (subst (HasTaken g.S.RecordSink.holds c.args.format sink made (c.args.count + i + 1))
    (append_assoc given (take (64 * i) bytes) _ ∙ ap (λ (bs : List ℕ). given ++ bs) (further bytes i)) next)

pub returns-clause-ok : goal.returns-clause-ok
returns-clause-ok g c = λ given taken.
    let bytes = c.args.bytes.now in
    let past = c.loop-i-test.false in
    let all : c.loop-i.i ≡ length bytes / 64 = omega (arith, c.loop-i.auto.i-end) in
    subst (λ (n : ℕ). HasTaken g.S.RecordSink.holds c.args.format c.loop-i.sink c.loop-i.history (c.args.count + n)
    (given ++ take (64 * n) bytes)) all (c.loop-i.invariant given taken)

pub take_record-requires-clause-so_far : goal.take_record-requires-clause-so_far
take_record-requires-clause-so_far g c =
    (c.requires.0 ++ take (64 * c.loop-i.i) c.args.bytes.now, c.loop-i.invariant c.requires.0 c.requires.1)

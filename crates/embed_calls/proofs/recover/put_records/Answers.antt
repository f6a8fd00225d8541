use Rattle.std.proofs.Common.{◌≡◌, ◌+◌, ◌-◌, ◌*◌, ◌++◌, ◌∷◌, [], ℕ, List, length, take, sym, ap, ◌∙◌, arith}
use Rattle.std.specs.List.{flat_map}
use Rattle.std.proofs.lemmas.List.{take_more, append-nil}
use Rattle.std.proofs.lemmas.List.Concat.{flat_map-append}
use Rattle.std.proofs.lemmas.Slice.{take-put_mid}
use Rattle.log_records.specs.declared.record.Record.{Record}
use Rattle.log_records.specs.Record.{record_bytes}
use Rattle.embed_calls.proofs.recover.put_records.Goals as goal

pub loop-i-preserved : goal.loop-i-preserved
loop-i-preserved c =
    let i = c.loop-i.i in
    let records = c.args.records.now in
    let next = c.index-records-i.result in
    let written : c.put_record.new.bytes ≡ record_bytes next = c.put_record.ensures in
    let wide : length c.put_record.new.bytes ≡ 64 = omega arith in
    let bytes_of = flat_map record_bytes in
    let fits = c.requires in
    let more : bytes_of (take (i + 1) records) ≡ bytes_of (take i records) ++ record_bytes next =
    ap bytes_of (take_more records i next c.loop-i-test.true
    ∙ ap (λ (r : Record). take i records ++ r ∷ []) (sym c.index-records-i.is))
    ∙ flat_map-append record_bytes (take i records) (next ∷ [])
    ∙ ap (λ (bs : List ℕ). bytes_of (take i records) ++ bs) (append-nil (record_bytes next)) in
    record {
      bytes = take-put_mid (64 * i) (64 * i + 64 - 64 * i) c.loop-i.room c.put_record.new.bytes (64 * (i + 1))
          (omega arith) (omega arith)
          ∙ ap (λ (bs : List ℕ). bs ++ c.put_record.new.bytes) c.loop-i.invariant.bytes
          ∙ ap (λ (bs : List ℕ). bytes_of (take i records) ++ bs) written ∙ sym more;
    }

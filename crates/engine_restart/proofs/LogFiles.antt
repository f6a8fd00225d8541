-- A log that was found in the bytes that a device is known to have.
use Rattle.std.proofs.Common.{◌≡◌, ◌*◌, ◌+◌, ◌≤◌, ℕ, List, ap, arith, length, take, ◌∙◌}
use Rattle.std.specs.List.{flat_map}
use Rattle.std.specs.Prelude.{Result, Ok, Err, OnOk}
use Rattle.std.proofs.lemmas.List.{length-append, length-take, take_all}
use Rattle.page_core.proofs.Public.{length-pieces}
use Rattle.page_core.specs.declared.format.Format.TheVariants.{Second}
use Rattle.log_records.specs.Log.{Log, SpellsLog, header_in, log_bytes, lsn_of}
use Rattle.log_records.specs.Record.{record_bytes}
use Rattle.log_records.proofs.Public.{length-header, length-log, record_length}
use Rattle.engine_restart.specs.Restart.{HasLasting}

pub has_lasting : {D : Type 0} (bytes : D → List ℕ) (lasting : D → ℕ) (log : Log) (device : D) (known : List ℕ)
    → bytes device ≡ known → lasting device ≡ length known
    → take (lsn_of (length log.records)) known ≡ log_bytes log
    → SpellsLog log (take (lsn_of (length log.records)) known) → HasLasting bytes lasting log device
has_lasting bytes lasting log device known has lasts spelled spells =
    let end = lsn_of (length log.records) in
    let front = take end known in
    let long : length front ≡ 64 * (length log.records + 1) = length-log log front spells in
    record {
      holds = ap (take end) has ∙ spelled;
      lasts = omega (arith, long, lasts, length-take end known);
    }

length-log_bytes : (log : Log) → length (log_bytes log) ≡ 64 * (length log.records + 1)
length-log_bytes log =
    length-append (header_in Second log.pages) (flat_map record_bytes log.records)
    ∙ omega (arith, length-header Second log.pages, length-pieces record_bytes 64 record_length log.records)

-- bytes of which the first ones are a log's are enough for that
pub front_there : (log : Log) (bytes : List ℕ) → take (lsn_of (length log.records)) bytes ≡ log_bytes log
    → lsn_of (length log.records) ≤ length bytes
front_there log bytes spelled =
    omega (
      arith,
      length-take (lsn_of (length log.records)) bytes,
      ap length spelled,
      length-log_bytes log,
    )

-- a device that is known to have just the log has it, and all of it lasts
pub has_alone : {D : Type 0} (bytes : D → List ℕ) (lasting : D → ℕ) (log : Log) (device : D) (front : List ℕ)
    → bytes device ≡ front → lasting device ≡ length front → front ≡ log_bytes log
    → HasLasting bytes lasting log device
has_alone bytes lasting log device front has lasts is =
    let end = lsn_of (length log.records) in
    let long : length (log_bytes log) ≡ 64 * (length log.records + 1) = length-log_bytes log in
    record {
      holds = ap (take end) (has ∙ is) ∙ take_all end (log_bytes log) (omega (arith, long));
      lasts = omega (arith, lasts, ap length is, long);
    }

pub both_ok : {T E : Type 0} (r : Result T E) (P Q R : Type 0) → (P → Q → R) → OnOk r P → OnOk r Q → OnOk r R
both_ok (Ok value) P Q R more p q = more p q
both_ok (Err why) P Q R more p q = tt

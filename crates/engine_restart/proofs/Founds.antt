-- The log in the bytes of a device's file is one of the second format, or not.
use Rattle.std.proofs.Common.{ℕ, ◌≡◌, List, length, take, ap, sym, ◌∙◌, arith}
use Rattle.std.specs.Prelude.{Some, None}
use Rattle.std.proofs.lemmas.List.{take-take}
use Rattle.page_core.specs.declared.format.Format.{Format}
use Rattle.page_core.specs.declared.format.Format.TheVariants.{Second}
use Rattle.log_records.specs.Log.{HasHeader, Log, SpellsLog, bytes_in, format_in, log_bytes, lsn_of}
use Rattle.log_records.proofs.Public.{format_in-take, format_of_log, header_of_log}

pub in_second : (log : Log) (bytes : List ℕ) → SpellsLog log (take (lsn_of (length log.records)) bytes)
    → format_in bytes ≡ Second → take (lsn_of (length log.records)) bytes ≡ log_bytes log
in_second log bytes spells second =
    let end = lsn_of (length log.records) in
    let is : spells.format ≡ Second =
    sym (format_of_log log (take end bytes) spells) ∙ format_in-take end bytes (omega arith) ∙ second in
    spells.spelled ∙ ap (λ (f : Format). bytes_in f log) is

pub header_in_front : (log : Log) (bytes : List ℕ) → (spells : SpellsLog log (take (lsn_of (length log.records)) bytes))
    → HasHeader spells.format log.pages bytes
header_in_front log bytes spells =
    let end = lsn_of (length log.records) in
    let header = header_of_log log (take end bytes) spells in
    record {
      count = spells.valid.pages;
      spelled = sym (take-take 64 end bytes (omega arith)) ∙ header;
    }

pub none_some : {X : Type 0} (x : X) → ¬ (None ≡ Some x)
none_some x e = cc

-- A log and its tail.
use Rattle.std.proofs.Common.{◌≡◌, ◌∙◌, ℕ, List, [], ◌++◌, append_assoc, take, ap, sym}
use Rattle.std.proofs.Common.{Bool, true, false, cond, length, ◌∷◌}
use Rattle.std.specs.List.{flat_map, fold}
use Rattle.std.proofs.lemmas.List.Elements.{All-push}
use Rattle.std.proofs.lemmas.List.Concat.{flat_map-append}
use Rattle.page_core.specs.declared.format.Format.{Format}
use Rattle.page_core.specs.declared.format.Format.TheVariants.{First, Second}
use Rattle.page_core.proofs.Public.{length-pieces}
use Rattle.log_records.specs.declared.record.Record.{Record}
use Rattle.log_records.specs.declared.record.Record.TheVariants.{End}
use Rattle.log_records.specs.Log.{AreOfFormat, IsOfFormat, Log, bytes_in, header_in, lsn_of}
use Rattle.log_records.specs.Record.{record_bytes}
use Rattle.log_records.proofs.Public.{record_length}
use Rattle.log_rules.specs.Transactions.{last_lsn, open_in}
use Rattle.loser_undo.specs.Recovery.{appended}
use Rattle.loser_undo.specs.Undo.{LostChange, after_undo, comp_of, end_of, is_undone, lost_changes, spent, taken_back}
use Rattle.loser_undo.specs.Undo.{with_comp, with_end}
use Rattle.loser_undo.proofs.Public.{log_and_appended, undo_closes, undo_is_linked, undone_fits}
use Rattle.embed_calls.specs.declared.outcome.Outcome.{Outcome}
use Rattle.embed_calls.specs.Calls.{IsLogOf}
use Rattle.embed_calls.specs.Recovered.{IsRecovered}

pub closed : (bytes volume made tail undo : List ℕ) (it : Outcome)
    → (found : IsRecovered bytes volume made tail undo it) → open_in (after_undo found.log.records) ≡ []
closed bytes volume made tail undo it found = undo_closes found.log found.of_log.spells.valid found.of_log.linked

-- the front of the second room is the spelling of the records of undo
tail_is : (bytes volume made tail undo : List ℕ) (it : Outcome) → (found : IsRecovered bytes volume made tail undo it)
    → take it.second undo ≡ flat_map record_bytes (appended found.log)
tail_is bytes volume made tail undo it found =
    let long = length-pieces record_bytes 64 record_length (appended found.log) in
    ap (λ (o : Outcome). take o.second undo) found.counts ∙ ap (λ (n : ℕ). take n undo) (sym long)
    ∙ found.put.of_records.front

joined : (format : Format) (log : Log)
    → bytes_in format log ++ flat_map record_bytes (appended log)
    ≡ bytes_in format (record log { records = after_undo log.records })
joined format log =
    append_assoc (header_in format log.pages) (flat_map record_bytes log.records) (flat_map record_bytes (appended log))
    ∙ ap (λ (bs : List ℕ). header_in format log.pages ++ bs)
    (sym (flat_map-append record_bytes log.records (appended log))
    ∙ ap (λ (rs : List Record). flat_map record_bytes rs) (log_and_appended log))

-- undo appends Ends and compensations, and these are records of both formats
of_end : (format : Format) (lsn txn prev : ℕ) → IsOfFormat format (End lsn txn prev)
of_end First lsn txn prev = tt
of_end Second lsn txn prev = tt

of_comp : (format : Format) (rs : List Record) (l : LostChange) → IsOfFormat format (comp_of rs l)
of_comp First rs l = tt
of_comp Second rs l = tt

end_appended : (format : Format) (rs : List Record) (txn : ℕ) → AreOfFormat format rs
    → AreOfFormat format (with_end rs txn)
end_appended format rs txn all =
    All-push (IsOfFormat format) rs (end_of rs txn) all (of_end format (lsn_of (length rs)) txn (last_lsn rs txn))

back_taken : (format : Format) (rs : List Record) (l : LostChange) → AreOfFormat format rs
    → AreOfFormat format (taken_back rs l)
unfolding taken_back
back_taken format rs l all = by (is_undone (with_comp rs l) l.txn)
  where
    after : AreOfFormat format (with_comp rs l)
    after = All-push (IsOfFormat format) rs (comp_of rs l) all (of_comp format rs l)

    by : (b : Bool) → AreOfFormat format (cond b (with_end (with_comp rs l) l.txn) (with_comp rs l))
    by true = end_appended format (with_comp rs l) l.txn after
    by false = after

along : {X : Type 0} (format : Format) (f : List Record → X → List Record)
    → ((rs : List Record) (x : X) → AreOfFormat format rs → AreOfFormat format (f rs x)) → (rs : List Record)
    → (xs : List X) → AreOfFormat format rs → AreOfFormat format (fold f rs xs)
along format f keeps rs [] all = all
along format f keeps rs (x ∷ xs) all = along format f keeps (f rs x) xs (keeps rs x all)

undone_format : (format : Format) (rs : List Record) → AreOfFormat format rs → AreOfFormat format (after_undo rs)
unfolding after_undo
undone_format format rs all =
    along format taken_back (back_taken format) (fold with_end rs (spent rs)) (lost_changes rs)
    (along format with_end (end_appended format) rs (spent rs) all)

pub goes_on : (bytes volume made tail undo : List ℕ) (it : Outcome)
    → (found : IsRecovered bytes volume made tail undo it)
    → IsLogOf (bytes ++ take it.second undo) (record found.log { records = after_undo found.log.records })
goes_on bytes volume made tail undo it found =
    let log = found.log in
    let spells = found.of_log.spells in
    record {
      spells = record {
        valid = undone_fits log spells.valid found.of_log.linked found.room;
        format = spells.format;
        of_format = undone_format spells.format log.records spells.of_format;
        spelled = ap (λ (bs : List ℕ). bytes ++ bs) (tail_is bytes volume made tail undo it found)
            ∙ ap (λ (bs : List ℕ). bs ++ flat_map record_bytes (appended log)) spells.spelled
            ∙ joined spells.format log;
      };
      linked = undo_is_linked log spells.valid found.of_log.linked;
    }

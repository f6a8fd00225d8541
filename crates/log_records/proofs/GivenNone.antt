-- Records that give the volume no page count.
use Rattle.std.proofs.Common.{◌≡◌, ℕ, [], ◌∷◌, refl, ap, ◌∙◌}
use Rattle.std.specs.Prelude.{Option, None}
use Rattle.std.specs.Option.{option_map_or}
use Rattle.log_records.specs.declared.record.Record.{Record}
use Rattle.log_records.specs.declared.record.Record.TheVariants.{Begin, Update, Comp, Commit, Abort, End, BeginChkpt}
use Rattle.log_records.specs.declared.record.Record.TheVariants.{ChkptPages, ChkptTxns, EndChkpt}
use Rattle.log_records.specs.Log.{Log, page_count, with_next}
use Rattle.log_records.specs.PageCount.{given_count}
use Rattle.log_records.specs.Record.{IsOfCheckpoint, IsOfTransaction}
use Rattle.log_records.proofs.PageCounts.{page_count-push}
use Rattle.std.specs.Prelude.{max}

pub transaction_gives_none : (r : Record) → IsOfTransaction r → given_count r ≡ None
transaction_gives_none (Begin lsn txn) of = refl
transaction_gives_none (Update lsn txn prev page slot change) of = refl
transaction_gives_none (Comp lsn txn prev undo_next page slot change) of = refl
transaction_gives_none (Commit lsn txn prev) of = refl
transaction_gives_none (Abort lsn txn prev) of = refl
transaction_gives_none (End lsn txn prev) of = refl
transaction_gives_none other of = absurd of

pub checkpoint_gives_none : (r : Record) → IsOfCheckpoint r → given_count r ≡ None
checkpoint_gives_none (BeginChkpt lsn) of = refl
checkpoint_gives_none (ChkptPages lsn begin pages) of = refl
checkpoint_gives_none (ChkptTxns lsn begin txn state last undo_next) of = refl
checkpoint_gives_none (EndChkpt lsn begin redo) of = refl
checkpoint_gives_none other of = absurd of

-- a log with such a record more has the page count that it had
pub page_count-same : (log : Log) (r : Record) → given_count r ≡ None
    → page_count (with_next log (r ∷ [])) ≡ page_count log
page_count-same log r none =
    page_count-push log r ∙ ap (λ (g : Option ℕ). option_map_or (max (page_count log)) g (page_count log)) none

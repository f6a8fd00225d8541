-- A complete checkpoint begins a tail of its log.
use Rattle.std.proofs.Common.{◌≡◌, ℕ, ◌<◌, List, [], ◌∷◌, ◌++◌, length, get_or, take, drop, sym, ap, subst, ◌∙◌, arith, suc, drop-cons}
use Rattle.std.specs.Prelude.{Option, Some, None, IfSome, IsSomeAnd}
use Rattle.std.proofs.Common.{append_assoc}
use Rattle.std.specs.List.{Contains, fold}
use Rattle.std.proofs.lemmas.List.{append-nil, get_or_append_left, length-append, take-append-drop}
use Rattle.std.proofs.lemmas.List.Elements.{Contains-append_left, Contains-push}
use Rattle.log_records.specs.declared.record.Record.{Record}
use Rattle.log_records.specs.declared.record.Record.TheVariants.{Begin, Update, Comp, Commit, Abort, End, BeginChkpt}
use Rattle.log_records.specs.declared.record.Record.TheVariants.{ChkptPages, ChkptTxns, EndChkpt, Extend}
use Rattle.log_records.specs.Log.{IsLog, Log, lsn_of}
use Rattle.log_records.specs.Record.{own_lsn}
use Rattle.log_rules.specs.Checkpoint.{Checkpoint, IsCompleteCheckpoint, checkpoint_after, open_checkpoint}
use Rattle.log_rules.specs.Linked.{IsLinked}
use Rattle.std.specs.Prelude.{IfOk, Ok, Err}
use Rattle.std.proofs.Common.{Global, Result, Vec}
use Rattle.loser_undo.specs.declared.tail.OpenTxn.{OpenTxn}
use Rattle.loser_undo.specs.Tail.{IsTailOf, open_txns}

-- the BeginChkpt of an open checkpoint stands among the records
abbrev HasBegin : List Record → Option Checkpoint → Type 0
HasBegin rs o = IfSome o (λ c. Contains rs (BeginChkpt c.begin))

begin_step : (rs : List Record) (r : Record) (o : Option Checkpoint) → HasBegin rs o
    → HasBegin (rs ++ r ∷ []) (checkpoint_after o r)
begin_step rs (BeginChkpt lsn) o has = Contains-push rs (BeginChkpt lsn)
begin_step rs (ChkptPages lsn begin pages) None has = tt
begin_step rs (ChkptPages lsn begin pages) (Some c) has = Contains-append_left rs _ (BeginChkpt c.begin) has
begin_step rs (ChkptTxns lsn begin t state last undo) None has = tt
begin_step rs (ChkptTxns lsn begin t state last undo) (Some c) has = Contains-append_left rs _ (BeginChkpt c.begin) has
begin_step rs (EndChkpt lsn begin redo) o has = tt
begin_step rs (Extend lsn pages) None has = tt
begin_step rs (Extend lsn pages) (Some c) has = Contains-append_left rs _ (BeginChkpt c.begin) has
begin_step rs (Begin lsn u) None has = tt
begin_step rs (Begin lsn u) (Some c) has = Contains-append_left rs _ (BeginChkpt c.begin) has
begin_step rs (Update lsn u prev page slot change) None has = tt
begin_step rs (Update lsn u prev page slot change) (Some c) has = Contains-append_left rs _ (BeginChkpt c.begin) has
begin_step rs (Comp lsn u prev undo page slot change) None has = tt
begin_step rs (Comp lsn u prev undo page slot change) (Some c) has = Contains-append_left rs _ (BeginChkpt c.begin) has
begin_step rs (Commit lsn u prev) None has = tt
begin_step rs (Commit lsn u prev) (Some c) has = Contains-append_left rs _ (BeginChkpt c.begin) has
begin_step rs (Abort lsn u prev) None has = tt
begin_step rs (Abort lsn u prev) (Some c) has = Contains-append_left rs _ (BeginChkpt c.begin) has
begin_step rs (End lsn u prev) None has = tt
begin_step rs (End lsn u prev) (Some c) has = Contains-append_left rs _ (BeginChkpt c.begin) has

begins_among : (rs more : List Record) (o : Option Checkpoint) → HasBegin rs o
    → HasBegin (rs ++ more) (fold checkpoint_after o more)
begins_among rs [] o has = subst (λ (xs : List Record). HasBegin xs o) (sym (append-nil rs)) has
begins_among rs (r ∷ more) o has =
    subst (λ (xs : List Record). HasBegin xs (fold checkpoint_after (checkpoint_after o r) more))
    (append_assoc rs (r ∷ []) more)
    (begins_among (rs ++ r ∷ []) more (checkpoint_after o r) (begin_step rs r o has))

begin_in : (rs : List Record) (o : Option Checkpoint) (begin : ℕ) → HasBegin rs o → IsSomeAnd o (λ c. c.begin ≡ begin)
    → Contains rs (BeginChkpt begin)
begin_in rs None begin has is = absurd is
begin_in rs (Some c) begin has is = subst (λ n. Contains rs (BeginChkpt n)) is has

-- where the record with this LSN stands
pub place_of_begin : (log : Log) (begin end : ℕ) → IsLog log → IsCompleteCheckpoint log.records begin end
    → (n : ℕ) × (n < length log.records) × (get_or log.records n (BeginChkpt begin) ≡ BeginChkpt begin)
    × (begin ≡ lsn_of n)
place_of_begin log begin end valid complete =
    let first = BeginChkpt begin in
    let r = EndChkpt end begin complete.redo in
    let before = complete.before in
    let found = begin_in before (open_checkpoint before) begin (begins_among [] before None tt) complete.begun in
    let n = found.0 in
    let long = ap length complete.ended ∙ length-append before (r ∷ complete.behind) in
    let lt : n < length log.records = omega (arith, long, found.1) in
    let is : get_or log.records n first ≡ first =
    ap (λ (xs : List Record). get_or xs n first) complete.ended
    ∙ get_or_append_left before (r ∷ complete.behind) first n found.1 ∙ found.2 in
    let stands = valid.records n first lt in
    (n, lt, is, sym (ap own_lsn is) ∙ stands.lsn)

pub tail_from : (log : Log) (begin end n : ℕ) → IsLog log → IsLinked log.records
    → IsCompleteCheckpoint log.records begin end → begin ≡ lsn_of n → IsTailOf log (drop n log.records)
tail_from log begin end n valid linked complete at =
    let rs = log.records in
    let first = BeginChkpt begin in
    let place = place_of_begin log begin end valid complete in
    let m = place.0 in
    let same : m ≡ n = omega (arith, at, place.3) in
    let lt : n < length rs = omega (arith, same, place.1) in
    let is : get_or rs n first ≡ first = subst (λ k. get_or rs k first ≡ first) same place.2 in
    record {
      valid = valid;
      linked = linked;
      before = take n rs;
      behind = drop (suc n) rs;
      begin = begin;
      end = end;
      is = sym (take-append-drop n rs);
      begins = drop-cons rs n first lt ∙ ap (λ (x : Record). x ∷ drop (suc n) rs) is;
      complete = complete;
    }

-- what is told by a tail of a log is told of the log
pub told_to : {E : Type 0} (result : Result (Vec OpenTxn Global) E) (log : Log) (tail : List Record) → IsTailOf log tail
    → IfOk result (λ v. (l : Log) → IsTailOf l tail → v.items ≡ open_txns l.records)
    → IfOk result (λ v. v.items ≡ open_txns log.records)
told_to (Ok v) log tail of all = all log of
told_to (Err e) log tail of all = tt

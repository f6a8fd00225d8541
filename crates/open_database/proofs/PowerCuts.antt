-- What is read of a disk after a loss of power.
use Rattle.std.proofs.Common.{◌≡◌, ◌<◌, ◌≤◌, ◌++◌, ℕ, List, [], ◌∷◌, length, take, drop, get_or, sym, ap, subst, refl}
use Rattle.std.proofs.Common.{◌∙◌, arith, append-nil, append_assoc, eq-eqb, eqb, length-append, suc}
use Rattle.std.specs.Prelude.{Bool, true, false, ◌&&◌, ◌||◌, not, reverse}
use Rattle.std.specs.List.{filter, list_any}
use Rattle.std.proofs.Math.Seq.{get_or-append_seam, split_at, take-append_seam}
use Rattle.std.proofs.lemmas.List.{get_or-take, length-take, length_push, take-append-drop, take-append-le, take-take}
use Rattle.std.proofs.lemmas.List.Elements.{filter-append}
use Rattle.std.proofs.lemmas.List.Folds.{list_any-append}
use Rattle.page_core.specs.declared.page.Page.{Page}
use Rattle.log_records.specs.declared.record.Record.{Record}
use Rattle.log_records.specs.declared.record.Record.TheVariants as log
use Rattle.log_records.specs.Coverage.{Covers}
use Rattle.log_records.specs.Log.{IsLog, Log, lsn_of}
use Rattle.log_records.specs.Record.{own_lsn}
use Rattle.log_records.proofs.Public.{covers_later, resume_covering, stands_in}
use Rattle.log_rules.specs.Transactions.{begun, is_last, records_of, txn_of}
use Rattle.log_rules.proofs.Public.{filter_push_in}
use Rattle.log_rules.specs.Linked.{IsLinked}
use Rattle.log_store.specs.WrittenLog.{AreForced, IsWritten, WrittenLog, first_records}
use Rattle.log_prefix.specs.Front.{IsLongestFront}
use Rattle.file_devices.specs.FileLog.{IsTrusted, LogOnDisk, bytes_of, synced_of}
use Rattle.file_devices.specs.TrackedDisk.{Begins, BeginsEach}
use Rattle.copy_vault.specs.Chain.{content}
use Rattle.copy_vault.specs.Copy.{CopyView}
use Rattle.copy_vault.specs.Vault.{complete, state_of}
use Rattle.copy_coverage.specs.Copied.{AreRestorable, Restores}
use Rattle.copy_coverage.specs.Kept.{IsKeptOf}
use Rattle.copy_coverage.proofs.Public.{covers_kept}
use Rattle.engine_rules.specs.AnsweredCommits.{AnsweredCommit, StandsIn}
use Rattle.engine_rules.specs.EngineState.{EngineState, IsFit, log_of}
use Rattle.engine_rules.proofs.Public.{IsForcedIn}
use Rattle.open_database.specs.PowerCuts.{BeginsWith, HasForced, IsCommittedIn, MayBeRead}

-- ---- the bytes below the forced end

-- a content that begins with the synced bytes has them
pub forced_bytes : {D : Type 0} (device : LogOnDisk D) (left : List ℕ) (end : ℕ) → length (synced_of device) ≡ device.end
    → end ≤ device.end → Begins (synced_of device) left → take end left ≡ take end (bytes_of device)
forced_bytes device left end counted low begins =
    let synced = synced_of device in
    let under : end ≤ length synced = omega (arith, counted, low) in
    sym (take-take end (length synced) left under) ∙ ap (take end) begins
    ∙ sym (take-append-le end synced device.waiting under)

-- ---- a Commit that stands in a log

either : (a b : Bool) → ((a || true) || b) ≡ true
either true b = refl
either false b = refl

found_among : (q p : Record → Bool) (before behind : List Record) (r : Record) → q r ≡ true → p r ≡ true
    → list_any p (filter q (before ++ r ∷ behind)) ≡ true
found_among q p before behind r passes is =
    let here : list_any p (r ∷ []) ≡ true = ap (λ b. b || false) is in
    ap (λ rs. list_any p (filter q rs)) (sym (append_assoc before (r ∷ []) behind))
    ∙ ap (list_any p) (filter-append q (before ++ r ∷ []) behind)
    ∙ ap (λ rs. list_any p (rs ++ filter q behind)) (filter_push_in q before r passes)
    ∙ list_any-append p (filter q before ++ r ∷ []) (filter q behind)
    ∙ ap (λ b. b || list_any p (filter q behind)) (list_any-append p (filter q before) (r ∷ []))
    ∙ ap (λ b. (list_any p (filter q before) || b) || list_any p (filter q behind)) here
    ∙ either (list_any p (filter q before)) (list_any p (filter q behind))

never_open : (a b : Bool) → b ≡ true → (a && not b) ≡ false
never_open true b is = ap not is
never_open false b is = refl

-- its transaction is not open
pub committed_in : (rs : List Record) (commit : AnsweredCommit) → StandsIn rs commit → IsCommittedIn rs commit
committed_in rs commit stands =
    let r = log.Commit commit.lsn commit.txn stands.prev in
    let i = stands.place in
    let split : rs ≡ take i rs ++ r ∷ drop (suc i) rs =
    split_at rs i r stands.within ∙ ap (λ x. take i rs ++ x ∷ drop (suc i) rs) (stands.is r) in
    let test = λ (x : Record). eqb (txn_of x) commit.txn in
    let ended : list_any is_last (records_of rs commit.txn) ≡ true =
    ap (λ xs. list_any is_last (filter test xs)) split
    ∙ found_among test is_last (take i rs) (drop (suc i) rs) r (eq-eqb commit.txn commit.txn refl) refl in
    record {
      stands = stands;
      closed = never_open (list_any (λ b. eqb b commit.txn) (begun rs)) (list_any is_last (records_of rs commit.txn)) ended;
    }

-- ---- a log that has each forced record

module _ (s : EngineState) (front : Log) (has : HasForced s front) where
  same_records : take has.count front.records ≡ take has.count s.log
  same_records = ap (λ (l : Log). l.records) has.same

  pub long_enough : has.count ≤ length front.records
  long_enough =
      let there = has.there in
      omega (arith, ap length same_records, length-take has.count s.log, length-take has.count front.records, there)

  pub front_stands : (commit : AnsweredCommit) → IsForcedIn s commit → StandsIn front.records commit
  front_stands commit (stands, below) =
      let end = has.end in
      let at = stands.at_lsn in
      let past : stands.place < has.count = omega (arith, at, below, end) in
      record {
        place = stands.place;
        within = omega (arith, past, long_enough);
        at_lsn = stands.at_lsn;
        prev = stands.prev;
        is = λ d.
            sym (get_or-take has.count front.records stands.place d past)
            ∙ ap (λ rs. get_or rs stands.place d) same_records
            ∙ get_or-take has.count s.log stands.place d past ∙ stands.is d;
      }

  -- where the engine wrote all of it, a crash may leave it
  pub kept_if_written : BeginsWith front (log_of s) → IsKeptOf (log_of s) s.forced_end front
  kept_if_written (more, all) =
      let end = has.end in
      let records : s.log ≡ front.records ++ more = ap (λ (l : Log). l.records) all in
      let pages : s.pages ≡ front.pages = ap (λ (l : Log). l.pages) all in
      record {
        count = length front.records;
        within = omega (arith, ap length records, length-append front.records more);
        forced = omega (arith, end, long_enough);
        made = sym (ap (λ n. record { pages = n; records = take (length front.records) s.log }) pages
            ∙ ap (λ rs. record { pages = front.pages; records = rs })
            (ap (take (length front.records)) records ∙ take-append_seam front.records more));
      }

-- ---- copies

-- redo of a longer log makes a page that lacks nothing of the log so far what that log makes of it
covers_more : (whole : Log) (p : ℕ) (page : Page) (bound : ℕ) (rs more : List Record) → whole.records ≡ rs ++ more
    → IsLog whole → bound ≤ lsn_of (length rs) → Covers rs p page bound → Covers whole.records p page bound
covers_more whole p page bound rs [] all valid low covers =
    subst (λ (xs : List Record). Covers xs p page bound) (sym (all ∙ append-nil rs)) covers
covers_more whole p page bound rs (r ∷ more) all valid low covers =
    let split : whole.records ≡ (rs ++ r ∷ []) ++ more = all ∙ sym (append_assoc rs (r ∷ []) more) in
    let within : length rs < length whole.records = omega (arith, ap length all, length-append rs (r ∷ more)) in
    let here : get_or whole.records (length rs) r ≡ r =
    ap (λ (xs : List Record). get_or xs (length rs) r) all ∙ get_or-append_seam rs r more r in
    let at : lsn_of (length rs) ≡ own_lsn r =
    sym (stands_in whole valid (length rs) r within).lsn ∙ ap own_lsn here in
    covers_more whole p page bound (rs ++ r ∷ []) more split valid (omega (arith, low, length_push rs r))
    (covers_later rs r p page bound (omega (arith, low, at)) covers)

-- the forced records alone are what a crash may leave
pub forced_alone : (s : EngineState) (front : Log) (has : HasForced s front)
    → IsKeptOf (log_of s) s.forced_end (first_records has.count (log_of s))
forced_alone s front has =
    let end = has.end in
    record { count = has.count; within = has.there; forced = omega (arith, end); made = refl }

-- a copy that restores these restores each log that begins with them
pub front_restores : (s : EngineState) (front whole : Log) (id : ℕ) (copy : CopyView) → IsFit s → HasForced s front
    → BeginsWith front whole → IsLog whole → state_of s.copies id ≡ complete copy
    → AreRestorable (log_of s) s.forced_end s.copies
    → ((kept : Log) → IsKeptOf (log_of s) s.forced_end kept → Restores s.copies copy kept.records)
    → Restores s.copies copy whole.records
front_restores s front whole id copy fit has (more, longer) valid is restorable each =
    let forced = take has.count s.log in
    let restores = each (first_records has.count (log_of s)) (forced_alone s front has) in
    let first : forced ≡ take has.count front.records = sym (same_records s front has) in
    let rest = drop has.count front.records ++ more in
    let all : whole.records ≡ forced ++ rest =
    ap (λ (l : Log). l.records) longer
    ∙ ap (λ rs. rs ++ more) (sym (take-append-drop has.count front.records))
    ∙ append_assoc (take has.count front.records) (drop has.count front.records) more
    ∙ ap (λ rs. rs ++ rest) (sym first) in
    record {
      older = restores.older;
      stands = restores.stands;
      restored = λ p.
          let page = content (reverse (copy ∷ restores.older)) p in
          let covered = restorable.covered id copy restores.older is restores.stands p in
          let of = restorable.each id copy is in
          let order = of.noted.order in
          let early = of.early in
          let stable = covered.stable in
          let end = has.end in
          let there = has.there in
          resume_covering whole p page copy.redo valid
          (covers_more whole p page copy.redo forced rest all valid
          (omega (arith, order, early, end, there, length-take has.count s.log))
          (covers_kept (log_of s) has.count p page copy.redo fit.valid has.there covered.covers
          (omega (arith, stable, end))));
    }

-- ---- what is read of a disk

module _ {D : Type 0} (may_leave : D → List ℕ → Type 0) (is_clean : D → Bool) (it : WrittenLog (LogOnDisk D)) where
  -- it begins with each forced record, if a front has what a device keeps
  pub read_has_forced : (s : EngineState) (front : Log) → it.log ≡ log_of s → it.forced_end ≡ s.forced_end
      → IsWritten bytes_of it → it.forced_end ≤ it.device.end → IsLinked it.log.records
      → length (synced_of it.device) ≡ it.device.end
      → (IsTrusted is_clean it.device → BeginsEach (synced_of it.device) (may_leave it.device.disk))
      → ((count : ℕ) (left : List ℕ) (log : Log) → AreForced bytes_of it count → IsLinked it.log.records
      → take it.forced_end left ≡ take it.forced_end (bytes_of it.device) → IsLongestFront left log
      → first_records count it.log ≡ first_records count log)
      → MayBeRead may_leave is_clean it.device front → HasForced s front
  read_has_forced s front same end written lasts linked counted begins fronts read =
      let count = written.forced.0 in
      let forced = written.forced.1 in
      record {
        count = count;
        there = subst (λ (l : Log). count ≤ length l.records) same forced.there;
        end = sym end ∙ forced.end;
        same = sym (fronts count read.content front forced linked
            (forced_bytes it.device read.content it.forced_end counted lasts
            (begins read.trusted read.content read.left))
            read.front)
            ∙ ap (first_records count) same;
      }

  -- what is read has all that was forced, where the log and the device are those of an engine
  pub engine_has_forced : (device seen : LogOnDisk D) (s : EngineState) (front : Log) → it.log ≡ log_of s
      → it.forced_end ≡ s.forced_end → it.device ≡ device → seen ≡ it.device → IsWritten bytes_of it
      → it.forced_end ≤ it.device.end → IsLinked s.log
      → length (synced_of seen) ≡ seen.end
      → (IsTrusted is_clean seen → BeginsEach (synced_of seen) (may_leave seen.disk))
      → ((count : ℕ) (left : List ℕ) (log : Log) → AreForced bytes_of it count → IsLinked it.log.records
      → take it.forced_end left ≡ take it.forced_end (bytes_of it.device) → IsLongestFront left log
      → first_records count it.log ≡ first_records count log)
      → MayBeRead may_leave is_clean device front → HasForced s front
  engine_has_forced device seen s front same end on here written lasts linked counted begins fronts read =
      read_has_forced s front same end written lasts (subst (λ (l : Log). IsLinked l.records) (sym same) linked)
      (subst (λ (d : LogOnDisk D). length (synced_of d) ≡ d.end) here counted)
      (subst (λ (d : LogOnDisk D). IsTrusted is_clean d → BeginsEach (synced_of d) (may_leave d.disk)) here begins) fronts
      (subst (λ (d : LogOnDisk D). MayBeRead may_leave is_clean d front) (sym on) read)

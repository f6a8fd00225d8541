-- What lasts of receipts that stand: a Commit, and what a session reads of its own.
use Rattle.std.proofs.Common.{ℕ, ◌≡◌, ◌-◌, ◌/◌, ◌<◌, ◌≤◌, ◌∙◌, ap, min, length, false, List, [], ◌∷◌, zero, suc, take, slice_get, refl, sym, subst}
use Rattle.std.proofs.Common.{IsSomeAnd, Option, arith, slice_index_or}
use Rattle.std.specs.List.{All}
use Rattle.std.proofs.lemmas.List.{get_or-take, length-take-le}
use Rattle.log_records.specs.declared.record.Record.{Record}
use Rattle.log_records.specs.Log.{IsLog, Log, lsn_of}
use Rattle.settlement.specs.Receipt.{ComesBehind, HasAt, HoldsIn, IsLogged, IsRecordOf, IsStepOf}
use Rattle.settlement.specs.Receipt.{below, is_read, position}
use Rattle.settlement.specs.Session.{AllStand}
use Rattle.settlement.specs.Sessions.{IsCommitIn}
use Rattle.settlement.specs.declared.receipt.Receipt.{Receipt}
use Rattle.settlement.specs.declared.receipt.StepReceipt.{StepReceipt}
use Rattle.settlement.specs.declared.receipt.Receipt.TheVariants.{Changed, Stepped, Read}
use Rattle.settlement.specs.declared.receipt.TxnStep.TheVariants as step
use Rattle.settlement.proofs.Below.{below_is}

pub get_first : {A : Type 0} (xs : List A) (n i : ℕ) → i < n
    → slice_get (take n xs) i ≡ slice_get xs i
get_first xs zero i within = absurd (omega arith)
get_first [] (suc n) i within = refl
get_first (x ∷ xs) (suc n) zero within = refl
get_first (x ∷ xs) (suc n) (suc i) within = get_first xs n i (omega arith)

commit_at : (rs : List Record) (forced_end count : ℕ) (it : StepReceipt) → forced_end ≤ lsn_of count
    → IsLogged rs forced_end (Stepped it) → it.step ≡ step.Commit
    → HasAt (take count rs) it.lsn (IsStepOf it.txn it.step)
commit_at rs forced_end count it all logged is =
    let there = logged.there in
    let at = there.1 in
    let forced = logged.forced is in
    let within : there.0 < count = omega arith in (
      there.0,
      at,
      subst (λ (o : Option Record). IsSomeAnd o (IsRecordOf (Stepped it)))
          (sym (get_first rs count there.0 within)) there.2,
    )

commit_kept : (rs : List Record) (forced_end count : ℕ) (x : Receipt) → forced_end ≤ lsn_of count
    → HoldsIn rs forced_end x → IsCommitIn (take count rs) x
commit_kept rs forced_end count (Changed it) all holds = tt
commit_kept rs forced_end count (Read it) all holds = tt
commit_kept rs forced_end count (Stepped it) all holds = λ is. commit_at rs forced_end count it all holds is

pub commits_kept : (rs : List Record) (forced_end count : ℕ) (xs : List Receipt)
    → forced_end ≤ lsn_of count → AllStand rs forced_end xs → All (IsCommitIn (take count rs)) xs
commits_kept rs forced_end count xs all stand k d within =
    commit_kept rs forced_end count (slice_index_or xs k d) all (stand k d within).holds

-- ---- a session and its own writes

pub logged_of : (rs : List Record) (forced_end : ℕ) (x : Receipt) → is_read x ≡ false
    → HoldsIn rs forced_end x → IsLogged rs forced_end x
logged_of rs forced_end (Changed it) is holds = holds
logged_of rs forced_end (Stepped it) is holds = holds
logged_of rs forced_end (Read it) is holds = cc

inside : (rs : List Record) (i : ℕ) (P : Record → Type 0) → IsSomeAnd (slice_get rs i) P
    → i < length rs
inside [] i P there = elim there [ ]
inside (r ∷ rs) zero P there = omega arith
inside (r ∷ rs) (suc i) P there = let rest = inside rs i P there in omega arith

-- the record of a receipt is below the log's end at a read behind it
pub own_write : (lg : Log) (forced_end : ℕ) (xs : List Receipt) (j k : ℕ) (d : Receipt) → IsLog lg
    → AllStand lg.records forced_end xs → j < k → k < length xs
    → is_read (slice_index_or xs j d) ≡ false
    → HasAt (below lg.records (position (slice_index_or xs k d)))
    (position (slice_index_or xs j d)) (IsRecordOf (slice_index_or xs j d))
own_write lg forced_end xs j k d valid stand before within is =
    let rs = lg.records in
    let b = slice_index_or xs j d in
    let end = position (slice_index_or xs k d) in
    let logged = logged_of rs forced_end b is (stand j d (omega arith)).holds in
    let there = logged.there in
    let long = length-take-le k xs (omega arith) in
    let behind =
    subst (λ (x : Receipt). ComesBehind x (slice_index_or xs k d)) (get_or-take k xs j d before)
    ((stand k d within).behind j d (omega arith)) in
    let above = behind.above is in
    let at = there.1 in
    let low = inside rs there.0 (IsRecordOf b) there.2 in
    let count : there.0 < min ((end - 1) / 64) (length rs) = omega arith in (
      there.0,
      at,
      subst (λ (o : Option Record). IsSomeAnd o (IsRecordOf b))
          (sym (ap (λ (ys : List Record). slice_get ys there.0) (below_is lg end valid)
          ∙ get_first rs (min ((end - 1) / 64) (length rs)) there.0 count)) there.2,
    )

-- What a settled run tells.
use Rattle.std.proofs.Common.{ℕ, ◌≡◌, ◌+◌, ◌<◌, ◌≤◌, ◌++◌, List, [], ◌∷◌, length, take, arith, refl, subst, sym}
use Rattle.std.proofs.Common.{true, ap, inl, inr, slice_index_or, ◌∙◌, IsSomeAnd}
use Rattle.std.specs.List.{All, filter_map, sum_by}
use Rattle.std.proofs.lemmas.List.{get_or-append_right, get_or_append_left, length-append}
use Rattle.std.proofs.lemmas.List.Elements.{All-cons, All-nil, All-weaker, filter_map-append}
use Rattle.log_records.specs.declared.record.Record.{Record}
use Rattle.log_records.specs.Log.{Log, lsn_of}
use Rattle.copy_vault.specs.Copy.{CopyView}
use Rattle.copy_vault.specs.declared.copy_id.CopyKind.TheVariants.{Full}
use Rattle.copy_vault.specs.Vault.{CopyState, complete, complete_of, dropped, reading, state_of}
use Rattle.copy_coverage.specs.Copied.{Restores}
use Rattle.copy_coverage.specs.Kept.{IsKeptOf}
use Rattle.copy_coverage.specs.Retired.{IsRetired, RetiredView}
use Rattle.settlement.specs.declared.receipt.Receipt.{Receipt}
use Rattle.settlement.specs.declared.receipt.Receipt.TheVariants.{Read}
use Rattle.settlement.specs.Receipt.{read_receipt, times, written}
use Rattle.settlement.specs.Counts.{changes_in, is_of_txn, updates_in}
use Rattle.settlement.specs.Session.{AllStand}
use Rattle.settlement.specs.Sessions.{AreApart, IsCommitIn, all_receipts}
use Rattle.settlement.proofs.Public.{changes_add_up, commits_kept, one_receipt_each, own_write}
use Rattle.settlement.proofs.Public.{times-append}
use Rattle.settlement.proofs.Public.{times_all}
use Rattle.engine_rules.specs.EngineState.{EngineState}
use Rattle.engine_run.specs.Beginning.{IsBeginning}
use Rattle.engine_run.specs.declared.beginning.Beginning.{Beginning}
use Rattle.engine_run.specs.declared.work.Work.{Work}
use Rattle.engine_run.specs.declared.work.Work.TheVariants.{Copied, Pointed}
use Rattle.engine_run.specs.Laws.{IsNewTo, IsRestoredBy, ReadsItsOwn}
use Rattle.engine_run.specs.Settled.{Evidence, IsSettled, IsWrongAt, WorkStands, begin_of, copies_of, copy_of}
use Rattle.engine_run.specs.Settled.{evidence_in, lsns_of}

-- the records of receipts have LSNs that differ
pub records_apart : (began : Beginning) (e : Evidence) (sessions : List (List Receipt)) (works : List Work)
    → IsSettled began e sessions works → AreApart (written (all_receipts sessions))
records_apart began e sessions works settled x =
    let both = times-append x (written (all_receipts sessions)) (filter_map begin_of works) in
    let few = settled.lsns x in
    omega arith

-- what holds of each holds of those that come first
pub of_first : (P : ℕ → Type 0) (xs ys : List ℕ) → All P (xs ++ ys) → All P xs
of_first P xs ys all k d lt =
    subst P (get_or_append_left xs ys d k lt) (all k d (omega (arith, lt, length-append xs ys)))

-- and of those that come last
of_last : (P : ℕ → Type 0) (xs ys : List ℕ) → All P (xs ++ ys) → All P ys
of_last P xs ys all k d lt =
    let past : slice_index_or (xs ++ ys) (length xs + k) d ≡ slice_index_or ys k d =
    get_or-append_right xs ys (length xs) (length xs + k) d refl (omega arith)
    ∙ ap (λ (i : ℕ). slice_index_or ys i d) (omega arith) in
    subst P past (all (length xs + k) d (omega (arith, lt, length-append xs ys)))

-- each record of a transaction since the run began has one receipt
pub answered_once : (began : Beginning) (e : Evidence) (sessions : List (List Receipt)) (works : List Work)
    → IsSettled began e sessions works → (i : ℕ) (d : Record) → began.records ≤ i → i < length e.log.records
    → is_of_txn (slice_index_or e.log.records i d) ≡ true → times (lsn_of i) (written (all_receipts sessions)) ≡ 1
answered_once began e sessions works settled i d from within is =
    one_receipt_each e.log.records e.forced_end began.records sessions i d settled.counted settled.receipts
    (of_first (λ lsn. lsn_of began.records ≤ lsn) (written (all_receipts sessions)) (filter_map begin_of works) settled.newer)
    (records_apart began e sessions works settled) from within is

-- and the changes are as many as the Updates
pub changes_told : (began : Beginning) (e : Evidence) (sessions : List (List Receipt)) (works : List Work)
    → IsSettled began e sessions works
    → updates_in (take began.records e.log.records) + sum_by changes_in sessions ≡ updates_in e.log.records
changes_told began e sessions works settled =
    changes_add_up e.log.records e.forced_end began.records sessions settled.counted settled.receipts
    (of_first (λ lsn. lsn_of began.records ≤ lsn) (written (all_receipts sessions)) (filter_map begin_of works) settled.newer)
    (records_apart began e sessions works settled)

pub commits_told : (began : Beginning) (left : RetiredView) (sessions : List (List Receipt)) (works : List Work)
    (kept : Log) → IsSettled began (evidence_in left) sessions works
    → IsKeptOf left.log left.forced_end kept → All (All (IsCommitIn kept.records)) sessions
commits_told began left sessions works kept settled is_kept =
    let rs = left.log.records in
    let of_log : All (All (IsCommitIn (take is_kept.count rs))) sessions =
    All-weaker (AllStand rs left.forced_end) (All (IsCommitIn (take is_kept.count rs)))
    (λ xs stand. commits_kept rs left.forced_end is_kept.count xs is_kept.forced stand) sessions
    settled.receipts in
    subst (λ (lg : Log). All (All (IsCommitIn lg.records)) sessions) (sym is_kept.made) of_log

pub reads_told : (began : Beginning) (left : RetiredView) (sessions : List (List Receipt)) (works : List Work)
    → IsRetired left → IsSettled began (evidence_in left) sessions works
    → All (ReadsItsOwn left.log.records) sessions
reads_told began left sessions works retired settled =
    let rs = left.log.records in
    All-weaker (AllStand rs left.forced_end) (ReadsItsOwn rs)
    (λ xs stand j k d before within is reads.
    own_write left.log left.forced_end xs j k d retired.valid stand before within is) sessions
    settled.receipts

-- a copy that is found is complete
found_complete : (state : CopyState) (P : CopyView → Type 0) → IsSomeAnd (complete_of state) P
    → (copy : CopyView) × (state ≡ complete copy)
found_complete (reading copy) P found = elim found [ ]
found_complete (complete copy) P found = (copy, refl)
found_complete dropped P found = elim found [ ]

restored_by : (left : RetiredView) (kept : Log)
    → ((id : ℕ) (copy : CopyView) → state_of left.copies id ≡ complete copy
    → Restores left.copies copy kept.records)
    → (w : Work) → WorkStands (evidence_in left) w
    → IsRestoredBy left.copies kept.records w
restored_by left kept restores (Pointed point) stands = tt
restored_by left kept restores (Copied id kind taken) stands =
    let found = found_complete (state_of left.copies id) _ stands in
    (found.0, found.1, restores id found.0 found.1)

pub copies_told : (began : Beginning) (left : RetiredView) (sessions : List (List Receipt)) (works : List Work)
    (kept : Log) → IsSettled began (evidence_in left) sessions works
    → ((id : ℕ) (copy : CopyView) → state_of left.copies id ≡ complete copy
    → Restores left.copies copy kept.records)
    → All (IsRestoredBy left.copies kept.records) works
copies_told began left sessions works kept settled restores =
    All-weaker (WorkStands (evidence_in left))
    (IsRestoredBy left.copies kept.records) (restored_by left kept restores) works
    settled.work

-- what holds of each id that was answered holds of the copies
of_copies : (P : ℕ → Type 0) (Q : Work → Type 0) → ((w : Work) → All P (filter_map copy_of (w ∷ [])) → Q w)
    → (works : List Work) → All P (copies_of works) → All Q works
of_copies P Q each [] all = All-nil Q
of_copies P Q each (w ∷ works) all =
    let split : All P (filter_map copy_of (w ∷ []) ++ copies_of works) =
    subst (All P) (filter_map-append copy_of (w ∷ []) works) all in
    All-cons Q w works (each w (of_first P (filter_map copy_of (w ∷ [])) (copies_of works) split))
    (of_copies P Q each works (of_last P (filter_map copy_of (w ∷ [])) (copies_of works) split))

new_one : (s : EngineState) (began : Beginning) → IsBeginning s began → (w : Work)
    → All (λ id. began.last_copy < id) (filter_map copy_of (w ∷ [])) → IsNewTo s.copies w
new_one s began was (Pointed point) all = tt
new_one s began was (Copied id kind taken) all = was.copies.none_behind id (all 0 id (omega arith))

pub new_told : (s : EngineState) (began : Beginning) (e : Evidence) (sessions : List (List Receipt))
    (works : List Work) → IsBeginning s began → IsSettled began e sessions works → All (IsNewTo s.copies) works
new_told s began e sessions works was settled =
    of_copies (λ id. began.last_copy < id) (IsNewTo s.copies) (new_one s began was) works settled.new_copies

pub wrong_told : (began : Beginning) (e : Evidence) (sessions : List (List Receipt)) (works : List Work) (at : ℕ)
    → IsWrongAt began e sessions works at → IsSettled began e sessions works → ⊥
wrong_told began e sessions works at (inl (differ, none)) settled = differ settled.counted
wrong_told began e sessions works at (inr (added, inl (inl old))) settled =
    let low = times_all (λ lsn. lsn_of began.records ≤ lsn) at (lsns_of sessions works) settled.newer old.there in
    absurd (omega (arith, low, old.below))
wrong_told began e sessions works at (inr (added, inl (inr (none, old)))) settled =
    let low = times_all (λ id. began.last_copy < id) old.id (copies_of works) settled.new_copies old.there in
    absurd (omega (arith, low, old.given))
wrong_told began e sessions works at (inr (added, inr (inl (inl bad)))) settled =
    let some : Receipt = Read (read_receipt 0 0 0 0) in
    bad.bad some
    (settled.receipts bad.session [] bad.session_within bad.index some bad.index_within)
wrong_told began e sessions works at (inr (added, inr (inl (inr two)))) settled =
    let few = records_apart began e sessions works settled at in
    absurd (omega arith)
wrong_told began e sessions works at (inr (added, inr (inr (inl bad)))) settled =
    let some : Work = Copied 0 Full 0 in
    bad.bad some (settled.work bad.index some bad.within)
wrong_told began e sessions works at (inr (added, inr (inr (inr (inl two))))) settled =
    let few = settled.lsns at in
    absurd (omega arith)
wrong_told began e sessions works at (inr (added, inr (inr (inr (inr (none, inl bad)))))) settled =
    let some : Work = Copied 0 Full 0 in
    bad.bad some (settled.work bad.index some bad.within)
wrong_told began e sessions works at (inr (added, inr (inr (inr (inr (none, inr (id, two))))))) settled =
    let few = settled.copies id in
    absurd (omega arith)

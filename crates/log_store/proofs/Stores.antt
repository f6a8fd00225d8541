-- The calls of a device by which a log is forced, one after another.
use Rattle.std.proofs.Common.{ℕ, ◌≡◌, ◌+◌, ◌-◌, ◌/◌, ◌≤◌, ◌++◌, List, [], ◌∷◌, take, drop, slice_range}
use Rattle.std.proofs.Common.{arith, refl, ap, subst, ◌∙◌, inl, inr, suc, slice_index_or, slice_get, Some}
use Rattle.std.specs.Prelude.{◌⊎◌, Result, Ok, Err, OnErr, OnOk}
use Rattle.log_store.specs.declared.device.DeviceFault.{DeviceFault}
use Rattle.std.proofs.lemmas.List.{get_or-drop, length-drop}
use Rattle.std.proofs.lemmas.Option.{get_or_from_slice_get, slice_get_within}
use Rattle.std.proofs.Math.Seq.{take-suc}
use Rattle.std.proofs.Math.Nat.{mul-div_cancel_left}
use Rattle.log_records.specs.declared.record.Record.{Record}
use Rattle.log_records.specs.Record.{own_lsn, record_bytes}
use Rattle.log_records.specs.Log.{lsn_of}
use Rattle.log_store.specs.Stores.{FailsAtNext, IsNextCall, StoreCall, StoresEach, StoresForced, records_between}
use Rattle.log_store.specs.WrittenLog.{WrittenLog}

-- one call more
pub stores_push : {D : Type 0} (called : StoreCall D) (a b c : D) (rs : List Record) (r : Record)
    → StoresEach called a rs b → called b (own_lsn r) (record_bytes r) (Ok tt) c
    → StoresEach called a (rs ++ r ∷ []) c
stores_push called a b c [] r same call =
    (c, subst (λ d. called d (own_lsn r) (record_bytes r) (Ok tt) c) same call, refl)
stores_push called a b c (x ∷ rs) r (next, first, rest) call =
    (next, first, stores_push called next b c rs r rest call)

index_of_lsn : (i : ℕ) → lsn_of i / 64 - 1 ≡ i
index_of_lsn i = omega (arith, mul-div_cancel_left (i + 1) {n = 64} (omega arith))

-- the records between two places, one more
range_push : (rs : List Record) (i k : ℕ) (r : Record) → i ≤ k → slice_get rs k ≡ Some r
    → slice_range rs i (k + 1) ≡ slice_range rs i k ++ r ∷ []
range_push rs i k r le is =
    let n = k - i in
    let rest = drop i rs in
    let inside = slice_get_within rs k r is in
    let longer : k + 1 - i ≡ suc n = omega arith in
    let here : i + n ≡ k = omega arith in
    let last : slice_index_or rest n r ≡ r =
    get_or-drop i rs n r ∙ ap (λ (j : ℕ). slice_index_or rs j r) here
    ∙ get_or_from_slice_get rs k r r is in
    ap (λ (m : ℕ). take m rest) longer
    ∙ take-suc rest n r (omega (arith, length-drop i rs))
    ∙ ap (λ (x : Record). take n rest ++ x ∷ []) last

between_push : (rs : List Record) (i k : ℕ) (r : Record) → i ≤ k → slice_get rs k ≡ Some r
    → records_between rs (lsn_of i) (lsn_of (k + 1))
    ≡ records_between rs (lsn_of i) (lsn_of k) ++ r ∷ []
between_push rs i k r le is =
    rw (index_of_lsn i, index_of_lsn k, index_of_lsn (k + 1)) (range_push rs i k r le is)

-- nothing is between a place and itself
pub none_between : (rs : List Record) (at : ℕ) → records_between rs at at ≡ []
none_between rs at =
    let none : (at / 64 - 1) - (at / 64 - 1) ≡ 0 = omega arith in
    ap (λ (n : ℕ). take n (drop (at / 64 - 1) rs)) none

-- ---- a log that is forced, one call after another

-- where it began, and how far it is
pub record Reached {D : Type 0} (old now : WrittenLog D) : Type 0 where
  pub first : ℕ
  pub next : ℕ
  pub order : first ≤ next
  pub from : old.forced_end ≡ lsn_of first
  pub to : now.forced_end ≡ lsn_of next

pub forced_push : {D : Type 0} (called : StoreCall D) (old now new : WrittenLog D)
    → Reached old now → StoresForced called old now now.device → IsNextCall called now (Ok tt) new.device
    → new.log ≡ now.log → new.forced_end ≡ now.forced_end + 64 → StoresForced called old new new.device
forced_push called old now new at so_far (r, there, call) same more =
    let rs = now.log.records in
    let k = at.next in
    let i = at.first in
    let index : there.index ≡ k = let p = there.place in let t = at.to in omega arith in
    let is : slice_get rs k ≡ Some r =
    subst (λ (n : ℕ). slice_get rs n ≡ Some r) index there.there in
    let end : new.forced_end ≡ lsn_of (k + 1) = let t = at.to in omega arith in
    let before : StoresEach called old.device (records_between rs (lsn_of i) (lsn_of k)) now.device =
    rw (← at.from, ← at.to) so_far in
    let after : StoresEach called old.device (records_between rs (lsn_of i) (lsn_of (k + 1))) new.device =
    rw (between_push rs i k r at.order is)
    (stores_push called old.device now.device new.device
    (records_between rs (lsn_of i) (lsn_of k)) r before call) in
    rw (same, at.from, end) after

-- the call of the next record failed, and left the log as it was
pub fails_at_next : {D : Type 0} (called : StoreCall D) (old now new : WrittenLog D) (why : DeviceFault)
    → StoresForced called old now now.device → IsNextCall called now (Err why) new.device
    → new.log ≡ now.log → new.forced_end ≡ now.forced_end → FailsAtNext called old new
fails_at_next called old now new why so_far (r, there, call) same end = record {
  before_fault = now.device;
  stored = rw (same, end) so_far;
  next = r;
  there = rw (same, end) there;
  why = why;
  fault = call;
}

-- ---- answers

pub either : {T E : Type 0} (r : Result T E) (P Q : Type 0) → OnOk r P → OnErr r Q → P ⊎ Q
either (Ok x) P Q ok err = inl ok
either (Err e) P Q ok err = inr err

pub if_ok : {T E : Type 0} (r : Result T E) (P Q : Type 0) → (P → Q) → OnOk r P → OnOk r Q
if_ok (Ok x) P Q f h = f h
if_ok (Err e) P Q f h = tt

pub if_err : {T E : Type 0} (r : Result T E) (P Q : Type 0) → (P → Q) → OnErr r P → OnErr r Q
if_err (Ok x) P Q f h = tt
if_err (Err e) P Q f h = f h

pub on_err : {T E : Type 0} (r : Result T E) (P : Type 0) → P → OnErr r P
on_err (Ok x) P h = tt
on_err (Err e) P h = h

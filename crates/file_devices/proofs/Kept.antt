-- What holds of a log on a disk at each moment stays so.
use Rattle.std.proofs.Common.{◌≡◌, ℕ, ◌+◌, ◌-◌, ◌^◌, ◌<◌, ◌≤◌, List, [], ◌∷◌, ◌++◌, length, take, drop, ap, sym, subst, ◌∙◌, arith}
use Rattle.std.proofs.Math.Seq.{take-append-add, take-append_seam}
use Rattle.std.proofs.lemmas.List.{append-nil, append_assoc, length-append, length-take, take_all, take_at, take-append-le, take-take}
use Rattle.std.specs.Prelude.{Bool, IsTrue, OnOk, Result, Ok, Err, is_ok, true, false, replicate}
use mathlib.Core.Bool.{true≢false}
use Rattle.file_devices.specs.Calls.{done}
use Rattle.file_devices.specs.FileLog.{IsKept, IsTrusted, Known, LogOnDisk, bytes_of, known_of, synced_of, with_len}
use Rattle.file_devices.specs.TrackedDisk.{Begins, BeginsEach}
use Rattle.file_devices.specs.declared.calls.FileCall.{FileCall}
use Rattle.file_devices.specs.declared.calls.Request.TheVariants.{SetLen, Sync, Write}
use Rattle.log_store.specs.Device.{KeepsFirst}
use Rattle.file_devices.proofs.Fronts.{begins_there}
use Rattle.file_devices.proofs.Knowns.{KnowsFirst, bytes-synced, known_of-append, lasting-synced, lasting_there}

pub when_ok : {T E P : Type 0} (r : Result T E) → is_ok r ≡ true → OnOk r P → P
when_ok (Ok x) ok holds = holds
when_ok (Err why) ok holds = absurd (true≢false (sym ok))

pub never : {P : Type 0} → IsTrue false → P
never is = absurd (true≢false (sym is))

pub three_calls : (calls : List FileCall) (a b d : FileCall)
    → ((calls ++ a ∷ []) ++ b ∷ []) ++ d ∷ [] ≡ calls ++ a ∷ b ∷ d ∷ []
three_calls calls a b d = append_assoc (calls ++ a ∷ []) (b ∷ []) (d ∷ []) ∙ append_assoc calls (a ∷ []) (b ∷ d ∷ [])

module _ {D : Type 0} {seen : D → List ℕ} {may_leave : D → List ℕ → Type 0} {is_clean : D → Bool} where
  -- so many bytes were synced
  pub length-synced : (log : LogOnDisk D) → IsKept seen may_leave is_clean log → length (synced_of log) ≡ log.end
  length-synced log kept =
      omega (arith, kept.lasts, lasting_there log.calls, length-take log.end (known_of log.calls).bytes)

  pub length-bytes : (log : LogOnDisk D) → IsKept seen may_leave is_clean log
      → length (bytes_of log) ≡ log.end + length log.waiting
  length-bytes log kept =
      omega (arith, length-append (synced_of log) log.waiting, length-synced log kept)

  -- a call of the disk behind the synced bytes
  pub kept_next : (old new : LogOnDisk D) → IsKept seen may_leave is_clean old
      → new.end ≡ old.end → new.is_read ≡ old.is_read → new.waiting ≡ old.waiting → new.has_stored ≡ old.has_stored
      → KnowsFirst old.end (known_of old.calls) (known_of new.calls)
      → is_clean new.disk ≡ is_clean old.disk
      → ((front : List ℕ) → length front ≤ old.end → BeginsEach front (may_leave old.disk)
      → BeginsEach front (may_leave new.disk))
      → (IsTrue new.is_clear → length (seen new.disk) ≤ old.end)
      → (IsTrue new.is_clear → length (known_of new.calls).bytes ≤ old.end)
      → IsKept seen may_leave is_clean new
  kept_next old new kept end read waiting stored knows clean leaves alone known =
      let long = length-synced old kept in
      let same : synced_of new ≡ synced_of old = ap (λ n. take n (known_of new.calls).bytes) end ∙ knows.bytes in
      record {
        lasts = omega (arith, end, knows.lasting);
        left = λ trusted. subst (λ front. BeginsEach front (may_leave new.disk)) (sym same)
            (leaves (synced_of old) (omega (arith, long))
            (kept.left λ is. subst IsTrue clean (trusted (subst IsTrue (sym read) is))));
        alone = λ is. omega (arith, end, alone is);
        known = λ is. omega (arith, end, known is);
        idle = λ none. waiting ∙ kept.idle (sym stored ∙ none);
        short = omega (arith, end, ap length waiting, kept.short);
      }

  -- a sync
  pub kept_settled : (old new : LogOnDisk D) → IsKept seen may_leave is_clean old
      → new.calls ≡ old.calls ++ done Sync ∷ [] → new.end ≡ length (bytes_of old) → new.waiting ≡ []
      → new.is_read ≡ old.is_read → is_clean new.disk ≡ is_clean old.disk
      → Begins (bytes_of old) (known_of old.calls).bytes
      → (IsTrusted is_clean old → BeginsEach (bytes_of old) (may_leave new.disk))
      → (IsTrue new.is_clear → length (seen new.disk) ≤ length (bytes_of old))
      → (IsTrue new.is_clear → length (known_of old.calls).bytes ≤ length (bytes_of old))
      → IsKept seen may_leave is_clean new
  kept_settled old new kept calls end waiting read clean begins lasts alone known =
      let bytes : (known_of new.calls).bytes ≡ (known_of old.calls).bytes =
      ap (λ cs. (known_of cs).bytes) calls ∙ bytes-synced old.calls in
      let lasting : (known_of new.calls).lasting ≡ length (known_of old.calls).bytes =
      ap (λ cs. (known_of cs).lasting) calls ∙ lasting-synced old.calls in
      let same : synced_of new ≡ bytes_of old =
      ap (λ n. take n (known_of new.calls).bytes) end ∙ ap (take (length (bytes_of old))) bytes ∙ begins in
      record {
        lasts = omega (arith, end, lasting, begins_there (bytes_of old) (known_of old.calls).bytes begins);
        left = λ trusted. subst (λ front. BeginsEach front (may_leave new.disk)) (sym same)
            (lasts λ is. subst IsTrue clean (trusted (subst IsTrue (sym read) is)));
        alone = λ is. omega (arith, end, alone is);
        known = λ is. omega (arith, end, ap length bytes, known is);
        idle = λ _. waiting;
        short = omega (arith, end, length-bytes old kept, ap length waiting, kept.short);
      }

  -- bytes that were written as the first ones of the disk, which was cut behind them, and synced
  pub kept_alone : (old : List FileCall) (front : List ℕ) (new : LogOnDisk D)
      → new.calls ≡ old ++ done (Write 0 front) ∷ done (SetLen (length front)) ∷ done Sync ∷ []
      → new.end ≡ length front → new.waiting ≡ [] → length front < 2 ^ 64
      → BeginsEach front (may_leave new.disk) → length (seen new.disk) ≤ length front
      → IsKept seen may_leave is_clean new
  kept_alone old front new calls end waiting short leaves alone =
      let b = (known_of old).bytes in
      let rest = with_len 0 b ++ front ++ drop (0 + length front) b in
      let begin : rest ≡ front ++ drop (0 + length front) b =
      let none : 0 - length b ≡ 0 = omega arith in
      ap (λ k. replicate {A = ℕ} k 0 ++ front ++ drop (0 + length front) b) none in
      let known = ap known_of calls
      ∙ known_of-append old (done (Write 0 front) ∷ done (SetLen (length front)) ∷ done Sync ∷ []) in
      let none : length front - length rest ≡ 0 =
      omega (arith, ap length begin, length-append front (drop (0 + length front) b)) in
      let is : with_len (length front) rest ≡ front =
      ap (λ k. take (length front) rest ++ replicate k 0) none ∙ append-nil (take (length front) rest)
      ∙ ap (take (length front)) begin ∙ take-append_seam front (drop (0 + length front) b) in
      let bytes : (known_of new.calls).bytes ≡ front = ap (λ (it : Known). it.bytes) known ∙ is in
      let lasting : (known_of new.calls).lasting ≡ length front = ap (λ (it : Known). it.lasting) known ∙ ap length is in
      let same : synced_of new ≡ front =
      ap (λ n. take n (known_of new.calls).bytes) end ∙ ap (take (length front)) bytes
      ∙ ap (take (length front)) (sym (append-nil front)) ∙ take-append_seam front [] in
      record {
        lasts = omega (arith, end, lasting);
        left = λ _. subst (λ it. BeginsEach it (may_leave new.disk)) (sym same) leaves;
        alone = λ _. omega (arith, end, alone);
        known = λ _. omega (arith, end, ap length bytes);
        idle = λ _. waiting;
        short = omega (arith, end, ap length waiting, short);
      }

-- the synced bytes alone are left
pub keeps_synced : (synced waiting new : List ℕ) (end : ℕ) → new ≡ synced → length new ≡ end
    → KeepsFirst end (synced ++ waiting) new
keeps_synced synced waiting new end is long =
    let len : length synced ≡ end = ap length (sym is) ∙ long in
    record {
      there = omega (arith, long);
      same = ap (take end) is ∙ take_all end synced (omega (arith, len)) ∙ sym (take_at synced waiting end len);
    }

-- the first bytes of synced ones and of those that wait
pub front_of_both : (synced waiting : List ℕ) (from end : ℕ) → length synced ≡ end → end ≤ from
    → synced ++ take (from - end) waiting ≡ take from (synced ++ waiting)
front_of_both synced waiting from end long le =
    let sum : from ≡ length synced + (from - end) = omega (arith, long, le) in
    sym (ap (λ n. take n (synced ++ waiting)) sum ∙ take-append-add synced waiting (from - end))

-- the first bytes of synced ones
pub front_of_synced : (bytes waiting : List ℕ) (from end : ℕ) → end ≤ length bytes → from ≤ end
    → take from bytes ++ [] ≡ take from (take end bytes ++ waiting)
front_of_synced bytes waiting from end there le =
    append-nil (take from bytes)
    ∙ sym (take-append-le from (take end bytes) waiting (omega (arith, there, le, length-take end bytes))
    ∙ take-take from end bytes le)

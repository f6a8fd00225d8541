-- What is known of a log's disk after the calls of a sync.
use Rattle.std.proofs.Common.{◌≡◌, ℕ, ◌+◌, ◌-◌, ◌≤◌, List, [], ◌∷◌, ◌++◌, length, take, drop, ap, ◌∙◌, arith}
use Rattle.std.specs.Prelude.{Bool, true, false, replicate}
use Rattle.std.specs.List.{fold}
use Rattle.std.proofs.lemmas.List.{append-nil, drop_all, length-append, length-replicate, length-take, take_at, take-take}
use Rattle.std.proofs.lemmas.List.Sums.{fold-append}
use Rattle.file_devices.specs.Calls.{done, failed}
use Rattle.file_devices.specs.FileLog.{Known, after_call, after_done, after_failed, known_of, learned, with_len}
use Rattle.file_devices.specs.declared.calls.FileCall.{FileCall}
use Rattle.file_devices.specs.declared.calls.Request.{Request}
use Rattle.file_devices.specs.declared.calls.Request.TheVariants.{Read, SetLen, Sync, Write}

-- ---- calls more

abbrev pub after_calls : Known → List FileCall → Known
after_calls known calls = fold after_call known calls

pub known_of-append : (calls more : List FileCall)
    → known_of (calls ++ more) ≡ after_calls (known_of calls) more
known_of-append calls more = fold-append after_call (record { bytes = []; lasting = 0 }) calls more

-- ---- what lasts is there

-- no less is known after a read
learned_long : (known : List ℕ) (at : ℕ) (given : List ℕ) → length known ≤ length (learned known at given)
learned_long [] at given = omega arith
learned_long (byte ∷ bytes) at given = omega arith

lasting_done : (known : Known) (request : Request) → known.lasting ≤ length known.bytes
    → (after_done known request).lasting ≤ length (after_done known request).bytes
lasting_done known (SetLen len) there =
    omega (
      arith,
      length-append (take len known.bytes) (replicate (len - length known.bytes) 0),
      length-take len known.bytes,
      length-replicate {A = ℕ} (len - length known.bytes) 0,
    )
lasting_done known (Write at bytes) there =
    omega (
      arith,
      length-append (with_len at known.bytes ++ bytes) (drop (at + length bytes) known.bytes),
      length-append (with_len at known.bytes) bytes,
      length-append (take at known.bytes) (replicate (at - length known.bytes) 0),
      length-take at known.bytes,
      length-replicate {A = ℕ} (at - length known.bytes) 0,
    )
lasting_done known (Read at bytes) there = omega (arith, there, learned_long known.bytes at bytes)
lasting_done known Sync there = omega arith

lasting_failed : (known : Known) (request : Request) → known.lasting ≤ length known.bytes
    → (after_failed known request).lasting ≤ length (after_failed known request).bytes
lasting_failed known (SetLen len) there = omega (arith, length-take len known.bytes)
lasting_failed known (Write at bytes) there = omega (arith, length-take at known.bytes)
lasting_failed known (Read at bytes) there = there
lasting_failed known Sync there = omega (arith, length-take known.lasting known.bytes)

lasting_call : (known : Known) (request : Request) (is_done : Bool) → known.lasting ≤ length known.bytes
    → (after_call known (record { request = request; is_done = is_done })).lasting
    ≤ length (after_call known (record { request = request; is_done = is_done })).bytes
lasting_call known request true there = lasting_done known request there
lasting_call known request false there = lasting_failed known request there

lasting_calls : (known : Known) (calls : List FileCall) → known.lasting ≤ length known.bytes
    → (after_calls known calls).lasting ≤ length (after_calls known calls).bytes
lasting_calls known [] there = there
lasting_calls known (call ∷ calls) there =
    lasting_calls (after_call known call) calls (lasting_call known call.request call.is_done there)

pub lasting_there : (calls : List FileCall) → (known_of calls).lasting ≤ length (known_of calls).bytes
lasting_there calls = lasting_calls (record { bytes = []; lasting = 0 }) calls (omega arith)

-- ---- the calls of a sync

-- the bytes before an offset stay, and last as they did
pub record KnowsFirst (end : ℕ) (old new : Known) : Type 0 where
  pub bytes : take end new.bytes ≡ take end old.bytes
  pub lasting : end ≤ new.lasting

known-next : (calls : List FileCall) (call : FileCall) → known_of (calls ++ call ∷ []) ≡ after_call (known_of calls) call
known-next calls call = known_of-append calls (call ∷ [])

with_len-cut : (len : ℕ) (bytes : List ℕ) → len ≤ length bytes → with_len len bytes ≡ take len bytes
with_len-cut len bytes le =
    let none : len - length bytes ≡ 0 = omega arith in
    ap (λ k. take len bytes ++ replicate k 0) none ∙ append-nil (take len bytes)

module _ (calls : List FileCall) (end : ℕ) (lasts : end ≤ (known_of calls).lasting) where
  there : end ≤ length (known_of calls).bytes
  there = omega (arith, lasts, lasting_there calls)

  pub bytes-cut : (known_of (calls ++ done (SetLen end) ∷ [])).bytes ≡ take end (known_of calls).bytes
  bytes-cut = ap (λ (known : Known). known.bytes) (known-next calls (done (SetLen end)))
      ∙ with_len-cut end (known_of calls).bytes there

  pub knows-cut : KnowsFirst end (known_of calls) (known_of (calls ++ done (SetLen end) ∷ []))
  knows-cut = record {
    bytes = ap (take end) bytes-cut ∙ take-take end end (known_of calls).bytes (omega arith);
    lasting = omega (arith, lasts, ap (λ (known : Known). known.lasting) (known-next calls (done (SetLen end))));
  }

  pub knows-not_cut : KnowsFirst end (known_of calls) (known_of (calls ++ failed (SetLen end) ∷ []))
  knows-not_cut = record {
    bytes = ap (λ (known : Known). take end known.bytes) (known-next calls (failed (SetLen end)))
        ∙ take-take end end (known_of calls).bytes (omega arith);
    lasting = omega (arith, lasts, ap (λ (known : Known). known.lasting) (known-next calls (failed (SetLen end))));
  }

  -- bytes that are written at the end of the file stand behind it
  pub bytes-written : (next : List ℕ) → length (known_of calls).bytes ≤ end
      → (known_of (calls ++ done (Write end next) ∷ [])).bytes ≡ take end (known_of calls).bytes ++ next
  bytes-written next short = ap (λ (known : Known). known.bytes) (known-next calls (done (Write end next)))
      ∙ ap (λ tail. with_len end (known_of calls).bytes ++ next ++ tail)
      (drop_all (end + length next) (known_of calls).bytes (omega (arith, short)))
      ∙ append-nil (with_len end (known_of calls).bytes ++ next)
      ∙ ap (λ front. front ++ next) (with_len-cut end (known_of calls).bytes there)

  pub knows-written : (next : List ℕ) → length (known_of calls).bytes ≤ end
      → KnowsFirst end (known_of calls) (known_of (calls ++ done (Write end next) ∷ []))
  knows-written next short =
      let front : length (take end (known_of calls).bytes) ≡ end = omega (arith, there, length-take end (known_of calls).bytes) in
      record {
        bytes = ap (take end) (bytes-written next short) ∙ take_at (take end (known_of calls).bytes) next end front;
        lasting = omega (arith, lasts, ap (λ (known : Known). known.lasting) (known-next calls (done (Write end next))));
      }

  pub knows-not_written : (next : List ℕ) → KnowsFirst end (known_of calls) (known_of (calls ++ failed (Write end next) ∷ []))
  knows-not_written next = record {
    bytes = ap (λ (known : Known). take end known.bytes) (known-next calls (failed (Write end next)))
        ∙ take-take end end (known_of calls).bytes (omega arith);
    lasting = omega (arith, lasts, ap (λ (known : Known). known.lasting) (known-next calls (failed (Write end next))));
  }

  pub knows-not_synced : KnowsFirst end (known_of calls) (known_of (calls ++ failed Sync ∷ []))
  knows-not_synced = record {
    bytes = ap (λ (known : Known). take end known.bytes) (known-next calls (failed Sync))
        ∙ take-take end (known_of calls).lasting (known_of calls).bytes lasts;
    lasting = omega (arith, lasts, ap (λ (known : Known). known.lasting) (known-next calls (failed Sync)));
  }

pub bytes-synced : (calls : List FileCall) → (known_of (calls ++ done Sync ∷ [])).bytes ≡ (known_of calls).bytes
bytes-synced calls = ap (λ (known : Known). known.bytes) (known-next calls (done Sync))

-- all bytes last
pub lasting-synced : (calls : List FileCall) → (known_of (calls ++ done Sync ∷ [])).lasting ≡ length (known_of calls).bytes
lasting-synced calls = ap (λ (known : Known). known.lasting) (known-next calls (done Sync))

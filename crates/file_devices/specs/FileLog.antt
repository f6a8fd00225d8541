-- What is known of a log's file, by the calls that were made of it.
use Rattle.std.specs.Prelude.{ℕ, ◌≡◌, ◌+◌, ◌-◌, ◌^◌, ◌<◌, ◌≤◌, ◌⊎◌, min, nat_le, List, [], ◌∷◌, ◌++◌, length, take, drop}
use Rattle.std.specs.Prelude.{Bool, true, false, ◌&&◌, IsTrue, replicate, fold, if◌then◌else◌, Result, OnOk, OnErr, suc, zero}
use Rattle.file_devices.specs.declared.calls.FileCall.{FileCall}
use Rattle.file_devices.specs.declared.calls.Request.{Request}
use Rattle.file_devices.specs.declared.calls.Request.TheVariants.{Read, SetLen, Sync, Write}
use Rattle.file_devices.specs.Calls.{done, failed}
use Rattle.file_devices.specs.TrackedDisk.{BeginsEach}
use Rattle.log_store.specs.declared.device.DeviceFault.{DeviceFault}

-- the bytes that a file has from its first one on, and how many of the first ones last
pub record Known : Type 0 where
  pub bytes : List ℕ
  pub lasting : ℕ

-- so many bytes of a file: it is cut, or filled up with zeros
abbrev pub with_len : ℕ → List ℕ → List ℕ
with_len len bytes = take len bytes ++ replicate (len - length bytes) 0

-- what is known once a read gave these bytes: all of them, where they are the first ones and nothing
-- was known
abbrev pub learned : List ℕ → ℕ → List ℕ → List ℕ
learned [] zero given = given
learned [] (suc at) given = []
learned (byte ∷ bytes) at given = byte ∷ bytes

-- the file did what it was asked; what was overwritten or cut away does not last any more, and
-- neither does what stands behind that
abbrev pub after_done : Known → Request → Known
after_done known (SetLen len) = record {
  bytes = with_len len known.bytes;
  lasting = min len known.lasting;
}
after_done known (Write at bytes) = record {
  bytes = with_len at known.bytes ++ bytes ++ drop (at + length bytes) known.bytes;
  lasting = min at known.lasting;
}
after_done known (Read at bytes) = record known { bytes = learned known.bytes at bytes }
after_done known Sync = record known { lasting = length known.bytes }

-- the file failed: nothing is known of what it was to change, nor of what stands behind that; and a
-- sync that failed may have lost all that did not last
abbrev pub after_failed : Known → Request → Known
after_failed known (SetLen len) = record {
  bytes = take len known.bytes;
  lasting = min len known.lasting;
}
after_failed known (Write at bytes) = record {
  bytes = take at known.bytes;
  lasting = min at known.lasting;
}
after_failed known (Read at bytes) = known
after_failed known Sync = record known { bytes = take known.lasting known.bytes }

-- what is known after a call more
abbrev pub after_call : Known → FileCall → Known
after_call known call =
    if call.is_done then after_done known call.request else after_failed known call.request

-- what is known after these calls, of which the first one cut the file to nothing, or read it
abbrev pub known_of : List FileCall → Known
known_of calls = fold after_call (record { bytes = []; lasting = 0 }) calls

-- a log on a disk: the calls that were made of the disk, the disk and whether a sync of it failed; how
-- many of its first bytes were synced, and what was stored behind these since; whether anything was
-- stored since; that nothing stands behind the synced bytes; that these were read from the disk, and
-- not written to it; and how often the device has failed
pub record LogOnDisk (D : Type 0) : Type 0 where
  pub calls : List FileCall
  pub disk : D
  pub is_usable : Bool
  pub end : ℕ
  pub waiting : List ℕ
  pub has_stored : Bool
  pub is_clear : Bool
  pub is_read : Bool
  pub failures : ℕ

module _ {D : Type 0} where
  -- the bytes that were synced: they last
  abbrev pub synced_of : LogOnDisk D → List ℕ
  synced_of log = take log.end (known_of log.calls).bytes

  -- the bytes of the device: behind those that last stand those that wait for the next sync
  abbrev pub bytes_of : LogOnDisk D → List ℕ
  bytes_of log = synced_of log ++ log.waiting

  -- the disk has not been taken at its word, or no word of it was wrong
  abbrev pub IsTrusted : (D → Bool) → LogOnDisk D → Type 0
  IsTrusted is_clean log = IsTrue log.is_read → IsTrue (is_clean log.disk)

  -- what holds of a log on a disk at each moment: each content that a crash may leave begins with
  -- the bytes that were synced, by the calls that were made; and where nothing stands behind
  -- these, the disk has no more bytes
  pub record IsKept (seen : D → List ℕ) (may_leave : D → List ℕ → Type 0) (is_clean : D → Bool)
      (log : LogOnDisk D) : Type 0 where
    pub lasts : log.end ≤ (known_of log.calls).lasting
    pub left : IsTrusted is_clean log → BeginsEach (synced_of log) (may_leave log.disk)
    pub alone : IsTrue log.is_clear → length (seen log.disk) ≤ log.end
    pub known : IsTrue log.is_clear → length (known_of log.calls).bytes ≤ log.end
    pub idle : log.has_stored ≡ false → log.waiting ≡ []
    pub short : log.end + length log.waiting < 2 ^ 64

  -- what comes of a store: the disk is asked for nothing, and is the same; nothing is stored once a
  -- sync has failed; where something is stored over synced bytes, these count no more, and what the
  -- disk has behind is to be cut
  pub record Stores (old : LogOnDisk D) (from : ℕ) (next : List ℕ)
      (result : Result Unit DeviceFault) (new : LogOnDisk D) : Type 0 where
    pub calls : new.calls ≡ old.calls
    pub disk : new.disk ≡ old.disk
    pub usable : OnOk result (IsTrue old.is_usable)
    pub stored : OnOk result (new.has_stored ≡ true)
    pub end : OnOk result (new.end ≡ min from old.end)
    pub clear : OnOk result (new.is_clear ≡ (old.is_clear && nat_le old.end from))

  -- the calls of a sync before its last one: the disk is cut behind the synced bytes, unless
  -- nothing stands there, and gets by one write what was stored; where nothing was, there are none
  abbrev pub cuts_of : LogOnDisk D → List FileCall
  cuts_of log = if log.is_clear then [] else done (SetLen log.end) ∷ []

  abbrev pub puts_of : LogOnDisk D → List FileCall
  puts_of log =
      if log.has_stored then cuts_of log ++ done (Write log.end log.waiting) ∷ [] else []

  -- one of the calls of a sync failed, and the disk was asked for no more; where a sync failed
  -- before, it was asked for nothing
  pub data SyncFails (old new : LogOnDisk D) : Type 0 where
    not_asked : old.is_usable ≡ false → new.calls ≡ old.calls → SyncFails old new
    not_cut : old.has_stored ≡ true → old.is_clear ≡ false
        → new.calls ≡ old.calls ++ failed (SetLen old.end) ∷ [] → SyncFails old new
    not_written : old.has_stored ≡ true
        → new.calls ≡ old.calls ++ cuts_of old ++ failed (Write old.end old.waiting) ∷ []
        → SyncFails old new
    not_synced : new.is_usable ≡ false
        → new.calls ≡ old.calls ++ puts_of old ++ failed Sync ∷ [] → SyncFails old new

  -- what comes of a sync
  pub record Syncs (old : LogOnDisk D) (result : Result Unit DeviceFault) (new : LogOnDisk D)
      : Type 0 where
    pub ok : OnOk result (new.calls ≡ old.calls ++ puts_of old ++ done Sync ∷ [])
    pub err : OnErr result (SyncFails old new)
    pub kept : OnErr result (new.end ≡ old.end)

  -- the disk was to have these bytes as its first ones, then to be cut behind them, and to sync; one
  -- of these failed, and it was asked for no more; where a sync failed before, it was asked for
  -- nothing
  pub data KeepFails (old : LogOnDisk D) (front : List ℕ) (new : LogOnDisk D) : Type 0 where
    not_asked : old.is_usable ≡ false → new.calls ≡ old.calls → KeepFails old front new
    not_written : new.calls ≡ old.calls ++ failed (Write 0 front) ∷ [] → KeepFails old front new
    not_cut : new.calls ≡ old.calls ++ done (Write 0 front) ∷ failed (SetLen (length front)) ∷ []
        → KeepFails old front new
    not_synced : new.is_usable ≡ false → new.calls ≡ old.calls
        ++ done (Write 0 front) ∷ done (SetLen (length front)) ∷ failed Sync ∷ []
        → KeepFails old front new

-- the file did not give its first bytes, or did and failed to sync
abbrev pub ResumeFails : List ℕ → List FileCall → Type 0
ResumeFails bytes calls = (calls ≡ failed (Read 0 bytes) ∷ [])
    ⊎ (calls ≡ done (Read 0 bytes) ∷ failed Sync ∷ [])

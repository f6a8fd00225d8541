-- The files of a backup in a second folder.
use Rattle.std.proofs.Common.{◌≡◌, ◌∙◌, ℕ, ◌+◌, ◌<◌, List, [], ap, get_or, inl, inr, length, refl, subst, sym, take}
use Rattle.std.specs.Prelude.{◌≢◌, ◌⊎◌, codes, false, IfSome, is_some, None, Option, Some}
use Rattle.std.specs.Io.{StartsWith}
use Rattle.std.specs.List.{All}
use Rattle.std.proofs.lemmas.List.Elements.{All-more, All-nil, All-weaker}
use Rattle.manifest.specs.Entries.{Listed, Noted, file_of}
use Rattle.manifest.specs.Text.{manifest_text}
use Rattle.saved_files.specs.Folder.{Changes, Entries, FolderEntry, IsSame, Puts}
use Rattle.saved_files.specs.Folder.{HasNewOrOld, PutsOrKeeps, absent, stored, unsynced}
use Rattle.saved_files.specs.Saved.{name_of}
use Rattle.saved_files.specs.declared.saved_name.SavedName.TheVariants as saved
use Rattle.database_files.specs.Standing.{AddsCopies, AddsFiles}
use Rattle.database_backup.specs.Backups.{AreBackedUp, FillsCopies, FillsCopy, IsBackedUp, IsBackup}
use Rattle.database_backup.specs.Backups.{IsBeginningOf, IsCopyOf, IsFilled, IsOfSame}
use Rattle.database_files.specs.Standing.{KeepsBut}
use Rattle.database_backup.specs.Backups.{HasManifestOf, KeepsOtherFiles, KeepsTheRest, NotesCopies}
use Rattle.database_files.specs.Kept.{NotesOnly}
use Rattle.database_backup.specs.Backups.{IsFirsts, IsOldOrFirst, KeepsOrPuts, PutsManifestLast, UnlessUnsynced}
use Rattle.database_files.specs.DatabaseFolder.{AreOf, HasBytes, Reads, ReadsIn}
use Rattle.database_files.specs.Found.{IsFoundAt, SpellsManifest}
use Rattle.database_files.specs.Kept.{Names}
use Rattle.database_files.specs.Standing.{IsUnfinished, KeepsFinished}
use Rattle.database_files.proofs.Public.{by_test, copy_apart, copy_finished}
use Rattle.database_files.proofs.Public.{log_finished, log_manifest, log_master, log_no_copy, manifest_finished}
use Rattle.database_files.proofs.Public.{manifest_no_copy, master_finished, master_manifest, master_no_copy}
use Rattle.database_files.proofs.Public.{so, then, both, given, known_after, kept_beside}
use Rattle.database_files.proofs.Public.{keeps_manifest}

-- ---- what a manifest names

pub still_named : (old new : List Noted) (name : List ℕ) (fits : List ℕ → Type 0) → file_of name new ≡ file_of name old
    → Names old name fits → Names new name fits
still_named old new name fits same it = record {
  file = it.file;
  there = same ∙ it.there;
  extent = it.extent;
  bytes = it.bytes;
  right = it.right;
  sum = it.sum;
}

pub notes_more : (a b c : List Noted) → NotesCopies a b → NotesCopies b c → NotesCopies a c
notes_more a b c p q n away = q n away ∙ p n away

pub notes_copy : (id : ℕ) (a b : List Noted) → NotesOnly (name_of (saved.Copy id)) a b → NotesCopies a b
notes_copy id a b only n away = only n (λ same. copy_apart n away id (sym same))

-- a file that stands there still does
pub still_there : (first : Option Entries) (l m : List Noted) (name : List ℕ) (mid new : Entries)
    → new name ≡ mid name → file_of name m ≡ file_of name l → IsBackedUp first l name mid → IsBackedUp first m name new
still_there first l m name mid new same noted it = record {
  bytes = it.bytes;
  read = it.read;
  there = same ∙ it.there;
  named = still_named l m name (λ b. b ≡ it.bytes) noted it.named;
}

-- ---- copies

still_filled : (first : Option Entries) (l m : List Noted) (name : List ℕ) (mid new : Entries) → new name ≡ mid name
    → file_of name m ≡ file_of name l → (e : FolderEntry) → IsFilled first l name e mid → IsFilled first m name e new
still_filled first l m name mid new same noted absent it = still_there first l m name mid new same noted it
still_filled first l m name mid new same noted unsynced it = same ∙ it
still_filled first l m name mid new same noted (stored bytes) it =
    (same ∙ it.0, still_named l m name (λ b. b ≡ bytes) noted it.1)

-- a copy that is there already is not put once more
filled_twice : (first : Option Entries) (l m : List Noted) (name : List ℕ) (mid new : Entries)
    → IsFilled first m name (mid name) new → (e : FolderEntry) → IsFilled first l name e mid → IsFilled first m name e new
filled_twice first l m name mid new fills absent it =
    let then_there = subst (λ e. IsFilled first m name e new) it.there fills in
    record { bytes = it.bytes; read = it.read; there = then_there.0; named = then_there.1 }
filled_twice first l m name mid new fills unsynced it = subst (λ e. IsFilled first m name e new) it fills
filled_twice first l m name mid new fills (stored bytes) it = subst (λ e. IsFilled first m name e new) it.0 fills

-- the copies before one are filled, and each of the others is as it was, or filled too
pub record Filling (first : Option Entries) (l : List Noted) (ids : List ℕ) (old new : Entries) : Type 0 where
  pub any : (id : ℕ) → (new (name_of (saved.Copy id)) ≡ old (name_of (saved.Copy id)))
      ⊎ IsFilled first l (name_of (saved.Copy id)) (old (name_of (saved.Copy id))) new
  pub done : All (λ id. IsFilled first l (name_of (saved.Copy id)) (old (name_of (saved.Copy id))) new) ids

pub filling_none : (first : Option Entries) (l : List Noted) (a : Option Entries) → Changes (Filling first l []) a a
filling_none first l None = tt
filling_none first l (Some old) = record {
  any = λ id. inl refl;
  done = All-nil (λ id. IsFilled first l (name_of (saved.Copy id)) (old (name_of (saved.Copy id))) old);
}

filled_more : (first : Option Entries) (l m : List Noted) (ids : List ℕ) (i id : ℕ) → i < length ids
    → id ≡ get_or ids i id → NotesOnly (name_of (saved.Copy id)) l m → (old mid new : Entries)
    → Filling first l (take i ids) old mid → FillsCopy first m (name_of (saved.Copy id)) mid new
    → Filling first m (take (i + 1) ids) old new
filled_more first l m ids i id lt is only old mid new far fills =
    let this = name_of (saved.Copy id) in
    let of : ℕ → List ℕ = λ k. name_of (saved.Copy k) in
    let same_name : (n : List ℕ) → n ≡ this → IsFilled first m n (mid n) new = λ n same.
    subst (λ x. IsFilled first m x (mid x) new) (sym same) fills.filled in
    let again : (k : ℕ) → IsFilled first l (of k) (old (of k)) mid → IsFilled first m (of k) (old (of k)) new = λ k it.
    elim (by_test (of k) this) [
      | inl same ↦ filled_twice first l m (of k) mid new (same_name (of k) same) (old (of k)) it
      | inr apart ↦ still_filled first l m (of k) mid new (fills.others (of k) apart) (only (of k) apart) (old (of k)) it
    ] in
    let here : (k : ℕ) → mid (of k) ≡ old (of k) → of k ≡ this → IsFilled first m (of k) (old (of k)) new = λ k same one.
    subst (λ e. IsFilled first m (of k) e new) same (same_name (of k) one) in
    let now : IsFilled first m this (old this) new = elim (far.any id) [
      | inl same ↦ here id same refl
      | inr it ↦ again id it
    ] in
    record {
      any = λ k. elim (far.any k) [
        | inr it ↦ inr (again k it)
        | inl same ↦ elim (by_test (of k) this) [
          | inl one ↦ inr (here k same one)
          | inr apart ↦ inl (fills.others (of k) apart ∙ same)
        ]
      ];
      done = All-more (λ k. IsFilled first m (of k) (old (of k)) new) ids i id lt
          (All-weaker (λ k. IsFilled first l (of k) (old (of k)) mid)
          (λ k. IsFilled first m (of k) (old (of k)) new) again (take i ids) far.done)
          (subst (λ k. IsFilled first m (of k) (old (of k)) new) is now);
    }

pub filling_more : (first : Option Entries) (l m : List Noted) (ids : List ℕ) (i id : ℕ) → i < length ids
    → id ≡ get_or ids i id → NotesOnly (name_of (saved.Copy id)) l m → (a b c : Option Entries)
    → Changes (Filling first l (take i ids)) a b → Changes (FillsCopy first m (name_of (saved.Copy id))) b c
    → Changes (Filling first m (take (i + 1) ids)) a c
filling_more first l m ids i id lt is only a b c = then a b c (filled_more first l m ids i id lt is only)

pub filling_all : (first : Option Entries) (l : List Noted) (ids : List ℕ) (a b : Option Entries)
    → Changes (Filling first l ids) a b → Changes AddsCopies a b → Changes (FillsCopies first l ids) a b
filling_all first l ids a b = both a b (λ old new far adds. record { filled = far.done; others = adds })

-- a copy of the same database is the first folder's
is_backed : (first : Option Entries) (l : List Noted) (name : List ℕ) (new : Entries) (e : FolderEntry)
    → IsCopyOf first name e → IsFilled first l name e new → UnlessUnsynced e (IsBackedUp first l name new)
is_backed first l name new absent same it = it
is_backed first l name new unsynced same it = tt
is_backed first l name new (stored bytes) same it =
    record { bytes = bytes; read = same; there = it.0; named = it.1 }

unless : (P Q : Type 0) → (P → Q) → (e : FolderEntry) → UnlessUnsynced e P → UnlessUnsynced e Q
unless P Q imply absent it = imply it
unless P Q imply unsynced it = tt
unless P Q imply (stored bytes) it = imply it

-- ---- all but the manifest

-- the log, the copies and the master record, one after the other
all_there : (first : Option Entries) (log ids : List ℕ) (master : List ℕ) (l m n : List Noted)
    → HasBytes first (name_of saved.Log) log → HasBytes first (name_of saved.Master) master
    → Names l (name_of saved.Log) (λ it. it ≡ log) → NotesCopies l m → NotesOnly (name_of saved.Master) m n
    → Names n (name_of saved.Master) (λ it. it ≡ master) → (a b c end : Entries) → IsOfSame first log ids a
    → Puts (name_of saved.Log) (λ it. it ≡ log) a b → FillsCopies first m ids b c
    → Puts (name_of saved.Master) (λ it. it ≡ master) c end → AreBackedUp first ids n a end
all_there first log ids master l m n read read_master named copies only named_master a b c end same put fills last =
    let kept : c (name_of saved.Log) ≡ b (name_of saved.Log) =
    elim (fills.others (name_of saved.Log) log_finished) [
      | inl is ↦ is
      | inr none ↦ absurd (log_no_copy none.1)
    ] in
    let noted : file_of (name_of saved.Log) n ≡ file_of (name_of saved.Log) l =
    only (name_of saved.Log) log_master ∙ copies (name_of saved.Log) log_no_copy in
    let of : ℕ → List ℕ = λ k. name_of (saved.Copy k) in
    record {
      log = record {
        bytes = log;
        read = read;
        there = last.others (name_of saved.Log) log_master ∙ kept ∙ put.put ∙ ap stored put.right;
        named = still_named l n (name_of saved.Log) (λ b. b ≡ log) noted named;
      };
      goes_on = same.begins;
      copies = λ i x lt.
          let id = get_or ids i x in
          let apart = copy_apart (name_of saved.Log) log_no_copy id in
          let away = copy_apart (name_of saved.Master) master_no_copy id in
          is_backed first n (of id) end (a (of id)) (same.same i x lt)
          (still_filled first m n (of id) c end (last.others (of id) away) (only (of id) away) (a (of id))
          (subst (λ e. IsFilled first m (of id) e c) (put.others (of id) apart) (fills.filled i x lt)));
      master = record {
        bytes = master;
        read = read_master;
        there = last.put ∙ ap stored last.right;
        named = named_master;
      };
    }

pub all_put : (first : Option Entries) (log ids master : List ℕ) (l m n : List Noted)
    → HasBytes first (name_of saved.Log) log → HasBytes first (name_of saved.Master) master
    → Names l (name_of saved.Log) (λ it. it ≡ log) → NotesCopies l m → NotesOnly (name_of saved.Master) m n
    → Names n (name_of saved.Master) (λ it. it ≡ master) → (a b c end : Option Entries)
    → IfSome a (IsOfSame first log ids) → Changes (Puts (name_of saved.Log) (λ it. it ≡ log)) a b
    → Changes (FillsCopies first m ids) b c → Changes (Puts (name_of saved.Master) (λ it. it ≡ master)) c end
    → Changes (AreBackedUp first ids n) a end
all_put first log ids master l m n read read_master named copies only named_master a b c end same put fills last =
    let Far : Entries → Entries → Type 0 = λ old mid. (new : Entries)
    → Puts (name_of saved.Master) (λ it. it ≡ master) mid new → IsOfSame first log ids old
    → AreBackedUp first ids n old new in
    let End : Entries → Entries → Type 0 = λ old new. IsOfSame first log ids old → AreBackedUp first ids n old new in
    given {Q = End} a end (λ old new is it. it is) same
    (then {P = Far} a c end (λ old mid new far p. far new p)
    (then {R = Far} a b c (λ old mid new p q after r is.
    all_there first log ids master l m n read read_master named copies only named_master old mid new after is p q r)
    put fills) last)

-- ---- the manifest, behind all else

all_kept : (first : Option Entries) (ids : List ℕ) (l : List Noted) (old mid new : Entries)
    → KeepsBut (codes "manifest") mid new → AreBackedUp first ids l old mid → AreBackedUp first ids l old new
unfolding still_there
all_kept first ids l old mid new kept it =
    let of : ℕ → List ℕ = λ k. name_of (saved.Copy k) in
    let stays : (name : List ℕ) → name ≢ codes "manifest" → ¬ IsUnfinished name → IsBackedUp first l name mid
    → IsBackedUp first l name new = λ name apart whole there.
    still_there first l l name mid new (kept name apart whole) refl there in
    record {
      log = stays (name_of saved.Log) log_manifest log_finished it.log;
      goes_on = it.goes_on;
      copies = λ i x lt. let id = get_or ids i x in
          unless (IsBackedUp first l (of id) mid) (IsBackedUp first l (of id) new)
          (stays (of id) (copy_apart (codes "manifest") manifest_no_copy id) (copy_finished id)) (old (of id))
          (it.copies i x lt);
      master = stays (name_of saved.Master) master_manifest master_finished it.master;
    }

abbrev pub IsTextOf : Listed → List ℕ → Type 0
IsTextOf listed text = text ≡ manifest_text listed

pub is_backup : (first : Option Entries) (ids database : List ℕ) (listed : Listed) (a b c : Option Entries)
    → listed.database ≡ database → Changes (AreBackedUp first ids listed.entries) a b
    → Changes (Puts (codes "manifest") (IsTextOf listed)) b c → Changes (IsBackup first ids database) a c
is_backup first ids database listed a b c is = then a b c (λ old mid new files put. record {
  manifest = listed;
  of_this = is;
  files = all_kept first ids listed.entries old mid new (λ n apart whole. put.others n apart) files;
  placed = put.put ∙ ap stored put.right;
})

-- it is put, or it is not
pub last_left : (first : Option Entries) (ids database : List ℕ) (listed : Listed) (a b c : Option Entries)
    → listed.database ≡ database → Changes (AreBackedUp first ids listed.entries) a b → Changes AddsFiles a b
    → Changes (PutsOrKeeps (codes "manifest") (IsTextOf listed)) b c → Changes (PutsManifestLast first ids database) a c
last_left first ids database listed a b c is files adds left =
    let Far : Entries → Entries → Type 0 = λ old mid. (new : Entries)
    → PutsOrKeeps (codes "manifest") (IsTextOf listed) mid new → PutsManifestLast first ids database old new in
    then {P = Far} a b c (λ old mid new far after. far new after)
    (both {R = Far} a b (λ old mid all added new it. elim it.either [
      | inl whole ↦ inr (record {
        manifest = listed;
        of_this = is;
        files = all_kept first ids listed.entries old mid new
            (kept_beside (codes "manifest") mid new it.others) all;
        placed = whole.2 ∙ ap stored whole.1;
      })
      | inr same ↦ inl (same ∙ keeps_manifest old mid added)
    ]) files adds) left

pub last_put : (first : Option Entries) (ids database : List ℕ) (a b : Option Entries)
    → Changes (IsBackup first ids database) a b → Changes (PutsManifestLast first ids database) a b
last_put first ids database a b = so a b (λ old new it. inr it)

pub last_none : (first : Option Entries) (ids database : List ℕ) (a b : Option Entries)
    → Changes AddsFiles a b → Changes (PutsManifestLast first ids database) a b
last_none first ids database a b = so a b (λ old new adds. inl (keeps_manifest old new adds))

pub others_kept : (a b : Option Entries) → Changes AddsFiles a b → Changes KeepsOtherFiles a b
others_kept a b = so a b (λ old new adds n log master manifest whole some. elim (adds n log master whole) [
  | inl same ↦ same
  | inr none ↦ absurd (some none.0)
])

pub others_behind : (a b c : Option Entries) → Changes AddsFiles a b → Changes (KeepsBut (codes "manifest")) b c
    → Changes KeepsOtherFiles a c
others_behind a b c = then a b c (λ old mid new adds kept n log master manifest whole some.
    elim (adds n log master whole) [
      | inl same ↦ kept n manifest whole ∙ same
      | inr none ↦ absurd (some none.0)
    ])

-- ---- from the claim to the end

same_some : (a b : List ℕ) → Some a ≡ Some b → a ≡ b
same_some a b same = cc

begun : {V : Type 0} (items : V → List ℕ) (log : List ℕ) (older : Option V) (there : FolderEntry)
    → ReadsIn older items there → IfSome older (λ it. StartsWith log (items it)) → IsBeginningOf log there
begun items log None there read begins = subst (IsBeginningOf log) (sym read) tt
begun items log (Some it) absent read begins = tt
begun items log (Some it) unsynced read begins = tt
begun items log (Some it) (stored all) read begins = subst (StartsWith log) (same_some (items it) all read) begins

-- where no log was read, no master record stands there
none_alone : {V : Type 0} (items : V → List ℕ) (older : Option V) (there master : FolderEntry)
    → ReadsIn older items there → (is_some older ≡ false → master ≡ absent) → there ≡ absent → master ≡ absent
none_alone items None there master read none gone = none refl
none_alone items (Some it) there master read none gone =
    absurd (subst (λ (e : FolderEntry). AreOf e (Some (items it))) gone read)

-- what was read of a log is a beginning of this one, and each copy is the same
pub of_same_read : {V : Type 0} (items : V → List ℕ) (first : Option Entries) (log ids : List ℕ) (older : Option V)
    (e : Option Entries) → Reads older items e (name_of saved.Log) → IfSome older (λ it. StartsWith log (items it))
    → (is_some older ≡ false → IfSome e (λ it. it (name_of saved.Master) ≡ absent))
    → IfSome e (λ it. All (λ id. IsCopyOf first (name_of (saved.Copy id)) (it (name_of (saved.Copy id)))) ids)
    → IfSome e (IsOfSame first log ids)
of_same_read items first log ids older None read begins alone same = tt
of_same_read items first log ids older (Some it) read begins alone same = record {
  begins = begun items log older (it (name_of saved.Log)) read begins;
  master = none_alone items older (it (name_of saved.Log)) (it (name_of saved.Master)) read alone;
  same = same;
}

still_same : (first : Option Entries) (log ids : List ℕ) (old new : Entries) → KeepsFinished old new
    → IsOfSame first log ids old → IsOfSame first log ids new
still_same first log ids old new kept it = record {
  begins = subst (IsBeginningOf log) (sym (kept (name_of saved.Log) log_finished)) it.begins;
  master = λ gone. kept (name_of saved.Master) master_finished
      ∙ it.master (sym (kept (name_of saved.Log) log_finished) ∙ gone);
  same = λ i x lt. let name = name_of (saved.Copy (get_or ids i x)) in
      subst (IsCopyOf first name) (sym (kept name (copy_finished (get_or ids i x)))) (it.same i x lt);
}

pub of_same_cleared : (first : Option Entries) (log ids : List ℕ) (a b : Option Entries)
    → IfSome a (IsOfSame first log ids) → Changes KeepsFinished a b → IfSome b (IsOfSame first log ids)
of_same_cleared first log ids a b =
    known_after a b (λ old new it kept. still_same first log ids old new kept it)

-- a claim, and what is unfinished is removed
pub cleared : (a b c : Option Entries) → Changes IsSame a b → Changes KeepsFinished b c → Changes KeepsFinished a c
cleared a b c = then a b c (λ old mid new same kept n whole. kept n whole ∙ same n)

-- the folder was left as it was meanwhile
pub of_database_same : (database : List ℕ) (a b : Option Entries) → Changes IsSame a b → HasManifestOf database b
    → HasManifestOf database a
of_database_same database None b same it = (it.0, tt, it.2)
of_database_same database (Some old) None same it = absurd same
of_database_same database (Some old) (Some mid) same it =
    (it.0, subst (λ (e : FolderEntry). IsFoundAt SpellsManifest e it.0) (same (codes "manifest")) it.1, it.2)

backup_since : (first : Option Entries) (ids database : List ℕ) (old mid new : Entries) → KeepsFinished old mid
    → IsBackup first ids database mid new → IsBackup first ids database old new
backup_since first ids database old mid new kept it =
    let of : ℕ → List ℕ = λ k. name_of (saved.Copy k) in
    record {
      manifest = it.manifest;
      of_this = it.of_this;
      files = record {
        log = it.files.log;
        goes_on = subst (IsBeginningOf it.files.log.bytes) (kept (name_of saved.Log) log_finished) it.files.goes_on;
        copies = λ i x lt. let id = get_or ids i x in
            subst (λ e. UnlessUnsynced e (IsBackedUp first it.manifest.entries (of id) new))
            (kept (of id) (copy_finished id)) (it.files.copies i x lt);
        master = it.files.master;
      };
      placed = it.placed;
    }

pub backup_cleared : (first : Option Entries) (ids database : List ℕ) (a b c : Option Entries)
    → Changes KeepsFinished a b → Changes (IsBackup first ids database) b c → Changes (IsBackup first ids database) a c
backup_cleared first ids database a b c = then a b c (λ old mid new kept it.
    backup_since first ids database old mid new kept it)

-- ---- the log and the master record, however it ends

old_still : (first : Option Entries) (n : List ℕ) (old mid new : Entries) → IsOldOrFirst first n old mid
    → new n ≡ mid n → IsOldOrFirst first n old new
old_still first n old mid new it same = elim it [
  | inl is ↦ inl (same ∙ is)
  | inr put ↦ inr (put.0, put.1, same ∙ put.2)
]

old_since : (first : Option Entries) (n : List ℕ) (old mid new : Entries) → mid n ≡ old n
    → IsOldOrFirst first n mid new → IsOldOrFirst first n old new
old_since first n old mid new same it = elim it [
  | inl is ↦ inl (is ∙ same)
  | inr put ↦ inr put
]

-- the master record is put behind the log
abbrev IsOrdered : Option Entries → Entries → Entries → Type 0
IsOrdered first old new =
    (new (name_of saved.Master) ≡ old (name_of saved.Master)) ⊎ IsFirsts first (name_of saved.Log) new

still_firsts : (first : Option Entries) (n : List ℕ) (mid new : Entries) → new n ≡ mid n → IsFirsts first n mid
    → IsFirsts first n new
still_firsts first n mid new same put = (put.0, put.1, same ∙ put.2)

order_still : (first : Option Entries) (old mid new : Entries) → IsOrdered first old mid
    → new (name_of saved.Log) ≡ mid (name_of saved.Log) → new (name_of saved.Master) ≡ mid (name_of saved.Master)
    → IsOrdered first old new
order_still first old mid new it log master = elim it [
  | inl is ↦ inl (master ∙ is)
  | inr put ↦ inr (still_firsts first (name_of saved.Log) mid new log put)
]

order_since : (first : Option Entries) (old mid new : Entries) → mid (name_of saved.Master) ≡ old (name_of saved.Master)
    → IsOrdered first mid new → IsOrdered first old new
order_since first old mid new same it = elim it [
  | inl is ↦ inl (is ∙ same)
  | inr put ↦ inr put
]

old_or_put : (first : Option Entries) (n bytes : List ℕ) (old new : Entries) → HasBytes first n bytes
    → HasNewOrOld n (λ it. it ≡ bytes) old new → IsOldOrFirst first n old new
old_or_put first n bytes old new read it = elim it [
  | inl put ↦ inr (bytes, read, put.2 ∙ ap stored put.1)
  | inr is ↦ inl is
]

-- the log is put, or it is not
pub log_older : (first : Option Entries) (log : List ℕ) (a b : Option Entries) → HasBytes first (name_of saved.Log) log
    → Changes (HasNewOrOld (name_of saved.Log) (λ it. it ≡ log)) a b → Changes (KeepsBut (name_of saved.Log)) a b
    → Changes (KeepsOrPuts first) a b
log_older first log a b read = both a b (λ old new either kept. record {
  log = old_or_put first (name_of saved.Log) log old new read either;
  master = inl (kept (name_of saved.Master) (λ same. log_master (sym same)) master_finished);
  order = inl (kept (name_of saved.Master) (λ same. log_master (sym same)) master_finished);
})

-- and then copies are
pub copies_older : (first : Option Entries) (a b c : Option Entries) → Changes (KeepsOrPuts first) a b
    → Changes AddsCopies b c → Changes (KeepsOrPuts first) a c
copies_older first a b c = then a b c (λ old mid new it adds.
    let log : new (name_of saved.Log) ≡ mid (name_of saved.Log) =
    elim (adds (name_of saved.Log) log_finished) [ inl is ↦ is | inr none ↦ absurd (log_no_copy none.1) ] in
    let master : new (name_of saved.Master) ≡ mid (name_of saved.Master) =
    elim (adds (name_of saved.Master) master_finished) [ inl is ↦ is | inr none ↦ absurd (master_no_copy none.1) ] in
    record {
      log = old_still first (name_of saved.Log) old mid new it.log log;
      master = old_still first (name_of saved.Master) old mid new it.master master;
      order = order_still first old mid new it.order log master;
    })

-- once the log is put, it is the first folder's, also behind the copies
log_put : (first : Option Entries) (log : List ℕ) (a b c : Option Entries) → HasBytes first (name_of saved.Log) log
    → Changes (Puts (name_of saved.Log) (λ it. it ≡ log)) a b → Changes AddsCopies b c
    → Changes (λ old new. IsFirsts first (name_of saved.Log) new) a c
log_put first log a b c read = then a b c (λ old mid new put adds.
    let kept : new (name_of saved.Log) ≡ mid (name_of saved.Log) =
    elim (adds (name_of saved.Log) log_finished) [ inl is ↦ is | inr none ↦ absurd (log_no_copy none.1) ] in
    (log, read, kept ∙ put.put ∙ ap stored put.right))

-- and then the master record, or it is not
pub master_older : (first : Option Entries) (log master : List ℕ) (a b c end : Option Entries)
    → HasBytes first (name_of saved.Log) log → HasBytes first (name_of saved.Master) master
    → Changes (Puts (name_of saved.Log) (λ it. it ≡ log)) a b
    → Changes (HasNewOrOld (name_of saved.Log) (λ it. it ≡ log)) a b → Changes (KeepsBut (name_of saved.Log)) a b
    → Changes AddsCopies b c → Changes (HasNewOrOld (name_of saved.Master) (λ it. it ≡ master)) c end
    → Changes (KeepsBut (name_of saved.Master)) c end → Changes (KeepsOrPuts first) a end
master_older first log master a b c end read read_master whole put kept adds put_master kept_master =
    let First : Entries → Entries → Type 0 = λ old mid. KeepsOrPuts first old mid
    × (mid (name_of saved.Master) ≡ old (name_of saved.Master)) in
    let Far : Entries → Entries → Type 0 = λ old mid. First old mid × IsFirsts first (name_of saved.Log) mid in
    let Last : Entries → Entries → Type 0 = λ mid new. HasNewOrOld (name_of saved.Master) (λ it. it ≡ master) mid new
    × KeepsBut (name_of saved.Master) mid new in
    then {P = Far} {Q = Last} a c end (λ old mid new far last.
    let log_stays = last.1 (name_of saved.Log) log_master log_finished in
    record {
      log = old_still first (name_of saved.Log) old mid new far.0.0.log log_stays;
      master = old_since first (name_of saved.Master) old mid new far.0.1
          (old_or_put first (name_of saved.Master) master mid new read_master last.0);
      order = inr (still_firsts first (name_of saved.Log) mid new log_stays far.1);
    })
    (both {R = Far} a c (λ old mid it put. (it, put))
    (both {R = First} a c (λ old mid it same. (it, same))
    (copies_older first a b c (log_older first log a b read put kept) adds)
    (then {R = λ old mid. mid (name_of saved.Master) ≡ old (name_of saved.Master)} a b c (λ old mid new keeps more.
    elim (more (name_of saved.Master) master_finished) [
      | inl is ↦ is ∙ keeps (name_of saved.Master) (λ same. log_master (sym same)) master_finished
      | inr none ↦ absurd (master_no_copy none.1)
    ]) kept adds))
    (log_put first log a b c read whole adds))
    (both {R = Last} c end (λ mid new p q. (p, q)) put_master kept_master)

-- and then the manifest, or it is not
pub manifest_older : (first : Option Entries) (a b c : Option Entries) → Changes (KeepsOrPuts first) a b
    → Changes (KeepsBut (codes "manifest")) b c → Changes (KeepsOrPuts first) a c
manifest_older first a b c = then a b c (λ old mid new it kept.
    let log = kept (name_of saved.Log) log_manifest log_finished in
    let master = kept (name_of saved.Master) master_manifest master_finished in
    record {
      log = old_still first (name_of saved.Log) old mid new it.log log;
      master = old_still first (name_of saved.Master) old mid new it.master master;
      order = order_still first old mid new it.order log master;
    })

-- nothing was changed
pub rest_same : (first : Option Entries) (ids database : List ℕ) (a b : Option Entries) → Changes IsSame a b
    → Changes (KeepsTheRest first ids database) a b
rest_same first ids database a b = so a b (λ old new same. record {
  another = inl same;
  last = inl (same (codes "manifest"));
  older = record {
    log = inl (same (name_of saved.Log));
    master = inl (same (name_of saved.Master));
    order = inl (same (name_of saved.Master));
  };
  others = λ n log master manifest whole some. same n;
})

-- what is of the same database, where only what is unfinished is removed
abbrev SameCleared : Option Entries → List ℕ → List ℕ → Entries → Entries → Type 0
SameCleared first log ids old new = IsOfSame first log ids old × KeepsFinished old new

-- only what is unfinished was removed, from what is of the same database
pub rest_cleared : (first : Option Entries) (log ids database : List ℕ) (a b c : Option Entries)
    → HasBytes first (name_of saved.Log) log → Changes IsSame a b → IfSome b (IsOfSame first log ids)
    → Changes KeepsFinished b c → Changes (KeepsTheRest first ids database) a c
rest_cleared first log ids database a b c read same known kept =
    then {Q = SameCleared first log ids} a b c (λ old mid new is far. record {
      another = inr (log, read, still_same first log ids mid old (λ n whole. sym (is n)) far.0);
      last = inl (far.1 (codes "manifest") manifest_finished ∙ is (codes "manifest"));
      older = record {
        log = inl (far.1 (name_of saved.Log) log_finished ∙ is (name_of saved.Log));
        master = inl (far.1 (name_of saved.Master) master_finished ∙ is (name_of saved.Master));
        order = inl (far.1 (name_of saved.Master) master_finished ∙ is (name_of saved.Master));
      };
      others = λ n log master manifest whole some. far.1 n whole ∙ is n;
    }) same (given b c (λ mid new it far. (it, far)) known kept)

-- and the files were put
pub rest_filled : (first : Option Entries) (log ids database : List ℕ) (a b c d : Option Entries)
    → HasBytes first (name_of saved.Log) log → Changes IsSame a b → IfSome b (IsOfSame first log ids)
    → Changes KeepsFinished b c → Changes (PutsManifestLast first ids database) c d → Changes (KeepsOrPuts first) c d
    → Changes KeepsOtherFiles c d
    → Changes (KeepsTheRest first ids database) a d
rest_filled first log ids database a b c d read same known kept last older others =
    then {P = SameCleared first log ids}
    {Q = λ mid new. PutsManifestLast first ids database mid new × KeepsOrPuts first mid new
    × KeepsOtherFiles mid new} a c d (λ old mid new far after. record {
      another = inr (log, read, far.0);
      last = elim after.0 [
        | inl stays ↦ inl (stays ∙ far.1 (codes "manifest") manifest_finished)
        | inr it ↦ inr (backup_since first ids database old mid new far.1 it)
      ];
      older = record {
        log = old_since first (name_of saved.Log) old mid new (far.1 (name_of saved.Log) log_finished) after.1.log;
        master = old_since first (name_of saved.Master) old mid new (far.1 (name_of saved.Master) master_finished)
            after.1.master;
        order = order_since first old mid new (far.1 (name_of saved.Master) master_finished) after.1.order;
      };
      others = λ n log master manifest whole some.
          let before = far.1 n whole in
          after.2 n log master manifest whole (λ none. some (sym before ∙ none)) ∙ before;
    })
    (then {Q = SameCleared first log ids} a b c (λ old mid new is far.
    (still_same first log ids mid old (λ n whole. sym (is n)) far.0, λ n whole. far.1 n whole ∙ is n))
    same (given b c (λ mid new it far. (it, far)) known kept))
    (both c d (λ mid new p q. (p, q.0, q.1)) last
    (both {R = λ mid new. KeepsOrPuts first mid new × KeepsOtherFiles mid new} c d (λ mid new p q. (p, q)) older others))

-- The log that stands in a folder.
use Rattle.std.proofs.Common.{◌≡◌, ◌∙◌, ℕ, Bool, List, [], ap, arith, inl, inr, length, slice_index_or, subst, sym, take}
use Rattle.std.specs.Prelude.{codes, Err, IfOk, IfSome, None, Ok, Option, Result, Some}
use Rattle.std.proofs.lemmas.List.{take_all}
use Rattle.engine_rules.specs.EngineState.{EngineState}
use Rattle.fuzzy_ckpt.specs.declared.point.Point.{Point}
use Rattle.log_store.specs.Master.{SpellsMaster}
use Rattle.log_store.specs.declared.master.Master.{Master}
use Rattle.manifest.specs.Entries.{Listed}
use Rattle.saved_files.specs.Folder.{Changes, Entries, FolderEntry, IsSame, absent, stored, unsynced}
use Rattle.saved_files.specs.Saved.{name_of}
use Rattle.saved_files.specs.declared.saved_name.SavedName.TheVariants as saved
use Rattle.database_files.specs.Closed.{SpellsNote}
use Rattle.database_files.specs.Found.{AreFoundIn, IsCopyAt, IsFoundAt, IsFoundIn, SpellsManifest}
use Rattle.database_files.specs.declared.closed_note.ClosedNote.{ClosedNote}
use Rattle.database_files.specs.declared.found_copies.CopyFile.{CopyFile}
use Rattle.database_files.specs.DatabaseFolder.{AreOf, AreFirstOf, AreZeros, HasHeadlessLog, HasLength, HasLogBytes, HasLogOf, HasNoOtherVolume, IsHeadless, IsHeadlessAt, IsVolume, IsWithoutLog, IsLogIn}
use Rattle.database_opening.specs.Copies.{ids_unread}
use Rattle.database_files.specs.Master.{IsUnnamed, TellsWrong}
use Rattle.database_opening.specs.Opened.{Begins, BeginsAnew, GoesOnFromFile, HandsOn}
use Rattle.database_files.specs.Found.{HasNoOrphan, TellsOfNoLog}
use Rattle.database_files.proofs.Public.{wrong_same}
use Rattle.database_opening.specs.declared.first_line.FirstLine.{FirstLine}
use Rattle.database_opening.specs.declared.first_line.FirstLine.TheVariants.{New, Restarted}
use Rattle.database_files.specs.declared.log_file.LogFile.{LogFile}

-- the value, where there is one
value_of : Option (List ℕ) → List ℕ
value_of None = []
value_of (Some bytes) = bytes

IsNothing : Option (List ℕ) → Type 0
IsNothing None = Unit {0}
IsNothing (Some bytes) = ⊥

-- bytes with which a file begins, as many as it has, are all of it
all_of : (there : FolderEntry) (held : Option (List ℕ)) (len : ℕ) (bytes : List ℕ) → AreOf there held
    → HasLength there len → AreFirstOf held bytes → length bytes ≡ len → AreOf there (Some bytes)
unfolding IsNothing value_of
all_of absent held len bytes are long begins count = are
all_of unsynced held len bytes are long begins count = tt
all_of (stored all) None len bytes are long begins count = absurd (subst IsNothing are tt)
all_of (stored all) (Some given) len bytes are long begins count =
    let same : given ≡ all = ap value_of are in
    let whole : length bytes ≡ length all = count ∙ long in
    ap Some (begins ∙ ap (λ (n : ℕ). take n given) whole ∙ ap (take (length all)) same
    ∙ take_all (length all) all (omega arith))

pub log_there : {L : Type 0} (entries : Option Entries) (held : L → Option (List ℕ)) (log : LogFile L)
    (bytes : List ℕ) → IsLogIn entries held log → AreFirstOf (held log.file) bytes → length bytes ≡ log.len
    → HasLogBytes entries bytes
log_there None held log bytes is begins count = tt
log_there (Some it) held log bytes is begins count =
    all_of (it (codes "log")) (held log.file) log.len bytes is.0 is.1 begins count

-- ---- a log that has no header

headless_at : (there : FolderEntry) (held : Option (List ℕ)) (len : ℕ) → AreOf there held → HasLength there len
    → IsHeadless held len → IsHeadlessAt there
unfolding IsNothing value_of
headless_at absent held len are long none = tt
headless_at unsynced held len are long none = tt
headless_at (stored all) None len are long none = absurd (subst IsNothing are tt)
headless_at (stored all) (Some given) len are long none = elim none [
  | inl few ↦ inl (omega (arith, few, long))
  | inr zeros ↦
      let same : given ≡ all = ap value_of are in
      inr (subst AreZeros (ap (λ (n : ℕ). take n given) long ∙ ap (take (length all)) same
      ∙ take_all (length all) all (omega arith)) zeros)
]

pub headless_there : {L : Type 0} (entries : Option Entries) (held : L → Option (List ℕ)) (log : LogFile L)
    → IsLogIn entries held log → IsHeadless (held log.file) log.len → HasHeadlessLog entries
headless_there None held log is none = tt
headless_there (Some it) held log is none = headless_at (it (codes "log")) (held log.file) log.len is.0 is.1 none

-- a new one is made, where the log has no header
pub headless_anew : {L T E : Type 0} (r : Result T E) (first : T → FirstLine) (state : T → EngineState)
    (entries : Option Entries) (held : L → Option (List ℕ)) (log : LogFile L) (is_salvage : Bool) (ids : List ℕ)
    (told : Option ℕ) (frames : ℕ) → IsLogIn entries held log → IsHeadless (held log.file) log.len
    → IfOk r (λ it. BeginsAnew entries told frames (first it) (state it))
    → IfOk r (λ it. Begins entries is_salvage (Some log.len) ids told frames (first it) (state it))
headless_anew (Ok it) first state entries held log is_salvage ids told frames there none new =
    inl (there.1, headless_there entries held log there none, new)
headless_anew (Err why) first state entries held log is_salvage ids told frames there none new = tt

-- ---- a folder that is left as it was

no_log_same : (old mid : Option Entries) → Changes IsSame old mid → IsWithoutLog mid → IsWithoutLog old
no_log_same None mid same none = tt
no_log_same (Some old) None same none = absurd same
no_log_same (Some old) (Some mid) same none = sym (same (codes "log")) ∙ none

log_of_same : (old mid : Option Entries) (len : ℕ) → Changes IsSame old mid → HasLogOf mid len → HasLogOf old len
log_of_same None mid len same long = tt
log_of_same (Some old) None len same long = absurd same
log_of_same (Some old) (Some mid) len same long = subst (λ (e : FolderEntry). HasLength e len) (same (codes "log")) long

pub log_same : (old mid : Option Entries) (bytes : List ℕ) → Changes IsSame old mid → HasLogBytes mid bytes → HasLogBytes old bytes
log_same None mid bytes same there = tt
log_same (Some old) None bytes same there = absurd same
log_same (Some old) (Some mid) bytes same there =
    subst (λ (e : FolderEntry). AreOf e (Some bytes)) (same (codes "log")) there

pub found_same : (old mid : Option Entries) (closing : Option ClosedNote) (manifest : Option Listed)
    (master : Option Master) (files : List CopyFile) → Changes IsSame old mid
    → AreFoundIn mid closing manifest master files → AreFoundIn old closing manifest master files
found_same None mid closing manifest master files same found = tt
found_same (Some old) None closing manifest master files same found = absurd same
found_same (Some old) (Some mid) closing manifest master files same found = record {
  closed = subst (λ (e : FolderEntry). IsFoundAt SpellsNote e closing) (same (codes "closed")) found.closed;
  listed = subst (λ (e : FolderEntry). IsFoundAt SpellsManifest e manifest) (same (codes "manifest")) found.listed;
  named = subst (λ (e : FolderEntry). IsFoundAt SpellsMaster e master) (same (codes "master")) found.named;
  copied = λ k d lt.
      let file = slice_index_or files k d in
      subst (λ (e : FolderEntry). IsCopyAt e file.found) (same (name_of (saved.Copy file.id))) (found.copied k d lt);
  all = λ id fits had. found.all id fits (λ none. had (sym (same (name_of (saved.Copy id))) ∙ none));
}

headless_same : (old mid : Option Entries) → Changes IsSame old mid → HasHeadlessLog mid → HasHeadlessLog old
headless_same None mid same none = tt
headless_same (Some old) None same none = absurd same
headless_same (Some old) (Some mid) same none = subst IsHeadlessAt (same (codes "log")) none

volume_same : (old mid : Option Entries) → Changes IsSame old mid → HasNoOtherVolume mid → HasNoOtherVolume old
volume_same None mid same none = tt
volume_same (Some old) None same none = absurd same
volume_same (Some old) (Some mid) same none = subst IsVolume (same (codes "volume")) none

pub goes_on_same : (old mid : Option Entries) (is_salvage : Bool) (count : ℕ) (ids : List ℕ) (pages : Option ℕ)
    (frames : ℕ) (first : FirstLine) (engine : EngineState) → Changes IsSame old mid
    → GoesOnFromFile mid is_salvage count ids pages frames first engine
    → GoesOnFromFile old is_salvage count ids pages frames first engine
goes_on_same old mid is_salvage count ids pages frames first engine same it = record {
  bytes = it.bytes;
  there = log_same old mid it.bytes same it.there;
  all = it.all;
  log = it.log;
  cut = it.cut;
  front = it.front;
  counted = it.counted;
  files = it.files;
  of_ids = it.of_ids;
  rise = it.rise;
  note = it.note;
  manifest = it.manifest;
  master = it.master;
  found = found_same old mid it.note it.manifest it.master it.files same it.found;
  volume = volume_same old mid same it.volume;
  lacks = it.lacks;
  goes_on = it.goes_on;
  framed = it.framed;
  told = it.told;
}

no_orphan_same : (old mid : Entries) → IsSame old mid → HasNoOrphan mid → HasNoOrphan old
no_orphan_same old mid same none = record {
  copies = λ id fits. sym (same (name_of (saved.Copy id))) ∙ none.copies id fits;
  master = sym (same (codes "master")) ∙ none.master;
  closed = sym (same (codes "closed")) ∙ none.closed;
  volume = λ gone. sym (same (codes "volume")) ∙ none.volume (same (codes "log") ∙ gone);
}

tells_none_same : (old mid : Option Entries) → Changes IsSame old mid → IfSome mid TellsOfNoLog → IfSome old TellsOfNoLog
tells_none_same None mid same none = tt
tells_none_same (Some old) None same none = absurd same
tells_none_same (Some old) (Some mid) same none = record {
  files = no_orphan_same old mid same none.files;
  manifest = none.manifest;
  listed = subst (λ (e : FolderEntry). IsFoundAt SpellsManifest e none.manifest) (same (codes "manifest")) none.listed;
  header = none.header;
}

anew_same : (old mid : Option Entries) (told : Option ℕ) (frames : ℕ) (first : FirstLine) (engine : EngineState)
    → Changes IsSame old mid → BeginsAnew mid told frames first engine → BeginsAnew old told frames first engine
anew_same old mid told frames first engine same begins =
    (tells_none_same old mid same begins.0, volume_same old mid same begins.1, begins.2)

pub begins_same : (old mid : Option Entries) (is_salvage : Bool) (log : Option ℕ) (ids : List ℕ) (told : Option ℕ)
    (frames : ℕ) (first : FirstLine) (engine : EngineState) → Changes IsSame old mid
    → Begins mid is_salvage log ids told frames first engine → Begins old is_salvage log ids told frames first engine
begins_same old mid is_salvage None ids told frames first engine same begins =
    (no_log_same old mid same begins.0, anew_same old mid told frames first engine same begins.1)
begins_same old mid is_salvage (Some len) ids told frames first engine same begins = elim begins [
  | inl new ↦ inl (log_of_same old mid len same new.0, headless_same old mid same new.1, anew_same old mid told frames first engine same new.2)
  | inr it ↦ inr (goes_on_same old mid is_salvage len ids told frames first engine same it)
]

-- it was opened behind a claim that left the folder as it was
pub opened_in : {T E : Type 0} (r : Result T E) (first : T → FirstLine) (state : T → EngineState)
    (old mid : Option Entries) (is_salvage : Bool) (log : Option ℕ) (ids : List ℕ) (told : Option ℕ) (frames : ℕ)
    → Changes IsSame old mid → IfOk r (λ it. Begins mid is_salvage log ids told frames (first it) (state it))
    → IfOk r (λ it. (l : Option ℕ) × (is : List ℕ) × Begins old is_salvage l is told frames (first it) (state it))
opened_in (Ok it) first state old mid is_salvage log ids told frames same begins =
    (log, ids, begins_same old mid is_salvage log ids told frames (first it) (state it) same begins)
opened_in (Err why) first state old mid is_salvage log ids told frames same begins = tt

-- ---- what a session is handed

IsNewLine : FirstLine → Type 0
IsNewLine (New pages) = Unit {0}
IsNewLine (Restarted cut taken_back records) = ⊥

-- where a database goes on, the first line says so
pub goes_on_handed : (entries : Option Entries) (is_salvage : Bool) (count : ℕ) (ids : List ℕ) (pages : Option ℕ)
    (frames : ℕ) (first : FirstLine) (engine : EngineState) (unread : List ℕ) (point : Option Point) (is_wrong : Bool)
    (it : GoesOnFromFile entries is_salvage count ids pages frames first engine) → unread ≡ ids_unread it.files
    → IsUnnamed it.log it.master point → TellsWrong entries it.log it.master is_wrong
    → HandsOn entries is_salvage first engine unread point is_wrong
unfolding IsNewLine
goes_on_handed entries is_salvage count ids pages frames (New made) engine unread point is_wrong it are unnamed tells =
    absurd (subst IsNewLine it.told tt)
goes_on_handed entries is_salvage count ids pages frames (Restarted cut taken_back records) engine unread point is_wrong it are unnamed tells =
    (count, ids, pages, frames, it, are, unnamed, tells)

handed_same : (old mid : Option Entries) (is_salvage : Bool) (first : FirstLine) (engine : EngineState)
    (unread : List ℕ) (point : Option Point) (is_wrong : Bool) → Changes IsSame old mid
    → HandsOn mid is_salvage first engine unread point is_wrong
    → HandsOn old is_salvage first engine unread point is_wrong
unfolding goes_on_same
handed_same old mid is_salvage (New pages) engine unread point is_wrong same on = on
handed_same old mid is_salvage (Restarted cut taken_back records) engine unread point is_wrong same on =
    let first = Restarted cut taken_back records in (
      on.0,
      on.1,
      on.2,
      on.3,
      goes_on_same old mid is_salvage on.0 on.1 on.2 on.3 first engine same on.4,
      on.5,
      on.6,
      wrong_same old mid on.4.log on.4.master is_wrong same on.7,
    )

-- so it is behind a claim that left the folder as it was
pub handed_in : {T E : Type 0} (r : Result T E) (first : T → FirstLine) (state : T → EngineState)
    (unread : T → List ℕ) (point : T → Option Point) (is_wrong : T → Bool) (old mid : Option Entries) (is_salvage : Bool)
    → Changes IsSame old mid
    → IfOk r (λ it. HandsOn mid is_salvage (first it) (state it) (unread it) (point it) (is_wrong it))
    → IfOk r (λ it. HandsOn old is_salvage (first it) (state it) (unread it) (point it) (is_wrong it))
handed_in (Ok it) first state unread point is_wrong old mid is_salvage same on =
    handed_same old mid is_salvage (first it) (state it) (unread it) (point it) (is_wrong it) same on
handed_in (Err why) first state unread point is_wrong old mid is_salvage same on = tt

-- ---- the manifest that is handed on

-- the manifest that was found beside the log
pub manifest_found : (entries : Option Entries) (note : Option ClosedNote) (manifest : Option Listed)
    (master : Option Master) (files : List CopyFile) → AreFoundIn entries note manifest master files
    → IsFoundIn SpellsManifest entries (codes "manifest") manifest
manifest_found None closing manifest master files found = tt
manifest_found (Some there) closing manifest master files found = found.listed

manifest_same : (old mid : Option Entries) (manifest : Option Listed) → Changes IsSame old mid
    → IsFoundIn SpellsManifest mid (codes "manifest") manifest → IsFoundIn SpellsManifest old (codes "manifest") manifest
manifest_same None mid manifest same found = tt
manifest_same (Some old) None manifest same found = absurd same
manifest_same (Some old) (Some mid) manifest same found =
    subst (λ (e : FolderEntry). IsFoundAt SpellsManifest e manifest) (same (codes "manifest")) found

-- so it is behind a claim that left the folder as it was
pub manifest_in : {T E : Type 0} (r : Result T E) (manifest : T → Option Listed) (old mid : Option Entries)
    → Changes IsSame old mid → IfOk r (λ it. IsFoundIn SpellsManifest mid (codes "manifest") (manifest it))
    → IfOk r (λ it. IsFoundIn SpellsManifest old (codes "manifest") (manifest it))
manifest_in (Ok it) manifest old mid same found = manifest_same old mid (manifest it) same found
manifest_in (Err why) manifest old mid same found = tt

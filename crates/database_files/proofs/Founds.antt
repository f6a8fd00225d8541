-- What is found in a folder is what stands there.
use Rattle.std.proofs.Common.{◌≡◌, ◌≢◌, ◌↔◌, ◌<◌, ◌≤◌, ◌∙◌, ◌++◌, ◌∷◌, ℕ, Bool, List, [], ap, arith, false, IsTrue, length, length-take, map, refl, subst, sym, take, true, true≢false}
use Rattle.std.specs.Prelude.{codes, IfSome, None, Option, Some, string_bytes}
use Rattle.std.specs.List.{All, Contains}
use Rattle.std.proofs.lemmas.List.{take_all}
use Rattle.std.proofs.lemmas.List.Elements.{All-nil, All-push}
use Rattle.copy_vault.specs.Archive.{SpellsCopy}
use Rattle.copy_vault.specs.ArchiveFault.{IsOutside}
use Rattle.copy_vault.specs.declared.archive_fault.ArchiveFault.{ArchiveFault}
use Rattle.copy_vault.specs.Copy.{CopyView}
use Rattle.log_records.specs.declared.limits.TheConstants.{HEADER_BYTES}
use Rattle.log_store.specs.Master.{SpellsMaster}
use Rattle.log_store.specs.declared.master.Master.{Master}
use Rattle.log_store.proofs.Public.{length-master_bytes}
use Rattle.manifest.specs.Entries.{Listed}
use Rattle.page_core.proofs.Public.{at_some}
use Rattle.saved_files.specs.Folder.{Entries, FolderEntry, absent, stored, unsynced}
use Rattle.saved_files.specs.Saved.{name_of}
use Rattle.saved_files.specs.declared.saved_name.SavedName.TheVariants as saved
use Rattle.database_files.specs.Closed.{SpellsNote}
use Rattle.database_files.specs.DatabaseFolder.{AreOf, BeginsIn, ListsAll, MayBeNotAFile, Tells}
use Rattle.database_files.specs.Found.{AreFoundIn, IsCopyAt, IsCopyIn, IsCopyReadOf, IsFoundAt, IsFoundIn, IsHadIn, IsInventoryOf, IsReadOf, IsRefusedFor, IsUnreadOnceTried, SpellsManifest, TellsNames}
use Rattle.database_files.specs.Evidence.{log_line}
use Rattle.database_files.specs.Found.{HasNoOrphan, TellsOfNoLog}
use Rattle.database_files.specs.Standing.{IsUnfinished}
use Rattle.database_files.specs.declared.closed_note.ClosedNote.{ClosedNote}
use Rattle.database_files.specs.declared.copy_trouble.CopyTrouble.{CopyTrouble}
use Rattle.database_files.specs.declared.database_folder.Standing.TheVariants.{File, NotAFile}
use Rattle.database_files.specs.declared.found_copies.CopyFile.{CopyFile}
use Rattle.database_files.specs.declared.found_copies.FoundCopy.{FoundCopy}
use Rattle.database_files.specs.declared.found_copies.FoundCopy.TheVariants.{Unread, Whole, Wrong}
use Rattle.database_files.specs.declared.inventory.Inventory.{Inventory}

-- ---- names

same_name : (P Q R : Type 0) → P ↔ Q → R ↔ Q → P ↔ R
same_name P Q R told lists = (λ p. lists.1 (told.0 p), λ r. told.1 (lists.0 r))

-- an inventory of all names that are listed is one of the folder
pub of_listed : (entries : Option Entries) (names : List (List ℕ)) (it : Inventory) → ListsAll entries names
    → TellsNames (Contains names) it → IsInventoryOf entries it
of_listed None names it lists told = tt
of_listed (Some there) names it lists told = record {
  log = same_name _ _ _ told.log (lists (codes "log"));
  volume = same_name _ _ _ told.volume (lists (codes "volume"));
  master = same_name _ _ _ told.master (lists (codes "master"));
  closed = same_name _ _ _ told.closed (lists (codes "closed"));
  manifest = same_name _ _ _ told.manifest (lists (codes "manifest"));
  copies = λ id. (
    λ has. let is = (told.copies id).0 has in (is.0, (lists (name_of (saved.Copy id))).1 is.1),
    λ had. (told.copies id).1 (had.0, (lists (name_of (saved.Copy id))).0 had.1),
  );
  unfinished = told.unfinished;
}

IsAbsent : FolderEntry → Type 0
IsAbsent absent = Unit {0}
IsAbsent unsynced = ⊥
IsAbsent (stored bytes) = ⊥

none_stands : (there : FolderEntry) → ¬ (there ≢ absent) → there ≡ absent
unfolding IsAbsent
none_stands absent not = refl
none_stands unsynced not = absurd (not (λ is. subst IsAbsent (sym is) tt))
none_stands (stored bytes) not = absurd (not (λ is. subst IsAbsent (sym is) tt))

tells : (there : Entries) (name : List ℕ) (told : Bool) → IsTrue told ↔ IsHadIn there name → Tells (Some there) name told
tells there name true is = is.0 refl
tells there name false is = none_stands (there name) (λ had. true≢false (sym (is.1 had)))

pub tells_closed : (entries : Option Entries) (it : Inventory) → IsInventoryOf entries it
    → Tells entries (codes "closed") it.has_closed
tells_closed None it is = tt
tells_closed (Some there) it is = tells there (codes "closed") it.has_closed is.closed

pub tells_manifest : (entries : Option Entries) (it : Inventory) → IsInventoryOf entries it
    → Tells entries (codes "manifest") it.has_manifest
tells_manifest None it is = tt
tells_manifest (Some there) it is = tells there (codes "manifest") it.has_manifest is.manifest

pub tells_master : (entries : Option Entries) (it : Inventory) → IsInventoryOf entries it
    → Tells entries (codes "master") it.has_master
tells_master None it is = tt
tells_master (Some there) it is = tells there (codes "master") it.has_master is.master

-- a name of which it is told that nothing has it
told_none : (there : Entries) (name : List ℕ) (told : Bool) → IsTrue told ↔ IsHadIn there name → told ≡ false
    → there name ≡ absent
told_none there name told is none = none_stands (there name) (λ had. true≢false (sym (is.1 had) ∙ none))

none_told : (there : Entries) (name : List ℕ) (told : Bool) → IsTrue told ↔ IsHadIn there name → there name ≡ absent
    → told ≡ false
none_told there name true is none = absurd (is.0 refl none)
none_told there name false is none = refl

none_in : (ids : List ℕ) (id : ℕ) → ids ≡ [] → ¬ Contains ids id
none_in ids id none has = absurd (omega (arith, has.1, ap (length {A = ℕ}) none))

-- where it is told of none of these files, none stands there
pub no_orphan : (entries : Option Entries) (it : Inventory) → IsInventoryOf entries it → it.copies.items ≡ []
    → it.has_master ≡ false → it.has_closed ≡ false → (it.has_log ≡ false → it.has_volume ≡ false)
    → IfSome entries HasNoOrphan
no_orphan None it is copies master closed volume = tt
no_orphan (Some there) it is copies master closed volume = record {
  copies = λ id fits. none_stands (there (name_of (saved.Copy id)))
      (λ had. none_in it.copies.items id copies ((is.copies id).1 (fits, had)));
  master = told_none there (codes "master") it.has_master is.master master;
  closed = told_none there (codes "closed") it.has_closed is.closed closed;
  volume = λ none. told_none there (codes "volume") it.has_volume is.volume
      (volume (none_told there (codes "log") it.has_log is.log none));
}

-- and a manifest that names no more than a header
pub no_log_told : (entries : Option Entries) (manifest : Option Listed) → IfSome entries HasNoOrphan
    → IsFoundIn SpellsManifest entries (codes "manifest") manifest
    → IfSome (log_line manifest) (λ it. it.bytes ≤ HEADER_BYTES) → IfSome entries TellsOfNoLog
no_log_told None manifest files listed header = tt
no_log_told (Some there) manifest files listed header =
    record { files = files; manifest = manifest; listed = listed; header = header }

-- what it has to go is not whole
pub are_unfinished : (entries : Option Entries) (it : Inventory) → IsInventoryOf entries it
    → IfSome entries (λ there. All IsUnfinished (map string_bytes it.unfinished.items))
are_unfinished None it is = tt
are_unfinished (Some there) it is = is.unfinished

-- ---- the note, the manifest and the master record

-- where nothing has the name, nothing is found
pub none_found : {T : Type 0} (spells : T → List ℕ → Type 0) (entries : Option Entries) (name : List ℕ)
    → Tells entries name false → IsFoundIn spells entries name None
none_found spells None name none = tt
none_found spells (Some there) name none = subst (λ (e : FolderEntry). IsFoundAt spells e None) (sym none) refl

-- or where something is no file
not_at : {T : Type 0} (spells : T → List ℕ → Type 0) (there : FolderEntry) → MayBeNotAFile there → IsFoundAt spells there None
not_at spells absent is = absurd is
not_at spells unsynced is = tt
not_at spells (stored bytes) is = absurd is

pub no_file_found : {T : Type 0} (spells : T → List ℕ → Type 0) (entries : Option Entries) (name buffer : List ℕ)
    → IfSome entries (λ there. BeginsIn NotAFile buffer (there name)) → IsFoundIn spells entries name None
no_file_found spells None name buffer begins = tt
no_file_found spells (Some there) name buffer begins = not_at spells (there name) begins

-- a file of which less was read than there was room for was read whole
whole_of : (n : ℕ) (all : List ℕ) → length (take n all) < n → take n all ≡ all
whole_of n all few = take_all n all (omega (arith, length-take n all))

-- what is found in the first bytes of a file, of which there are more than it takes, is found in all of them
of_first : {T : Type 0} (spells : T → List ℕ → Type 0) (n : ℕ) (all : List ℕ) (it : Option T)
    → ((x : T) (bytes : List ℕ) → spells x bytes → length bytes < n) → IsReadOf spells (take n all) it
    → IsReadOf spells all it
of_first spells n all None few read = λ x is.
    read x (subst (spells x) (sym (take_all n all (omega (arith, few x all is)))) is)
of_first spells n all (Some x) few read = subst (spells x) (whole_of n all (few x (take n all) read)) read

first_at : {T : Type 0} (spells : T → List ℕ → Type 0) (n : ℕ) (there : FolderEntry) (buffer part : List ℕ) (len : ℕ)
    (it : Option T) → ((x : T) (bytes : List ℕ) → spells x bytes → length bytes < n) → length buffer ≡ n
    → (len ≤ length buffer → part ≡ take len buffer) → BeginsIn (File len) buffer there → IsReadOf spells part it
    → IsFoundAt spells there it
first_at spells n absent buffer part len it few long cut begins read = absurd begins.1
first_at spells n unsynced buffer part len it few long cut begins read = tt
first_at spells n (stored all) buffer part len it few long cut begins read =
    let same : part ≡ take n all = cut begins.0 ∙ begins.1 ∙ ap (λ (k : ℕ). take k all) long in
    of_first spells n all it few (subst (λ (bytes : List ℕ). IsReadOf spells bytes it) same read)

pub first_found : {T : Type 0} (spells : T → List ℕ → Type 0) (n : ℕ) (entries : Option Entries)
    (name buffer part : List ℕ) (len : ℕ) (it : Option T) → ((x : T) (bytes : List ℕ) → spells x bytes → length bytes < n)
    → length buffer ≡ n → (len ≤ length buffer → part ≡ take len buffer)
    → IfSome entries (λ there. BeginsIn (File len) buffer (there name)) → IsReadOf spells part it
    → IsFoundIn spells entries name it
first_found spells n None name buffer part len it few long cut begins read = tt
first_found spells n (Some there) name buffer part len it few long cut begins read =
    first_at spells n (there name) buffer part len it few long cut begins read

pub is_short_master : (m : Master) (bytes : List ℕ) → SpellsMaster m bytes → length bytes < 65
is_short_master m bytes it = omega (arith, ap (length {A = ℕ}) it.spelled, length-master_bytes m)

-- ---- copies

-- a fault that is of the bytes shows that they spell no copy
refused_at : (bytes : List ℕ) (fault : ArchiveFault) (it : FoundCopy) → IsRefusedFor fault it
    → ((copy : CopyView) → SpellsCopy copy bytes → IsOutside fault) → IsCopyReadOf bytes it
refused_at bytes fault (Whole copy) is only = absurd is
refused_at bytes fault (Wrong why) is only = λ copy spells. is (only copy spells)
refused_at bytes fault (Unread why) is only = tt

pub is_refused : (known : Option (List ℕ)) (fault : ArchiveFault) (it : FoundCopy) → IsRefusedFor fault it
    → ((copy : CopyView) (input : List ℕ) → known ≡ Some input → SpellsCopy copy input → IsOutside fault)
    → IfSome known (λ bytes. IsCopyReadOf bytes it)
is_refused None fault it is only = tt
is_refused (Some bytes) fault it is only = refused_at bytes fault it is (λ copy spells. only copy bytes refl spells)

copy_at : (there : FolderEntry) (known : Option (List ℕ)) (it : FoundCopy) → AreOf there known
    → IfSome known (λ bytes. IsCopyReadOf bytes it) → IsCopyAt there it
copy_at absent known it are read = absurd are
copy_at unsynced known it are read = tt
copy_at (stored all) known it are read = at_some known all (λ bytes. IsCopyReadOf bytes it) are read

pub copy_found : (entries : Option Entries) (text name : List ℕ) (known : Option (List ℕ)) (it : FoundCopy) → text ≡ name
    → IfSome entries (λ there. AreOf (there text) known) → IfSome known (λ bytes. IsCopyReadOf bytes it)
    → IfSome entries (λ there. IsCopyAt (there name) it)
copy_found None text name known it same are read = tt
copy_found (Some there) text name known it same are read =
    subst (λ (n : List ℕ). IsCopyAt (there n) it) same (copy_at (there text) known it are read)

-- of one that could not be read nothing is told
unread_at : (there : FolderEntry) (why : CopyTrouble) → IsCopyAt there (Unread why)
unread_at absent why = tt
unread_at unsynced why = tt
unread_at (stored bytes) why = tt

pub unread_found : (entries : Option Entries) (name : List ℕ) (why : CopyTrouble)
    → IfSome entries (λ there. IsCopyAt (there name) (Unread why))
unread_found None name why = tt
unread_found (Some there) name why = unread_at (there name) why

pub none_read : (entries : Option Entries) (files : List CopyFile) → files ≡ []
    → IfSome entries (λ there. All (IsCopyIn there) files)
none_read None files none = tt
none_read (Some there) files none =
    subst (λ (all : List CopyFile). All (IsCopyIn there) all) (sym none) (All-nil (IsCopyIn there))

pub one_read : (entries : Option Entries) (files now : List CopyFile) (file : CopyFile) → now ≡ files ++ file ∷ []
    → IfSome entries (λ there. All (IsCopyIn there) files)
    → IfSome entries (λ there. IsCopyAt (there (name_of (saved.Copy file.id))) file.found)
    → IfSome entries (λ there. All (IsCopyIn there) now)
one_read None files now file pushed so_far read = tt
one_read (Some there) files now file pushed so_far read =
    subst (λ (all : List CopyFile). All (IsCopyIn there) all) (sym pushed) (All-push (IsCopyIn there) files file so_far read)

-- ---- copies that could not be read

pub none_tried : (was_asked : List ℕ → Type 0) (files : List CopyFile) → files ≡ []
    → All (IsUnreadOnceTried was_asked) files
none_tried was_asked files none =
    subst (λ (all : List CopyFile). All (IsUnreadOnceTried was_asked) all) (sym none) (All-nil (IsUnreadOnceTried was_asked))

pub one_tried : (was_asked : List ℕ → Type 0) (files now : List CopyFile) (file : CopyFile)
    → now ≡ files ++ file ∷ [] → All (IsUnreadOnceTried was_asked) files → was_asked (name_of (saved.Copy file.id))
    → All (IsUnreadOnceTried was_asked) now
one_tried was_asked files now file pushed so_far tried =
    subst (λ (all : List CopyFile). All (IsUnreadOnceTried was_asked) all) (sym pushed)
    (All-push (IsUnreadOnceTried was_asked) files file so_far (λ unread. tried))

-- ---- all of them

pub all_found : (entries : Option Entries) (it : Inventory) (note : Option ClosedNote) (manifest : Option Listed)
    (master : Option Master) (copies : List CopyFile) → IsInventoryOf entries it
    → IsFoundIn SpellsNote entries (codes "closed") note → IsFoundIn SpellsManifest entries (codes "manifest") manifest
    → IsFoundIn SpellsMaster entries (codes "master") master → IfSome entries (λ there. All (IsCopyIn there) copies)
    → map (λ file. file.id) copies ≡ it.copies.items → AreFoundIn entries note manifest master copies
all_found None it closing manifest master copies is noted listed named read ids = tt
all_found (Some there) it closing manifest master copies is noted listed named read ids = record {
  closed = noted;
  listed = listed;
  named = named;
  copied = read;
  all = λ id fits had. subst (λ (all : List ℕ). Contains all id) (sym ids) ((is.copies id).1 (fits, had));
}

-- What stands in a folder under each name.
use Rattle.std.specs.Prelude.{ℕ, ◌≡◌, ◌≢◌, ◌⊎◌, List, [], ◌++◌, codes, decimal, ⊤, Option, Some}
use Rattle.std.specs.Prelude.{None}

-- what stands under a name: nothing; a file that was not synced after it was made, so that it is
-- not known which bytes are stored; or a file of which these bytes are stored
pub data FolderEntry : Type 0 where
  absent : FolderEntry
  unsynced : FolderEntry
  stored : (bytes : List ℕ) → FolderEntry

-- what stands under each name
abbrev pub Entries : Type 0
Entries = List ℕ → FolderEntry

-- the entries of a folder change like this, where they are known; and they are known after a change
-- just where they were before
abbrev pub Changes : (Entries → Entries → Type 0) → Option Entries → Option Entries → Type 0
Changes like None None = ⊤
Changes like None (Some new) = ⊥
Changes like (Some old) None = ⊥
Changes like (Some old) (Some new) = like old new

-- each name but this one keeps what stands under it
abbrev pub KeepsOthers : List ℕ → Entries → Entries → Type 0
KeepsOthers name old new = (n : List ℕ) → n ≢ name → new n ≡ old n

-- a new file of this name stands there, where nothing stood, which has no bytes yet, and the other
-- names are as before
pub record IsMade (name : List ℕ) (contents : Option (List ℕ)) (old new : Entries) : Type 0 where
  pub fresh : old name ≡ absent
  pub made : new name ≡ unsynced
  pub empty : contents ≡ Some []
  pub others : KeepsOthers name old new

-- of the file of this name these bytes are stored, and the other names are as before
pub record IsSynced (name : List ℕ) (contents : Option (List ℕ)) (old new : Entries) : Type 0 where
  pub bytes : List ℕ
  pub whole : contents ≡ Some bytes
  pub synced : new name ≡ stored bytes
  pub others : KeepsOthers name old new

-- nothing stands under this name, and the other names are as before
pub record IsRemoved (name : List ℕ) (old new : Entries) : Type 0 where
  pub removed : new name ≡ absent
  pub others : KeepsOthers name old new

-- what stood under a name stands under another one
pub record IsRenamed (from to : List ℕ) (old new : Entries) : Type 0 where
  pub moved : new to ≡ old from
  pub left : from ≢ to → new from ≡ absent
  pub others : (n : List ℕ) → n ≢ from → n ≢ to → new n ≡ old n

-- all is as before
abbrev pub IsSame : Entries → Entries → Type 0
IsSame old new = (n : List ℕ) → new n ≡ old n

-- it was renamed, or all is as before
abbrev pub RenamesOrKeeps : List ℕ → List ℕ → Entries → Entries → Type 0
RenamesOrKeeps from to old new = IsRenamed from to old new ⊎ IsSame old new

-- ---- what a crash leaves

-- what a crash may leave under each name, whatever it leaves under the others
abbrev pub Remains : Type 1
Remains = List ℕ → FolderEntry → Type 0

-- a crash may leave just these entries
abbrev pub MayLeave : Remains → Entries → Type 0
MayLeave remains left = (n : List ℕ) → remains n (left n)

-- a crash may leave all that it might leave before
abbrev pub LeavesToo : Remains → Remains → Type 0
LeavesToo before after = (n : List ℕ) (e : FolderEntry) → before n e → after n e

-- all that it might leave before, and else only such entries
pub record LeavesOnly (such before after : Remains) : Type 0 where
  pub earlier : LeavesToo before after
  pub only : (n : List ℕ) (e : FolderEntry) → after n e → before n e ⊎ such n e

-- it had this, or has it now
abbrev pub HadOrHas : Entries → Entries → Remains
HadOrHas old new n e = (e ≡ old n) ⊎ (e ≡ new n)

-- a call may be undone by a crash: each name has what might be left under it before, what it had
-- before the call, or what it has since
abbrev pub LeavesEither : Remains → Remains → Entries → Entries → Type 0
LeavesEither before after old new = LeavesOnly (HadOrHas old new) before after

-- a crash leaves what stands, and nothing else
abbrev pub LeavesAsIs : Remains → Entries → Type 0
LeavesAsIs remains entries = (n : List ℕ) (e : FolderEntry) → remains n e → e ≡ entries n

-- ---- a file that takes the place of an older one

-- a name that a file has while it is written, beside the name that it is to have
abbrev pub IsBeside : List ℕ → List ℕ → Type 0
IsBeside name n = (number : ℕ) × (n ≡ name ++ (codes ".unfinished-" ++ decimal number))

-- every name but this one keeps what stood under it; but where nothing stood, an unfinished file
-- may be left
abbrev pub KeepsBeside : List ℕ → Entries → Entries → Type 0
KeepsBeside name old new = (n : List ℕ) → n ≢ name
    → (new n ≡ old n) ⊎ ((old n ≡ absent) × IsBeside name n)

-- the name has what it had, and so has every other one, but for an unfinished file where nothing
-- stood
abbrev pub KeepsName : List ℕ → Entries → Entries → Type 0
KeepsName name old new = (new name ≡ old name) × KeepsBeside name old new

-- a file of such bytes stands under this name, whole, and every other name keeps what stood under
-- it: no unfinished file is left
pub record Puts (name : List ℕ) (fits : List ℕ → Type 0) (old new : Entries) : Type 0 where
  pub bytes : List ℕ
  pub right : fits bytes
  pub put : new name ≡ stored bytes
  pub others : KeepsOthers name old new

-- a file of such bytes, whole
abbrev pub IsWhole : (List ℕ → Type 0) → FolderEntry → Type 0
IsWhole fits e = (bytes : List ℕ) × fits bytes × (e ≡ stored bytes)

-- the name has what it had, or a file of such bytes, whole
abbrev pub HasNewOrOld : List ℕ → (List ℕ → Type 0) → Entries → Entries → Type 0
HasNewOrOld name fits old new = IsWhole fits (new name) ⊎ (new name ≡ old name)

-- and every other name has what it had, but for an unfinished file where nothing stood
pub record PutsOrKeeps (name : List ℕ) (fits : List ℕ → Type 0) (old new : Entries) : Type 0 where
  pub either : HasNewOrOld name fits old new
  pub others : KeepsBeside name old new

-- what a name may have meanwhile: what it had; the new file, whole, if it is its name; or an
-- unfinished file, where nothing stood
abbrev pub MayHave : List ℕ → (List ℕ → Type 0) → Entries → Remains
MayHave name fits old n e =
    (e ≡ old n) ⊎ (((n ≡ name) × IsWhole fits e) ⊎ ((old n ≡ absent) × IsBeside name n))

-- a crash leaves under the name of such a file what it might leave before, what stood there, or the
-- new file, whole; and under the other ones no more than an unfinished file
abbrev pub LeavesWhole : List ℕ → (List ℕ → Type 0) → Remains → Remains → Entries → Entries → Type 0
LeavesWhole name fits before after old new = LeavesOnly (MayHave name fits old) before after

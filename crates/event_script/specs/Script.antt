-- The grammar of a script: what a line says, and which lines make a script.
use Rattle.std.specs.Prelude.{ℕ, ◌-◌, ◌≡◌, ◌≤◌, List, [], ◌∷◌, codes, take, nat_eq}
use Rattle.std.specs.Prelude.{Option, Some, None, if◌then◌else◌, IsSome}
use Rattle.std.specs.Option.{option_map}
use Rattle.std.specs.Str.{bytes_eq}
use Rattle.engine_calls.specs.declared.event.Event.{Event}
use Rattle.engine_calls.specs.declared.event.Event.TheVariants.{Begin, Set, Add, Read, Commit, Abort}
use Rattle.engine_calls.specs.declared.event.Event.TheVariants.{UndoStep, Savepoint, UndoTo, Force}
use Rattle.engine_calls.specs.declared.event.Event.TheVariants.{WriteBegin, WriteEnd}
use Rattle.engine_calls.specs.declared.event.Event.TheVariants.{CkptBegin, CkptGather, CkptEnd}
use Rattle.engine_calls.specs.declared.event.Event.TheVariants.{CopyFull, CopyInc, Take, Seal}
use Rattle.engine_calls.specs.declared.event.Event.TheVariants.{DropCopy, Repair, Extend}
use Rattle.event_script.specs.declared.call.Args.{Args}
use Rattle.event_script.specs.declared.call.Args.TheVariants.{Nothing, One, Two, Four}
use Rattle.event_script.specs.declared.line.Line.{Line}
use Rattle.event_script.specs.declared.line.Line.TheVariants.{Skipped, Call, Restore}
use Rattle.event_script.specs.declared.script.LastRestore.{LastRestore}
use Rattle.event_script.specs.Words.{below, number_of, without_return, words_of}

-- numbers that fit 32 and 16 bits
abbrev pub in_u32 : ℕ → Option ℕ
in_u32 number = below 4294967296 (Some number)

abbrev pub in_u16 : ℕ → Option ℕ
in_u16 number = below 65536 (Some number)

-- what stands behind a word in a table
abbrev pub entry_of : {A : Type 0} → List (List ℕ × A) → List ℕ → Option A
entry_of [] word = None
entry_of (entry ∷ table) word =
    if bytes_eq word entry.0 then Some entry.1 else entry_of table word

-- the calls without numbers
abbrev pub plain_calls : List (List ℕ × Event)
plain_calls = (codes "begin", Begin) ∷ (codes "force", Force) ∷ (codes "full", CopyFull) ∷ []

abbrev pub checkpoint_calls : List (List ℕ × Event)
checkpoint_calls =
    (codes "ckpt", CkptBegin) ∷ (codes "gather", CkptGather) ∷ (codes "endckpt", CkptEnd) ∷ []

-- the calls of a transaction, of a page, of a copy and of the volume
abbrev pub txn_calls : List (List ℕ × (ℕ → Event))
txn_calls =
    (codes "commit", Commit) ∷ (codes "abort", Abort) ∷ (codes "undo", UndoStep)
    ∷ (codes "save", Savepoint) ∷ []

abbrev pub page_calls : List (List ℕ × (ℕ → Event))
page_calls = (codes "wbegin", WriteBegin) ∷ (codes "wend", WriteEnd) ∷ []

abbrev pub copy_calls : List (List ℕ × (ℕ → Event))
copy_calls = (codes "inc", CopyInc) ∷ (codes "seal", Seal) ∷ (codes "drop", DropCopy) ∷ []

abbrev pub volume_calls : List (List ℕ × (ℕ → Event))
volume_calls = (codes "extend", Extend) ∷ []

-- the calls of a page of a copy
abbrev pub copied_page_calls : List (List ℕ × (ℕ → ℕ → Event))
copied_page_calls = (codes "take", Take) ∷ (codes "repair", Repair) ∷ []

-- the calls that change a slot: transaction, page, slot and number
abbrev pub changes : List (List ℕ × (ℕ → ℕ → ℕ → ℕ → Event))
changes = (codes "set", Set) ∷ (codes "add", Add) ∷ []

infixl 10 ◌>>=◌
abbrev pub ◌>>=◌ : {A B : Type 0} → Option A → (A → Option B) → Option B
None >>= f = None
(Some x) >>= f = f x

-- the numbers behind a call's name: none, one, two or four
abbrev pub args_of : List (List ℕ) → Option Args
args_of [] = Some Nothing
args_of (a ∷ []) = do
  a ← number_of a
  Some (One a)
args_of (a ∷ b ∷ []) = do
  a ← number_of a
  b ← number_of b
  Some (Two a b)
args_of (a ∷ b ∷ c ∷ d ∷ []) = do
  a ← number_of a
  b ← number_of b
  c ← number_of c
  d ← number_of d
  Some (Four a b c d)
args_of other = None

-- the first one that is there
abbrev pub or_else : Option Event → Option Event → Option Event
or_else None next = next
or_else (Some event) next = Some event

abbrev pub call_of_none : List ℕ → Option Event
call_of_none name = or_else (entry_of plain_calls name) (entry_of checkpoint_calls name)

abbrev pub called : Option (ℕ → Event) → ℕ → Option Event
called None number = None
called (Some call) number = Some (call number)

abbrev pub call_of_one : List ℕ → ℕ → Option Event
call_of_one name number = do
  number ← in_u32 number
  or_else (called (entry_of txn_calls name) number)
      (or_else (called (entry_of page_calls name) number)
      (or_else (called (entry_of copy_calls name) number)
      (called (entry_of volume_calls name) number)))

-- a page and a slot
abbrev pub read_of : ℕ → ℕ → Option Event
read_of page slot = do
  page ← in_u32 page
  slot ← in_u16 slot
  Some (Read page slot)

-- a copy and a page
abbrev pub call_of_copied_page : List ℕ → ℕ → ℕ → Option Event
call_of_copied_page name copy page = do
  call ← entry_of copied_page_calls name
  copy ← in_u32 copy
  page ← in_u32 page
  Some (call copy page)

-- a transaction, and the LSN of the savepoint to which it goes back
abbrev pub undo_to_of : ℕ → ℕ → Option Event
undo_to_of txn savepoint = do
  txn ← in_u32 txn
  Some (UndoTo txn savepoint)

abbrev pub call_of_two : List ℕ → ℕ → ℕ → Option Event
call_of_two name first second =
    if bytes_eq name (codes "read") then read_of first second
    else if bytes_eq name (codes "undoto") then undo_to_of first second
    else call_of_copied_page name first second

abbrev pub change_of : List ℕ → ℕ → ℕ → ℕ → ℕ → Option Event
change_of name txn page slot number = do
  change ← entry_of changes name
  txn ← in_u32 txn
  page ← in_u32 page
  slot ← in_u16 slot
  Some (change txn page slot number)

abbrev pub call_of : List ℕ → Args → Option Event
call_of name Nothing = call_of_none name
call_of name (One number) = call_of_one name number
call_of name (Two first second) = call_of_two name first second
call_of name (Four txn page slot number) = change_of name txn page slot number

-- how many records are kept, or all
abbrev pub cut_of : List ℕ → Option (Option ℕ)
cut_of word = if bytes_eq word (codes "all") then Some None else option_map Some (number_of word)

abbrev pub restore_of : List (List ℕ) → Option LastRestore
restore_of (copy ∷ cut ∷ []) = do
  copy ← number_of copy
  copy ← in_u32 copy
  cut ← cut_of cut
  Some (record { copy = copy; cut = cut })
restore_of other = None

-- what the words of a line say
abbrev pub said_by : List (List ℕ) → Option Line
said_by [] = None
said_by (name ∷ words) =
    if bytes_eq name (codes "restore") then option_map Restore (restore_of words)
    else (option_map Call (args_of words >>= call_of name))

-- a line is skipped where it is empty or begins with a number sign
abbrev pub text_of : List ℕ → Option Line
text_of [] = Some Skipped
text_of (byte ∷ bytes) =
    if nat_eq byte 35 then Some Skipped else said_by (words_of (byte ∷ bytes))

-- what a line says, and nothing where it is bad
abbrev pub parsed_line : List ℕ → Option Line
parsed_line line = text_of (without_return line)

-- events, and a restore behind them
abbrev pub Said : Type 0
Said = List Event × Option LastRestore

-- what a line and the lines behind it say together; behind a restore all lines are skipped
abbrev pub joined : Option Line → Option Said → Option Said
joined None rest = None
joined (Some line) None = None
joined (Some Skipped) (Some rest) = Some rest
joined (Some (Call event)) (Some rest) = Some (event ∷ rest.0, rest.1)
joined (Some (Restore restore)) (Some ([], None)) = Some ([], Some restore)
joined (Some (Restore restore)) (Some rest) = None

-- what these lines say, and nothing where they are no script
abbrev pub said_in : List (List ℕ) → Option Said
said_in [] = Some ([], None)
said_in (line ∷ lines) = joined (parsed_line line) (said_in lines)

-- the lines up to this one are no script, and those before it are one
pub record IsFirstBad (lines : List (List ℕ)) (number : ℕ) : Type 0 where
  pub counted : 1 ≤ number
  pub before : IsSome (said_in (take (number - 1) lines))
  pub bad : said_in (take number lines) ≡ None

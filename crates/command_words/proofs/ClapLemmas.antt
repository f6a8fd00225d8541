-- What an error of `clap` explains.
use Rattle.std.proofs.Common.{◌≡◌, ◌≢◌, ◌⊎◌, ◌<◌, ℕ, true, List, ◌∷◌, codes, length, refl, slice_index_or, inl, inr, ap}
use Rattle.std.proofs.Common.{lit<, subst, sym, unwrap_or, ◌∙◌}
use Rattle.std.specs.Prelude.{Result, Ok, Err, IfErr, IsErrAnd, [], Option, Some, None}
use Rattle.std.specs.Str.Parse.{ParsesUnsigned}
use Rattle.std.proofs.lemmas.Option.{none-some, same_Some}
use Rattle.clap.specs.Words.{App, HasKind, HasMatchesOf, ReadsOne, Text, fault_of, found_of, is_simple}
use Rattle.clap.specs.Words.{is_simple_and_free, kind_of, matches_of, one_text, rows_of, without_minus}
use Rattle.clap.specs.declared.parser.matches.ArgMatches.{ArgMatches}
use Rattle.clap.specs.declared.parser.matches.Found.{Found}
use Rattle.clap.specs.declared.error.Error.{Error}
use Rattle.clap.specs.declared.error.kind.ErrorKind.TheVariants as kind
use Rattle.clap.proofs.CallerReads.{signed_reads}
use Rattle.clap.proofs.OnLiterals.{clap_on_literals}
use Rattle.command_words.specs.Arguments.{PassesFrames}
use Rattle.command_words.specs.Command.{ExplainsRead, IsFramesRead, IsNumberRead, Names, apps, audit_app}
use Rattle.command_words.specs.Command.{backup_app, list_app, open_app, redo_into_app, renew_app, restore_app, run_app}
use Rattle.command_words.specs.Command.{restore_folder_app, show_app, verify_app}
use Rattle.command_words.specs.declared.command.UsageFault.{UsageFault}
use Rattle.command_words.specs.declared.command.UsageFault.TheVariants.{BadArguments, OutOfMemory}

-- what `?` makes of the error
abbrev pub Becomes : Error → UsageFault → Type 0
Becomes error fault = ((kind_of error ≡ kind.OutOfMemory) × (fault ≡ OutOfMemory))
    ⊎ ((kind_of error ≢ kind.OutOfMemory) × (fault ≡ BadArguments error))

-- the fault that clap finds in a command's words explains why they give none; k is the place of the
-- command among `apps`
explained : (k : ℕ) (words : List Text) (app : App) (error : Error) (fault : UsageFault)
    → k < length apps → slice_index_or apps k app ≡ app
    → Names words app → HasKind (fault_of app words) error → Becomes error fault → ExplainsRead words fault
explained k words app error fault lt at named has (inl memory) = subst (ExplainsRead words) (sym memory.1) tt
explained k words app error fault lt at named (inl is) (inr other) = absurd (other.0 is)
explained k words app error fault lt at named (inr among) (inr other) =
    subst (ExplainsRead words) (sym other.1) (k, app, lt, at, (named, among))

-- the same of a result that passes the error up, by the clause `kinds` of the parse; `given` is the
-- command that clap was given
pub passed_up : {T : Type 0} (k : ℕ) (words : List Text) (given app : App) (error : Error) (r : Result T UsageFault)
    → k < length apps → slice_index_or apps k app ≡ app → given ≡ app → is_simple_and_free app ≡ true
    → Names words app → (is_simple_and_free given ≡ true → HasKind (fault_of given words) error)
    → IsErrAnd r (Becomes error) → IfErr r (ExplainsRead words)
passed_up k words given app error (Ok command) lt at same simple named kinds becomes = tt
passed_up k words given app error (Err fault) lt at same simple named kinds becomes =
    explained k words app error fault lt at named
    (subst (λ a. HasKind (fault_of a words) error) same (kinds (ap is_simple_and_free same ∙ simple))) becomes

-- ---- and what it says where a parse comes to an end

-- a fault for want of memory alone
memory_alone : (error : Error) (fault : UsageFault) → HasKind [] error → Becomes error fault → fault ≡ OutOfMemory
memory_alone error fault has (inl memory) = memory.1
memory_alone error fault (inl is) (inr other) = absurd (other.0 is)
memory_alone error fault (inr among) (inr other) = absurd among

-- words that a command takes are refused for memory alone
pub for_memory : {T : Type 0} (words : List Text) (given app : App) (error : Error) (r : Result T UsageFault)
    → given ≡ app → is_simple_and_free app ≡ true
    → (is_simple_and_free given ≡ true → HasKind (fault_of given words) error)
    → IsErrAnd r (Becomes error) → IfErr r (λ fault. fault_of app words ≡ [] → fault ≡ OutOfMemory)
for_memory words given app error (Ok it) same simple kinds becomes = tt
for_memory words given app error (Err fault) same simple kinds becomes = λ none.
    memory_alone error fault
    (subst (λ ks. HasKind ks error) (ap (λ a. fault_of a words) same ∙ none)
    (kinds (ap is_simple_and_free same ∙ simple)))
    becomes

-- words that come through have no fault
pub taken : (words : List Text) (given app : App) → given ≡ app → is_simple_and_free app ≡ true
    → (is_simple_and_free given ≡ true → fault_of given words ≡ []) → fault_of app words ≡ []
taken words given app same simple kinds =
    subst (λ a. fault_of a words ≡ []) same (kinds (ap is_simple_and_free same ∙ simple))

-- what was matched is what the definition of `clap` matches
pub matched : (words : List Text) (given app : App) (it : ArgMatches) → given ≡ app → is_simple app ≡ true
    → HasMatchesOf given words it → rows_of (found_of it) ≡ matches_of app words
matched words given app it same simple has =
    (has (ap is_simple same ∙ simple)).0 ∙ ap (λ a. matches_of a words) same

-- ---- the text of a number

pub is_read : (E : Type 0) (G : Text → Result ℕ E → Type 0) (text : Text) (found : Option Text)
    (r : Option ℕ) (number : ℕ)
    → found ≡ Some text → ReadsOne G text r → ((u : Text) (x : Result ℕ E) → G u x → ParsesUnsigned 32 10 u x)
    → r ≡ Some number → IsNumberRead found number
is_read E G text found None number is read parses same = absurd (none-some _ same)
is_read E G text found (Some value) number is read parses same =
    subst (λ o. IsNumberRead o number) (sym is) (sym (parses text (Ok value) read).1 ∙ same_Some value number same)

-- the number of a count that may be left out, where `number` is what was read or else 65,536
pub frames_read : (E : Type 0) (G : Text → Result ℕ E → Type 0) (found : Found) (r : Option ℕ) (number : ℕ)
    → PassesFrames found → (one_text found (codes "frames") ≡ None → r ≡ None)
    → ((t : Text) → one_text found (codes "frames") ≡ Some t → ReadsOne G t r)
    → ((u : Text) (x : Result ℕ E) → G u x → ParsesUnsigned 32 10 u x) → number ≡ unwrap_or r 65536
    → IsFramesRead (one_text found (codes "frames")) number
frames_read E G found r number (inl absent) none value parses is =
    subst (λ o. IsFramesRead o number) (sym absent) (is ∙ ap (λ o. unwrap_or o 65536) (none absent))
frames_read E G found r number (inr it) none value parses is =
    let read = value (without_minus it.0) it.1 in
    let got = signed_reads E G 32 1 65536 it.0 r read parses (lit< tt) it.2 in
    let same : number ≡ got.0 = is ∙ ap (λ o. unwrap_or o 65536) got.1 in
    subst (λ o. IsFramesRead o number) (sym it.1)
    (is_read E G (without_minus it.0) (Some (without_minus it.0)) r number refl read parses (got.1 ∙ ap Some (sym same)))

-- ---- `NAME --help`

pub help_of_redo : fault_of redo_into_app (codes "redo" ∷ codes "--help" ∷ []) ≡ kind.DisplayHelp ∷ []
unfolding clap_on_literals
help_of_redo = refl

pub help_of_run : fault_of run_app (codes "run" ∷ codes "--help" ∷ []) ≡ kind.DisplayHelp ∷ []
unfolding clap_on_literals
help_of_run = refl

pub help_of_open : fault_of open_app (codes "open" ∷ codes "--help" ∷ []) ≡ kind.DisplayHelp ∷ []
unfolding clap_on_literals
help_of_open = refl

pub help_of_restore : fault_of restore_app (codes "restore" ∷ codes "--help" ∷ []) ≡ kind.DisplayHelp ∷ []
unfolding clap_on_literals
help_of_restore = refl

pub help_of_restore_folder : fault_of restore_folder_app (codes "restore" ∷ codes "--help" ∷ []) ≡ kind.DisplayHelp ∷ []
unfolding clap_on_literals
help_of_restore_folder = refl

pub help_of_audit : fault_of audit_app (codes "audit" ∷ codes "--help" ∷ []) ≡ kind.DisplayHelp ∷ []
unfolding clap_on_literals
help_of_audit = refl

pub help_of_show : fault_of show_app (codes "show" ∷ codes "--help" ∷ []) ≡ kind.DisplayHelp ∷ []
unfolding clap_on_literals
help_of_show = refl

pub help_of_list : fault_of list_app (codes "list" ∷ codes "--help" ∷ []) ≡ kind.DisplayHelp ∷ []
unfolding clap_on_literals
help_of_list = refl

pub help_of_backup : fault_of backup_app (codes "backup" ∷ codes "--help" ∷ []) ≡ kind.DisplayHelp ∷ []
unfolding clap_on_literals
help_of_backup = refl

pub help_of_verify : fault_of verify_app (codes "verify" ∷ codes "--help" ∷ []) ≡ kind.DisplayHelp ∷ []
unfolding clap_on_literals
help_of_verify = refl

pub help_of_renew : fault_of renew_app (codes "renew" ∷ codes "--help" ∷ []) ≡ kind.DisplayHelp ∷ []
unfolding clap_on_literals
help_of_renew = refl

-- What follows from the first word, which names a command or none.
use Rattle.std.proofs.Common.{◌≡◌, ◌⊎◌, ◌∙◌, Bool, true, false, List, inl, inr, ap, arith, codes, lit<, refl, subst}
use Rattle.std.proofs.Common.{sym, zero, suc, true≢false}
use Rattle.std.specs.Prelude.{◌∷◌, ◌≢◌, Result, Ok, Err, IfErr, IfOk, IsSomeAnd, None, Some, [], if◌then◌else◌, map, slice_get}
use Rattle.std.specs.List.{All, Any}
use Rattle.std.specs.Str.{bytes_eq}
use Rattle.std.proofs.lemmas.List.Elements.{All-cons, All-nil}
use Rattle.std.proofs.lemmas.Slice.Eq.{bytes_eq-Decides}
use Rattle.std.proofs.lemmas.Option.{none-some, same_Some}
use Rattle.clap.specs.Words.{App, Text, fault_of}
use Rattle.command_words.specs.Command.{AsksForHelp, AsksForVersion, Explains, ExplainsRead, ExplainsUnknown, Gives}
use Rattle.command_words.specs.Command.{IsRedo, IsTaken, IsTakenBy, IsUnknown, Names, apps, audit_app, backup_app, list_app}
use Rattle.command_words.specs.Command.{open_app, read_as, redo_app, redo_into_app, renew_app, restore_app}
use Rattle.command_words.specs.Command.{restore_folder_app, run_app, show_app, verify_app}
use Rattle.clap.specs.declared.error.kind.ErrorKind.TheVariants.{DisplayHelp}
use Rattle.command_words.specs.declared.command.Command.{Command}
use Rattle.command_words.specs.declared.command.Command.TheVariants.{Audit, Backup, ListFolder, Open, Redo, RedoInto, Renew}
use Rattle.command_words.specs.declared.command.Command.TheVariants.{Restore, RestoreFolder, Run, Show, Verify}
use Rattle.command_words.specs.declared.command.Command.TheVariants.{Version}
use Rattle.command_words.specs.declared.command.UsageFault.{UsageFault}
use Rattle.command_words.specs.declared.command.UsageFault.TheVariants.{BadArguments, HelpAsked, MisspelledCommand}
use Rattle.command_words.specs.declared.command.UsageFault.TheVariants.{NoCommand, OutOfMemory, UnknownCommand}

pub first_word : {X : Type 0} (f : X → Text) (xs : List X) (x : X) (word : Text) → Some x ≡ slice_get xs 0
    → word ≡ f x → slice_get (map f xs) 0 ≡ Some word
first_word f [] x word is same = absurd (none-some _ (sym is))
first_word f (y ∷ ys) x word is same = ap Some (ap f (sym (same_Some _ _ is)) ∙ sym same)

-- ---- the commands of a name

-- those of these that have the name
abbrev pub of_name : Text → List App → List App
of_name name [] = []
of_name name (app ∷ rest) =
    if bytes_eq app.top.name name then app ∷ of_name name rest else of_name name rest

-- one of these takes the words
abbrev pub IsTakenAmong : List Text → List App → Type 0
IsTakenAmong words [] = ⊥
IsTakenAmong words (app ∷ rest) = IsTakenBy words app ⊎ IsTakenAmong words rest

taken_among : (words : List Text) (xs : List App) → Any (IsTakenBy words) xs → IsTakenAmong words xs
taken_among words [] (k, app, lt, at, by) = absurd (omega arith)
taken_among words (x ∷ xs) (zero, app, lt, at, by) = inl (subst (IsTakenBy words) (sym at) by)
taken_among words (x ∷ xs) (suc k, app, lt, at, by) = inr (taken_among words xs (k, app, omega arith, at, by))

one_more_of_name : (words : List Text) (name : Text) (x : App) (xs : List App) (same : Bool)
    → bytes_eq x.top.name name ≡ same → slice_get words 0 ≡ Some name → IsTakenBy words x ⊎ IsTakenAmong words xs
    → IsTakenAmong words (if same then x ∷ xs else xs)
one_more_of_name words name x xs true is first taken = taken
one_more_of_name words name x xs false is first (inl by) =
    absurd (true≢false (sym ((bytes_eq-Decides x.top.name name).1 (same_Some _ _ (sym by.0 ∙ first))) ∙ is))
one_more_of_name words name x xs false is first (inr other) = other

taken_of_name : (words : List Text) (name : Text) (xs : List App) → slice_get words 0 ≡ Some name
    → IsTakenAmong words xs → IsTakenAmong words (of_name name xs)
taken_of_name words name [] first taken = taken
taken_of_name words name (x ∷ xs) first (inl by) =
    one_more_of_name words name x (of_name name xs) (bytes_eq x.top.name name) refl first (inl by)
taken_of_name words name (x ∷ xs) first (inr other) =
    one_more_of_name words name x (of_name name xs) (bytes_eq x.top.name name) refl first
    (inr (taken_of_name words name xs first other))

-- words that are taken are taken by a command of their name; which those are is computed
pub taken_by_name : (words : List Text) (name : Text) (named : List App) → of_name name apps ≡ named
    → slice_get words 0 ≡ Some name → IsTaken words → IsTakenAmong words named
taken_by_name words name named are first taken =
    subst (IsTakenAmong words) are (taken_of_name words name apps first (taken_among words apps taken))

-- a command whose name no other has is the one that takes its words
pub taken_by : (words : List Text) (app : App) → of_name app.top.name apps ≡ app ∷ [] → Names words app
    → IsTaken words → fault_of app words ≡ []
taken_by words app alone named taken = elim (taken_by_name words app.top.name (app ∷ []) alone named taken) [
  | inl by ↦ by.1
  | inr none ↦ absurd none
]

-- a command of a name that one more has takes the words, or the other one does
pub taken_by_two : (words : List Text) (app other : App) → of_name app.top.name apps ≡ app ∷ other ∷ []
    → Names words app → IsTaken words → (fault_of app words ≡ []) ⊎ (fault_of other words ≡ [])
taken_by_two words app other both named taken =
    elim (taken_by_name words app.top.name (app ∷ other ∷ []) both named taken) [
      | inl by ↦ inl by.1
      | inr more ↦ elim more [ inl by ↦ inr by.1 | inr none ↦ absurd none ]
    ]

-- two names that a comparison tells apart
pub apart : (name a b : Text) → bytes_eq a b ≡ false → name ≡ a → name ≡ b → ⊥
apart name a b differ is-a is-b = true≢false (sym ((bytes_eq-Decides a b).1 (sym is-a ∙ is-b)) ∙ differ)

-- the command that the first word names is the one that may take the words
pub only_by : (words : List Text) (app : App) (r : Result Command UsageFault)
    → (IsTaken words → fault_of app words ≡ []) → IfErr r (λ fault. fault_of app words ≡ [] → fault ≡ OutOfMemory)
    → IfErr r (λ fault. IsTaken words → fault ≡ OutOfMemory)
only_by words app (Ok command) takes only = tt
only_by words app (Err fault) takes only = λ taken. only (takes taken)

-- no command takes words whose first is the name of none
pub unnamed : (words : List Text) (name : Text) → slice_get words 0 ≡ Some name → IsUnknown name → IsTaken words → ⊥
unnamed words name first unknown (k, app, lt, at, by) =
    unknown.0 k app lt (ap (λ one. one.top.name) at ∙ same_Some _ _ (sym by.0 ∙ first))

-- words whose first is another name are not those of `redo`
pub not_of_redo : (words : List Text) (name : Text) → slice_get words 0 ≡ Some name → (name ≡ codes "redo" → ⊥)
    → IsRedo words → ⊥
not_of_redo words name first other (inl is) = other (same_Some _ _ (sym first ∙ ap (λ w. slice_get w 0) is))
not_of_redo words name first other (inr is) = other (same_Some _ _ (sym first ∙ ap (λ w. slice_get w 0) is))

-- none of these has the name
abbrev IsOfNone : Text → List App → Type 0
IsOfNone name [] = Unit {0}
IsOfNone name (app ∷ rest) = (name ≡ app.top.name → ⊥) × IsOfNone name rest

of_none : (name : Text) (xs : List App) → IsOfNone name xs → All (λ app. app.top.name ≢ name) xs
of_none name [] others = All-nil (λ app. app.top.name ≢ name)
of_none name (x ∷ xs) others =
    All-cons (λ app. app.top.name ≢ name) x xs (λ same. others.0 (sym same)) (of_none name xs others.1)

-- a first word that is neither a command's name nor a call for help
pub unknown : (name : Text) → (name ≡ codes "redo" → ⊥) → (name ≡ codes "run" → ⊥) → (name ≡ codes "open" → ⊥)
    → (name ≡ codes "backup" → ⊥) → (name ≡ codes "restore" → ⊥) → (name ≡ codes "audit" → ⊥)
    → (name ≡ codes "verify" → ⊥) → (name ≡ codes "show" → ⊥) → (name ≡ codes "list" → ⊥) → (name ≡ codes "renew" → ⊥)
    → (name ≡ codes "help" → ⊥) → (name ≡ codes "--help" → ⊥) → (name ≡ codes "-h" → ⊥)
    → IsUnknown name
unknown name not-redo not-run not-open not-backup not-restore not-audit not-verify not-show not-list not-renew not-help
    not-long not-short = (
      of_none name apps (
        not-redo,
        (
          not-run,
          (
            not-restore,
            (
              not-audit,
              (
                not-redo,
                (
                  not-open,
                  (
                    not-show,
                    (
                      not-list,
                      (not-backup, (not-verify, (not-renew, (not-restore, tt)))),
                    ),
                  ),
                ),
              ),
            ),
          ),
        ),
      ),
      λ asks. elim asks [
        | inl is ↦ not-help is
        | inr other ↦ elim other [ inl is ↦ not-long is | inr is ↦ not-short is ]
      ],
    )

-- ---- `help NAME`, read as `NAME --help`

-- words whose first is not `help` are read as they stand
pub read_as_they_stand : (words : List Text) (name : Text) → slice_get words 0 ≡ Some name
    → (name ≡ codes "help" → ⊥) → read_as words ≡ words
read_as_they_stand [] name first other = refl
read_as_they_stand (a ∷ []) name first other = refl
read_as_they_stand (a ∷ b ∷ rest) name first other = as_it_stands (bytes_eq a (codes "help")) refl
  where
    as_it_stands : (same : Bool) → bytes_eq a (codes "help") ≡ same
        → (if same then b ∷ codes "--help" ∷ [] else a ∷ b ∷ rest) ≡ a ∷ b ∷ rest
    as_it_stands true is = absurd (other (sym (same_Some _ _ first) ∙ (bytes_eq-Decides a (codes "help")).0 is))
    as_it_stands false is = refl

-- `help` and a name
pub read_for_help : (words : List Text) (name : Text) → slice_get words 0 ≡ Some (codes "help")
    → slice_get words 1 ≡ Some name → read_as words ≡ name ∷ codes "--help" ∷ []
read_for_help [] name first second = absurd (none-some _ first)
read_for_help (a ∷ []) name first second = absurd (none-some _ second)
read_for_help (a ∷ b ∷ rest) name first second = named (bytes_eq a (codes "help")) refl
  where
    named : (same : Bool) → bytes_eq a (codes "help") ≡ same
        → (if same then b ∷ codes "--help" ∷ [] else a ∷ b ∷ rest) ≡ name ∷ codes "--help" ∷ []
    named true is = ap (λ n. n ∷ codes "--help" ∷ []) (same_Some _ _ second)
    named false is =
        absurd (true≢false (sym ((bytes_eq-Decides a (codes "help")).1 (same_Some _ _ first)) ∙ is))

-- `help` alone
pub read_alone : (words : List Text) → slice_get words 1 ≡ None → read_as words ≡ words
read_alone [] second = refl
read_alone (a ∷ []) second = refl
read_alone (a ∷ b ∷ rest) second = absurd (none-some _ (sym second))

-- a first word that is neither of those that ask for the version
pub no_version : (words : List Text) (name : Text) → slice_get words 0 ≡ Some name
    → bytes_eq name (codes "--version") ≡ false → bytes_eq name (codes "-V") ≡ false
    → IsSomeAnd (slice_get words 0) AsksForVersion → ⊥
no_version words name first long short asks =
    elim (subst (λ o. IsSomeAnd o AsksForVersion) first asks) [
      | inl is ↦ apart name name (codes "--version") long refl is
      | inr is ↦ apart name name (codes "-V") short refl is
    ]

gives_taken : (words : List Text) (command : Command) → (IsSomeAnd (slice_get words 0) AsksForVersion → ⊥)
    → Gives words command → IsTaken words
gives_taken words Redo other gives = (0, redo_app, lit< tt, refl, gives)
gives_taken words (RedoInto output force until) other gives = (4, redo_into_app, lit< tt, refl, gives.0)
gives_taken words (Run pages frames save manifest strict force) other gives = (1, run_app, lit< tt, refl, gives.0)
gives_taken words (Open folder pages frames salvage strict) other gives = (5, open_app, lit< tt, refl, gives.0)
gives_taken words (Restore log master archives output log_output force until manifest no_manifest) other gives =
    (2, restore_app, lit< tt, refl, gives.0)
gives_taken words (RestoreFolder folder copy output log_output force until manifest no_manifest) other gives =
    (11, restore_folder_app, lit< tt, refl, gives.0)
gives_taken words (Audit log archives master all until manifest no_manifest) other gives =
    (3, audit_app, lit< tt, refl, gives.0)
gives_taken words (Show file from to txn page json commits) other gives = (6, show_app, lit< tt, refl, gives.0)
gives_taken words (ListFolder folder json manifest no_manifest) other gives =
    (7, list_app, lit< tt, refl, gives.0)
gives_taken words (Backup folder on full into) other gives = (8, backup_app, lit< tt, refl, gives.0)
gives_taken words (Verify folder manifest no_manifest) other gives = (9, verify_app, lit< tt, refl, gives.0)
gives_taken words (Renew old renewed) other gives = (10, renew_app, lit< tt, refl, gives.0)
gives_taken words Version other gives = absurd (other gives)

-- words in which clap finds a fault give no command
pub help_gives_none : (words : List Text) (app : App) (r : Result Command UsageFault)
    → (IsSomeAnd (slice_get words 0) AsksForVersion → ⊥) → IfOk r (Gives words)
    → (IsTaken words → fault_of app words ≡ []) → fault_of app words ≡ DisplayHelp ∷ [] → IfOk r (λ _. ⊥)
help_gives_none words app (Err fault) other gives takes asks = tt
help_gives_none words app (Ok command) other gives takes asks =
    not_empty (sym asks ∙ takes (gives_taken words command other gives))
  where
    not_empty : DisplayHelp ∷ [] ≡ [] → ⊥
    not_empty e = cc

-- what explains the words that are read explains the words
pub read_explains : (words read : List Text) (r : Result Command UsageFault) → read_as words ≡ read
    → IfErr r (ExplainsRead read) → IfErr r (Explains words)
read_explains words read r is explains = subst (λ w. IfErr r (ExplainsRead w)) (sym is) explains

unknown_read : (words : List Text) (word : Text) (fault : UsageFault) → slice_get words 0 ≡ Some word
    → ExplainsUnknown word fault → ExplainsRead words fault
unknown_read words word (UnknownCommand name) first explains =
    subst (λ o. IsSomeAnd o (λ w. ExplainsUnknown w (UnknownCommand name))) (sym first) explains
unknown_read words word (MisspelledCommand name near) first explains =
    subst (λ o. IsSomeAnd o (λ w. ExplainsUnknown w (MisspelledCommand name near))) (sym first) explains
unknown_read words word OutOfMemory first explains = tt
unknown_read words word HelpAsked first explains = absurd explains
unknown_read words word NoCommand first explains = absurd explains
unknown_read words word (BadArguments error) first explains = absurd explains

-- what explains an unknown word explains the words that begin with it
pub unknown_explains : (words : List Text) (word : Text) (fault : UsageFault) → slice_get words 0 ≡ Some word
    → (word ≡ codes "help" → ⊥) → ExplainsUnknown word fault → Explains words fault
unknown_explains words word fault first other explains =
    subst (λ w. ExplainsRead w fault) (sym (read_as_they_stand words word first other))
    (unknown_read words word fault first explains)

-- a first word that asks for help, but is not `help`
pub help_explains : (words : List Text) (word : Text) → slice_get words 0 ≡ Some word → (word ≡ codes "help" → ⊥)
    → AsksForHelp word → Explains words HelpAsked
help_explains words word first other asks =
    subst (λ w. ExplainsRead w HelpAsked) (sym (read_as_they_stand words word first other))
    (subst (λ o. IsSomeAnd o AsksForHelp) (sym first) asks)

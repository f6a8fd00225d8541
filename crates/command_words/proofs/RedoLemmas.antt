-- `clap` takes `redo` alone, and `redo --`, and no other words of `redo`.
use Rattle.std.proofs.Common.{◌≡◌, ◌⊎◌, ℕ, Bool, true, false, List, [], ◌∷◌, Option, Some, None, refl, inl, inr, codes}
use Rattle.std.proofs.Common.{ap, arith, sym, subst, ◌∙◌, cond, length, map}
use Rattle.std.specs.Prelude.{◌&&◌, ◌↔◌, not, is_some, find, slice_get, Result, Ok, Err, IfErr, IfOk, IsTrue, MatchResult}
use Rattle.std.specs.Prelude.{suc}
use Rattle.std.specs.List.{slice_index_or}
use Rattle.std.specs.Option.{option_map_or}
use Rattle.std.specs.Str.{bytes_eq, chars}
use Rattle.std.proofs.lemmas.Slice.Eq.{bytes_eq-Decides}
use Rattle.std.proofs.lemmas.Option.{none-some, same_Some}
use Rattle.clap.specs.Words.{Rule, Shape, Text, built, fault_of}
use Rattle.clap.specs.Kinds.{Kinds, or_else}
use Rattle.clap.specs.Lexer.{long_of, short_of}
use Rattle.clap.specs.Simple.{filled, help_rule}
use Rattle.clap.specs.Walk.{Held, Step, after_flag, arg_by_long, arg_by_short, bundle_met, bundle_step, has_long}
use Rattle.clap.specs.Walk.{has_short, idle, long_or_other, nothing_held, plain, short_or_plain, trailing}
use Rattle.clap.specs.Faults.{bundle_fault, bundle_step_fault, flag_word_fault, flags_fault, long_fault, short_fault}
use Rattle.clap.specs.Faults.{step_fault}
use Rattle.clap.specs.declared.error.kind.ErrorKind.{ErrorKind}
use Rattle.clap.proofs.OnLiterals.{clap_on_literals}
use Rattle.command_words.specs.Command.{Gives, IsRedo, IsTaken, Names, redo_app, redo_into_app}
use Rattle.command_words.proofs.NameLemmas.{taken_by_name}
use Rattle.command_words.specs.declared.command.Command.{Command}
use Rattle.command_words.specs.declared.command.Command.TheVariants.{Redo}
use Rattle.command_words.specs.declared.command.UsageFault.{UsageFault}
use Rattle.command_words.specs.declared.command.UsageFault.TheVariants.{OutOfMemory}

redo_alone : fault_of redo_app (codes "redo" ∷ []) ≡ []
unfolding clap_on_literals
redo_alone = refl

redo_dashes : fault_of redo_app (codes "redo" ∷ codes "--" ∷ []) ≡ []
unfolding clap_on_literals
redo_dashes = refl

abbrev redo_shape : Shape
redo_shape = (built redo_app).top

-- the one argument that building adds
abbrev help : Rule
help = filled help_rule

abbrev rules : List Rule
rules = help ∷ []

not_empty : (k : ErrorKind) (ks : Kinds) → k ∷ ks ≡ [] → ⊥
not_empty k ks e = cc

first_empty : (a b : Kinds) → or_else a b ≡ [] → a ≡ []
first_empty [] b e = refl
first_empty (k ∷ ks) b e = e

find_one : (test : Rule → Bool) (a : Rule) → (find test (a ∷ []) ≡ Some a) ⊎ (find test (a ∷ []) ≡ None)
find_one test a = elim (test a) as (λ b. (cond b (Some a) None ≡ Some a)
    ⊎ (cond b (Some a) None ≡ None)) [ true ↦ inl refl | false ↦ inr refl ]

-- ---- a word of two hyphens and more

help_refused : (value : Option Text) → long_fault rules false (Some help) value nothing_held ≡ [] → ⊥
help_refused None e = not_empty _ _ e
help_refused (Some v) e = not_empty _ _ e

long_refused : (found : Option Rule) (value : Option Text) → (found ≡ Some help) ⊎ (found ≡ None)
    → long_fault rules false found value nothing_held ≡ [] → ⊥
long_refused found value (inl is) e = help_refused value
    (ap (λ o. long_fault rules false o value nothing_held) (sym is) ∙ e)
long_refused found value (inr is) e = not_empty _ _ (ap (λ o. long_fault rules false o value nothing_held) (sym is) ∙ e)

-- ---- a word of one hyphen

short_refused : (found : Option Rule) (rest : Text) (next : Held → Kinds) → (found ≡ Some help) ⊎ (found ≡ None)
    → short_fault rules false found rest nothing_held next ≡ [] → ⊥
short_refused found rest next (inl is) e =
    not_empty _ _ (ap (λ o. short_fault rules false o rest nothing_held next) (sym is) ∙ e)
short_refused found rest next (inr is) e =
    not_empty _ _ (ap (λ o. short_fault rules false o rest nothing_held next) (sym is) ∙ e)

-- the faults of a word, and of what it was taken for
abbrev turn : Kinds → Held × Step → Kinds
turn faults met = or_else faults (step_fault redo_shape 1 met.0 met.1)

bundle_refused : (word flags : Text) (k : ℕ) (first : Option ℕ)
    → turn (bundle_step_fault rules false first flags 0 nothing_held (flags_fault rules false k))
    (let met = bundle_step rules first flags 0 plain nothing_held (bundle_met rules k) in
    after_flag rules idle word met.0 met.1) ≡ [] → ⊥
bundle_refused word flags k None e = not_empty _ _ e
bundle_refused word flags k (Some x) e =
    short_refused (arg_by_short rules x) _ _ (find_one (λ a. not (is_some a.index) && has_short a x) help)
    (first_empty _ _ e)

short_or_plain_refused : (word : Text) (flags : Option Text)
    → turn (option_map_or (λ f. bundle_fault rules false f nothing_held) flags [])
    (short_or_plain rules idle word flags nothing_held) ≡ [] → ⊥
unfolding clap_on_literals
short_or_plain_refused word None e = not_empty _ _ e
short_or_plain_refused word (Some []) e = not_empty _ _ e
short_or_plain_refused word (Some (b ∷ bs)) e =
    bundle_refused word (b ∷ bs) (length bs) (slice_get (chars (b ∷ bs)) 0) e

-- ---- a word that is not `--`

flag_refused : (word : Text) (name : Option (Text × Option Text))
    → turn (flag_word_fault rules false name word nothing_held) (long_or_other rules idle word name nothing_held) ≡ []
    → ⊥
unfolding clap_on_literals
flag_refused word (Some p) e =
    long_refused (arg_by_long rules p.0) p.1 (find_one (λ a. not (is_some a.index) && has_long a p.0) help)
    (first_empty _ _ e)
flag_refused word None e = short_or_plain_refused word (short_of word) e

word_is_dashes : (word : Text) (is_dashes : Bool)
    → turn (cond is_dashes [] (flag_word_fault rules false (long_of word) word nothing_held))
    (cond is_dashes (nothing_held, trailing 1) (long_or_other rules idle word (long_of word) nothing_held)) ≡ []
    → is_dashes ≡ true
word_is_dashes word true e = refl
word_is_dashes word false e = absurd (flag_refused word (long_of word) e)

-- ---- the words

first_is_dashes : (name word : Text) (rest : List Text) → fault_of redo_app (name ∷ word ∷ rest) ≡ []
    → bytes_eq word (codes "--") ≡ true
unfolding clap_on_literals
first_is_dashes name word rest e = word_is_dashes word (bytes_eq word (codes "--"))
    (first_empty _ _ (first_empty _ _ e))

none_after_dashes : (name : Text) (rest : List Text) → fault_of redo_app (name ∷ codes "--" ∷ rest) ≡ [] → rest ≡ []
unfolding clap_on_literals
none_after_dashes name [] e = refl
none_after_dashes name (word ∷ rest) e = absurd (not_empty _ _ e)

redo_words : (words : List Text) → slice_get words 0 ≡ Some (codes "redo") → fault_of redo_app words ≡ [] → IsRedo words
redo_words [] named taken = absurd (none-some _ named)
redo_words (name ∷ []) named taken = inl (ap (λ n. n ∷ []) (same_Some _ _ named))
redo_words (name ∷ word ∷ rest) named taken =
    let dashes : word ≡ codes "--" = (bytes_eq-Decides word (codes "--")).0 (first_is_dashes name word rest taken) in
    let none : rest ≡ [] = none_after_dashes name rest
    (ap (λ w. fault_of redo_app (name ∷ w ∷ rest)) (sym dashes) ∙ taken) in
    inr (ap (λ n. n ∷ word ∷ rest) (same_Some _ _ named) ∙ ap (λ w. codes "redo" ∷ w ∷ rest) dashes
    ∙ ap (λ ws. codes "redo" ∷ codes "--" ∷ ws) none)

given_redo : (words : List Text) (command : Command) → Gives words command → command ≡ Redo → IsRedo words
given_redo words command given is = let P : Command → Type 0 = Gives words in
    let here : Gives words Redo = subst P is given in redo_words words here.0 here.1

redo_faultless : (words : List Text) → IsRedo words → fault_of redo_app words ≡ []
redo_faultless words (inl is) = ap (fault_of redo_app) is ∙ redo_alone
redo_faultless words (inr is) = ap (fault_of redo_app) is ∙ redo_dashes

-- ---- what comes of the words

pub comes_for_redo : (words : List Text) (r : Result Command UsageFault) → IfOk r (λ command. command ≡ Redo)
    → IfErr r (λ fault. fault_of redo_app words ≡ [] → fault ≡ OutOfMemory)
    → IsRedo words → MatchResult r (λ command. command ≡ Redo) (λ fault. fault ≡ OutOfMemory)
comes_for_redo words (Ok command) is only redo = is
comes_for_redo words (Err fault) is only redo = only (redo_faultless words redo)

pub only_for_redo : (words : List Text) (r : Result Command UsageFault) → IfOk r (Gives words)
    → IfOk r (λ command. command ≡ Redo → IsRedo words)
only_for_redo words (Ok command) given = given_redo words command given
only_for_redo words (Err fault) given = tt

-- ---- `redo` is read in one of two ways

-- words of `redo` that name an output are taken for that alone
pub taken_redo_into : (words : List Text) → Names words redo_into_app → (IsRedo words → ⊥) → IsTaken words
    → fault_of redo_into_app words ≡ []
taken_redo_into words named other taken =
    elim (taken_by_name words (codes "redo") (redo_app ∷ redo_into_app ∷ []) refl named taken) [
      | inl by ↦ absurd (other (redo_words words by.0 by.1))
      | inr by ↦ elim by [ inl into ↦ into.1 | inr none ↦ absurd none ]
    ]

-- `redo` alone is taken
pub taken_redo : (words : List Text) → IsRedo words → IsTaken words → fault_of redo_app words ≡ []
taken_redo words redo taken = redo_faultless words redo

-- `redo --help` is not `redo` alone
pub help_is_other : IsRedo (codes "redo" ∷ codes "--help" ∷ []) → ⊥
help_is_other (inl same) = let e : 2 ≡ 1 = ap (λ (ws : List Text). length ws) same in omega (arith, e)
help_is_other (inr same) = let word : codes "--help" ≡ codes "--" = same_Some _ _ (ap (λ ws. slice_get ws 1) same) in
    let e : 6 ≡ 2 = ap (λ (w : Text). length w) word in omega (arith, e)

-- ---- which words are `redo` alone

two : (a b : Text) (words : List Text) → words ≡ a ∷ b ∷ [] → a ≡ codes "redo"
    → (b ≡ codes "--" → IsRedo words) × (IsRedo words → b ≡ codes "--")
two a b words is first = (
  λ second. inr (is ∙ ap (λ n. n ∷ b ∷ []) first ∙ ap (λ w. codes "redo" ∷ w ∷ []) second),
  λ redo. elim redo [
    | inl same ↦ absurd (let e : 2 ≡ 1 = ap (λ (ws : List Text). length ws) (sym is ∙ same) in omega (arith, e))
    | inr same ↦ same_Some _ _ (ap (λ ws. slice_get ws 1) (sym is ∙ same))
  ],
)

-- one word
pub one_word : {X : Type 0} (f : X → Text) (xs : List X) → slice_get (map f xs) 0 ≡ Some (codes "redo") → length xs ≡ 1
    → IsRedo (map f xs)
one_word f [] named count = absurd (none-some _ named)
one_word f (x ∷ []) named count = inl (ap (λ n. n ∷ []) (same_Some _ _ named))
one_word f (x ∷ y ∷ rest) named count = absurd (omega (arith, count))

-- two words, by what the second one is
pub two_words : {X : Type 0} (f : X → Text) (xs : List X) (d : X) (same : Bool)
    → slice_get (map f xs) 0 ≡ Some (codes "redo") → length xs ≡ 2
    → same ≡ bytes_eq (f (slice_index_or xs 1 d)) (codes "--") → IsTrue same ↔ IsRedo (map f xs)
two_words f [] d same named count is = absurd (none-some _ named)
two_words f (x ∷ []) d same named count is = absurd (omega (arith, count))
two_words f (x ∷ y ∷ []) d same named count is =
    let it = two (f x) (f y) (f x ∷ f y ∷ []) refl (same_Some _ _ named) in (
      λ yes. it.0 ((bytes_eq-Decides (f y) (codes "--")).0 (sym is ∙ yes)),
      λ redo. is ∙ (bytes_eq-Decides (f y) (codes "--")).1 (it.1 redo),
    )
two_words f (x ∷ y ∷ z ∷ rest) d same named count is = absurd (omega (arith, count))

-- any other number of words
pub more_words : {X : Type 0} (f : X → Text) (xs : List X) → (length xs ≡ 1 → ⊥) → (length xs ≡ 2 → ⊥)
    → IsRedo (map f xs) → ⊥
more_words f xs not-one not-two redo = elim redo [
  | inl same ↦ not-one (sym (as_many f xs) ∙ ap (λ (ws : List Text). length ws) same)
  | inr same ↦ not-two (sym (as_many f xs) ∙ ap (λ (ws : List Text). length ws) same)
]
  where
    as_many : {Y : Type 0} (f : Y → Text) (xs : List Y) → length (map f xs) ≡ length xs
    as_many f [] = refl
    as_many f (x ∷ xs) = ap suc (as_many f xs)

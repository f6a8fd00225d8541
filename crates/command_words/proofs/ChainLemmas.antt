-- Commands that are made of a list of arguments, one after another.
use Rattle.std.proofs.Common.{◌≡◌, ◌⊎◌, ◌<◌, ◌||◌, ◌∙◌, ℕ, List, [], ◌∷◌, ◌++◌, None, Some, length, true, false}
use Rattle.std.proofs.Common.{ap, subst, inl, inr, arith, refl, sym}
use Rattle.std.specs.List.{All, slice_index_or}
use Rattle.std.specs.Prelude.{◌≤◌, pos, zero, suc}
use Rattle.std.specs.Str.{bytes_eq}
use Rattle.std.proofs.lemmas.List.{append-nil, append_assoc}
use Rattle.std.proofs.lemmas.List.Elements.{All-nil}
use Rattle.clap.specs.Built.{AddsArg, AddsInTurn, FitsChain, HasDistinctIds, IsParsedFrom, IsPlain, IsPlainArg, SameRules, TakesValue}
use Rattle.clap.specs.Facts.{least_values}
use Rattle.clap.specs.Words.{args_of, found_of, groups_of, one_text}
use Rattle.clap.specs.declared.builder.arg.Arg.{Arg}
use Rattle.clap.specs.declared.builder.command.Command.{Command as Parser}
use Rattle.clap.specs.declared.builder.command.Command.TheViews.{out-Command as fields_of}
use Rattle.clap.specs.declared.builder.value_parser.ValueParser.TheVariants.{Signed}
use Rattle.clap.specs.declared.parser.matches.ArgMatches.{ArgMatches}
use Rattle.clap.proofs.CallerLemmas.{added_plain}
use Rattle.clap.proofs.CallerReads.{required_reads}
use Rattle.command_words.specs.Arguments.{IsMadeOf, PassesCount, PassesIn}
use Rattle.command_words.specs.Command.{count_parser}
use Rattle.command_words.proofs.OptionalLemmas.{passed_if_given}
use Rattle.command_words.proofs.RequiredLemmas.{same_length}

-- ---- ids that are apart, as their lengths are

-- no id of the arguments has this length
abbrev pub HasNoLength : ℕ → List Arg → Type 0
HasNoLength n [] = Unit {0}
HasNoLength n (x ∷ xs) = (n ≡ length x.id.now → ⊥) × HasNoLength n xs

other_length : (n : ℕ) (xs : List Arg) → HasNoLength n xs → (k : ℕ) (e : Arg) → k < length xs
    → n ≡ length (slice_index_or xs k e).id.now → ⊥
other_length n [] other k e lt same = absurd (omega arith)
other_length n (x ∷ xs) other zero e lt same = other.0 same
other_length n (x ∷ xs) other (suc k) e lt same = other_length n xs other.1 k e (omega arith) same

pub none_apart : HasDistinctIds []
none_apart j k d e lj lk same = absurd (omega arith)

-- one more argument, whose id has another length than those of the others
pub one_more_apart : (a : Arg) (xs : List Arg) → HasNoLength (length a.id.now) xs → HasDistinctIds xs
    → HasDistinctIds (a ∷ xs)
one_more_apart a xs other rest zero zero d e lj lk same = refl
one_more_apart a xs other rest zero (suc k) d e lj lk same =
    absurd (other_length (length a.id.now) xs other k d (omega arith) (same_length _ _ same))
one_more_apart a xs other rest (suc j) zero d e lj lk same =
    absurd (other_length (length a.id.now) xs other j e (omega arith) (sym (same_length _ _ same)))
one_more_apart a xs other rest (suc j) (suc k) d e lj lk same = ap suc (rest j k d e (omega arith) (omega arith) same)

-- ---- a command is made of them

fits_at : (x : Arg) (xs : List Arg) → FitsChain x → All FitsChain xs → (k : ℕ) (e : Arg) → k < length (x ∷ xs)
    → FitsChain (slice_index_or (x ∷ xs) k e)
fits_at x xs fit rest zero e lt = fit
fits_at x xs fit rest (suc k) e lt = rest k e (omega arith)

pub none_fit : All FitsChain []
none_fit = All-nil FitsChain

pub one_more_fits : (x : Arg) (xs : List Arg) → FitsChain x → All FitsChain xs → All FitsChain (x ∷ xs)
one_more_fits x xs fit rest = λ k e lt. fits_at x xs fit rest k e lt

pub made_of : (start cmd : Parser) (xs : List Arg) → args_of start ≡ [] → groups_of start ≡ []
    → (fields_of start).has_globals ≡ false → (fields_of start).subcommand_negates_reqs ≡ false
    → AddsInTurn AddsArg start xs cmd → All FitsChain xs → IsMadeOf cmd xs
made_of start cmd xs args groups globals negates chain fit = record {
  start = start;
  no_arguments = args;
  no_groups = groups;
  no_globals = globals;
  keeps = negates;
  chain = chain;
  fit = fit;
}

-- ---- what a chain of arguments keeps

all_rest : (x : Arg) (xs : List Arg) → All FitsChain (x ∷ xs) → All FitsChain xs
all_rest x xs h = λ k d lt. h (suc k) d (omega arith)

abbrev KeepsRules : List Arg → List Arg → Type 0
KeepsRules xs ys = (length ys ≡ length xs)
    × ((k : ℕ) (e g : Arg) → k < length xs → SameRules (slice_index_or xs k e) (slice_index_or ys k g))

one_more : (x y : Arg) (xs ys : List Arg) → SameRules x y
    → ((k : ℕ) (e g : Arg) → k < length xs → SameRules (slice_index_or xs k e) (slice_index_or ys k g))
    → (k : ℕ) (e g : Arg) → k < length (x ∷ xs) → SameRules (slice_index_or (x ∷ xs) k e) (slice_index_or (y ∷ ys) k g)
one_more x y xs ys r rest zero e g lt = r
one_more x y xs ys r rest (suc n) e g lt = rest n e g (omega arith)

chain_keeps : (c d : Parser) (xs : List Arg) → AddsInTurn AddsArg c xs d → All FitsChain xs → IsPlain c
    → (fields_of c).has_globals ≡ false
    → (ys : List Arg) × (args_of d ≡ args_of c ++ ys) × KeepsRules xs ys × IsPlain d × ((fields_of d).has_globals ≡ false)
chain_keeps c d [] h all plain globals =
    ([], rw h (sym (append-nil _)), (refl, (λ k e f lt. absurd (omega arith))), rw (← h) plain, rw (← h) globals)
chain_keeps c d (x ∷ xs) h all plain globals =
    let added = h.1 in
    let fit = all 0 x (omega arith) in
    let plain2 = added_plain c h.0 x added plain fit.0 in
    let globals2 = added.globals ∙ (ap (λ b. b || x.global) globals ∙ ap (λ b. false || b) fit.1) in
    let f = chain_keeps h.0 d xs h.2 (all_rest x xs all) plain2 globals2 in (
      added.arg ∷ f.0,
      f.1 ∙ (ap (λ l. l ++ f.0) added.args ∙ append_assoc (args_of c) (added.arg ∷ []) f.0),
      (ap suc f.2.0, one_more x added.arg xs f.0 added.rules f.2.1),
      f.3,
      f.4,
    )

-- a number of a chain that may be left out has no text, or one that clap let through
pub number_in_chain : (low high : ℕ) (start cmd : Parser) (xs : List Arg) (k : ℕ) (d : Arg) (m : ArgMatches)
    → AddsInTurn AddsArg start xs cmd → args_of start ≡ [] → groups_of start ≡ []
    → (fields_of start).has_globals ≡ false → All FitsChain xs → HasDistinctIds xs → k < length xs
    → (slice_index_or xs k d).value_parser ≡ Some (Signed (pos low) (pos high)) → IsParsedFrom cmd m
    → (one_text (found_of m) (slice_index_or xs k d).id.now ≡ None)
    ⊎ PassesIn low high (found_of m) (slice_index_or xs k d).id.now
number_in_chain low high start cmd xs k d m chain args groups globals all distinct lt parser p =
    let start-plain : IsPlain start = (subst (All IsPlainArg) (sym args) (All-nil IsPlainArg), groups) in
    let f = chain_keeps start cmd xs chain all start-plain globals in
    let list : args_of cmd ≡ f.0 = f.1 ∙ ap (λ l. l ++ f.0) args in
    let a = slice_index_or xs k d in
    let b = slice_index_or (args_of cmd) k d in
    let elem : b ≡ slice_index_or f.0 k d = ap (λ l. slice_index_or l k d) list in
    let rules = f.2.1 k d d lt in
    let fit = all k d lt in
    let len : length (args_of cmd) ≡ length xs = ap length list ∙ f.2.0 in
    let in-cmd : k < length (args_of cmd) = omega arith in
    let same-id : b.id ≡ a.id = ap (λ x. x.id) elem ∙ rules.id in
    let same-now : b.id.now ≡ a.id.now = ap (λ x. x.now) same-id in
    let only : (j : ℕ) (e : Arg) → j < length (args_of cmd) → bytes_eq (slice_index_or (args_of cmd) j e).id.now b.id.now ≡ true → j ≡ k =
    λ j e low same.
    let in-xs : j < length xs = omega arith in
    let there : (slice_index_or (args_of cmd) j e).id ≡ (slice_index_or xs j e).id =
    ap (λ x. x.id) (ap (λ l. slice_index_or l j e) list) ∙ (f.2.1 j e e in-xs).id in
    distinct j k d e in-xs lt (rw (← ap (λ x. x.now) there, ← same-now) same) in
    subst (λ id. (one_text (found_of m) id ≡ None) ⊎ PassesIn low high (found_of m) id) same-now
    (passed_if_given low high cmd m p f.3 f.4 k d in-cmd only
    (λ empty. fit.2 (sym same-now ∙ empty))
    (λ auto. fit.3 (elim auto [ inl h ↦ inl (sym same-now ∙ h) | inr h ↦ inr (sym same-now ∙ h) ]))
    (ap (λ x. x.value_parser) elem ∙ rules.parser (Signed (pos low) (pos high)) parser))

chain_negates : (c d : Parser) (xs : List Arg) → AddsInTurn AddsArg c xs d
    → (fields_of c).subcommand_negates_reqs ≡ false → (fields_of d).subcommand_negates_reqs ≡ false
chain_negates c d [] h none = rw (← h) none
chain_negates c d (x ∷ xs) h none = chain_negates h.0 d xs h.2 (h.1.negates ∙ none)

-- a number of a chain that is required, and that clap let through
pub count_in_chain : (start cmd : Parser) (xs : List Arg) (k : ℕ) (d : Arg) (m : ArgMatches)
    → AddsInTurn AddsArg start xs cmd → args_of start ≡ [] → groups_of start ≡ []
    → (fields_of start).has_globals ≡ false → (fields_of start).subcommand_negates_reqs ≡ false
    → All FitsChain xs → HasDistinctIds xs → k < length xs → TakesValue (slice_index_or xs k d)
    → (slice_index_or xs k d).value_parser ≡ Some count_parser → IsParsedFrom cmd m
    → PassesCount (found_of m) (slice_index_or xs k d).id.now
count_in_chain start cmd xs k d m chain args groups globals negates all distinct lt value parser p =
    let start-plain : IsPlain start = (subst (All IsPlainArg) (sym args) (All-nil IsPlainArg), groups) in
    let f = chain_keeps start cmd xs chain all start-plain globals in
    let list : args_of cmd ≡ f.0 = f.1 ∙ ap (λ l. l ++ f.0) args in
    let a = slice_index_or xs k d in
    let b = slice_index_or (args_of cmd) k d in
    let elem : b ≡ slice_index_or f.0 k d = ap (λ l. slice_index_or l k d) list in
    let rules = f.2.1 k d d lt in
    let fit = all k d lt in
    let len : length (args_of cmd) ≡ length xs = ap length list ∙ f.2.0 in
    let in-cmd : k < length (args_of cmd) = omega arith in
    let same-now : b.id.now ≡ a.id.now = ap (λ x. x.now) (ap (λ x. x.id) elem ∙ rules.id) in
    let only : (j : ℕ) (e : Arg) → j < length (args_of cmd) → bytes_eq (slice_index_or (args_of cmd) j e).id.now b.id.now ≡ true → j ≡ k =
    λ j e low same.
    let in-xs : j < length xs = omega arith in
    let there : (slice_index_or (args_of cmd) j e).id ≡ (slice_index_or xs j e).id =
    ap (λ x. x.id) (ap (λ l. slice_index_or l j e) list) ∙ (f.2.1 j e e in-xs).id in
    distinct j k d e in-xs lt (rw (← ap (λ x. x.now) there, ← same-now) same) in
    let got = required_reads cmd m p f.3 f.4 (chain_negates start cmd xs chain negates) k d in-cmd
    (ap (λ x. x.required) elem ∙ (rules.required ∙ value.0))
    (ap (λ x. x.action) elem ∙ rules.action _ value.1) (ap (λ x. x.val_delim) elem ∙ (rules.val_delim ∙ value.2))
    (subst (λ x. 1 ≤ least_values x) (sym elem) (rules.least value.1 value.3)) only
    (λ empty. fit.2 (sym same-now ∙ empty))
    (λ auto. fit.3 (elim auto [ inl h ↦ inl (sym same-now ∙ h) | inr h ↦ inr (sym same-now ∙ h) ]))
    count_parser (ap (λ x. x.value_parser) elem ∙ rules.parser count_parser parser) in
    (got.0, ap (one_text (found_of m)) (sym same-now) ∙ got.1, got.2)

-- What `clap` reads of a number that may be left out.
use Rattle.std.proofs.Common.{◌≡◌, ◌⊎◌, ◌∙◌, ◌<◌, ap, ℕ, true, false, List, [], ◌∷◌, length, Option, Some, None, refl, sym, subst}
use Rattle.std.proofs.Common.{inl, inr, arith}
use Rattle.std.specs.Prelude.{pos}
use Rattle.std.specs.Borrow.{Bor}
use Rattle.std.specs.List.{All, slice_index_or}
use Rattle.std.specs.Str.{bytes_eq}
use Rattle.std.proofs.lemmas.List.Elements.{All-get_or}
use Rattle.std.proofs.lemmas.Slice.Eq.{bytes_eq-Decides}
use Rattle.clap.specs.Built.{IsAuto, IsParsedFrom, IsPlain}
use Rattle.clap.specs.Facts.{Entry, EntryPasses, HasReading, PassesArg, parser_of, parser_of_value}
use Rattle.clap.specs.Matches.{matched_of}
use Rattle.clap.specs.Values.{reading_of}
use Rattle.clap.specs.Words.{Accepts, args_of, found_of, groups_of, one_text}
use Rattle.clap.specs.declared.builder.arg.Arg.{Arg}
use Rattle.clap.specs.declared.builder.command.Command.{Command as Parser}
use Rattle.clap.specs.declared.builder.command.Command.TheViews.{out-Command as fields_of}
use Rattle.clap.specs.declared.builder.value_parser.Reading.{Reading}
use Rattle.clap.specs.declared.builder.value_parser.Reading.TheVariants.{WithoutMinus}
use Rattle.clap.specs.declared.parser.matches.ArgMatches.{ArgMatches}
use Rattle.clap.specs.declared.parser.matches.Found.{Found}
use Rattle.clap.specs.declared.parser.matches.MatchedArg.{MatchedArg}
use Rattle.clap.proofs.CallerLemmas.{entry_by_id, same_rules_by_id}
use Rattle.clap.specs.declared.builder.value_parser.ValueParser.TheVariants.{Signed}
use Rattle.command_words.specs.Arguments.{PassesIn}

-- what an entry says of its first value, where the arguments of its id read and take numbers in bounds
of_entry : (low high : ℕ) (built : Parser) (found : Found) (id : List ℕ) (x : MatchedArg) (e : Entry) → groups_of built ≡ []
    → (id ≡ [] → ⊥) → ((how : Reading) → HasReading built id how → how ≡ WithoutMinus)
    → ((text : List ℕ) → PassesArg built id text → Accepts false (Signed (pos low) (pos high)) text)
    → matched_of found id ≡ Some x → e.1 ≡ x → e.0.now ≡ id → EntryPasses built e
    → (one_text found id ≡ None) ⊎ PassesIn low high found id
of_entry low high built found id x e none named reads takes is same key pass = first x.vals.items refl
  where
    no_group : e.1.is_group ≡ true → ⊥
    no_group group = elim (pass.3 group) [
      | inl empty ↦ named (sym key ∙ empty)
      | inr some ↦
          let bad : 0 < 0 = rw none at some in
          absurd (omega arith)
    ]

    how : e.1.reading ≡ WithoutMinus
    how = elim pass.4 [
      | inl group ↦ absurd (no_group group)
      | inr has ↦ reads e.1.reading (subst (λ w. HasReading built w e.1.reading) key has)
    ]

    way : x.reading ≡ WithoutMinus
    way = subst (λ (y : MatchedArg). y.reading ≡ WithoutMinus) same how

    all : All (λ v. PassesArg built id v.now) x.vals.items
    all = elim pass.0 [
      | inl group ↦ absurd (no_group group)
      | inr values ↦
          let mine : All (λ v. PassesArg built e.0.now v.now) x.vals.items = rw same at values in
          subst (λ w. All (λ v. PassesArg built w v.now) x.vals.items) key mine
    ]

    first : (values : List (Bor (List ℕ))) → x.vals.items ≡ values → (one_text found id ≡ None) ⊎ PassesIn low high found id
    first [] empty = inl (rw (is, empty) refl)
    first (v ∷ vs) some =
        let passes : PassesArg built id v.now =
        All-get_or (λ u. PassesArg built id u.now) (v ∷ vs) 0 v (omega arith)
        (subst (All (λ u. PassesArg built id u.now)) some all) in
        inr (v.now, rw (is, some, way) refl, takes v.now passes)

-- a number that may be left out has no text, or one that clap let through
pub passed_if_given : (low high : ℕ) (old : Parser) (m : ArgMatches) (p : IsParsedFrom old m) → IsPlain old
    → (fields_of old).has_globals ≡ false → (k : ℕ) (d : Arg) → k < length (args_of old)
    → ((j : ℕ) (e : Arg) → j < length (args_of old)
    → bytes_eq (slice_index_or (args_of old) j e).id.now (slice_index_or (args_of old) k d).id.now ≡ true → j ≡ k)
    → ((slice_index_or (args_of old) k d).id.now ≡ [] → ⊥) → (IsAuto (slice_index_or (args_of old) k d) → ⊥)
    → (slice_index_or (args_of old) k d).value_parser ≡ Some (Signed (pos low) (pos high))
    → (one_text (found_of m) (slice_index_or (args_of old) k d).id.now ≡ None)
    ⊎ PassesIn low high (found_of m) (slice_index_or (args_of old) k d).id.now
passed_if_given low high old m p plain globals k d lt unique named own parser = go (matched_of (found_of m) id) refl
  where
    id : List ℕ
    id = (slice_index_or (args_of old) k d).id.now

    -- each argument of the id that clap built has the parser
    parser_is : (j : ℕ) (x : Arg) → j < length (args_of p.built) → slice_index_or (args_of p.built) j x ≡ x
        → bytes_eq x.id.now id ≡ true → parser_of x ≡ Signed (pos low) (pos high)
    parser_is j x lj at same =
        ap parser_of_value ((same_rules_by_id old m p k d lt unique own j x lj at same).parser (Signed (pos low) (pos high)) parser)

    reads : (how : Reading) → HasReading p.built id how → how ≡ WithoutMinus
    reads how any = sym any.4.1 ∙ ap reading_of (parser_is any.0 any.1 any.2 any.3 any.4.0)

    takes : (text : List ℕ) → PassesArg p.built id text → Accepts false (Signed (pos low) (pos high)) text
    takes text any = subst (λ w. Accepts any.1.ignore_case w text)
        (parser_is any.0 any.1 any.2 any.3 any.4.0) any.4.1

    go : (o : Option MatchedArg) → matched_of (found_of m) id ≡ o
        → (one_text (found_of m) id ≡ None) ⊎ PassesIn low high (found_of m) id
    go None is = inl (rw is refl)
    go (Some x) is =
        let parsed = p.parsed (p.from.globals ∙ globals) in
        let got = entry_by_id (EntryPasses p.built) (found_of m).entries.items id x parsed.values is in
        of_entry low high p.built (found_of m) id x got.0 (p.from.plain plain).1 named reads takes is got.1
        ((bytes_eq-Decides got.0.0.now id).0 got.2) got.3

-- What `clap` makes of the arguments of `show` and of `list`.
use Rattle.std.proofs.Common.{◌≡◌, ◌⊎◌, ◌<◌, ◌+◌, ℕ, List, [], ◌∷◌, Option, None, Some, length, true, false}
use Rattle.std.proofs.Common.{ap, subst, inl, inr, arith, codes, is_some, lit<, refl, sym}
use Rattle.std.specs.List.{slice_index_or}
use Rattle.std.specs.Prelude.{◌^◌, Result, zero, suc}
use Rattle.std.specs.Str.Parse.{ParsesUnsigned}
use Rattle.clap.specs.Built.{AddsArg, FitsChain, HasDistinctIds, IsParsedFrom, TakesValue}
use Rattle.clap.specs.Words.{ReadsOne, Text, args_of, first_value, found_of, groups_of, one_text, rule_of, without_minus}
use Rattle.clap.specs.declared.builder.arg.Arg.{Arg}
use Rattle.clap.specs.declared.builder.command.Command.{Command as Parser}
use Rattle.clap.specs.declared.builder.command.Command.TheViews.{out-Command as fields_of}
use Rattle.clap.specs.declared.parser.matches.ArgMatches.{ArgMatches}
use Rattle.clap.specs.declared.parser.matches.Found.{Found}
use Rattle.clap.proofs.CallerLemmas.{required_in_chain}
use Rattle.clap.proofs.CallerReads.{signed_reads}
use Rattle.command_words.specs.Arguments.{AsksForList, AsksForView, PassesIn, PassesNumber}
use Rattle.command_words.specs.Command.{IsTold}
use Rattle.command_words.proofs.ClapLemmas.{is_read}
use Rattle.command_words.proofs.ChainLemmas.{none_apart, number_in_chain, one_more_apart}
use Rattle.command_words.proofs.RequiredLemmas.{same_length}

-- ids whose lengths rise by one from place to place are all apart
rising_apart : (xs : List Arg) (least : ℕ)
    → ((k : ℕ) (e : Arg) → k < length xs → length (slice_index_or xs k e).id.now ≡ k + least) → HasDistinctIds xs
rising_apart xs least long j k d e lj lk same =
    same_place j k least _ _ (long j e lj) (long k d lk) (same_length _ _ same)
  where
    same_place : (j k least a b : ℕ) → a ≡ j + least → b ≡ k + least → a ≡ b → j ≡ k
    same_place j k least a b at-j at-k equal = omega arith

-- ---- `show`

abbrev told : (cmd : Parser) → AsksForView cmd → List Arg
told cmd it = it.file ∷ it.from ∷ it.to ∷ it.txn ∷ it.page ∷ it.json ∷ it.commits ∷ []

told_apart : (cmd : Parser) (it : AsksForView cmd) → HasDistinctIds (told cmd it)
told_apart cmd it = rising_apart (told cmd it) 2 long
  where
    long : (k : ℕ) (e : Arg) → k < length (told cmd it) → length (slice_index_or (told cmd it) k e).id.now ≡ k + 2
    long zero e lt = ap (λ r. length r.id) it.file_is
    long (suc zero) e lt = ap (λ r. length r.id) it.from_is
    long (suc (suc zero)) e lt = ap (λ r. length r.id) it.to_is
    long (suc (suc (suc zero))) e lt = ap (λ r. length r.id) it.txn_is
    long (suc (suc (suc (suc zero)))) e lt = ap (λ r. length r.id) it.page_is
    long (suc (suc (suc (suc (suc zero))))) e lt = ap (λ r. length r.id) it.json_is
    long (suc (suc (suc (suc (suc (suc zero)))))) e lt = ap (λ r. length r.id) it.commits_is
    long (suc (suc (suc (suc (suc (suc (suc k))))))) e lt = absurd (omega arith)

-- the file that `show` requires
pub file_given : (cmd : Parser) (m : ArgMatches) → AsksForView cmd → IsParsedFrom cmd m
    → is_some (first_value (found_of m) (codes "of")) ≡ true
file_given cmd m it p =
    let made = it.made in
    subst (λ id. is_some (first_value (found_of m) id) ≡ true) (ap (λ r. r.id) it.file_is)
    (required_in_chain made.start cmd (told cmd it) 0 it.file m made.chain
    made.no_arguments made.no_groups made.no_globals made.keeps made.fit (told_apart cmd it) (lit< tt) it.required p)

pub passes_number : (low high : ℕ) (found : Found) (name id : Text) → high < 2 ^ 32 → name ≡ id
    → (one_text found name ≡ None) ⊎ PassesIn low high found name → PassesNumber found id
passes_number low high found name id fits same (inl none) = inl (subst (λ n. one_text found n ≡ None) same none)
passes_number low high found name id fits same (inr some) =
    inr (low, high, fits, subst (PassesIn low high found) same some)

-- the numbers, where they were told
pub from_passed : (cmd : Parser) (m : ArgMatches) → AsksForView cmd → IsParsedFrom cmd m
    → PassesNumber (found_of m) (codes "low")
from_passed cmd m it p =
    let made = it.made in
    passes_number 0 67108928 (found_of m) it.from.id.now (codes "low") (lit< tt) (ap (λ r. r.id) it.from_is)
    (number_in_chain 0 67108928 made.start cmd (told cmd it) 1 it.from m made.chain made.no_arguments made.no_groups
    made.no_globals made.fit (told_apart cmd it) (lit< tt) it.from_parsed p)

pub to_passed : (cmd : Parser) (m : ArgMatches) → AsksForView cmd → IsParsedFrom cmd m
    → PassesNumber (found_of m) (codes "high")
to_passed cmd m it p =
    let made = it.made in
    passes_number 0 67108928 (found_of m) it.to.id.now (codes "high") (lit< tt) (ap (λ r. r.id) it.to_is)
    (number_in_chain 0 67108928 made.start cmd (told cmd it) 2 it.to m made.chain made.no_arguments made.no_groups
    made.no_globals made.fit (told_apart cmd it) (lit< tt) it.to_parsed p)

pub txn_passed : (cmd : Parser) (m : ArgMatches) → AsksForView cmd → IsParsedFrom cmd m
    → PassesNumber (found_of m) (codes "owner")
txn_passed cmd m it p =
    let made = it.made in
    passes_number 1 4294967295 (found_of m) it.txn.id.now (codes "owner") (lit< tt) (ap (λ r. r.id) it.txn_is)
    (number_in_chain 1 4294967295 made.start cmd (told cmd it) 3 it.txn m made.chain made.no_arguments made.no_groups
    made.no_globals made.fit (told_apart cmd it) (lit< tt) it.txn_parsed p)

pub page_passed : (cmd : Parser) (m : ArgMatches) → AsksForView cmd → IsParsedFrom cmd m
    → PassesNumber (found_of m) (codes "number")
page_passed cmd m it p =
    let made = it.made in
    passes_number 0 65535 (found_of m) it.page.id.now (codes "number") (lit< tt) (ap (λ r. r.id) it.page_is)
    (number_in_chain 0 65535 made.start cmd (told cmd it) 4 it.page m made.chain made.no_arguments made.no_groups
    made.no_globals made.fit (told_apart cmd it) (lit< tt) it.page_parsed p)

-- the number as it was read, or none where it was not given
pub number_read : (E : Type 0) (G : Text → Result ℕ E → Type 0) (found : Found) (id : Text) (r : Option ℕ)
    → PassesNumber found id → (one_text found id ≡ None → r ≡ None)
    → ((t : Text) → one_text found id ≡ Some t → ReadsOne G t r)
    → ((u : Text) (x : Result ℕ E) → G u x → ParsesUnsigned 32 10 u x)
    → IsTold (one_text found id) r
number_read E G found id r (inl absent) none value parses =
    subst (λ o. IsTold o r) (sym absent) (subst (λ o. IsTold None o) (sym (none absent)) tt)
number_read E G found id r (inr (low, high, fits, passes)) none value parses =
    let text = passes.0 in
    let is = passes.1 in
    let passed = passes.2 in
    let read = value (without_minus text) is in
    let got = signed_reads E G 32 low high text r read parses fits passed in
    subst (λ o. IsTold o r) (sym is) (subst (λ o. IsTold (Some (without_minus text)) o) (sym got.1)
    (is_read E G (without_minus text) (Some (without_minus text)) r got.0 refl read parses got.1))

-- ---- `list`

listed_apart : (cmd : Parser) (it : AsksForList cmd) → HasDistinctIds (it.folder ∷ it.json ∷ it.manifest ∷ it.no_manifest ∷ [])
listed_apart cmd it =
    let folder : length it.folder.id.now ≡ 3 = ap (λ r. length r.id) it.folder_is in
    let json : length it.json.id.now ≡ 7 = ap (λ r. length r.id) it.json_is in
    let manifest : length it.manifest.id.now ≡ 13 = ap (λ r. length r.id) it.manifest_is in
    let no_manifest : length it.no_manifest.id.now ≡ 12 = ap (λ r. length r.id) it.no_manifest_is in
    one_more_apart it.folder (it.json ∷ it.manifest ∷ it.no_manifest ∷ [])
    ((λ same. omega arith), ((λ same. omega arith), ((λ same. omega arith), tt)))
    (one_more_apart it.json (it.manifest ∷ it.no_manifest ∷ [])
    ((λ same. omega arith), ((λ same. omega arith), tt))
    (one_more_apart it.manifest (it.no_manifest ∷ [])
    ((λ same. omega arith), tt)
    (one_more_apart it.no_manifest [] tt none_apart)))

pub listed_folder_given : (cmd : Parser) (m : ArgMatches) → AsksForList cmd → IsParsedFrom cmd m
    → is_some (first_value (found_of m) (codes "dir")) ≡ true
listed_folder_given cmd m it p =
    let made = it.made in
    subst (λ id. is_some (first_value (found_of m) id) ≡ true) (ap (λ r. r.id) it.folder_is)
    (required_in_chain made.start cmd (it.folder ∷ it.json ∷ it.manifest ∷ it.no_manifest ∷ []) 0 it.folder m made.chain
    made.no_arguments made.no_groups made.no_globals made.keeps made.fit (listed_apart cmd it) (lit< tt) it.required p)

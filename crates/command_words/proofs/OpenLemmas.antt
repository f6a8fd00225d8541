-- What `clap` makes of the arguments of `open`.
use Rattle.std.proofs.Common.{◌≡◌, ◌⊎◌, ℕ, List, [], ◌∷◌, Option, None, Some, length, true}
use Rattle.std.proofs.Common.{ap, subst, inl, inr, arith, codes, is_some, lit<, refl, sym}
use Rattle.std.specs.Prelude.{Result}
use Rattle.std.specs.Str.Parse.{ParsesUnsigned}
use Rattle.clap.specs.Built.{HasDistinctIds, IsParsedFrom}
use Rattle.clap.specs.Words.{ReadsOne, Text, first_value, found_of, one_text, without_minus}
use Rattle.clap.specs.declared.builder.arg.Arg.{Arg}
use Rattle.clap.specs.declared.builder.command.Command.{Command as Parser}
use Rattle.clap.specs.declared.parser.matches.ArgMatches.{ArgMatches}
use Rattle.clap.specs.declared.parser.matches.Found.{Found}
use Rattle.clap.proofs.CallerLemmas.{required_in_chain}
use Rattle.clap.proofs.CallerReads.{signed_reads}
use Rattle.command_words.specs.Arguments.{AsksForFolder, PassesCount, PassesFrames, PassesToldPages}
use Rattle.command_words.specs.Command.{IsTold}
use Rattle.command_words.proofs.ChainLemmas.{none_apart, number_in_chain, one_more_apart}
use Rattle.command_words.proofs.ClapLemmas.{is_read}

abbrev asked : (cmd : Parser) → AsksForFolder cmd → List Arg
asked cmd it = it.folder ∷ it.pages ∷ it.frames ∷ it.salvage ∷ it.strict ∷ []

asked_apart : (cmd : Parser) (it : AsksForFolder cmd) → HasDistinctIds (asked cmd it)
asked_apart cmd it =
    let folder : length it.folder.id.now ≡ 3 = ap (λ r. length r.id) it.folder_is in
    let pages : length it.pages.id.now ≡ 5 = ap (λ r. length r.id) it.pages_is in
    let frames : length it.frames.id.now ≡ 6 = ap (λ r. length r.id) it.frames_is in
    let salvage : length it.salvage.id.now ≡ 10 = ap (λ r. length r.id) it.salvage_is in
    let strict : length it.strict.id.now ≡ 9 = ap (λ r. length r.id) it.strict_is in
    one_more_apart it.folder (it.pages ∷ it.frames ∷ it.salvage ∷ it.strict ∷ [])
    ((λ same. omega arith), ((λ same. omega arith), ((λ same. omega arith), ((λ same. omega arith), tt))))
    (one_more_apart it.pages (it.frames ∷ it.salvage ∷ it.strict ∷ [])
    ((λ same. omega arith), ((λ same. omega arith), ((λ same. omega arith), tt)))
    (one_more_apart it.frames (it.salvage ∷ it.strict ∷ []) ((λ same. omega arith), ((λ same. omega arith), tt))
    (one_more_apart it.salvage (it.strict ∷ []) ((λ same. omega arith), tt)
    (one_more_apart it.strict [] tt none_apart))))

-- the folder that `open` requires
pub folder_given : (cmd : Parser) (m : ArgMatches) → AsksForFolder cmd → IsParsedFrom cmd m
    → is_some (first_value (found_of m) (codes "dir")) ≡ true
folder_given cmd m it p =
    let made = it.made in
    subst (λ id. is_some (first_value (found_of m) id) ≡ true) (ap (λ r. r.id) it.folder_is)
    (required_in_chain made.start cmd (asked cmd it) 0 it.folder m made.chain
    made.no_arguments made.no_groups made.no_globals made.keeps made.fit (asked_apart cmd it) (lit< tt) it.required p)

-- the number of pages, if it was given
pub pages_passed : (cmd : Parser) (m : ArgMatches) → AsksForFolder cmd → IsParsedFrom cmd m
    → PassesToldPages (found_of m)
pages_passed cmd m it p =
    let made = it.made in
    subst (λ id. (one_text (found_of m) id ≡ None) ⊎ PassesCount (found_of m) id) (ap (λ r. r.id) it.pages_is)
    (number_in_chain 1 65536 made.start cmd (asked cmd it) 1 it.pages m made.chain made.no_arguments made.no_groups
    made.no_globals made.fit (asked_apart cmd it) (lit< tt) it.pages_parsed p)

-- the number of frames, if it was given
pub frames_passed : (cmd : Parser) (m : ArgMatches) → AsksForFolder cmd → IsParsedFrom cmd m → PassesFrames (found_of m)
frames_passed cmd m it p =
    let made = it.made in
    subst (λ id. (one_text (found_of m) id ≡ None) ⊎ PassesCount (found_of m) id) (ap (λ r. r.id) it.frames_is)
    (number_in_chain 1 65536 made.start cmd (asked cmd it) 2 it.frames m made.chain made.no_arguments made.no_groups
    made.no_globals made.fit (asked_apart cmd it) (lit< tt) it.frames_parsed p)

-- the number of pages as it was read, or none where it was not given
pub pages_read : (E : Type 0) (G : Text → Result ℕ E → Type 0) (found : Found) (r : Option ℕ)
    → PassesToldPages found → (one_text found (codes "pages") ≡ None → r ≡ None)
    → ((t : Text) → one_text found (codes "pages") ≡ Some t → ReadsOne G t r)
    → ((u : Text) (x : Result ℕ E) → G u x → ParsesUnsigned 32 10 u x)
    → IsTold (one_text found (codes "pages")) r
pages_read E G found r (inl absent) none value parses =
    subst (λ o. IsTold o r) (sym absent) (subst (λ o. IsTold None o) (sym (none absent)) tt)
pages_read E G found r (inr it) none value parses =
    let read = value (without_minus it.0) it.1 in
    let got = signed_reads E G 32 1 65536 it.0 r read parses (lit< tt) it.2 in
    subst (λ o. IsTold o r) (sym it.1) (subst (λ o. IsTold (Some (without_minus it.0)) o) (sym got.1)
    (is_read E G (without_minus it.0) (Some (without_minus it.0)) r got.0 refl read parses got.1))

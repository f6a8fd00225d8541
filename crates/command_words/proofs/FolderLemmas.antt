-- What `clap` makes of the arguments of `backup`, of `verify` and of `renew`.
use Rattle.std.proofs.Common.{◌≡◌, ◌⊎◌, ℕ, List, [], ◌∷◌, Option, None, Some, length, true}
use Rattle.std.proofs.Common.{ap, subst, inl, inr, arith, codes, is_some, lit<}
use Rattle.std.specs.Prelude.{Result}
use Rattle.std.specs.Str.Parse.{ParsesUnsigned}
use Rattle.clap.specs.Built.{HasDistinctIds, IsParsedFrom}
use Rattle.clap.specs.Words.{ReadsOne, Text, first_value, found_of, one_text}
use Rattle.clap.specs.declared.builder.arg.Arg.{Arg}
use Rattle.clap.specs.declared.builder.command.Command.{Command as Parser}
use Rattle.clap.specs.declared.parser.matches.ArgMatches.{ArgMatches}
use Rattle.clap.specs.declared.parser.matches.Found.{Found}
use Rattle.clap.proofs.CallerLemmas.{required_in_chain}
use Rattle.command_words.specs.Arguments.{AsksForBackup, AsksForTwoFolders, AsksForVerify, PassesCopy, PassesIn}
use Rattle.command_words.specs.Command.{IsTold}
use Rattle.command_words.proofs.ChainLemmas.{none_apart, number_in_chain, one_more_apart}
use Rattle.command_words.proofs.ViewLemmas.{number_read}

-- ---- `backup`

abbrev asked : (cmd : Parser) → AsksForBackup cmd → List Arg
asked cmd it = it.folder ∷ it.on ∷ it.full ∷ it.into ∷ []

asked_apart : (cmd : Parser) (it : AsksForBackup cmd) → HasDistinctIds (asked cmd it)
asked_apart cmd it =
    let folder : length it.folder.id.now ≡ 3 = ap (λ r. length r.id) it.folder_is in
    let on : length it.on.id.now ≡ 2 = ap (λ r. length r.id) it.on_is in
    let full : length it.full.id.now ≡ 7 = ap (λ r. length r.id) it.full_is in
    let into : length it.into.id.now ≡ 4 = ap (λ r. length r.id) it.into_is in
    one_more_apart it.folder (it.on ∷ it.full ∷ it.into ∷ [])
    ((λ same. omega arith), ((λ same. omega arith), ((λ same. omega arith), tt)))
    (one_more_apart it.on (it.full ∷ it.into ∷ []) ((λ same. omega arith), ((λ same. omega arith), tt))
    (one_more_apart it.full (it.into ∷ []) ((λ same. omega arith), tt)
    (one_more_apart it.into [] tt none_apart)))

-- the folder that it requires
pub backed_folder_given : (cmd : Parser) (m : ArgMatches) → AsksForBackup cmd → IsParsedFrom cmd m
    → is_some (first_value (found_of m) (codes "dir")) ≡ true
backed_folder_given cmd m it p =
    let made = it.made in
    subst (λ id. is_some (first_value (found_of m) id) ≡ true) (ap (λ r. r.id) it.folder_is)
    (required_in_chain made.start cmd (asked cmd it) 0 it.folder m made.chain
    made.no_arguments made.no_groups made.no_globals made.keeps made.fit (asked_apart cmd it) (lit< tt) it.required p)

-- the number of a copy, if it was given
pub copy_passed : (cmd : Parser) (m : ArgMatches) → AsksForBackup cmd → IsParsedFrom cmd m
    → PassesCopy (found_of m) (codes "on")
copy_passed cmd m it p =
    let made = it.made in
    subst (λ id. (one_text (found_of m) id ≡ None) ⊎ PassesIn 1 4294967295 (found_of m) id) (ap (λ r. r.id) it.on_is)
    (number_in_chain 1 4294967295 made.start cmd (asked cmd it) 1 it.on m made.chain made.no_arguments made.no_groups
    made.no_globals made.fit (asked_apart cmd it) (lit< tt) it.on_parsed p)

-- the number as it was read, or none where it was not given
pub copy_read : (E : Type 0) (G : Text → Result ℕ E → Type 0) (found : Found) (name : Text) (r : Option ℕ)
    → PassesCopy found name → (one_text found name ≡ None → r ≡ None)
    → ((t : Text) → one_text found name ≡ Some t → ReadsOne G t r)
    → ((u : Text) (x : Result ℕ E) → G u x → ParsesUnsigned 32 10 u x)
    → IsTold (one_text found name) r
copy_read E G found name r (inl absent) none value parses = number_read E G found name r (inl absent) none value parses
copy_read E G found name r (inr passes) none value parses =
    number_read E G found name r (inr (1, 4294967295, lit< tt, passes)) none value parses

-- ---- `verify`

verified_apart : (cmd : Parser) (it : AsksForVerify cmd) → HasDistinctIds (it.folder ∷ it.manifest ∷ it.no_manifest ∷ [])
verified_apart cmd it =
    let folder : length it.folder.id.now ≡ 3 = ap (λ r. length r.id) it.folder_is in
    let manifest : length it.manifest.id.now ≡ 13 = ap (λ r. length r.id) it.manifest_is in
    let no_manifest : length it.no_manifest.id.now ≡ 12 = ap (λ r. length r.id) it.no_manifest_is in
    one_more_apart it.folder (it.manifest ∷ it.no_manifest ∷ [])
    ((λ same. omega arith), ((λ same. omega arith), tt))
    (one_more_apart it.manifest (it.no_manifest ∷ [])
    ((λ same. omega arith), tt)
    (one_more_apart it.no_manifest [] tt none_apart))

-- the folder that it requires
pub verified_folder_given : (cmd : Parser) (m : ArgMatches) → AsksForVerify cmd → IsParsedFrom cmd m
    → is_some (first_value (found_of m) (codes "dir")) ≡ true
verified_folder_given cmd m it p =
    let made = it.made in
    subst (λ id. is_some (first_value (found_of m) id) ≡ true) (ap (λ r. r.id) it.folder_is)
    (required_in_chain made.start cmd (it.folder ∷ it.manifest ∷ it.no_manifest ∷ []) 0 it.folder m made.chain
    made.no_arguments made.no_groups made.no_globals made.keeps made.fit (verified_apart cmd it) (lit< tt) it.required p)

-- ---- `renew`

folders_apart : (cmd : Parser) (it : AsksForTwoFolders cmd) → HasDistinctIds (it.old ∷ it.renewed ∷ [])
folders_apart cmd it =
    let old : length it.old.id.now ≡ 3 = ap (λ r. length r.id) it.old_is in
    let renewed : length it.renewed.id.now ≡ 7 = ap (λ r. length r.id) it.renewed_is in
    one_more_apart it.old (it.renewed ∷ []) ((λ same. omega arith), tt) (one_more_apart it.renewed [] tt none_apart)

-- the two folders that it requires
pub old_given : (cmd : Parser) (m : ArgMatches) → AsksForTwoFolders cmd → IsParsedFrom cmd m
    → is_some (first_value (found_of m) (codes "old")) ≡ true
old_given cmd m it p =
    let made = it.made in
    subst (λ id. is_some (first_value (found_of m) id) ≡ true) (ap (λ r. r.id) it.old_is)
    (required_in_chain made.start cmd (it.old ∷ it.renewed ∷ []) 0 it.old m made.chain made.no_arguments made.no_groups
    made.no_globals made.keeps made.fit (folders_apart cmd it) (lit< tt) it.old_required p)

pub renewed_given : (cmd : Parser) (m : ArgMatches) → AsksForTwoFolders cmd → IsParsedFrom cmd m
    → is_some (first_value (found_of m) (codes "renewed")) ≡ true
renewed_given cmd m it p =
    let made = it.made in
    subst (λ id. is_some (first_value (found_of m) id) ≡ true) (ap (λ r. r.id) it.renewed_is)
    (required_in_chain made.start cmd (it.old ∷ it.renewed ∷ []) 1 it.renewed m made.chain made.no_arguments
    made.no_groups made.no_globals made.keeps made.fit (folders_apart cmd it) (lit< tt) it.renewed_required p)

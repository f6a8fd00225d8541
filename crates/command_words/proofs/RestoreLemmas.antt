-- The arguments of `restore`: what `clap` requires of them was given.
use Rattle.std.proofs.Common.{◌≡◌, List, [], ◌∷◌, length, true, ap, subst, arith, codes, is_some, lit<}
use Rattle.clap.specs.Built.{HasDistinctIds, IsParsedFrom}
use Rattle.clap.specs.Words.{first_value, found_of}
use Rattle.clap.specs.declared.builder.arg.Arg.{Arg}
use Rattle.clap.specs.declared.builder.command.Command.{Command as Parser}
use Rattle.clap.specs.declared.parser.matches.ArgMatches.{ArgMatches}
use Rattle.clap.proofs.CallerLemmas.{required_in_chain}
use Rattle.command_words.specs.Arguments.{AsksForFiles, PassesNumber}
use Rattle.command_words.proofs.ChainLemmas.{none_apart, number_in_chain, one_more_apart}
use Rattle.command_words.proofs.ViewLemmas.{passes_number}

abbrev asked : (cmd : Parser) → AsksForFiles cmd → List Arg
asked cmd it = it.log ∷ it.master ∷ it.archive ∷ it.output ∷ it.log_output ∷ it.force ∷ it.until
    ∷ it.manifest ∷ it.no_manifest ∷ []

files_apart : (cmd : Parser) (it : AsksForFiles cmd) → HasDistinctIds (asked cmd it)
files_apart cmd it =
    let log : length it.log.id.now ≡ 3 = ap (λ r. length r.id) it.log_is in
    let master : length it.master.id.now ≡ 6 = ap (λ r. length r.id) it.master_is in
    let archive : length it.archive.id.now ≡ 7 = ap (λ r. length r.id) it.archive_is in
    let output : length it.output.id.now ≡ 4 = ap (λ r. length r.id) it.output_is in
    let log_output : length it.log_output.id.now ≡ 8 = ap (λ r. length r.id) it.log_output_is in
    let force : length it.force.id.now ≡ 10 = ap (λ r. length r.id) it.force_is in
    let until : length it.until.id.now ≡ 9 = ap (λ r. length r.id) it.until_is in
    let manifest : length it.manifest.id.now ≡ 13 = ap (λ r. length r.id) it.manifest_is in
    let no_manifest : length it.no_manifest.id.now ≡ 12 = ap (λ r. length r.id) it.no_manifest_is in
    one_more_apart it.log (it.master ∷ it.archive ∷ it.output ∷ it.log_output ∷ it.force ∷ it.until ∷ it.manifest ∷ it.no_manifest ∷ [])
    ((λ same. omega arith), ((λ same. omega arith), ((λ same. omega arith), ((λ same. omega arith), ((λ same. omega arith), ((λ same. omega arith), ((λ same. omega arith), ((λ same. omega arith), tt))))))))
    (one_more_apart it.master (it.archive ∷ it.output ∷ it.log_output ∷ it.force ∷ it.until ∷ it.manifest ∷ it.no_manifest ∷ [])
    ((λ same. omega arith), ((λ same. omega arith), ((λ same. omega arith), ((λ same. omega arith), ((λ same. omega arith), ((λ same. omega arith), ((λ same. omega arith), tt)))))))
    (one_more_apart it.archive (it.output ∷ it.log_output ∷ it.force ∷ it.until ∷ it.manifest ∷ it.no_manifest ∷ [])
    ((λ same. omega arith), ((λ same. omega arith), ((λ same. omega arith), ((λ same. omega arith), ((λ same. omega arith), ((λ same. omega arith), tt))))))
    (one_more_apart it.output (it.log_output ∷ it.force ∷ it.until ∷ it.manifest ∷ it.no_manifest ∷ [])
    ((λ same. omega arith), ((λ same. omega arith), ((λ same. omega arith), ((λ same. omega arith), ((λ same. omega arith), tt)))))
    (one_more_apart it.log_output (it.force ∷ it.until ∷ it.manifest ∷ it.no_manifest ∷ [])
    ((λ same. omega arith), ((λ same. omega arith), ((λ same. omega arith), ((λ same. omega arith), tt))))
    (one_more_apart it.force (it.until ∷ it.manifest ∷ it.no_manifest ∷ [])
    ((λ same. omega arith), ((λ same. omega arith), ((λ same. omega arith), tt)))
    (one_more_apart it.until (it.manifest ∷ it.no_manifest ∷ [])
    ((λ same. omega arith), ((λ same. omega arith), tt))
    (one_more_apart it.manifest (it.no_manifest ∷ [])
    ((λ same. omega arith), tt)
    (one_more_apart it.no_manifest [] tt none_apart))))))))

pub log_given : (cmd : Parser) (m : ArgMatches) → AsksForFiles cmd → IsParsedFrom cmd m
    → is_some (first_value (found_of m) (codes "log")) ≡ true
log_given cmd m it p =
    let made = it.made in
    subst (λ id. is_some (first_value (found_of m) id) ≡ true) (ap (λ r. r.id) it.log_is)
    (required_in_chain made.start cmd (asked cmd it) 0 it.log m made.chain
    made.no_arguments made.no_groups made.no_globals made.keeps made.fit (files_apart cmd it) (lit< tt) it.log_required p)

pub master_given : (cmd : Parser) (m : ArgMatches) → AsksForFiles cmd → IsParsedFrom cmd m
    → is_some (first_value (found_of m) (codes "master")) ≡ true
master_given cmd m it p =
    let made = it.made in
    subst (λ id. is_some (first_value (found_of m) id) ≡ true) (ap (λ r. r.id) it.master_is)
    (required_in_chain made.start cmd (asked cmd it) 1 it.master m made.chain
    made.no_arguments made.no_groups made.no_globals made.keeps made.fit (files_apart cmd it) (lit< tt) it.master_required p)

pub restored_until_passed : (cmd : Parser) (m : ArgMatches) → AsksForFiles cmd → IsParsedFrom cmd m
    → PassesNumber (found_of m) (codes "until_lsn")
restored_until_passed cmd m it p =
    let made = it.made in
    passes_number 0 67108928 (found_of m) it.until.id.now (codes "until_lsn") (lit< tt) (ap (λ r. r.id) it.until_is)
    (number_in_chain 0 67108928 made.start cmd (asked cmd it) 6 it.until m made.chain made.no_arguments made.no_groups
    made.no_globals made.fit (files_apart cmd it) (lit< tt) it.until_parsed p)

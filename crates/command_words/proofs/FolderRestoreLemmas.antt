-- The arguments of `restore` with a folder: what `clap` requires of them was given.
use Rattle.std.proofs.Common.{◌≡◌, ◌⊎◌, List, [], ◌∷◌, None, length, true, ap, subst, arith, codes, is_some, lit<}
use Rattle.std.proofs.Common.{inl, inr, refl, sym, ◌∙◌}
use Rattle.std.specs.Prelude.{Err, IfErr, IfOk, IsErrAnd, Ok, Result, ◌≢◌}
use Rattle.clap.specs.Built.{HasDistinctIds, IsParsedFrom}
use Rattle.clap.specs.Words.{Text, fault_of, first_value, found_of, one_text}
use Rattle.clap.specs.declared.builder.arg.Arg.{Arg}
use Rattle.clap.specs.declared.builder.command.Command.{Command as Parser}
use Rattle.clap.specs.declared.parser.matches.ArgMatches.{ArgMatches}
use Rattle.clap.proofs.CallerLemmas.{required_in_chain}
use Rattle.clap.specs.declared.error.Error.{Error}
use Rattle.clap.specs.declared.error.kind.ErrorKind.{ErrorKind}
use Rattle.command_words.specs.Arguments.{AsksForCopies, PassesCopy, PassesIn, PassesNumber}
use Rattle.command_words.specs.Command.{ExplainsRead, Gives, IsTaken, Names, restore_app, restore_folder_app}
use Rattle.command_words.specs.declared.command.Command.{Command}
use Rattle.command_words.specs.declared.command.UsageFault.{UsageFault}
use Rattle.command_words.specs.declared.command.UsageFault.TheVariants.{BadArguments, OutOfMemory}
use Rattle.command_words.proofs.ChainLemmas.{none_apart, number_in_chain, one_more_apart}
use Rattle.command_words.proofs.ClapLemmas.{help_of_restore, help_of_restore_folder}
use Rattle.command_words.proofs.NameLemmas.{help_gives_none, no_version, taken_by_two}
use Rattle.command_words.proofs.ViewLemmas.{passes_number}

abbrev asked : (cmd : Parser) → AsksForCopies cmd → List Arg
asked cmd it = it.folder ∷ it.copy ∷ it.output ∷ it.log_output ∷ it.force ∷ it.until ∷ it.manifest
    ∷ it.no_manifest ∷ []

copies_apart : (cmd : Parser) (it : AsksForCopies cmd) → HasDistinctIds (asked cmd it)
copies_apart cmd it =
    let folder : length it.folder.id.now ≡ 3 = ap (λ r. length r.id) it.folder_is in
    let copy : length it.copy.id.now ≡ 5 = ap (λ r. length r.id) it.copy_is in
    let output : length it.output.id.now ≡ 4 = ap (λ r. length r.id) it.output_is in
    let log_output : length it.log_output.id.now ≡ 8 = ap (λ r. length r.id) it.log_output_is in
    let force : length it.force.id.now ≡ 10 = ap (λ r. length r.id) it.force_is in
    let until : length it.until.id.now ≡ 9 = ap (λ r. length r.id) it.until_is in
    let manifest : length it.manifest.id.now ≡ 13 = ap (λ r. length r.id) it.manifest_is in
    let no_manifest : length it.no_manifest.id.now ≡ 12 = ap (λ r. length r.id) it.no_manifest_is in
    one_more_apart it.folder (it.copy ∷ it.output ∷ it.log_output ∷ it.force ∷ it.until ∷ it.manifest ∷ it.no_manifest ∷ [])
    ((λ same. omega arith), ((λ same. omega arith), ((λ same. omega arith), ((λ same. omega arith), ((λ same. omega arith), ((λ same. omega arith), ((λ same. omega arith), tt)))))))
    (one_more_apart it.copy (it.output ∷ it.log_output ∷ it.force ∷ it.until ∷ it.manifest ∷ it.no_manifest ∷ [])
    ((λ same. omega arith), ((λ same. omega arith), ((λ same. omega arith), ((λ same. omega arith), ((λ same. omega arith), ((λ same. omega arith), tt))))))
    (one_more_apart it.output (it.log_output ∷ it.force ∷ it.until ∷ it.manifest ∷ it.no_manifest ∷ [])
    ((λ same. omega arith), ((λ same. omega arith), ((λ same. omega arith), ((λ same. omega arith), ((λ same. omega arith), tt)))))
    (one_more_apart it.log_output (it.force ∷ it.until ∷ it.manifest ∷ it.no_manifest ∷ [])
    ((λ same. omega arith), ((λ same. omega arith), ((λ same. omega arith), ((λ same. omega arith), tt))))
    (one_more_apart it.force (it.until ∷ it.manifest ∷ it.no_manifest ∷ [])
    ((λ same. omega arith), ((λ same. omega arith), ((λ same. omega arith), tt)))
    (one_more_apart it.until (it.manifest ∷ it.no_manifest ∷ [])
    ((λ same. omega arith), ((λ same. omega arith), tt))
    (one_more_apart it.manifest (it.no_manifest ∷ [])
    ((λ same. omega arith), tt)
    (one_more_apart it.no_manifest [] tt none_apart)))))))

-- the folder that it requires
pub restored_folder_given : (cmd : Parser) (m : ArgMatches) → AsksForCopies cmd → IsParsedFrom cmd m
    → is_some (first_value (found_of m) (codes "dir")) ≡ true
restored_folder_given cmd m it p =
    let made = it.made in
    subst (λ id. is_some (first_value (found_of m) id) ≡ true) (ap (λ r. r.id) it.folder_is)
    (required_in_chain made.start cmd (asked cmd it) 0 it.folder m made.chain
    made.no_arguments made.no_groups made.no_globals made.keeps made.fit (copies_apart cmd it) (lit< tt) it.required p)

-- the number of a copy, if it was given
pub restored_copy_passed : (cmd : Parser) (m : ArgMatches) → AsksForCopies cmd → IsParsedFrom cmd m
    → PassesCopy (found_of m) (codes "which")
restored_copy_passed cmd m it p =
    let made = it.made in
    subst (λ id. (one_text (found_of m) id ≡ None) ⊎ PassesIn 1 4294967295 (found_of m) id) (ap (λ r. r.id) it.copy_is)
    (number_in_chain 1 4294967295 made.start cmd (asked cmd it) 1 it.copy m made.chain made.no_arguments made.no_groups
    made.no_globals made.fit (copies_apart cmd it) (lit< tt) it.copy_parsed p)

pub folder_until_passed : (cmd : Parser) (m : ArgMatches) → AsksForCopies cmd → IsParsedFrom cmd m
    → PassesNumber (found_of m) (codes "until_lsn")
folder_until_passed cmd m it p =
    let made = it.made in
    passes_number 0 67108928 (found_of m) it.until.id.now (codes "until_lsn") (lit< tt) (ap (λ r. r.id) it.until_is)
    (number_in_chain 0 67108928 made.start cmd (asked cmd it) 5 it.until m made.chain made.no_arguments made.no_groups
    made.no_globals made.fit (copies_apart cmd it) (lit< tt) it.until_parsed p)

-- ---- and which of both forms takes the words of `restore`

not_empty : (k : ErrorKind) (ks : List ErrorKind) → k ∷ ks ≡ [] → ⊥
not_empty k ks e = cc

is_other : (fault : UsageFault) (error : Error) → fault ≡ BadArguments error → fault ≡ OutOfMemory → ⊥
is_other fault error is e = cc

-- words that the files' form refuses are those of a folder, or no command takes them
pub refused_as_files : (words : List Text) (fault : UsageFault) (error : Error) (r : Result Command UsageFault)
    → Names words restore_app → fault ≡ BadArguments error → (fault_of restore_app words ≡ [] → fault ≡ OutOfMemory)
    → IfErr r (λ it. fault_of restore_folder_app words ≡ [] → it ≡ OutOfMemory)
    → IfErr r (λ it. IsTaken words → it ≡ OutOfMemory)
refused_as_files words fault error (Ok command) named is files folder = tt
refused_as_files words fault error (Err other) named is files folder = λ taken.
    elim (taken_by_two words restore_app restore_folder_app refl named taken) [
      | inl by ↦ absurd (is_other fault error is (files by))
      | inr by ↦ folder by
    ]

-- no command takes words that both forms refuse
pub refused_by_both : (words : List Text) (fault : UsageFault) (r : Result Command UsageFault) → Names words restore_app
    → (fault_of restore_app words ≡ [] → fault ≡ OutOfMemory)
    → IfErr r (λ it. fault_of restore_folder_app words ≡ [] → it ≡ OutOfMemory)
    → IsErrAnd r (λ it. it ≢ OutOfMemory) → IsTaken words → fault ≡ OutOfMemory
refused_by_both words fault (Ok command) named files folder refused taken = absurd refused
refused_by_both words fault (Err other) named files folder refused taken =
    elim (taken_by_two words restore_app restore_folder_app refl named taken) [
      | inl by ↦ files by
      | inr by ↦ absurd (refused (folder by))
    ]

-- `restore --help` gives no command
pub help_restores_none : (r : Result Command UsageFault) → IfOk r (Gives (codes "restore" ∷ codes "--help" ∷ []))
    → IfOk r (λ _. ⊥)
help_restores_none r gives =
    help_gives_none words restore_app r (no_version words (codes "restore") refl refl refl) gives
    (λ taken. elim (taken_by_two words restore_app restore_folder_app refl refl taken) [
      | inl by ↦ by
      | inr by ↦ absurd (not_empty _ _ (sym help_of_restore_folder ∙ by))
    ]) help_of_restore
  where
    words : List Text
    words = codes "restore" ∷ codes "--help" ∷ []

-- What `clap` makes of the arguments of `run`, and of the options of `redo`.
use Rattle.std.proofs.Common.{◌≡◌, ◌⊎◌, List, [], ◌∷◌, None, length, ap, subst, arith, codes, lit<}
use Rattle.clap.specs.Built.{HasDistinctIds, IsParsedFrom}
use Rattle.clap.specs.Words.{found_of, one_text}
use Rattle.clap.specs.declared.builder.arg.Arg.{Arg}
use Rattle.clap.specs.declared.builder.command.Command.{Command as Parser}
use Rattle.clap.specs.declared.parser.matches.ArgMatches.{ArgMatches}
use Rattle.command_words.specs.Arguments.{AsksForOutput, AsksForPages, PassesCount, PassesFrames}
use Rattle.command_words.specs.Arguments.{PassesNumber, PassesPages}
use Rattle.command_words.proofs.ViewLemmas.{passes_number}
use Rattle.command_words.proofs.ChainLemmas.{count_in_chain, none_apart, number_in_chain, one_more_apart}

abbrev asked : (cmd : Parser) → AsksForPages cmd → List Arg
asked cmd it = it.pages ∷ it.frames ∷ it.save ∷ it.manifest ∷ it.strict ∷ it.force ∷ []

asked_apart : (cmd : Parser) (it : AsksForPages cmd) → HasDistinctIds (asked cmd it)
asked_apart cmd it =
    let pages : length it.pages.id.now ≡ 5 = ap (λ r. length r.id) it.pages_is in
    let frames : length it.frames.id.now ≡ 6 = ap (λ r. length r.id) it.frames_is in
    let save : length it.save.id.now ≡ 4 = ap (λ r. length r.id) it.save_is in
    let manifest : length it.manifest.id.now ≡ 8 = ap (λ r. length r.id) it.manifest_is in
    let strict : length it.strict.id.now ≡ 9 = ap (λ r. length r.id) it.strict_is in
    let force : length it.force.id.now ≡ 10 = ap (λ r. length r.id) it.force_is in
    one_more_apart it.pages (it.frames ∷ it.save ∷ it.manifest ∷ it.strict ∷ it.force ∷ []) (
      (λ same. omega arith),
      (
        (λ same. omega arith),
        (
          (λ same. omega arith),
          ((λ same. omega arith), ((λ same. omega arith), tt)),
        ),
      ),
    )
    (one_more_apart it.frames (it.save ∷ it.manifest ∷ it.strict ∷ it.force ∷ [])
    ((λ same. omega arith), ((λ same. omega arith), ((λ same. omega arith), ((λ same. omega arith), tt))))
    (one_more_apart it.save (it.manifest ∷ it.strict ∷ it.force ∷ [])
    ((λ same. omega arith), ((λ same. omega arith), ((λ same. omega arith), tt)))
    (one_more_apart it.manifest (it.strict ∷ it.force ∷ []) ((λ same. omega arith), ((λ same. omega arith), tt))
    (one_more_apart it.strict (it.force ∷ []) ((λ same. omega arith), tt)
    (one_more_apart it.force [] tt none_apart)))))

-- the number of pages
pub pages_passed : (cmd : Parser) (m : ArgMatches) → AsksForPages cmd → IsParsedFrom cmd m → PassesPages (found_of m)
pages_passed cmd m it p =
    let made = it.made in
    subst (PassesCount (found_of m)) (ap (λ r. r.id) it.pages_is)
    (count_in_chain made.start cmd (asked cmd it) 0 it.pages m made.chain made.no_arguments made.no_groups
    made.no_globals made.keeps made.fit (asked_apart cmd it) (lit< tt) it.required it.pages_parsed p)

-- the number of frames, if it was given
pub frames_passed : (cmd : Parser) (m : ArgMatches) → AsksForPages cmd → IsParsedFrom cmd m → PassesFrames (found_of m)
frames_passed cmd m it p =
    let made = it.made in
    subst (λ id. (one_text (found_of m) id ≡ None) ⊎ PassesCount (found_of m) id) (ap (λ r. r.id) it.frames_is)
    (number_in_chain 1 65536 made.start cmd (asked cmd it) 1 it.frames m made.chain made.no_arguments made.no_groups
    made.no_globals made.fit (asked_apart cmd it) (lit< tt) it.frames_parsed p)

-- ---- `redo` with options

abbrev redone : (cmd : Parser) → AsksForOutput cmd → List Arg
redone cmd it = it.output ∷ it.force ∷ it.until ∷ []

output_apart : (cmd : Parser) (it : AsksForOutput cmd) → HasDistinctIds (redone cmd it)
output_apart cmd it =
    let output : length it.output.id.now ≡ 4 = ap (λ r. length r.id) it.output_is in
    let force : length it.force.id.now ≡ 10 = ap (λ r. length r.id) it.force_is in
    let until : length it.until.id.now ≡ 9 = ap (λ r. length r.id) it.until_is in
    one_more_apart it.output (it.force ∷ it.until ∷ [])
    ((λ same. omega arith), ((λ same. omega arith), tt))
    (one_more_apart it.force (it.until ∷ [])
    ((λ same. omega arith), tt)
    (one_more_apart it.until [] tt none_apart))

-- the LSN, where it was told
pub redone_until_passed : (cmd : Parser) (m : ArgMatches) → AsksForOutput cmd → IsParsedFrom cmd m
    → PassesNumber (found_of m) (codes "until_lsn")
redone_until_passed cmd m it p =
    let made = it.made in
    passes_number 0 67108928 (found_of m) it.until.id.now (codes "until_lsn") (lit< tt) (ap (λ r. r.id) it.until_is)
    (number_in_chain 0 67108928 made.start cmd (redone cmd it) 2 it.until m made.chain made.no_arguments made.no_groups
    made.no_globals made.fit (output_apart cmd it) (lit< tt) it.until_parsed p)

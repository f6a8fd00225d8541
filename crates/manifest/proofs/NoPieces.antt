-- Where the pieces of a manifest's text do not stand.
use Rattle.std.proofs.Common.{◌≡◌, ◌≢◌, ◌<◌, ◌^◌, ◌++◌, ℕ, List, [], ◌∷◌, true, Option, Some, None, Bor}
use Rattle.std.proofs.Common.{refl, sym, ◌∙◌, ap, subst, arith}
use Rattle.std.specs.Prelude.{codes, decimal, IfNone, IfSome, IsUtf8, MatchOption}
use Rattle.std.specs.List.{AllByRecursion}
use Rattle.std.specs.Str.{IsAscii}
use Rattle.std.proofs.lemmas.Bool.Decides.{nat_tests}
use Rattle.std.proofs.lemmas.Str.{IsUtf8-from_ascii}
use Rattle.std.proofs.lemmas.Str.Ascii.{IsAscii-cons, IsAscii-nil}
use Rattle.hex.specs.Hex.{encode_lower}
use Rattle.manifest.specs.declared.entry.Extent.{Extent}
use Rattle.manifest.specs.Entries.{is_name_byte, IsName, IsOctets}
use Rattle.manifest.specs.Pieces.{LacksByte}
use Rattle.manifest.specs.Text.{break_of, head_text, length_text, sum_text, word_of}
use Rattle.manifest.proofs.Apart.{as_long, breaks_small, decimal_lacks, digits_apart, head_parts, length_parts, name_lacks, sum_parts, up_to, words_apart}

-- digits that are no number's stand where the length is to stand
pub no_length : (bytes behind digits rest : List ℕ) (found : Extent) → bytes ≡ word_of found ++ behind
    → LacksByte (break_of found) digits → behind ≡ digits ++ break_of found ∷ rest
    → ((n : ℕ) → n < 2 ^ 63 → digits ≢ decimal n)
    → (extent : Extent) (count : ℕ) (more : List ℕ) → count < 2 ^ 63
    → bytes ≢ length_text extent count ++ more
no_length bytes behind digits rest found word lacks cut none extent count more fits e =
    let words = words_apart found extent behind (decimal count ++ break_of extent ∷ more)
    (sym word ∙ e ∙ length_parts extent count more) in
    let same : digits ++ break_of found ∷ rest ≡ decimal count ++ break_of found ∷ more =
    sym cut ∙ words.rest ∙ ap (λ (x : Extent). decimal count ++ break_of x ∷ more) (sym words.value) in
    let parts = up_to (break_of found) digits (decimal count) rest more lacks
    (decimal_lacks (break_of found) count (breaks_small found) fits) same in
    none count fits parts.value

-- what stands behind the digits of a sum
pub behind_sum : (bytes digits behind sum name more : List ℕ) → IsOctets 32 digits
    → bytes ≡ encode_lower digits ++ behind → IsOctets 32 sum → bytes ≡ sum_text sum name ++ more
    → behind ≡ codes "  " ++ (name ++ 10 ∷ more)
behind_sum bytes digits behind sum name more found front is e =
    (digits_apart 32 digits sum behind (32 ∷ 32 ∷ (name ++ 10 ∷ more)) found is
    (sym front ∙ e ∙ sum_parts sum name more)).rest

pub name_there : (behind rest name more : List ℕ) → behind ≡ codes "  " ++ rest
    → behind ≡ codes "  " ++ (name ++ 10 ∷ more) → rest ≡ name ++ 10 ∷ more
name_there behind rest name more front e =
    let same : 32 ∷ 32 ∷ rest ≡ 32 ∷ 32 ∷ (name ++ 10 ∷ more) = sym front ∙ e in cc

stands : (stop : ℕ) (xs more : List ℕ) → LacksByte stop (xs ++ stop ∷ more) → ⊥
stands stop [] more lacks = lacks.0 refl
stands stop (x ∷ xs) more lacks = stands stop xs more lacks.1

pub it_stands : (stop : ℕ) (bytes xs more : List ℕ) → LacksByte stop bytes → bytes ≢ xs ++ stop ∷ more
it_stands stop bytes xs more lacks e = stands stop xs more (subst (LacksByte stop) e lacks)

pub name_is : (rest found behind name more : List ℕ) → LacksByte 10 found → rest ≡ found ++ 10 ∷ behind
    → IsName name → rest ≡ name ++ 10 ∷ more → found ≡ name
name_is rest found behind name more lacks cut is e =
    (up_to 10 found name behind more lacks (name_lacks name is) (sym cut ∙ e)).value

byte_ascii : (b : ℕ) → is_name_byte b ≡ true → b < 128
byte_ascii b h = grind (arith, nat_tests)

bytes_ascii : (bytes : List ℕ) → AllByRecursion (λ byte. is_name_byte byte ≡ true) bytes → IsAscii bytes
bytes_ascii [] h = IsAscii-nil
bytes_ascii (b ∷ bytes) h = IsAscii-cons b bytes (byte_ascii b h.0) (bytes_ascii bytes h.1)

-- a name is a text
pub name_utf8 : (name : List ℕ) → IsName name → IsUtf8 name
name_utf8 name is = IsUtf8-from_ascii name (bytes_ascii name is.plain)

-- no line feed follows the digits of the database
pub no_head : (bytes behind digits rest : List ℕ) → bytes ≡ codes "# imgcopy manifest 1 database " ++ behind
    → IsOctets 16 digits → behind ≡ encode_lower digits ++ rest → ((more : List ℕ) → rest ≢ codes "\n" ++ more)
    → (database more : List ℕ) → IsOctets 16 database → bytes ≢ head_text database ++ more
no_head bytes behind digits rest word found front none database more is e =
    let same : codes "# imgcopy manifest 1 database " ++ behind
    ≡ codes "# imgcopy manifest 1 database " ++ (encode_lower database ++ 10 ∷ more) =
    sym word ∙ e ∙ head_parts database more in
    let words = as_long (codes "# imgcopy manifest 1 database ") (codes "# imgcopy manifest 1 database ") behind (encode_lower database ++ 10 ∷ more) refl same in
    none more (digits_apart 16 digits database rest (10 ∷ more) found is (sym front ∙ words.rest)).rest

-- the word stands in front
pub no_word : (bytes : List ℕ) → ((rest : List ℕ) → bytes ≢ codes "# imgcopy manifest 1 database " ++ rest)
    → (database more : List ℕ) → IsOctets 16 database → bytes ≢ head_text database ++ more
no_word bytes none database more is e = none (encode_lower database ++ 10 ∷ more) (e ∙ head_parts database more)

pub head_is : (bytes behind digits rest more : List ℕ) → bytes ≡ codes "# imgcopy manifest 1 database " ++ behind
    → behind ≡ encode_lower digits ++ rest → rest ≡ codes "\n" ++ more → bytes ≡ head_text digits ++ more
head_is bytes behind digits rest more word front feed =
    word ∙ ap (λ (x : List ℕ). codes "# imgcopy manifest 1 database " ++ x) (front ∙ ap (λ (x : List ℕ). encode_lower digits ++ x) feed)
    ∙ sym (head_parts digits more)

-- what follows a front that stands there, or does not
pub some_follows : (s p : List ℕ) (r : Option (Bor (List ℕ)))
    → MatchOption r ((rest : List ℕ) → s ≢ p ++ rest) (λ x. s ≡ p ++ x.now) → IfSome r (λ x. s ≡ p ++ x.now)
some_follows s p None h = tt
some_follows s p (Some x) h = h

pub none_follows : (s p : List ℕ) (r : Option (Bor (List ℕ)))
    → MatchOption r ((rest : List ℕ) → s ≢ p ++ rest) (λ x. s ≡ p ++ x.now)
    → IfNone r ((rest : List ℕ) → s ≢ p ++ rest)
none_follows s p None h = h
none_follows s p (Some x) h = tt

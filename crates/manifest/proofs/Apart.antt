-- The pieces of a manifest's text are told apart, whatever follows them.
use Rattle.std.proofs.Common.{◌≡◌, ◌≢◌, ◌<◌, ◌^◌, ◌++◌, ℕ, List, [], ◌∷◌, length, take, drop}
use Rattle.std.proofs.Common.{true, Result, slice_index, refl, sym, ◌∙◌, ap, arith, append_assoc, length-append}
use Rattle.std.specs.Prelude.{codes, decimal}
use Rattle.std.specs.List.{AllByRecursion, flat_map}
use Rattle.std.specs.Result.{result_unwrap_or}
use Rattle.std.specs.Str.Parse.{AllDigits}
use Rattle.std.proofs.lemmas.Fmt.{decimal_is_IsNumeral, decimal_injective}
use Rattle.std.proofs.lemmas.Str.Parse.{digit_from_value}
use Rattle.std.proofs.lemmas.List.{append-nil}
use Rattle.std.proofs.Math.Seq.{take-append_seam, drop-append_seam}
use Rattle.hex.specs.Hex.{decode_of, encode_lower, lower_digits}
use Rattle.hex.specs.declared.error.FromHexError.{FromHexError}
use Rattle.hex.proofs.HexLemmas.{decode_of-encode_lower, length-encode_with}
use Rattle.manifest.specs.declared.entry.Extent.{Extent}
use Rattle.manifest.specs.declared.entry.Extent.TheVariants.{Whole, First}
use Rattle.manifest.specs.Entries.{is_name_byte, IsManifest, IsName, IsNoted, IsOctets, Listed, Noted}
use Rattle.manifest.specs.Pieces.{LacksByte}
use Rattle.manifest.specs.Text.{break_of, entry_text, head_text, length_text, manifest_text, sum_text, word_of}

-- two values that are one, and what follows them
pub record Same {X : Type 0} (x y : X) (r s : List ℕ) : Type 0 where
  pub value : x ≡ y
  pub rest : r ≡ s

-- up to a byte that neither has, two texts are one
pub up_to : (stop : ℕ) (xs ys r s : List ℕ) → LacksByte stop xs → LacksByte stop ys
    → xs ++ stop ∷ r ≡ ys ++ stop ∷ s → Same xs ys r s
up_to stop [] [] r s p q e = record { value = refl; rest = cc }
up_to stop [] (y ∷ ys) r s p q e = let h : y ≡ stop = cc in absurd (q.0 h)
up_to stop (x ∷ xs) [] r s p q e = let h : x ≡ stop = cc in absurd (p.0 h)
up_to stop (x ∷ xs) (y ∷ ys) r s p q e =
    let tail : xs ++ stop ∷ r ≡ ys ++ stop ∷ s = cc in
    let more = up_to stop xs ys r s p.1 q.1 tail in
    let head : x ≡ y = cc in
    record { value = cc; rest = more.rest }

-- texts of one length are one, and so is what follows them
pub as_long : (xs ys r s : List ℕ) → length xs ≡ length ys → xs ++ r ≡ ys ++ s → Same xs ys r s
as_long xs ys r s l e =
    record {
      value = sym (take-append_seam xs r) ∙ ap (λ (n : ℕ). take n (xs ++ r)) l
          ∙ ap (take (length ys)) e ∙ take-append_seam ys s;
      rest = sym (drop-append_seam xs r) ∙ ap (λ (n : ℕ). drop n (xs ++ r)) l
          ∙ ap (drop (length ys)) e ∙ drop-append_seam ys s;
    }

digits_lack : (stop : ℕ) → stop < 48 → (ds : List ℕ) → AllDigits 10 ds → LacksByte stop ds
digits_lack stop small [] h = tt
digits_lack stop small (d ∷ ds) h =
    let range = digit_from_value d h.0 in
    ((λ e. omega (arith, range.0, e)), digits_lack stop small ds h.1)

-- no digit of a number is a line feed or a space
pub decimal_lacks : (stop n : ℕ) → stop < 48 → n < 2 ^ 63 → LacksByte stop (decimal n)
decimal_lacks stop n small fits =
    digits_lack stop small (decimal n) (decimal_is_IsNumeral n (omega arith)).0.1

name_byte_lacks : (b : ℕ) → is_name_byte b ≡ true → b ≢ 10
name_byte_lacks b h e = cc (ap is_name_byte e)

name_bytes_lack : (bytes : List ℕ) → AllByRecursion (λ byte. is_name_byte byte ≡ true) bytes
    → LacksByte 10 bytes
name_bytes_lack [] h = tt
name_bytes_lack (b ∷ bytes) h = (name_byte_lacks b h.0, name_bytes_lack bytes h.1)

-- no name has a line feed
pub name_lacks : (name : List ℕ) → IsName name → LacksByte 10 name
name_lacks name h = name_bytes_lack name h.plain

pub breaks_small : (extent : Extent) → break_of extent < 48
breaks_small Whole = omega arith
breaks_small First = omega arith

-- the digits of as many bytes are told apart
pub digits_apart : (n : ℕ) (a b r s : List ℕ) → IsOctets n a → IsOctets n b
    → encode_lower a ++ r ≡ encode_lower b ++ s → Same a b r s
digits_apart n a b r s p q e =
    let la = length-encode_with lower_digits a in
    let lb = length-encode_with lower_digits b in
    let ma = p.many in
    let mb = q.many in
    let same = as_long (encode_lower a) (encode_lower b) r s (omega (arith, la, lb, ma, mb)) e in
    let one =
    sym (decode_of-encode_lower a p.bytes) ∙ ap decode_of same.value ∙ decode_of-encode_lower b q.bytes in
    record {
      value = ap (λ (x : Result (List ℕ) FromHexError). result_unwrap_or x []) one;
      rest = same.rest;
    }

pub words_apart : (a b : Extent) (r s : List ℕ) → word_of a ++ r ≡ word_of b ++ s → Same a b r s
words_apart Whole Whole r s e = record { value = refl; rest = cc }
words_apart First First r s e = record { value = refl; rest = cc }
words_apart Whole First r s e =
    let third : ◌≡◌ {A = ℕ} 119 102 = ap (λ (x : List ℕ). slice_index x 2) e in absurd (omega arith)
words_apart First Whole r s e =
    let third : ◌≡◌ {A = ℕ} 102 119 = ap (λ (x : List ℕ). slice_index x 2) e in absurd (omega arith)

pub length_parts : (a : Extent) (m : ℕ) (r : List ℕ)
    → length_text a m ++ r ≡ word_of a ++ (decimal m ++ break_of a ∷ r)
length_parts a m r =
    append_assoc (word_of a) (decimal m ++ break_of a ∷ []) r
    ∙ ap (λ (x : List ℕ). word_of a ++ x) (append_assoc (decimal m) (break_of a ∷ []) r)

pub lengths_apart : (a b : Extent) (m n : ℕ) (r s : List ℕ) → m < 2 ^ 63 → n < 2 ^ 63
    → length_text a m ++ r ≡ length_text b n ++ s → (a ≡ b) × Same m n r s
lengths_apart a b m n r s fa fb e =
    let words = words_apart a b (decimal m ++ break_of a ∷ r) (decimal n ++ break_of b ∷ s)
    (sym (length_parts a m r) ∙ e ∙ length_parts b n s) in
    let rest : decimal m ++ break_of b ∷ r ≡ decimal n ++ break_of b ∷ s =
    ap (λ (x : Extent). decimal m ++ break_of x ∷ r) (sym words.value) ∙ words.rest in
    let digits = up_to (break_of b) (decimal m) (decimal n) r s
    (decimal_lacks (break_of b) m (breaks_small b) fa)
    (decimal_lacks (break_of b) n (breaks_small b) fb) rest in (
      words.value,
      record {
        value = decimal_injective m n (omega arith) (omega arith) digits.value;
        rest = digits.rest;
      },
    )

-- what stands behind the digits of a sum
abbrev pub behind : List ℕ → List ℕ → List ℕ
behind name r = 32 ∷ 32 ∷ (name ++ 10 ∷ r)

pub sum_parts : (sum name r : List ℕ) → sum_text sum name ++ r ≡ encode_lower sum ++ behind name r
sum_parts sum name r =
    append_assoc (encode_lower sum) (32 ∷ 32 ∷ (name ++ 10 ∷ [])) r
    ∙ ap (λ (x : List ℕ). encode_lower sum ++ 32 ∷ 32 ∷ x) (append_assoc name (10 ∷ []) r)

pub names_apart : (a b r s : List ℕ) → IsName a → IsName b → behind a r ≡ behind b s → Same a b r s
names_apart a b r s p q e =
    let rest : a ++ 10 ∷ r ≡ b ++ 10 ∷ s = cc in
    up_to 10 a b r s (name_lacks a p) (name_lacks b q) rest

pub sums_apart : (a b m n r s : List ℕ) → IsOctets 32 a → IsOctets 32 b → IsName m → IsName n
    → sum_text a m ++ r ≡ sum_text b n ++ s → (a ≡ b) × Same m n r s
sums_apart a b m n r s pa pb pm pn e =
    let sums = digits_apart 32 a b (behind m r) (behind n s) pa pb
    (sym (sum_parts a m r) ∙ e ∙ sum_parts b n s) in
    (sums.value, names_apart m n r s pm pn sums.rest)

-- entries of the same parts are one
joined : (a b : Noted) → a.name ≡ b.name → a.file.extent ≡ b.file.extent
    → a.file.bytes ≡ b.file.bytes → a.file.sum.0 ≡ b.file.sum.0 → a ≡ b
joined a b name extent bytes sum =
    ap (λ (x : List ℕ). record { name = x; file = a.file }) name
    ∙ ap (λ (x : Extent). record {
      name = b.name;
      file = record { extent = x; bytes = a.file.bytes; sum = a.file.sum };
    }) extent
    ∙ ap (λ (x : ℕ). record {
      name = b.name;
      file = record { extent = b.file.extent; bytes = x; sum = a.file.sum };
    }) bytes
    ∙ ap (λ (x : List ℕ). record {
      name = b.name;
      file = record { extent = b.file.extent; bytes = b.file.bytes; sum = record { 0 = x } };
    }) sum

pub entries_apart : (a b : Noted) (r s : List ℕ) → IsNoted a → IsNoted b
    → entry_text a ++ r ≡ entry_text b ++ s → Same a b r s
entries_apart a b r s p q e =
    let la = length_text a.file.extent a.file.bytes in
    let lb = length_text b.file.extent b.file.bytes in
    let sa = sum_text a.file.sum.0 a.name in
    let sb = sum_text b.file.sum.0 b.name in
    let lengths = lengths_apart a.file.extent b.file.extent a.file.bytes b.file.bytes (sa ++ r) (sb ++ s) p.bytes q.bytes
    (sym (append_assoc la sa r) ∙ e ∙ append_assoc lb sb s) in
    let sums = sums_apart a.file.sum.0 b.file.sum.0 a.name b.name r s p.sum q.sum p.name q.name lengths.1.rest in
    record {
      value = joined a b sums.1.value lengths.0 lengths.1.value sums.0;
      rest = sums.1.rest;
    }

word_length : (extent : Extent) → length (word_of extent) ≡ 8
word_length Whole = refl
word_length First = refl

-- an entry's text is not empty
entry_begins : (a : Noted) (r : List ℕ) → entry_text a ++ r ≢ []
entry_begins a r e =
    let l = ap length e in
    absurd (omega (arith, simp length-append at l, word_length a.file.extent))

-- the front of entries that are spelled is a front of them
pub record Continues (front all : List Noted) (rest : List ℕ) : Type 0 where
  pub more : List Noted
  pub entries : all ≡ front ++ more
  pub text : rest ≡ flat_map entry_text more

pub fronts : (es fs : List Noted) (r : List ℕ) → AllByRecursion IsNoted es → AllByRecursion IsNoted fs
    → flat_map entry_text es ++ r ≡ flat_map entry_text fs → Continues es fs r
fronts [] fs r p q e = record { more = fs; entries = refl; text = e }
fronts (x ∷ es) [] r p q e =
    absurd (entry_begins x (flat_map entry_text es ++ r) (sym (append_assoc (entry_text x) (flat_map entry_text es) r) ∙ e))
fronts (x ∷ es) (y ∷ fs) r p q e =
    let same = entries_apart x y (flat_map entry_text es ++ r) (flat_map entry_text fs) p.0 q.0
    (sym (append_assoc (entry_text x) (flat_map entry_text es) r) ∙ e) in
    let more = fronts es fs r p.1 q.1 same.rest in
    let head = same.value in
    let tail = more.entries in
    record { more = more.more; entries = cc; text = more.text }

pub head_parts : (a r : List ℕ)
    → head_text a ++ r ≡ codes "# imgcopy manifest 1 database " ++ (encode_lower a ++ 10 ∷ r)
head_parts a r =
    append_assoc (codes "# imgcopy manifest 1 database ") (encode_lower a ++ 10 ∷ []) r
    ∙ ap (λ (x : List ℕ). codes "# imgcopy manifest 1 database " ++ x) (append_assoc (encode_lower a) (10 ∷ []) r)

pub heads_apart : (a b r s : List ℕ) → IsOctets 16 a → IsOctets 16 b
    → head_text a ++ r ≡ head_text b ++ s → Same a b r s
heads_apart a b r s p q e =
    let word = codes "# imgcopy manifest 1 database " in
    let words = as_long word word (encode_lower a ++ 10 ∷ r) (encode_lower b ++ 10 ∷ s) refl
    (sym (head_parts a r) ∙ e ∙ head_parts b s) in
    let digits = digits_apart 16 a b (10 ∷ r) (10 ∷ s) p q words.rest in
    let rest = digits.rest in
    record { value = digits.value; rest = cc }

-- the front of a manifest that is spelled
pub on_front : (it all : Listed) (r : List ℕ) → IsManifest it → IsManifest all
    → manifest_text it ++ r ≡ manifest_text all → (it.database ≡ all.database) × Continues it.entries all.entries r
on_front it all r p q e =
    let heads = heads_apart it.database all.database (flat_map entry_text it.entries ++ r) (flat_map entry_text all.entries) p.database q.database
    (sym (append_assoc (head_text it.database) (flat_map entry_text it.entries) r) ∙ e) in
    (heads.value, fronts it.entries all.entries r p.each q.each heads.rest)

nothing_more : (more : List Noted) → [] ≡ flat_map entry_text more → more ≡ []
nothing_more [] e = refl
nothing_more (x ∷ more) e = absurd (entry_begins x (flat_map entry_text more) (sym e))

pub told_apart : (a b : Listed) → IsManifest a → IsManifest b → manifest_text a ≡ manifest_text b
    → a ≡ b
told_apart a b p q e =
    let whole = on_front a b [] p q (append-nil (manifest_text a) ∙ e) in
    let none = nothing_more whole.1.more whole.1.text in
    let database = whole.0 in
    let entries : b.entries ≡ a.entries =
    whole.1.entries ∙ ap (λ (x : List Noted). a.entries ++ x) none ∙ append-nil a.entries in
    ap (λ (x : List ℕ). record { database = x; entries = a.entries }) database
    ∙ ap (λ (x : List Noted). record { database = b.database; entries = x }) (sym entries)

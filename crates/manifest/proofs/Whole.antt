-- A manifest that is read entry by entry.
use Rattle.std.proofs.Common.{◌≡◌, ◌≢◌, ◌<◌, ◌^◌, ◌++◌, ℕ, List, [], ◌∷◌, length, is_some, true, false}
use Rattle.std.proofs.Common.{refl, sym, ◌∙◌, ap, subst, arith, append_assoc, length-append}
use Rattle.std.specs.List.{AllByRecursion, flat_map}
use Rattle.std.proofs.lemmas.List.{append-nil}
use Rattle.manifest.specs.declared.entry.Extent.{Extent}
use Rattle.manifest.specs.declared.sum.Sum.{Sum}
use Rattle.manifest.specs.Entries.{AreApart, file_of, IsManifest, IsName, IsNoted, IsOctets, Lacks, Listed, Noted}
use Rattle.manifest.specs.Reading.{Ends, MayFollow, TakesEntry, with_entry}
use Rattle.manifest.specs.Text.{entry_text, head_text, length_text, manifest_text, sum_text}
use Rattle.manifest.proofs.Apart.{lengths_apart, on_front, sums_apart, told_apart}
use Rattle.manifest.proofs.Names.{manifest_added, none_known}

pub not_nil : (xs : List ℕ) → 0 < length xs → xs ≢ []
not_nil [] some none = absurd (omega arith)
not_nil (x ∷ xs) some none = cc

pub is_nil : (xs : List ℕ) → length xs ≡ 0 → xs ≡ []
is_nil [] none = refl
is_nil (x ∷ xs) none = absurd (omega arith)

flat_push : (es : List Noted) (e : Noted) → flat_map entry_text (es ++ e ∷ []) ≡ flat_map entry_text es ++ entry_text e
flat_push [] e = append-nil (entry_text e)
flat_push (x ∷ es) e =
    ap (λ (t : List ℕ). entry_text x ++ t) (flat_push es e)
    ∙ sym (append_assoc (entry_text x) (flat_map entry_text es) (entry_text e))

-- an entry that is taken goes from the rest to the text
pub text_goes_on : (old new : Listed) (bytes rest more : List ℕ) → bytes ≡ manifest_text old ++ rest
    → TakesEntry old new rest more → bytes ≡ manifest_text new ++ more
text_goes_on old new bytes rest more before taken =
    let head = head_text old.database in
    let es = flat_map entry_text old.entries in
    let e = entry_text taken.entry in
    let joined : manifest_text new ≡ manifest_text old ++ e =
    ap manifest_text taken.added
    ∙ ap (λ (t : List ℕ). head ++ t) (flat_push old.entries taken.entry)
    ∙ sym (append_assoc head es e) in
    before ∙ ap (λ (t : List ℕ). manifest_text old ++ t) taken.text
    ∙ sym (append_assoc (manifest_text old) e more)
    ∙ ap (λ (t : List ℕ). t ++ more) (sym joined)

-- what holds of all elements holds of one in their midst
at_seam : (P : Noted → Type 0) (es more : List Noted) (e : Noted) → AllByRecursion P (es ++ e ∷ more) → P e
at_seam P [] more e h = h.0
at_seam P (x ∷ es) more e h = at_seam P es more e h.1

-- no entry before one has its name
lacks_in : (es more : List Noted) (e : Noted) → AreApart (es ++ e ∷ more) → Lacks e.name es
lacks_in [] more e h = tt
lacks_in (x ∷ es) more e h =
    let rest = lacks_in es more e h.1 in
    ((λ is. at_seam (λ entry. entry.name ≢ x.name) es more e h.0 (sym is)), rest)

by_more : (it wanted : Listed) (rest : List ℕ) → IsManifest wanted → (more : List Noted)
    → wanted.entries ≡ it.entries ++ more → rest ≡ flat_map entry_text more → rest ≢ [] → Ends it rest → ⊥
by_more it wanted rest q [] entries text some ends = some text
by_more it wanted rest q (e ∷ more) entries text some ends =
    let few = ap length entries ∙ length-append it.entries (e ∷ more) in
    let most = q.few in
    ends e (flat_map entry_text more)
    (record {
      noted = at_seam IsNoted it.entries more e (subst (AllByRecursion IsNoted) entries q.each);
      new = lacks_in it.entries more e (subst AreApart entries q.apart);
      few = omega (arith, few, most);
    }) text

-- the manifest that is wanted goes on with an entry that may follow
pub wanted_follows : (it wanted : Listed) (rest bytes : List ℕ) → IsManifest it → IsManifest wanted
    → bytes ≡ manifest_text it ++ rest → rest ≢ [] → bytes ≡ manifest_text wanted → Ends it rest → ⊥
wanted_follows it wanted rest bytes p q before some e ends =
    let front = (on_front it wanted rest p q (sym before ∙ e)).1 in
    by_more it wanted rest q front.more front.entries front.text some ends

-- all of the manifest that is wanted is read
pub wanted_is : (it wanted : Listed) (rest bytes : List ℕ) → IsManifest it → IsManifest wanted
    → bytes ≡ manifest_text it ++ rest → rest ≡ [] → bytes ≡ manifest_text wanted → it ≡ wanted
wanted_is it wanted rest bytes p q before none e =
    told_apart it wanted p q (sym (append-nil (manifest_text it)) ∙ ap (λ (t : List ℕ). manifest_text it ++ t) (sym none) ∙ sym before ∙ e)

-- a manifest to which an entry was added that may follow is one
pub followed : (old new : Listed) (bytes rest : List ℕ) → IsManifest old → TakesEntry old new bytes rest
    → IsManifest new
followed old new bytes rest is taken =
    let e = taken.entry in
    subst IsManifest (sym taken.added)
    (manifest_added old old e.name e.name e.file (old.entries ++ e ∷ []) refl is taken.follows.noted taken.follows.new taken.follows.few refl refl)

-- what is behind the length of an entry that stands there
sum_stands : (bytes behind : List ℕ) (extent : Extent) (count : ℕ) (e : Noted) (rest : List ℕ) → count < 2 ^ 63
    → bytes ≡ length_text extent count ++ behind → IsNoted e → bytes ≡ entry_text e ++ rest
    → behind ≡ sum_text e.file.sum.0 e.name ++ rest
sum_stands bytes behind extent count e rest fits front noted is =
    let length = length_text e.file.extent e.file.bytes in
    let text = sum_text e.file.sum.0 e.name in
    (lengths_apart extent e.file.extent count e.file.bytes behind (text ++ rest) fits noted.bytes
    (sym front ∙ is ∙ append_assoc length text rest)).1.rest

-- where the length stands, and behind it no sum
pub no_sum : (it : Listed) (bytes behind : List ℕ) (extent : Extent) (count : ℕ) → count < 2 ^ 63
    → bytes ≡ length_text extent count ++ behind
    → ((sum name rest : List ℕ) → IsOctets 32 sum → IsName name → behind ≢ sum_text sum name ++ rest)
    → Ends it bytes
no_sum it bytes behind extent count fits front none e rest may is =
    none e.file.sum.0 e.name rest may.noted.sum may.noted.name
    (sum_stands bytes behind extent count e rest fits front may.noted is)

pub name_again : (it : Listed) (bytes behind after : List ℕ) (extent : Extent) (count : ℕ) (sum name : List ℕ) → count < 2 ^ 63
    → bytes ≡ length_text extent count ++ behind → IsOctets 32 sum → IsName name
    → behind ≡ sum_text sum name ++ after → is_some (file_of name it.entries) ≡ true → Ends it bytes
name_again it bytes behind after extent count sum name fits front sums names back known e rest may is =
    let there = sum_stands bytes behind extent count e rest fits front may.noted is in
    let same = (sums_apart sum e.file.sum.0 name e.name after rest sums may.noted.sum names may.noted.name (sym back ∙ there)).1.value in
    let none = none_known name it.entries (subst (λ (n : List ℕ). Lacks n it.entries) (sym same) may.new) in
    let wrong : false ≡ true = sym (ap is_some none) ∙ known in cc

pub entry_stands : (old new : Listed) (bytes behind after : List ℕ) (extent : Extent) (count : ℕ) (sum : Sum) (name : List ℕ)
    → MayFollow old (record { name = name; file = record { extent = extent; bytes = count; sum = sum } })
    → bytes ≡ length_text extent count ++ behind → behind ≡ sum_text sum.0 name ++ after
    → new ≡ with_entry old (record { name = name; file = record { extent = extent; bytes = count; sum = sum } })
    → TakesEntry old new bytes after
entry_stands old new bytes behind after extent count sum name may front back added =
    record {
      entry = record { name = name; file = record { extent = extent; bytes = count; sum = sum } };
      follows = may;
      text = front ∙ ap (λ (t : List ℕ). length_text extent count ++ t) back
          ∙ sym (append_assoc (length_text extent count) (sum_text sum.0 name) after);
      added = added;
    }

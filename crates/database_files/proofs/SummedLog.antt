-- The sum of a log that grows, and the lines of a manifest.
use Rattle.std.proofs.Common.{◌≡◌, ◌<◌, ◌≤◌, ◌+◌, ◌-◌, ◌++◌, ◌∷◌, ◌∙◌, [], ℕ, List, ap, drop, get_or, length}
use Rattle.std.proofs.Common.{Bool, cond, false, not, refl, subst, sym, take, true}
use Rattle.std.specs.Prelude.{◌≢◌, None, Option, Some}
use Rattle.std.specs.List.{flat_map}
use Rattle.std.specs.Str.{bytes_eq}
use Rattle.std.proofs.lemmas.List.Concat.{flat_map-append}
use Rattle.std.proofs.lemmas.List.{append-nil, append_assoc, take_more}
use Rattle.std.proofs.lemmas.Slice.Eq.{bytes_eq-Decides}
use Rattle.log_records.specs.Log.{header_bytes}
use Rattle.log_records.specs.Record.{record_bytes}
use Rattle.log_records.specs.declared.record.Record.{Record}
use Rattle.manifest.specs.Entries.{Noted, file_of, without}
use Rattle.manifest.specs.Sums.{HasSummed}
use Rattle.manifest.specs.declared.entry.FileSum.{FileSum}
use Rattle.manifest.specs.declared.sums.Sums.{Sums}
use Rattle.page_core.proofs.Public.{grow}

test_differ : (a b : List ℕ) → a ≢ b → bytes_eq a b ≡ false
test_differ a b apart = go (bytes_eq a b) refl
  where
    go : (is : Bool) → bytes_eq a b ≡ is → is ≡ false
    go true same = absurd (apart ((bytes_eq-Decides a b).0 same))
    go false other = refl

-- a name that was removed is not known
pub removed_unknown : (name : List ℕ) (entries : List Noted) → file_of name (without name entries) ≡ None
removed_unknown name [] = refl
removed_unknown name (entry ∷ entries) = go (bytes_eq entry.name name) refl (removed_unknown name entries)
  where
    go : (is : Bool) → bytes_eq entry.name name ≡ is → file_of name (without name entries) ≡ None
        → file_of name (cond (not is) (entry ∷ without name entries) (without name entries)) ≡ None
    go true same rest = rest
    go false other rest =
        ap (λ (is : Bool). cond is (Some entry.file) (file_of name (without name entries))) other ∙ rest

-- what is known of the others is as before
pub others_left : (gone name : List ℕ) (entries : List Noted) → name ≢ gone
    → file_of name (without gone entries) ≡ file_of name entries
others_left gone name [] apart = refl
others_left gone name (entry ∷ entries) apart =
    go (bytes_eq entry.name gone) refl (others_left gone name entries apart)
  where
    go : (is : Bool) → bytes_eq entry.name gone ≡ is
        → file_of name (without gone entries) ≡ file_of name entries
        → file_of name (cond (not is) (entry ∷ without gone entries) (without gone entries))
        ≡ file_of name (entry ∷ entries)
    go true same rest =
        let other : bytes_eq entry.name name ≡ false =
        test_differ entry.name name (λ is. apart (sym is ∙ (bytes_eq-Decides entry.name gone).0 same)) in
        rest
        ∙ sym (ap (λ (is : Bool). cond is (Some entry.file) (file_of name entries)) other)
    go false other rest =
        ap (λ (known : Option FileSum). cond (bytes_eq entry.name name) (Some entry.file) known) rest

-- what is summed with the next records
pub summed_more : (sums : Sums) (pages first last : ℕ) (records : List Record) → first ≤ last
    → HasSummed sums ((header_bytes pages ++ flat_map record_bytes (take first records))
    ++ flat_map record_bytes (take (last - first) (drop first records)))
    → HasSummed sums (header_bytes pages ++ flat_map record_bytes (take last records))
summed_more sums pages first last records le summed =
    let next = take (last - first) (drop first records) in
    let one = flat_map record_bytes (take first records) in
    let two = flat_map record_bytes next in
    let both : one ++ two ≡ flat_map record_bytes (take last records) =
    sym (flat_map-append record_bytes (take first records) next)
    ∙ ap (flat_map record_bytes) (grow records (take first records) next first last le refl refl) in
    subst (HasSummed sums) (append_assoc (header_bytes pages) one two ∙ ap (λ bs. header_bytes pages ++ bs) both) summed

-- the bytes of one record more
pub record_more : (before : List ℕ) (records : List Record) (i : ℕ) (next : Record) (bytes : List ℕ)
    → i < length records → next ≡ get_or records i next → bytes ≡ record_bytes next
    → (before ++ flat_map record_bytes (take i records)) ++ bytes
    ≡ before ++ flat_map record_bytes (take (i + 1) records)
record_more before records i next bytes lt is spelled =
    let bytes_of = flat_map record_bytes in
    let more : bytes_of (take (i + 1) records) ≡ bytes_of (take i records) ++ record_bytes next =
    ap bytes_of (take_more records i next lt ∙ ap (λ (r : Record). take i records ++ r ∷ []) (sym is))
    ∙ flat_map-append record_bytes (take i records) (next ∷ [])
    ∙ ap (λ (bs : List ℕ). bytes_of (take i records) ++ bs) (append-nil (record_bytes next)) in
    append_assoc before (bytes_of (take i records)) bytes
    ∙ ap (λ (bs : List ℕ). before ++ (bytes_of (take i records) ++ bs)) spelled
    ∙ ap (λ (bs : List ℕ). before ++ bs) (sym more)

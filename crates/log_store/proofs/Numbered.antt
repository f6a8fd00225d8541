-- The redo of records by their numbers, one after another.
use Rattle.std.proofs.Common.{◌≡◌, ℕ, ◌+◌, ◌<◌, Bool, true, false, cond, List, [], ◌∷◌, ◌++◌, length, get_or, take}
use Rattle.std.proofs.Common.{refl, sym, ap, ◌∙◌, append-nil}
use Rattle.std.specs.Prelude.{Some, None, slice_get}
use Rattle.std.specs.List.{filter}
use Rattle.std.proofs.lemmas.List.{take_more}
use Rattle.std.proofs.lemmas.List.Elements.{filter-append, filter_map-append}
use Rattle.page_core.specs.declared.page.Page.{Page}
use Rattle.log_records.specs.declared.record.Record.{Record}
use Rattle.log_records.specs.Image.{image_from, with_record}
use Rattle.log_records.proofs.Public.{image_from-append}
use Rattle.log_store.specs.PageHistory.{is_above, records_at}

one_some : (rs : List Record) (n : ℕ) (r : Record) → slice_get rs n ≡ Some r → records_at rs (n ∷ []) ≡ r ∷ []
one_some rs n r at = rw at refl

one_none : (rs : List Record) (n : ℕ) → slice_get rs n ≡ None → records_at rs (n ∷ []) ≡ []
one_none rs n at = rw at refl

next_at : (rs : List Record) (numbers : List ℕ) (i n : ℕ) → i < length numbers → n ≡ get_or numbers i 0
    → records_at rs (take (i + 1) numbers) ≡ records_at rs (take i numbers) ++ records_at rs (n ∷ [])
next_at rs numbers i n lt is =
    ap (records_at rs) (take_more numbers i 0 lt)
    ∙ filter_map-append (slice_get rs) (take i numbers) (get_or numbers i 0 ∷ [])
    ∙ ap (λ (m : ℕ). records_at rs (take i numbers) ++ records_at rs (m ∷ [])) (sym is)

pub some_more : (rs : List Record) (numbers : List ℕ) (i n : ℕ) (r : Record) → i < length numbers
    → n ≡ get_or numbers i 0 → slice_get rs n ≡ Some r
    → records_at rs (take (i + 1) numbers) ≡ records_at rs (take i numbers) ++ r ∷ []
some_more rs numbers i n r lt is at =
    next_at rs numbers i n lt is ∙ ap (λ (xs : List Record). records_at rs (take i numbers) ++ xs) (one_some rs n r at)

pub none_more : (rs : List Record) (numbers : List ℕ) (i n : ℕ) → i < length numbers
    → n ≡ get_or numbers i 0 → slice_get rs n ≡ None
    → records_at rs (take (i + 1) numbers) ≡ records_at rs (take i numbers)
none_more rs numbers i n lt is at =
    next_at rs numbers i n lt is ∙ ap (λ (xs : List Record). records_at rs (take i numbers) ++ xs) (one_none rs n at)
    ∙ append-nil (records_at rs (take i numbers))

pub all_more : (page now next : Page) (xs ys : List Record) (r : Record) → ys ≡ xs ++ r ∷ []
    → now ≡ image_from page xs → next ≡ with_record now r → next ≡ image_from page ys
all_more page now next xs ys r more before step =
    step ∙ ap (λ (q : Page). with_record q r) before
    ∙ sym (ap (image_from page) more ∙ image_from-append page xs (r ∷ []))

taken : (page : Page) (r : Record) (b : Bool) → image_from page (cond b (r ∷ []) []) ≡ cond b (with_record page r) page
taken page r true = refl
taken page r false = refl

pub above_more : (page now next : Page) (lsn : ℕ) (xs ys : List Record) (r : Record) → ys ≡ xs ++ r ∷ []
    → now ≡ image_from page (filter (is_above lsn) xs) → next ≡ cond (is_above lsn r) (with_record now r) now
    → next ≡ image_from page (filter (is_above lsn) ys)
above_more page now next lsn xs ys r more before step =
    step
    ∙ sym (ap (λ (zs : List Record). image_from page (filter (is_above lsn) zs)) more
    ∙ ap (image_from page) (filter-append (is_above lsn) xs (r ∷ []))
    ∙ image_from-append page (filter (is_above lsn) xs) (filter (is_above lsn) (r ∷ []))
    ∙ ap (λ (q : Page). image_from q (filter (is_above lsn) (r ∷ []))) (sym before)
    ∙ taken now r (is_above lsn r))

-- The histories of pages, while the log goes on and while its records are looked at.
use Rattle.std.proofs.Common.{◌≡◌, ℕ, ◌+◌, ◌<◌, ◌≤◌, Bool, true, false, cond, List, [], ◌∷◌, ◌++◌, eqb}
use Rattle.std.proofs.Common.{length, get_or, set, take, refl, sym, ap, subst, ◌∙◌, arith, inl, inr, append-nil}
use Rattle.std.proofs.Common.{eq-eqb, ne_eqb}
use Rattle.std.specs.Prelude.{Option, Some, None, Result, Ok, Err, IfSome, OnOk, OnErr, ◌&&◌, nat_le}
use Rattle.std.specs.Prelude.{slice_get}
use Rattle.std.specs.List.{All, filter, filter_map}
use Rattle.std.specs.Option.{option_map, option_map_or}
use Rattle.std.proofs.lemmas.Bool.{cases_eq, cases_lt}
use Rattle.std.proofs.Math.Dec.{leb-zero}
use Rattle.std.proofs.lemmas.List.{get_or-set_other, get_or-set_same, get_or_append_left, length-append, length-set, set-get_or}
use Rattle.std.proofs.lemmas.List.{take-append-le, take_all, take_more}
use Rattle.std.proofs.lemmas.List.Elements.{All-append, All-cons, All-head, All-nil, All-tail, All-weaker}
use Rattle.std.proofs.lemmas.List.Elements.{filter-append, filter_map-append}
use Rattle.std.proofs.lemmas.Option.{get_or_from_slice_get, slice_get-get_or}
use Rattle.page_core.specs.declared.page.Page.{Page}
use Rattle.page_core.specs.Page.{formatted}
use Rattle.log_records.specs.declared.page_change.PageChange.{PageChange}
use Rattle.log_records.specs.declared.record.Record.{Record}
use Rattle.log_records.specs.declared.record.Record.TheVariants.{Begin}
use Rattle.log_records.specs.Coverage.{IsPast, changes, is_resumed}
use Rattle.log_records.specs.Image.{image, image_from, with_record}
use Rattle.log_records.specs.Log.{IsLog, Log}
use Rattle.log_records.specs.Record.{change_of, own_lsn}
use Rattle.log_records.proofs.Public.{image-same, of_each, resume_covering, same_redo}
use Rattle.log_records.proofs.Public.{image_from-append, image_from-more, number-image}
use Rattle.log_store.specs.PageHistory.{AreHistories, Histories, History, IsHistory, is_above, records_at, rolled}

-- ---- the log goes on

stays : (rs next : List Record) (n : ℕ) → n < length rs → slice_get (rs ++ next) n ≡ slice_get rs n
stays rs next n lt =
    slice_get-get_or (rs ++ next) n (Begin 0 0) (omega (arith, lt, length-append rs next))
    ∙ ap (λ (r : Record). Some r) (get_or_append_left rs next (Begin 0 0) n lt)
    ∙ sym (slice_get-get_or rs n (Begin 0 0) lt)

one_by : (f g : ℕ → Option Record) (n : ℕ) → f n ≡ g n → filter_map f (n ∷ []) ≡ filter_map g (n ∷ [])
one_by f g n e = rw e refl

at_later : (rs next : List Record) (numbers : List ℕ) → All (λ n. n < length rs) numbers
    → records_at (rs ++ next) numbers ≡ records_at rs numbers
at_later rs next [] all = refl
at_later rs next (n ∷ ns) all =
    let lt = All-head (λ n. n < length rs) n ns all in
    filter_map-append (slice_get (rs ++ next)) (n ∷ []) ns
    ∙ ap (λ (xs : List Record). xs ++ records_at (rs ++ next) ns)
    (one_by (slice_get (rs ++ next)) (slice_get rs) n (stays rs next n lt))
    ∙ ap (λ (xs : List Record). records_at rs (n ∷ []) ++ xs)
    (at_later rs next ns (All-tail (λ n. n < length rs) n ns all))
    ∙ sym (filter_map-append (slice_get rs) (n ∷ []) ns)

if_some : {X : Type 0} (o : Option X) (P Q : X → Type 0) → ((x : X) → P x → Q x) → IfSome o P → IfSome o Q
if_some None P Q f p = p
if_some (Some x) P Q f p = f x p

history_later : (rs next : List Record) (seen p : ℕ) (it : History) → seen ≤ length rs → IsHistory rs seen p it
    → IsHistory (rs ++ next) seen p it
history_later rs next seen p it within h =
    let same = at_later rs next it.later
    (All-weaker (λ n. n < seen) (λ n. n < length rs) (λ n lt. omega (arith, within, lt)) it.later h.within) in
    let first = take-append-le seen rs next within in
    record {
      within = h.within;
      all = λ none. same ∙ h.all none ∙ ap (filter (changes p)) (sym first);
      behind = if_some it.rebuilt (λ b. image_from b (records_at rs it.later) ≡ image (take seen rs) p)
          (λ b. image_from b (records_at (rs ++ next) it.later) ≡ image (take seen (rs ++ next)) p)
          (λ b is. ap (image_from b) same ∙ is ∙ ap (λ (xs : List Record). image xs p) (sym first)) h.behind;
    }

pub histories_later : (rs next : List Record) (it : Histories) → AreHistories rs it → AreHistories (rs ++ next) it
histories_later rs next it h = record {
  within = omega (arith, h.within, length-append rs next);
  each = λ p d lt. history_later rs next it.seen p (get_or it.pages p d) h.within (h.each p d lt);
  others = λ p past. ap (filter (changes p)) (take-append-le it.seen rs next h.within) ∙ h.others p past;
}

-- ---- pages come in without records

pub new_history : (rs : List Record) (seen p : ℕ) (it : History) → it.rebuilt ≡ None → it.later ≡ []
    → filter (changes p) (take seen rs) ≡ [] → IsHistory rs seen p it
new_history rs seen p it none empty nothing = record {
  within = subst (All (λ n. n < seen)) (sym empty) (All-nil (λ n. n < seen));
  all = λ e. ap (records_at rs) empty ∙ sym nothing;
  behind = subst (λ (o : Option Page). IfSome o (λ b. image_from b (records_at rs it.later) ≡ image (take seen rs) p))
      (sym none) tt;
}

get_last : (pages : List History) (new d : History) (p : ℕ) → p < length (pages ++ new ∷ []) → length pages ≤ p
    → get_or (pages ++ new ∷ []) p d ≡ new
get_last pages new d p lt past =
    let at : p ≡ length pages = omega (arith, lt, past, length-append pages (new ∷ [])) in
    ap (λ (k : ℕ). get_or (pages ++ new ∷ []) k d) at ∙ last pages new d
  where
    last : (pages : List History) (new d : History) → get_or (pages ++ new ∷ []) (length pages) d ≡ new
    last [] new d = refl
    last (h ∷ hs) new d = last hs new d

pub histories_more : (rs : List Record) (it : Histories) (new : History) → new.rebuilt ≡ None → new.later ≡ []
    → AreHistories rs it → AreHistories rs (record it { pages = it.pages ++ new ∷ [] })
histories_more rs it new none empty h = record {
  within = h.within;
  each = λ p d lt. elim (cases_lt p (length it.pages)) [
    | inl before ↦
        subst (IsHistory rs it.seen p) (sym (get_or_append_left it.pages (new ∷ []) d p before)) (h.each p d before)
    | inr past ↦
        subst (IsHistory rs it.seen p) (sym (get_last it.pages new d p lt past))
        (new_history rs it.seen p new none empty (h.others p past))
  ];
  others = λ p past. h.others p (omega (arith, past, length-append it.pages (new ∷ [])));
}

-- ---- one record more is looked at

changed_more : (rs : List Record) (seen p : ℕ) (r : Record) (b : Bool) → seen < length rs
    → get_or rs seen (Begin 0 0) ≡ r → changes p r ≡ b
    → filter (changes p) (take (seen + 1) rs) ≡ filter (changes p) (take seen rs) ++ cond b (r ∷ []) []
changed_more rs seen p r b lt at e =
    ap (filter (changes p)) (take_more rs seen (Begin 0 0) lt)
    ∙ filter-append (changes p) (take seen rs) (get_or rs seen (Begin 0 0) ∷ [])
    ∙ ap (λ (x : Record). filter (changes p) (take seen rs) ++ filter (changes p) (x ∷ [])) at
    ∙ ap (λ (t : Bool). filter (changes p) (take seen rs) ++ cond t (r ∷ []) []) e

image_more : (rs : List Record) (seen p : ℕ) (r : Record) → seen < length rs → get_or rs seen (Begin 0 0) ≡ r
    → image (take (seen + 1) rs) p ≡ with_record (image (take seen rs) p) r
image_more rs seen p r lt at =
    image_from-more (formatted p) rs seen (Begin 0 0) lt ∙ ap (with_record (image (take seen rs) p)) at

history_with : (rs : List Record) (seen p : ℕ) (r : Record) (old new : History) → seen < length rs
    → get_or rs seen (Begin 0 0) ≡ r → changes p r ≡ true → new.rebuilt ≡ old.rebuilt
    → new.later ≡ old.later ++ seen ∷ [] → IsHistory rs seen p old → IsHistory rs (seen + 1) p new
history_with rs seen p r old new lt at on same more h =
    let there : slice_get rs seen ≡ Some r =
    slice_get-get_or rs seen (Begin 0 0) lt ∙ ap (λ (x : Record). Some x) at in
    let longer : records_at rs new.later ≡ records_at rs old.later ++ r ∷ [] =
    ap (records_at rs) more ∙ filter_map-append (slice_get rs) old.later (seen ∷ [])
    ∙ ap (λ (xs : List Record). records_at rs old.later ++ xs) (one_at (slice_get rs) seen r there) in
    record {
      within = subst (All (λ n. n < seen + 1)) (sym more)
          (All-append (λ n. n < seen + 1) old.later (seen ∷ [])
          (All-weaker (λ n. n < seen) (λ n. n < seen + 1) (λ n lt. omega (arith, lt)) old.later h.within)
          (All-cons (λ n. n < seen + 1) seen [] (omega arith) (All-nil (λ n. n < seen + 1))));
      all = λ none. longer ∙ ap (λ (xs : List Record). xs ++ r ∷ []) (h.all (sym same ∙ none))
          ∙ sym (changed_more rs seen p r true lt at on);
      behind = subst (λ (o : Option Page). IfSome o (λ b. image_from b (records_at rs new.later)
          ≡ image (take (seen + 1) rs) p)) (sym same)
          (if_some old.rebuilt (λ b. image_from b (records_at rs old.later) ≡ image (take seen rs) p)
          (λ b. image_from b (records_at rs new.later) ≡ image (take (seen + 1) rs) p)
          (λ b is. ap (image_from b) longer ∙ image_from-append b (records_at rs old.later) (r ∷ [])
          ∙ ap (λ (q : Page). with_record q r) is ∙ sym (image_more rs seen p r lt at)) h.behind);
    }
  where
    one_at : (f : ℕ → Option Record) (n : ℕ) (r : Record) → f n ≡ Some r → filter_map f (n ∷ []) ≡ r ∷ []
    one_at f n r e = rw e refl

history_without : (rs : List Record) (seen p : ℕ) (r : Record) (it : History) → seen < length rs
    → get_or rs seen (Begin 0 0) ≡ r → changes p r ≡ false → IsHistory rs seen p it
    → IsHistory rs (seen + 1) p it
history_without rs seen p r it lt at off h = record {
  within = All-weaker (λ n. n < seen) (λ n. n < seen + 1) (λ n lt. omega (arith, lt)) it.later h.within;
  all = λ none. h.all none ∙ sym (changed_more rs seen p r false lt at off ∙ append-nil (filter (changes p) (take seen rs)));
  behind = if_some it.rebuilt (λ b. image_from b (records_at rs it.later) ≡ image (take seen rs) p)
      (λ b. image_from b (records_at rs it.later) ≡ image (take (seen + 1) rs) p)
      (λ b is. is ∙ sym (image-same rs p seen (Begin 0 0) lt (ap (changes p) at ∙ off))) h.behind;
}

any_default : (rs : List Record) (n : ℕ) (a b : Record) → n < length rs → get_or rs n a ≡ get_or rs n b
any_default rs n a b lt = get_or_from_slice_get rs n (get_or rs n b) a (slice_get-get_or rs n b lt)

-- the place of the page that a record changes
known_place : (p : ℕ) (o : Option PageChange) (place : Option ℕ) → place ≡ option_map (λ c. c.page) o
    → option_map_or (λ c. eqb c.page p) o false ≡ option_map_or (λ n. eqb n p) place false
known_place p None place e = ap (λ (o : Option ℕ). option_map_or (λ n. eqb n p) o false) (sym e)
known_place p (Some c) place e = ap (λ (o : Option ℕ). option_map_or (λ n. eqb n p) o false) (sym e)

pub histories_without : (rs : List Record) (it : Histories) (r : Record) → it.seen < length rs
    → r ≡ get_or rs it.seen r → None ≡ option_map (λ (c : PageChange). c.page) (change_of r) → AreHistories rs it
    → AreHistories rs (record it { seen = it.seen + 1 })
histories_without rs it r lt read none h =
    let at = any_default rs it.seen (Begin 0 0) r lt ∙ sym read in
    let off : (p : ℕ) → changes p r ≡ false = λ p. known_place p (change_of r) None none in
    record {
      within = omega (arith, lt);
      each = λ p d below. history_without rs it.seen p r (get_or it.pages p d) lt at (off p) (h.each p d below);
      others = λ p past. changed_more rs it.seen p r false lt at (off p) ∙ append-nil (filter (changes p) (take it.seen rs))
          ∙ h.others p past;
    }

pub histories_with : (rs : List Record) (it : Histories) (r : Record) (place : ℕ) (old new : History)
    → it.seen < length rs → r ≡ get_or rs it.seen r → Some place ≡ option_map (λ (c : PageChange). c.page) (change_of r)
    → place < length it.pages → old ≡ get_or it.pages place old → new.rebuilt ≡ old.rebuilt
    → new.later ≡ old.later ++ it.seen ∷ [] → AreHistories rs it
    → AreHistories rs (record it { seen = it.seen + 1; pages = set it.pages place new })
histories_with rs it r place old new lt read is within there same more h =
    let at = any_default rs it.seen (Begin 0 0) r lt ∙ sym read in
    let known : (p : ℕ) → changes p r ≡ eqb place p =
    λ p. known_place p (change_of r) (Some place) is in
    record {
      within = omega (arith, lt);
      each = λ p d below. elim (cases_eq p place) [
        | inl e ↦
            subst (IsHistory rs (it.seen + 1) p)
            (sym (ap (λ (k : ℕ). get_or (set it.pages place new) k d) e ∙ get_or-set_same it.pages place new d within))
            (subst (λ (k : ℕ). IsHistory rs (it.seen + 1) k new) (sym e)
            (history_with rs it.seen place r old new lt at
            (known place ∙ eq-eqb place place refl) same more
            (subst (IsHistory rs it.seen place) (sym there) (h.each place old within))))
        | inr other ↦
            subst (IsHistory rs (it.seen + 1) p) (sym (get_or-set_other it.pages place p new d other))
            (history_without rs it.seen p r (get_or it.pages p d) lt at
            (known p ∙ ne_eqb place p (λ e. other (sym e)))
            (h.each p d (omega (arith, below, length-set it.pages place new))))
      ];
      others = λ p past.
          let beyond : length it.pages ≤ p = omega (arith, past, length-set it.pages place new) in
          changed_more rs it.seen p r false lt at
          (known p ∙ ne_eqb place p (λ e. omega (arith, e, within, beyond)))
          ∙ append-nil (filter (changes p) (take it.seen rs)) ∙ h.others p beyond;
    }

-- ---- a page is rebuilt

two_tests : (f g : Record → Bool) (rs : List Record) → filter g (filter f rs) ≡ filter (λ r. f r && g r) rs
two_tests f g [] = refl
two_tests f g (r ∷ rs) = by_first (f r) (two_tests f g rs)
  where
    by_first : (b : Bool) → filter g (filter f rs) ≡ filter (λ r. f r && g r) rs
        → filter g (cond b (r ∷ filter f rs) (filter f rs))
        ≡ cond (b && g r) (r ∷ filter (λ r. f r && g r) rs) (filter (λ r. f r && g r) rs)
    by_first true e = ap (λ (xs : List Record). cond (g r) (r ∷ xs) xs) e
    by_first false e = e

everywhere : (P : Record → Type 0) → ((r : Record) → P r) → (rs : List Record) → All P rs
everywhere P f [] = All-nil P
everywhere P f (r ∷ rs) = All-cons P r rs (f r) (everywhere P f rs)

low : (n : ℕ) → nat_le 0 n ≡ true
low n = leb-zero n

pub rolled_from : (log : Log) (p : ℕ) (page : Page) → IsLog log → IsPast log.records p page
    → image_from page (filter (is_above page.lsn) (filter (changes p) log.records)) ≡ image log.records p
rolled_from log p page valid past =
    let rs = log.records in
    let number : page.number ≡ p = ap (λ (q : Page). q.number) past.made ∙ number-image (take past.count rs) p in
    let f = λ (r : Record). changes p r && is_above page.lsn r in
    let g = is_resumed 0 page.lsn in
    ap (image_from page) (two_tests (changes p) (is_above page.lsn) rs)
    ∙ same_redo f g p rs page number
    (everywhere (λ r. changes p r ≡ true → f r ≡ g r)
    (λ r on. ap (λ (b : Bool). b && is_above page.lsn r) (on ∙ sym (low (own_lsn r)))) rs)
    ∙ resume_covering log p page 0 valid (record {
      past = past;
      reached = of_each (λ lsn. lsn < 0 → lsn ≤ page.lsn) p rs
          (everywhere (λ r. changes p r ≡ true → own_lsn r < 0 → own_lsn r ≤ page.lsn) (λ r on lt. omega (arith, lt)) rs);
    })

pub rolled_is : (log : Log) (p : ℕ) (it : History) (page : Page) → IsLog log
    → IsHistory log.records (length log.records) p it → IsPast log.records p page
    → rolled it log.records page ≡ image log.records p
rolled_is log p it page valid h past = by_case it.rebuilt refl h.behind
  where
    all : take (length log.records) log.records ≡ log.records
    all = take_all (length log.records) log.records (omega arith)

    by_case : (o : Option Page) → it.rebuilt ≡ o
        → IfSome o (λ b. image_from b (records_at log.records it.later) ≡ image (take (length log.records) log.records) p)
        → option_map_or (λ b. image_from b (records_at log.records it.later)) o
        (image_from page (filter (is_above page.lsn) (records_at log.records it.later))) ≡ image log.records p
    by_case None e behind =
        ap (λ (xs : List Record). image_from page (filter (is_above page.lsn) xs))
        (h.all e ∙ ap (filter (changes p)) all) ∙ rolled_from log p page valid past
    by_case (Some b) e behind = behind ∙ ap (λ (xs : List Record). image xs p) all

rebuilt_history : (log : Log) (p : ℕ) (page : Page) (it : History) → page ≡ image log.records p
    → it.rebuilt ≡ Some page → it.later ≡ [] → IsHistory log.records (length log.records) p it
rebuilt_history log p page it is there empty =
    let rs = log.records in
    record {
      within = subst (All (λ n. n < length rs)) (sym empty) (All-nil (λ n. n < length rs));
      all = λ none. none_there (sym there ∙ none);
      behind = subst (λ (o : Option Page). IfSome o (λ b. image_from b (records_at rs it.later) ≡ image (take (length rs) rs) p))
          (sym there)
          (ap (λ (ns : List ℕ). image_from page (records_at rs ns)) empty ∙ is
          ∙ ap (λ (xs : List Record). image xs p) (sym (take_all (length rs) rs (omega arith))));
    }
  where
    some_none : ¬ (Some page ≡ None)
    some_none e = cc

    none_there : Some page ≡ None
        → records_at log.records it.later ≡ filter (changes p) (take (length log.records) log.records)
    none_there e = absurd (some_none e)

pub histories_rebuilt : (log : Log) (it : Histories) (p : ℕ) (page : Page) (new : History) → it.seen ≡ length log.records
    → p < length it.pages → page ≡ image log.records p → new.rebuilt ≡ Some page → new.later ≡ []
    → AreHistories log.records it → AreHistories log.records (record it { pages = set it.pages p new })
histories_rebuilt log it p page new seen within is there empty h =
    let rs = log.records in
    record {
      within = h.within;
      each = λ q d below. elim (cases_eq q p) [
        | inl e ↦
            subst (IsHistory rs it.seen q)
            (sym (ap (λ (k : ℕ). get_or (set it.pages p new) k d) e ∙ get_or-set_same it.pages p new d within))
            (subst (λ (k : ℕ). IsHistory rs it.seen k new) (sym e)
            (subst (λ (n : ℕ). IsHistory rs n p new) (sym seen) (rebuilt_history log p page new is there empty)))
        | inr other ↦
            subst (IsHistory rs it.seen q) (sym (get_or-set_other it.pages p q new d other))
            (h.each q d (omega (arith, below, length-set it.pages p new)))
      ];
      others = λ q past. h.others q (omega (arith, past, length-set it.pages p new));
    }

pub on_ok : {T E : Type 0} (o : Result T E) (P : Type 0) → P → OnOk o P
on_ok (Ok x) P p = p
on_ok (Err e) P p = tt

pub rolls : (log : Log) (it : Histories) (place : ℕ) (old : History) (page next : Page) → IsLog log
    → it.seen ≡ length log.records → place < length it.pages → old ≡ get_or it.pages place old → place ≡ page.number
    → IsPast log.records page.number page → next ≡ rolled old log.records page → AreHistories log.records it
    → next ≡ image log.records page.number
rolls log it place old page next valid seen within there number past is h =
    is ∙ rolled_is log page.number old page valid
    (subst (λ n. IsHistory log.records n page.number old) seen
    (subst (λ n. IsHistory log.records it.seen n old) number
    (subst (IsHistory log.records it.seen place) (sym there) (h.each place old within)))) past

pub after_rolling : {E : Type 0} (log : Log) (it : Histories) (place : ℕ) (old new : History) (page next : Page)
    (o : Result (Unit {0}) E) → IsLog log
    → it.seen ≡ length log.records → place < length it.pages → old ≡ get_or it.pages place old → place ≡ page.number
    → IsPast log.records page.number page → next ≡ rolled old log.records page
    → OnOk o (new.rebuilt ≡ Some next) → OnOk o (new.later ≡ []) → OnErr o (new ≡ old)
    → AreHistories log.records it → AreHistories log.records (record it { pages = set it.pages place new })
after_rolling log it place old new page next (Ok x) valid seen within there number past is rebuilt later err h =
    histories_rebuilt log it place next new seen within
    (rolls log it place old page next valid seen within there number past is h ∙ ap (image log.records) (sym number))
    rebuilt later h
after_rolling log it place old new page next (Err e) valid seen within there number past is rebuilt later err h =
    subst (λ (xs : List History). AreHistories log.records (record it { pages = xs }))
    (sym (ap (set it.pages place) (err ∙ there) ∙ set-get_or it.pages place old)) h

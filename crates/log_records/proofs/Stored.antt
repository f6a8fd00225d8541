-- Stored pages and images that are being written, while the log and the writes go on.
use Rattle.std.proofs.Common.{◌≡◌, ℕ, zero, suc, ◌+◌, ◌-◌, ◌<◌, ◌≤◌, List, ◌++◌, length, get_or, set, take}
use Rattle.std.proofs.Common.{sym, ap, subst, ◌∙◌, arith, inl, inr}
use Rattle.std.specs.Prelude.{Option, Some, None, IfSome}
use Rattle.std.proofs.lemmas.Bool.{cases_eq}
use Rattle.std.proofs.lemmas.List.{get_or-set_other, get_or-set_same, length-set, take_all}
use Rattle.page_core.specs.declared.page.Page.{Page}
use Rattle.log_records.specs.declared.record.Record.{Record}
use Rattle.log_records.specs.Image.{image}
use Rattle.log_records.specs.Log.{IsLog, Log}
use Rattle.log_records.specs.Coverage.{AreStored, IsPast, IsStored, IsWriting}
use Rattle.log_records.proofs.Coverage.{lsn_rises, past_later}

-- ---- the page as it is now

pub past_now : (rs : List Record) (p : ℕ) → IsPast rs p (image rs p)
past_now rs p = record {
  count = length rs;
  within = omega arith;
  made = ap (λ (xs : List Record). image xs p) (sym (take_all (length rs) rs (omega arith)));
}

-- the LSN of a page rises with the log
lsn_rises_by : (log : Log) → IsLog log → (p k n : ℕ) → k + n ≤ length log.records
    → (image (take k log.records) p).lsn ≤ (image (take (k + n) log.records) p).lsn
lsn_rises_by log valid p k zero le =
    let same : k ≡ k + 0 = omega arith in
    subst (λ (m : ℕ). (image (take k log.records) p).lsn ≤ (image (take m log.records) p).lsn) same (omega arith)
lsn_rises_by log valid p k (suc n) le =
    let sum : k + n + 1 ≡ k + suc n = omega arith in
    let first = lsn_rises_by log valid p k n (omega arith) in
    let next = lsn_rises log valid p (k + n) (omega arith) in
    subst (λ (m : ℕ). (image (take k log.records) p).lsn ≤ (image (take m log.records) p).lsn) sum (omega arith)

-- a page of the log's past is not newer than the page as it is now
pub past_is_older : (log : Log) (p : ℕ) (page : Page) → IsLog log → IsPast log.records p page
    → page.lsn ≤ (image log.records p).lsn
past_is_older log p page valid past =
    let rs = log.records in
    let k = past.count in
    let within = past.within in
    let sum : k + (length rs - k) ≡ length rs = omega arith in
    let rises = lsn_rises_by log valid p k (length rs - k) (omega arith) in
    let now : image (take (k + (length rs - k)) rs) p ≡ image rs p =
    ap (λ (n : ℕ). image (take n rs) p) sum
    ∙ ap (λ (xs : List Record). image xs p) (take_all (length rs) rs (omega arith)) in
    subst (λ (q : Page). page.lsn ≤ q.lsn) now
    (subst (λ (q : Page). q.lsn ≤ (image (take (k + (length rs - k)) rs) p).lsn) (sym past.made) rises)

-- ---- a record more

pub stored_later : (rs next : List Record) (stored : List Page) (written : List ℕ) (writing : List (Option Page))
    → AreStored rs stored written writing → AreStored (rs ++ next) stored written writing
stored_later rs next stored written writing are = record {
  pages = λ p d lt.
      let is = are.pages p d lt in
      record { past = past_later rs next p (get_or stored p d) is.past; reached = is.reached };
  images = λ p d lt. image_later p d (get_or writing p None) (are.images p d lt);
}
  where
    image_later : (p : ℕ) (d : Page) (o : Option Page) → IfSome o (IsWriting rs p (get_or stored p d))
        → IfSome o (IsWriting (rs ++ next) p (get_or stored p d))
    image_later p d None is = tt
    image_later p d (Some q) is = record { past = past_later rs next p q is.past; newer = is.newer }

-- ---- a write begins

pub stored_begun : (rs : List Record) (stored : List Page) (written : List ℕ) (writing : List (Option Page)) (n : ℕ)
    (image : Page) → AreStored rs stored written writing → n < length writing
    → ((d : Page) → IsWriting rs n (get_or stored n d) image)
    → AreStored rs stored written (set writing n (Some image))
stored_begun rs stored written writing n image are there begins = record {
  pages = are.pages;
  images = λ p d lt. elim (cases_eq p n) [
    | inl same ↦
        let here : get_or (set writing n (Some image)) p None ≡ Some image =
        ap (λ (k : ℕ). get_or (set writing n (Some image)) k None) same
        ∙ get_or-set_same writing n (Some image) None there in
        rw here (subst (λ (k : ℕ). IsWriting rs k (get_or stored k d) image) (sym same) (begins d))
    | inr other ↦
        rw (get_or-set_other writing n p (Some image) None other) (are.images p d lt)
  ];
}

-- ---- an image is stored

-- a stored page is replaced by a newer one
record IsReplaced (rs : List Record) (n : ℕ) (image : Page) (lsn : ℕ) : Type 0 where
  past : IsPast rs n image
  reached : lsn ≤ image.lsn

replaced : (rs : List Record) (stored : List Page) (written : List ℕ) (n : ℕ) (image : Page) (p : ℕ) (d : Page)
    → ((p : ℕ) (d : Page) → p < length stored → IsStored rs p (get_or stored p d) (get_or written p 0))
    → p < length stored → n < length stored → IsPast rs n image → get_or written n 0 ≤ image.lsn
    → IsStored rs p (get_or (set stored n image) p d) (get_or written p 0)
replaced rs stored written n image p d pages lt there past reached = elim (cases_eq p n) [
  | inl same ↦
      let here : get_or (set stored n image) p d ≡ image =
      ap (λ (k : ℕ). get_or (set stored n image) k d) same ∙ get_or-set_same stored n image d there in
      rw here (subst (λ (k : ℕ). IsStored rs k image (get_or written k 0)) (sym same)
      (record { past = past; reached = reached }))
  | inr other ↦ rw (get_or-set_other stored n p image d other) (pages p d lt)
]

-- an image is that of a write in progress
of_image : (rs : List Record) (n : ℕ) (stored image : Page) (o : Option Page) → o ≡ Some image
    → IfSome o (IsWriting rs n stored) → IsWriting rs n stored image
of_image rs n stored image o is writing = subst (λ (o : Option Page). IfSome o (IsWriting rs n stored)) is writing

-- a write that failed may have stored its image; the write stays in progress
pub stored_failed : (rs : List Record) (stored : List Page) (written : List ℕ) (writing : List (Option Page)) (n : ℕ)
    (image : Page) → AreStored rs stored written writing → n < length stored → get_or writing n None ≡ Some image
    → AreStored rs (set stored n image) written writing
stored_failed rs stored written writing n image are there is = record {
  pages = λ p d lt.
      let below : p < length stored = omega (arith, length-set stored n image) in
      let begun = of_image rs n (get_or stored n d) image (get_or writing n None) is (are.images n d there) in
      let reached = (are.pages n d there).reached in
      let newer = begun.newer in
      replaced rs stored written n image p d are.pages below there begun.past (omega arith);
  images = λ p d lt.
      let below : p < length stored = omega (arith, length-set stored n image) in
      let begun = of_image rs n (get_or stored n d) image (get_or writing n None) is (are.images n d there) in
      elim (cases_eq p n) [
        | inl same ↦
            let here : get_or (set stored n image) p d ≡ image =
            ap (λ (k : ℕ). get_or (set stored n image) k d) same ∙ get_or-set_same stored n image d there in
            let now : get_or writing p None ≡ Some image = ap (λ (k : ℕ). get_or writing k None) same ∙ is in
            rw (now, here) (record {
              past = subst (λ (k : ℕ). IsPast rs k image) (sym same) begun.past;
              newer = omega arith;
            })
        | inr other ↦ rw (get_or-set_other stored n p image d other) (are.images p d below)
      ];
}

-- a write that ended has stored its image
pub stored_ended : (rs : List Record) (stored : List Page) (written : List ℕ) (writing : List (Option Page)) (n : ℕ)
    (image : Page) → AreStored rs stored written writing → n < length stored → n < length written
    → n < length writing → get_or writing n None ≡ Some image
    → AreStored rs (set stored n image) (set written n image.lsn) (set writing n None)
stored_ended rs stored written writing n image are there known here is = record {
  pages = λ p d lt.
      let below : p < length stored = omega (arith, length-set stored n image) in
      let begun = of_image rs n (get_or stored n d) image (get_or writing n None) is (are.images n d there) in
      elim (cases_eq p n) [
        | inl same ↦
            let page : get_or (set stored n image) p d ≡ image =
            ap (λ (k : ℕ). get_or (set stored n image) k d) same ∙ get_or-set_same stored n image d there in
            let lsn : get_or (set written n image.lsn) p 0 ≡ image.lsn =
            ap (λ (k : ℕ). get_or (set written n image.lsn) k 0) same
            ∙ get_or-set_same written n image.lsn 0 known in
            rw (page, lsn) (record {
              past = subst (λ (k : ℕ). IsPast rs k image) (sym same) begun.past;
              reached = omega arith;
            })
        | inr other ↦
            rw (get_or-set_other stored n p image d other, get_or-set_other written n p image.lsn 0 other)
            (are.pages p d below)
      ];
  images = λ p d lt.
      let below : p < length stored = omega (arith, length-set stored n image) in
      elim (cases_eq p n) [
        | inl same ↦
            let none : get_or (set writing n None) p None ≡ None =
            ap (λ (k : ℕ). get_or (set writing n None) k None) same ∙ get_or-set_same writing n None None here in
            rw none tt
        | inr other ↦
            rw (get_or-set_other stored n p image d other, get_or-set_other writing n p None None other)
            (are.images p d below)
      ];
}

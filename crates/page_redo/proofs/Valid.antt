-- The pages that a log makes are pages that a volume may have.
use Rattle.std.proofs.Common.{ℕ, zero, suc, ◌+◌, ◌<◌, ◌≤◌, ◌^◌, List, [], ◌∷◌, length, get_or, set, replicate, map, take}
use Rattle.std.proofs.Common.{refl, subst, ◌∙◌, arith}
use Rattle.std.specs.Prelude.{Option, IfSome}
use Rattle.std.specs.List.{range_with_len, AllByRecursion}
use Rattle.std.proofs.lemmas.List.{get_or-take, length-set, length-take}
use Rattle.page_core.specs.declared.change.Change.{Change}
use Rattle.page_core.specs.declared.page.Page.{Page}
use Rattle.page_core.specs.Page.{formatted, put, IsPage}
use Rattle.log_records.specs.declared.page_change.PageChange.{PageChange}
use Rattle.log_records.specs.declared.record.Record.{Record}
use Rattle.log_records.specs.Record.{IsChange, IsLsn, IsPageChange, IsRecord, own_lsn}
use Rattle.log_records.specs.Log.{Log, IsLog, page_count}
use Rattle.log_records.specs.Image.{with_record, image_from, image, redo_all}
use Rattle.log_records.proofs.Public.{changed_fits, valid_change}
use Rattle.log_records.proofs.Public.{with_record-has}
use Rattle.log_records.proofs.Public.{page_count-is_count}

all_replicate : {X : Type 0} (P : X → Type 0) (n : ℕ) (x : X) → P x → AllByRecursion P (replicate n x)
all_replicate P zero x here = tt
all_replicate P (suc n) x here = (here, all_replicate P n x here)

all_set : {X : Type 0} (P : X → Type 0) (xs : List X) (i : ℕ) (x : X) → AllByRecursion P xs → P x
    → AllByRecursion P (set xs i x)
all_set P [] i x all new = all
all_set P (y ∷ ys) zero x all new = (new, all.1)
all_set P (y ∷ ys) (suc i) x all new = (all.0, all_set P ys i x all.1 new)

valid_formatted : (p : ℕ) → p < 65536 → IsPage (formatted p)
unfolding formatted
valid_formatted p small = record {
  number = small;
  lsn = omega arith;
  at_record = omega arith;
  count = refl;
  slots = all_replicate (λ n. n < 2 ^ 64) 62 0 (omega arith);
}

valid_put : (page : Page) (lsn slot : ℕ) (change : Change) → IsPage page → IsLsn lsn → IsChange change
    → IsPage (put page lsn slot change)
valid_put page lsn slot change page_valid lsn_valid change_valid = record {
  number = page_valid.number;
  lsn = lsn_valid.fits;
  at_record = lsn_valid.aligned;
  count = length-set page.slots slot _ ∙ page_valid.count;
  slots = all_set (λ n. n < 2 ^ 64) page.slots slot _ page_valid.slots (changed_fits change _ change_valid);
}

valid-with_record : (page : Page) (r : Record) → IsPage page → IsRecord r → IsPage (with_record page r)
valid-with_record page r page_valid valid = with_record-has IsPage page r page_valid (λ c e.
    let parts = valid_change r valid in
    let fits : IsPageChange c = subst (λ (o : Option PageChange). IfSome o IsPageChange) e parts.1 in
    valid_put page (own_lsn r) c.slot c.change page_valid parts.0 fits.change)

valid-image_from : (page : Page) (rs : List Record) → IsPage page
    → ((i : ℕ) (d : Record) → i < length rs → IsRecord (get_or rs i d)) → IsPage (image_from page rs)
valid-image_from page [] page_valid each = page_valid
valid-image_from page (r ∷ rs) page_valid each =
    valid-image_from (with_record page r) rs (valid-with_record page r page_valid (each 0 r (omega arith)))
    (λ i d lt. each (suc i) d (omega arith))

-- a page of the volume, as a part of the log makes it, also a part where the volume lacks the page yet
pub valid-past : (log : Log) (p count : ℕ) → IsLog log → p < page_count log
    → IsPage (image (take count log.records) p)
valid-past log p count valid lt =
    let long = length-take count log.records in
    valid-image_from (formatted p) (take count log.records)
    (valid_formatted p (let few = (page_count-is_count log valid).most in omega arith))
    (λ i d at.
    let below : i < count = omega (arith, long, at) in
    let there : i < length log.records = omega (arith, long, at) in
    rw (get_or-take count log.records i d below) (valid.records i d there).valid)

pub valid-redo_all : (log : Log) → IsLog log → AllByRecursion IsPage (redo_all log.records (page_count log))
valid-redo_all log valid = over 0 (page_count log) (let few = (page_count-is_count log valid).most in omega arith)
  where
    over : (first n : ℕ) → first + n ≤ 65536 → AllByRecursion IsPage (map (image log.records) (range_with_len first n))
    over first zero few = tt
    over first (suc n) few = (
      valid-image_from (formatted first) log.records (valid_formatted first (omega arith))
          (λ i d lt. (valid.records i d lt).valid),
      over (first + 1) n (omega arith),
    )

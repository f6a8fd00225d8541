-- The archives of a chain are not refused.
use Rattle.std.proofs.Common.{◌≡◌, ℕ, ◌<◌, List, [], ◌∷◌, ◌++◌, length, get_or}
use Rattle.std.proofs.Common.{refl, sym, ap, ◌∙◌, subst, arith, suc, zero, inl, inr}
use Rattle.std.specs.Prelude.{Option, Some, None, IfSome}
use Rattle.std.specs.List.{AllByRecursion}
use Rattle.std.proofs.lemmas.List.{append_assoc, append-nil, get_or-map, length-append, length-map}
use Rattle.page_core.specs.declared.page.Page.{Page}
use Rattle.page_core.specs.Page.{IsPage, page_bytes, volume_bytes}
use Rattle.page_core.specs.PageCounts.{PageCounts}
use Rattle.page_core.proofs.Public.{length-page_bytes}
use Rattle.copy_vault.specs.declared.archive_cursor.ArchiveCursor.{ArchiveCursor}
use Rattle.copy_vault.specs.declared.archive_fault.ArchiveFault.TheVariants as archive
use Rattle.copy_vault.specs.declared.chain_read_fault.ChainReadFault.{ChainReadFault}
use Rattle.copy_vault.specs.declared.chain_read_fault.ChainReadFault.TheVariants.{BadArchive, OutOfMemory}
use Rattle.copy_vault.specs.declared.chain_read_fault.ChainReadFault.TheVariants.{ChainBroken, CountDiffers}
use Rattle.copy_vault.specs.declared.chain_read_fault.ChainReadFault.TheVariants.{PageBeyondLog, ReadFault}
use Rattle.copy_vault.specs.declared.chain_read_fault.ChainReadFault.TheVariants.{RedoBeyondLog}
use Rattle.copy_vault.specs.declared.copy_id.CopyKind.{CopyKind}
use Rattle.copy_vault.specs.declared.copy_id.CopyKind.TheVariants.{Full, Inc}
use Rattle.copy_vault.specs.declared.header.ArchiveHeader.{ArchiveHeader}
use Rattle.copy_vault.specs.Archive.{IsArchived, archive_bytes, front_bytes, header_bytes, header_of}
use Rattle.copy_vault.specs.ArchiveFault.{Begins}
use Rattle.copy_vault.specs.Chain.{FitFrom}
use Rattle.copy_vault.specs.ChainRead.{AreBelow, IsFirstMet, IsHeadFit, IsMet, IsWrongBehind, kind_behind}
use Rattle.copy_vault.specs.ChainReading.{IsFirstHeadRefused, IsFromOutside, IsHeadOf, IsHeadRefused}
use Rattle.copy_vault.specs.ChainReading.{IsNotMade, IsPastLog, IsRightChain}
use Rattle.copy_vault.specs.ChainReading.{IsStopped, archives_of}
use Rattle.page_decisions.specs.Decisions.{taken_pages}
use Rattle.copy_vault.specs.Copy.{CopyView}
use Rattle.page_core.specs.declared.format.Format.TheVariants.{Second}
use Rattle.copy_vault.proofs.ArchiveReads.{front_of, no_fault}
use Rattle.copy_vault.proofs.ChainSteps.{no_copy}
use Rattle.copy_vault.proofs.Fronts.{Agree, agree, all_last, all_left, next_of, pages_before, volume_push}
use Rattle.copy_vault.proofs.Headers.{same_front}

all_at : {X : Type 0} (P : X → Type 0) (xs : List X) (k : ℕ) (d : X) → AllByRecursion P xs → k < length xs
    → P (get_or xs k d)
all_at P [] k d all lt = absurd (omega arith)
all_at P (x ∷ xs) zero d all lt = all.0
all_at P (x ∷ xs) (suc k) d all lt = all_at P xs k d all.1 (omega arith)

-- ---- the pages

-- what begins the archive of a copy is its header and some of its pages
begins_copy : (copy : CopyView) → IsArchived copy → (h : ArchiveHeader) (pages : List Page) (rest : List ℕ)
    → Begins (archive_bytes copy) h pages rest → Agree (header_of copy) (taken_pages copy.pages) [] h pages rest
begins_copy copy is h pages rest begins =
    agree (header_of copy) (taken_pages copy.pages) [] h pages rest (front_of Second copy is)
    (subst (λ (bs : List ℕ). Begins bs h pages rest) (sym (append-nil (archive_bytes copy))) begins)

wrong_none : (end : ℕ) (copy : CopyView) → IsArchived copy → AreBelow end (taken_pages copy.pages)
    → (h : ArchiveHeader) (pages : List Page) (rest : List ℕ) → Begins (archive_bytes copy) h pages rest
    → (fault : ChainReadFault) → ¬ IsWrongBehind end h pages rest fault
wrong_none end copy is below h pages rest begins (BadArchive at) wrong =
    let taken = taken_pages copy.pages in
    let a = begins_copy copy is h pages rest begins in
    let all : h.taken ≡ length taken = sym (ap (λ (k : ArchiveHeader). k.taken) a.header) in
    let few : length pages < length taken = omega (arith, all, wrong.1) in
    let split = pages_before taken pages [] rest is.pages begins.front.valid a.bytes (omega arith) in
    wrong.3 (next_of (header_of copy) h taken pages [] rest (front_of Second copy is) a.header split.0 split.1 split.2
    (omega (arith, few, ap length split.1, length-append pages split.0)))
wrong_none end copy is below h pages rest begins CountDiffers (inl wrong) =
    let a = begins_copy copy is h pages rest begins in
    omega (arith, ap (λ (k : ArchiveHeader). k.taken) a.header, a.count, wrong.0, ap length wrong.1)
wrong_none end copy is below h pages rest begins CountDiffers (inr (inl wrong)) =
    let a = begins_copy copy is h pages rest begins in
    omega (arith, ap (λ (k : ArchiveHeader). k.taken) a.header, a.count, ap length wrong.0, wrong.1, wrong.2)
wrong_none end copy is below h pages rest begins CountDiffers (inr (inr wrong)) =
    let a = begins_copy copy is h pages rest begins in
    let valid : IsPage wrong.page = all_last IsPage pages wrong.page wrong.stands.front.valid in
    omega (
      arith,
      ap (λ (k : ArchiveHeader). k.taken) a.header,
      a.count,
      wrong.last,
      wrong.some,
      ap length wrong.stands.spelled,
      length-append (page_bytes wrong.page) wrong.more,
      length-page_bytes wrong.page valid.count,
    )
wrong_none end copy is below h pages rest begins (PageBeyondLog n) wrong =
    let taken = taken_pages copy.pages in
    let more = pages ++ wrong.page ∷ [] in
    let longer : Begins (archive_bytes copy) h more wrong.more = record {
      front = wrong.stands.front;
      spelled = begins.spelled ∙ ap (λ (bs : List ℕ). front_bytes h pages ++ bs) wrong.stands.spelled
          ∙ sym (append_assoc (front_bytes h pages) (page_bytes wrong.page) wrong.more)
          ∙ ap (λ (bs : List ℕ). bs ++ wrong.more) (append_assoc (header_bytes h) (volume_bytes pages)
          (page_bytes wrong.page)
          ∙ ap (λ (bs : List ℕ). header_bytes h ++ bs) (sym (volume_push pages wrong.page)));
    } in
    let a = begins_copy copy is h more wrong.more longer in
    let split = pages_before taken more [] wrong.more is.pages wrong.stands.front.valid a.bytes
    (omega (arith, a.count)) in
    let low : wrong.page.lsn < end = all_last (λ (p : Page). p.lsn < end) pages wrong.page
    (all_left (λ (p : Page). p.lsn < end) more split.0 (subst (AreBelow end) split.1 below)) in
    omega (arith, low, wrong.past)
wrong_none end copy is below h pages rest begins OutOfMemory wrong = wrong
wrong_none end copy is below h pages rest begins (ChainBroken id) wrong = wrong
wrong_none end copy is below h pages rest begins ReadFault wrong = wrong
wrong_none end copy is below h pages rest begins RedoBeyondLog wrong = wrong

-- the archive of a copy at its place
at_place : (copies : List CopyView) (k : ℕ) (i : Option (List ℕ)) → k < length copies
    → get_or (archives_of copies) k i ≡ Some (archive_bytes (get_or copies k no_copy))
at_place copies k i lt = get_or-map (λ (c : CopyView). Some (archive_bytes c)) copies k no_copy i lt

count_of : (copies : List CopyView) → length (archives_of copies) ≡ length copies
count_of copies = length-map copies (λ (c : CopyView). Some (archive_bytes c))

none_met : (end : ℕ) (heads : List ArchiveHeader) (copies : List CopyView) (fault : ChainReadFault)
    → AllByRecursion IsArchived copies → AllByRecursion (λ (c : CopyView). AreBelow end (taken_pages c.pages)) copies
    → ¬ IsFirstMet end heads (archives_of copies) fault
none_met end heads copies fault all below first =
    let lt : first.at < length copies = omega (arith, first.there, count_of copies) in
    let copy = get_or copies first.at no_copy in
    let h = get_or heads first.at (header_of no_copy) in
    let met = subst (λ (o : Option (List ℕ)). IfSome o (λ bytes. IsMet end first.next h bytes fault))
    (at_place copies first.at None lt) (first.here (header_of no_copy) None) in
    wrong_none end copy (all_at IsArchived copies first.at no_copy all lt)
    (all_at (λ (c : CopyView). AreBelow end (taken_pages c.pages)) copies first.at no_copy below lt) h met.pages met.rest
    met.begins fault met.wrong

pub not_stopped : (counts : PageCounts) (end : ℕ) (lefts : List (Option (List ℕ))) (copies : List CopyView) (fault : ChainReadFault)
    → IsRightChain counts end copies → IsStopped counts end (archives_of copies) lefts fault → IsFromOutside fault
not_stopped counts end lefts copies OutOfMemory right stopped = tt
not_stopped counts end lefts copies ReadFault right stopped = tt
not_stopped counts end lefts copies (BadArchive n) right stopped =
    none_met end stopped.heads copies (BadArchive n) right.archived right.within.below stopped.refused
not_stopped counts end lefts copies (ChainBroken id) right stopped =
    none_met end stopped.heads copies (ChainBroken id) right.archived right.within.below stopped.refused
not_stopped counts end lefts copies CountDiffers right stopped =
    none_met end stopped.heads copies CountDiffers right.archived right.within.below stopped.refused
not_stopped counts end lefts copies RedoBeyondLog right stopped =
    none_met end stopped.heads copies RedoBeyondLog right.archived right.within.below stopped.refused
not_stopped counts end lefts copies (PageBeyondLog n) right stopped =
    none_met end stopped.heads copies (PageBeyondLog n) right.archived right.within.below stopped.refused

-- ---- the headers

-- a header that was read of a copy's archive is that of the copy
same_head : (copy : CopyView) (input left : Option (List ℕ)) (h : ArchiveHeader) → IsArchived copy
    → input ≡ Some (archive_bytes copy) → IsHeadOf input left h → h ≡ header_of copy
same_head copy None left h is at head = cc
same_head copy (Some bytes) None h is at head = absurd head.given
same_head copy (Some bytes) (Some rest) h is at head =
    let here : bytes ≡ archive_bytes copy = cc in
    (same_front h (header_of copy) rest (volume_bytes (taken_pages copy.pages)) head.valid is.header
    (sym head.given ∙ here)).0

head_fits : (counts : PageCounts) (kind : CopyKind) (heads : List ArchiveHeader) (copies : List CopyView)
    → FitFrom counts kind copies → length heads < length copies
    → ((k : ℕ) (h : ArchiveHeader) → k < length heads → get_or heads k h ≡ header_of (get_or copies k no_copy))
    → IsHeadFit counts (kind_behind kind heads) (header_of (get_or copies (length heads) no_copy))
head_fits counts kind heads [] fit lt same = absurd (omega arith)
head_fits counts kind [] (c ∷ copies) fit lt same =
    record { same_kind = fit.0.same_kind; whole = fit.0.whole }
head_fits counts kind (h ∷ heads) (c ∷ copies) fit lt same =
    let id : h.id ≡ c.id = ap (λ (x : ArchiveHeader). x.id) (same 0 h (omega arith)) in
    subst (λ n. IsHeadFit counts (kind_behind (Inc n) heads) (header_of (get_or copies (length heads) no_copy))) (sym id)
    (head_fits counts (Inc c.id) heads copies fit.1 (omega arith) (λ k x less. same (suc k) x (omega arith)))

-- no header of a chain is refused
head_none : (counts : PageCounts) (kind : CopyKind) (copy : CopyView) (left : Option (List ℕ)) (fault : ChainReadFault)
    → IsArchived copy → IsHeadFit counts kind (header_of copy)
    → IsHeadRefused counts kind (Some (archive_bytes copy)) left fault → IsFromOutside fault
head_none counts kind copy left (ChainBroken id) is fit refused =
    let same = same_head copy (Some (archive_bytes copy)) left refused.0 is refl refused.1.0 in
    refused.1.2 (subst (IsHeadFit counts kind) (sym same) fit)
head_none counts kind copy left (BadArchive at) is fit refused =
    no_fault copy (archive_bytes copy) (record { valid = is; format = Second; spelled = refl }) (archive.BadArchive 0) refused.1
head_none counts kind copy left OutOfMemory is fit refused = tt
head_none counts kind copy left ReadFault is fit refused = tt
head_none counts kind copy left CountDiffers is fit refused = refused
head_none counts kind copy left RedoBeyondLog is fit refused = refused
head_none counts kind copy left (PageBeyondLog n) is fit refused = refused

first_none : (counts : PageCounts) (end : ℕ) (lefts : List (Option (List ℕ))) (copies : List CopyView) (fault : ChainReadFault)
    → IsRightChain counts end copies → IsFirstHeadRefused counts (archives_of copies) lefts fault → IsFromOutside fault
first_none counts end lefts copies fault right first =
    let at = length first.heads in
    let lt : at < length copies = omega (arith, first.there, count_of copies) in
    let copy = get_or copies at no_copy in
    head_none counts (kind_behind Full first.heads) copy (get_or lefts at None) fault
    (all_at IsArchived copies at no_copy right.archived lt)
    (head_fits counts Full first.heads copies right.fit lt (λ k h less.
    same_head (get_or copies k no_copy) (get_or (archives_of copies) k None) (get_or lefts k None) (get_or first.heads k h)
    (all_at IsArchived copies k no_copy right.archived (omega arith)) (at_place copies k None (omega arith))
    (first.before k None None h less)))
    (subst (λ (o : Option (List ℕ)). IsHeadRefused counts (kind_behind Full first.heads) o (get_or lefts at None) fault)
    (at_place copies at None lt) (first.here None None))

past_none : (counts : PageCounts) (end : ℕ) (lefts : List (Option (List ℕ))) (copies : List CopyView) → IsRightChain counts end copies
    → ¬ IsPastLog counts end (archives_of copies) lefts
past_none counts end lefts copies right past =
    let at = past.at in
    let blank : ArchiveCursor = record { header = header_of no_copy; read = 0; from = 0; page = None; turns = 0 } in
    let lt : at < length copies = omega (arith, past.all, past.there, count_of copies) in
    let copy = get_or copies at no_copy in
    let new = past.opened.each at None None blank past.there in
    let same = same_head copy (get_or (archives_of copies) at None) (get_or lefts at None) (get_or past.its at blank).header
    (all_at IsArchived copies at no_copy right.archived lt) (at_place copies at None lt)
    (record { valid = new.valid; given = new.given }) in
    let low = all_at (λ (c : CopyView). c.redo < end) copies at no_copy right.within.points lt in
    omega (
      arith,
      low,
      past.past (header_of no_copy),
      ap (λ (x : ArchiveHeader). x.redo)
          (get_or-map (λ (c : ArchiveCursor). c.header) past.its at blank (header_of no_copy) past.there ∙ same),
    )

pub not_unmade : (counts : PageCounts) (end : ℕ) (lefts : List (Option (List ℕ))) (copies : List CopyView) (fault : ChainReadFault)
    → IsRightChain counts end copies → IsNotMade counts end (archives_of copies) lefts fault → IsFromOutside fault
not_unmade counts end lefts copies OutOfMemory right refused = tt
not_unmade counts end lefts copies ReadFault right refused = tt
not_unmade counts end lefts copies (ChainBroken id) right (inl none) =
    omega (arith, right.some, count_of copies, ap length none.0)
not_unmade counts end lefts copies (ChainBroken id) right (inr first) =
    first_none counts end lefts copies (ChainBroken id) right first
not_unmade counts end lefts copies RedoBeyondLog right refused = past_none counts end lefts copies right refused
not_unmade counts end lefts copies (BadArchive n) right refused =
    first_none counts end lefts copies (BadArchive n) right refused
not_unmade counts end lefts copies CountDiffers right refused =
    first_none counts end lefts copies CountDiffers right refused
not_unmade counts end lefts copies (PageBeyondLog n) right refused =
    first_none counts end lefts copies (PageBeyondLog n) right refused

-- Files of what an engine leaves.
use Rattle.std.proofs.Common.{◌≡◌, ◌∙◌, ℕ, zero, suc, ◌<◌, ◌≤◌, inl, inr, List, [], ◌∷◌, length, map}
use Rattle.std.proofs.Common.{refl, sym, ap, subst, arith}
use Rattle.std.specs.Prelude.{Some}
use Rattle.std.specs.List.{AllByRecursion}
use Rattle.std.proofs.Math.ListN.{get_or-eq_default}
use Rattle.std.proofs.lemmas.Bool.{cases_lt}
use Rattle.std.proofs.lemmas.List.{length-take-le}
use Rattle.page_core.specs.declared.page.Page.{Page}
use Rattle.page_core.specs.Page.{IsPage}
use Rattle.log_records.specs.Coverage.{Covers, IsPast}
use Rattle.page_core.specs.declared.format.Format.TheVariants.{Second}
use Rattle.page_core.specs.PageCounts.{count_below}
use Rattle.log_records.specs.Log.{IsLog, Log, counts_of, log_bytes, page_count}
use Rattle.log_records.proofs.Public.{count_below-counts_of, page_count-is_count}
use Rattle.copy_coverage.specs.Retired.{IsRetired, RetiredView}
use Rattle.log_rules.specs.Linked.{IsLinked}
use Rattle.log_rules.proofs.Public.{linked-take}
use Rattle.log_store.specs.declared.master.Master.{Master}
use Rattle.log_store.specs.Master.{master_bytes}
use Rattle.copy_vault.specs.declared.copy_id.CopyKind.{CopyKind}
use Rattle.copy_vault.specs.declared.copy_id.CopyKind.TheVariants.{Full, Inc}
use Rattle.copy_vault.specs.Archive.{IsArchived, IsKindOf, archive_bytes, header_of}
use Rattle.copy_vault.specs.Chain.{FitFrom, Follow, IsChain, content, last_redo}
use Rattle.copy_vault.specs.ChainOf.{IsChainOf}
use Rattle.copy_vault.specs.ChainRead.{AreBelow}
use Rattle.copy_vault.specs.ChainReading.{AreWithinLog, IsRightChain, SpellCopies}
use Rattle.page_decisions.specs.Decisions.{PageDecision, decision_at, kept, taken, taken_count}
use Rattle.copy_vault.specs.Copy.{CopyView, IsComplete}
use Rattle.page_decisions.specs.Decisions.{taken_pages, undecided}
use Rattle.copy_vault.specs.Vault.{CopyState, HasParent, complete, dropped, state_of}
use Rattle.copy_vault.proofs.Public.{some_members}
use Rattle.page_decisions.proofs.Public.{count_within}
use Rattle.copy_coverage.specs.Copied.{AreRestorable, IsCovered, StandsOn}
use Rattle.copy_coverage.specs.Kept.{IsKeptOf}
use Rattle.copy_coverage.proofs.Public.{covered_of_members}
use Rattle.copy_coverage.proofs.Public.{content_by}
use Rattle.copy_coverage.proofs.Public.{covers_kept, kept_count_below, prefix_is_log}
use Rattle.copy_coverage.proofs.Public.{count_below-not_less, count_below-not_more}
use Rattle.copy_coverage.proofs.Public.{end_is_record}
use Rattle.page_redo.proofs.Public.{valid-past}
use Rattle.copy_audit.proofs.Public.{same_copies, same_log_of}
use Rattle.media_restore.specs.Files.{AreCovering, AreSound, HasParts, IsOfLog, IsOfMaster, IsRestoredFrom}
use Rattle.media_restore.specs.FilesArchives.{AreOfArchives, end_of}
use Rattle.media_restore.specs.Saved.{AreLeft, files_of}
use Rattle.media_restore.proofs.Loads.{checkpoint_in}

-- ---- the log and its master record

pub log_is : (log : Log) (master : Master) (copies : List CopyView) → AreLeft log master copies → IsLog log
log_is log master copies left = subst IsLog (sym left.kept.made)
    (prefix_is_log left.it.log left.kept.count left.retired.valid left.kept.within)

of_log : (log : Log) (master : Master) (copies : List CopyView) → AreLeft log master copies
    → IsOfLog (Some (log_bytes log)) log
of_log log master copies left =
    let valid = log_is log master copies left in
    record {
      valid = valid;
      linked = subst (λ (k : Log). IsLinked k.records) (sym left.kept.made)
          (linked-take left.it.log.records left.retired.linked left.kept.count);
      spelled = record { valid = valid; format = Second; of_format = λ i d lt. tt; spelled = refl };
    }

of_master : (log : Log) (master : Master) (copies : List CopyView) → AreLeft log master copies
    → IsOfMaster (Some (master_bytes master)) log.records master
of_master log master copies left =
    let complete = checkpoint_in left.it log master left.retired left.named left.kept in
    let end = end_is_record log master.begin master.end complete (log_is log master copies left) in
    record {
      complete = complete;
      spelled = record {
        valid = record { begin = end.1.place; end = end.0; order = end.1.earlier };
        spelled = refl;
      };
    }

-- ---- each copy of the chain has an archive

-- a full copy takes each page
all_are_taken : (pages : List PageDecision) → ((p : ℕ) → p < length pages → ¬ (decision_at pages p ≡ undecided))
    → ((p : ℕ) → ¬ (decision_at pages p ≡ kept)) → taken_count pages ≡ length pages
all_are_taken [] decided no_kept = refl
all_are_taken (undecided ∷ ds) decided no_kept = absurd (decided 0 (omega arith) refl)
all_are_taken (taken page ∷ ds) decided no_kept =
    ap suc (all_are_taken ds (λ p lt. decided (suc p) (omega arith)) (λ p. no_kept (suc p)))
all_are_taken (kept ∷ ds) decided no_kept = absurd (no_kept 0 refl)

all_taken : (P : Page → Type 0) (pages : List PageDecision)
    → ((p : ℕ) (page : Page) → p < length pages → decision_at pages p ≡ taken page → P page)
    → AllByRecursion P (taken_pages pages)
all_taken P [] each = tt
all_taken P (undecided ∷ ds) each = all_taken P ds (λ p page lt. each (suc p) page (omega arith))
all_taken P (taken page ∷ ds) each =
    (each 0 page (omega arith) refl, all_taken P ds (λ p q lt. each (suc p) q (omega arith)))
all_taken P (kept ∷ ds) each = all_taken P ds (λ p page lt. each (suc p) page (omega arith))

-- what is of a log's past is what a part of it makes
past_is_page : (log : Log) (p : ℕ) (page : Page) → IsLog log → p < page_count log → IsPast log.records p page
    → IsPage page
past_is_page log p page valid lt past = subst IsPage (sym past.made) (valid-past log p past.count valid lt)

record HasId (copies : List CopyState) (id : ℕ) : Type 0 where
  least : 1 ≤ id
  most : id ≤ length copies

has_id : (copies : List CopyState) (id : ℕ) (copy : CopyView) → state_of copies id ≡ complete copy → HasId copies id
has_id copies zero copy is = cc
has_id copies (suc k) copy is = elim (cases_lt k (length copies)) [
  | inl lt ↦ record { least = omega arith; most = omega arith }
  | inr le ↦ let gone : state_of copies (suc k) ≡ dropped = get_or-eq_default copies dropped le in cc
]

kind_of : (copies : List CopyState) (copy : CopyView) (kind : CopyKind) → copy.kind ≡ kind
    → IsComplete copy.kind copy.pages → HasParent copies copy.id kind
    → IsKindOf kind (header_of copy)
kind_of copies copy Full is whole parent = all_are_taken copy.pages whole.decided (whole.keeps is)
kind_of copies copy (Inc from) is whole parent =
    let id = has_id copies from parent.copy parent.is_complete in
    (id.least, parent.before, count_within copy.pages)

-- a copy has an archive, and reaches no further than what is forced
record IsStable (f : ℕ) (copy : CopyView) : Type 0 where
  archived : IsArchived copy
  early : copy.redo < f
  below : AreBelow f (taken_pages copy.pages)

stable : (log : Log) (f : ℕ) (copies : List CopyState) (copy : CopyView) (older : List CopyView) → IsLog log
    → AreRestorable log f copies → state_of copies copy.id ≡ complete copy → StandsOn copies copy.kind older
    → IsComplete copy.kind copy.pages → IsStable f copy
stable log f copies copy older valid are state stands whole =
    let is = are.each copy.id copy state in
    let covered : (p : ℕ) (page : Page) → decision_at copy.pages p ≡ taken page
    → IsCovered log.records f copy.redo p page =
    λ p page at. subst (IsCovered log.records f copy.redo p) (content_by copy older p (taken page) at)
    (are.covered copy.id copy older state stands p) in
    let id = has_id copies copy.id copy state in
    let count = is.whole in
    let some = count_below-not_less log copy.begin in
    let most = count_below-not_more log copy.begin in
    let few = are.few in
    record {
      archived = record {
        header = record {
          some_pages = let least = valid.pages.least in omega arith;
          few_pages = let limit = (page_count-is_count log valid).most in omega arith;
          least_id = id.least;
          most_id = let most = id.most in omega arith;
          kind = kind_of copies copy copy.kind refl whole is.parent;
          begin_fits = is.noted.begun.fits;
          begin_at_record = is.noted.begun.aligned;
          redo_at_record = is.noted.redone.aligned;
          redo_past_header = is.noted.redone.past_header;
          redo_first = is.noted.order;
        };
        complete = whole;
        pages = all_taken IsPage copy.pages
            (λ p page lt at. past_is_page log p page valid (omega arith) (covered p page at).covers.past);
      };
      early = let early = is.early in let order = is.noted.order in omega arith;
      below = all_taken (λ (page : Page). page.lsn < f) copy.pages (λ p page lt at. (covered p page at).stable);
    }

all_stable : (log : Log) (f : ℕ) (copies : List CopyState) (copy : CopyView) (older more : List CopyView)
    → IsLog log → AreRestorable log f copies → StandsOn copies copy.kind older → Follow copy more
    → AllByRecursion (λ c. IsComplete c.kind c.pages) (copy ∷ more)
    → AllByRecursion (λ c. state_of copies c.id ≡ complete c) (copy ∷ more)
    → AllByRecursion (IsStable f) (copy ∷ more)
all_stable log f copies copy older [] valid are stands follow whole of_vault =
    (stable log f copies copy older valid are of_vault.0 stands whole.0, tt)
all_stable log f copies copy older (next ∷ more) valid are stands follow whole of_vault =
    let stands' : StandsOn copies next.kind (copy ∷ older) =
    subst (λ kind. StandsOn copies kind (copy ∷ older)) (sym follow.0) (of_vault.0, stands) in (
      stable log f copies copy older valid are of_vault.0 stands whole.0,
      all_stable log f copies next (copy ∷ older) more valid are stands' follow.1 whole.1 of_vault.1,
    )

stable_members : (log : Log) (f : ℕ) (copies : List CopyState) (id : ℕ) (members : List CopyView) → IsLog log
    → AreRestorable log f copies → IsChain members → IsChainOf copies id members
    → AllByRecursion (IsStable f) members
stable_members log f copies id members valid are chain of_id =
    let whole = subst (AllByRecursion (λ c. IsComplete c.kind c.pages)) chain.is chain.complete in
    let of_vault = subst (AllByRecursion (λ c. state_of copies c.id ≡ complete c)) chain.is of_id.of_vault in
    let stands : StandsOn copies chain.first.kind [] =
    subst (λ kind. StandsOn copies kind []) (sym chain.full) refl in
    subst (AllByRecursion (IsStable f)) (sym chain.is)
    (all_stable log f copies chain.first [] chain.more valid are stands chain.linked whole of_vault)

all_weaker : {X : Type 0} (P Q : X → Type 0) (xs : List X) → ((x : X) → P x → Q x) → AllByRecursion P xs
    → AllByRecursion Q xs
all_weaker P Q [] weaker all = tt
all_weaker P Q (x ∷ xs) weaker all = (weaker x all.0, all_weaker P Q xs weaker all.1)

-- ---- the archives

-- each copy has as many pages as the volume had when it began
abbrev AreWhole : Log → List CopyView → Type 0
AreWhole log copies = AllByRecursion (λ copy. length copy.pages ≡ count_below (counts_of log) copy.begin) copies

whole_members : (log : Log) (it : RetiredView) (copies : List CopyView) → IsLog log → IsRetired it
    → IsKeptOf it.log it.forced_end log → AllByRecursion (λ copy. state_of it.copies copy.id ≡ complete copy) copies
    → AreWhole log copies
whole_members log it [] valid retired crash of_vault = tt
whole_members log it (copy ∷ copies) valid retired crash of_vault =
    let is = retired.copies.each copy.id copy of_vault.0 in (
      is.whole ∙ sym (kept_count_below it.log log it.forced_end copy.begin crash is.early)
          ∙ sym (count_below-counts_of log copy.begin valid),
      whole_members log it copies valid retired crash of_vault.1,
    )

fit_more : (log : Log) (copy : CopyView) (more : List CopyView) → Follow copy more → AreWhole log more
    → FitFrom (counts_of log) (Inc copy.id) more
fit_more log copy [] follow whole = tt
fit_more log copy (next ∷ more) follow whole =
    (record { same_kind = follow.0; whole = whole.0 }, fit_more log next more follow.1 whole.1)

spell_copies : (copies : List CopyView) → AllByRecursion IsArchived copies
    → SpellCopies (map (λ (copy : CopyView). Some (archive_bytes copy)) copies) copies
spell_copies [] all = tt
spell_copies (copy ∷ copies) all = (record { valid = all.0; format = Second; spelled = refl }, spell_copies copies all.1)

left_stable : (log : Log) (master : Master) (copies : List CopyView) → (left : AreLeft log master copies)
    → AllByRecursion (IsStable left.it.forced_end) copies
left_stable log master copies left =
    stable_members left.it.log left.it.forced_end left.it.copies left.id copies left.retired.valid
    left.retired.copies left.chain left.of_id

pub left_archived : (log : Log) (master : Master) (copies : List CopyView) → AreLeft log master copies
    → AllByRecursion IsArchived copies
left_archived log master copies left =
    all_weaker (IsStable left.it.forced_end) IsArchived copies (λ c is. is.archived)
    (left_stable log master copies left)

-- what is left has all that is forced
forced_within : (log : Log) (master : Master) (copies : List CopyView) → (left : AreLeft log master copies)
    → left.it.forced_end ≤ end_of log
forced_within log master copies left =
    let kept = left.kept in
    omega (
      arith,
      kept.forced,
      ap (λ (k : Log). length k.records) kept.made,
      length-take-le kept.count left.it.log.records kept.within,
    )

-- so no copy reaches past its end
left_within : (log : Log) (master : Master) (copies : List CopyView) → AreLeft log master copies
    → AreWithinLog (end_of log) copies
left_within log master copies left =
    let f = left.it.forced_end in
    let high = forced_within log master copies left in
    let all = left_stable log master copies left in
    record {
      points = all_weaker (IsStable f) (λ (c : CopyView). c.redo < end_of log) copies
          (λ c is. let low = is.early in omega arith) all;
      below = all_weaker (IsStable f) (λ (c : CopyView). AreBelow (end_of log) (taken_pages c.pages)) copies
          (λ c is. all_weaker (λ (page : Page). page.lsn < f) (λ (page : Page). page.lsn < end_of log)
          (taken_pages c.pages) (λ page lt. omega arith) is.below) all;
    }

of_archives : (log : Log) (master : Master) (copies : List CopyView) → AreLeft log master copies
    → AreOfArchives (map (λ (copy : CopyView). Some (archive_bytes copy)) copies) log copies
of_archives log master copies left =
    let chain = left.chain in
    let whole = whole_members log left.it copies (log_is log master copies left) left.retired left.kept
    left.of_id.of_vault in
    let whole' = subst (AreWhole log) chain.is whole in
    record {
      spelled = spell_copies copies (left_archived log master copies left);
      fit = subst (FitFrom (counts_of log) Full) (sym chain.is) (
        record { same_kind = chain.full; whole = whole'.0 },
        fit_more log chain.first chain.more chain.linked whole'.1,
      );
      within = left_within log master copies left;
    }

-- the copies are a chain that is right
pub right_of : (log : Log) (master : Master) (copies : List CopyView) → AreLeft log master copies
    → IsRightChain (counts_of log) (end_of log) copies
right_of log master copies left =
    let of = of_archives log master copies left in
    record {
      some = some_members copies left.chain;
      fit = of.fit;
      archived = left_archived log master copies left;
      within = of.within;
    }

pub parts_of : (log : Log) (master : Master) (copies : List CopyView) → AreLeft log master copies
    → HasParts (files_of log master copies) log master copies
parts_of log master copies left = record {
  of_log = of_log log master copies left;
  of_master = of_master log master copies left;
  of_archives = of_archives log master copies left;
  chain = left.chain;
}

-- ---- what the chain lacks

pub covering_of : (log : Log) (master : Master) (copies : List CopyView) → AreLeft log master copies
    → AreCovering log copies
covering_of log master copies left = λ p lt.
    let it = left.it in
    let made = left.kept.made in
    let covered = covered_of_members it.log it.forced_end it.copies left.id copies p left.retired.copies left.chain
    left.of_id in
    let stable = covered.stable in
    let high = left.kept.forced in
    subst (λ (k : Log). Covers k.records p (content copies p) (last_redo copies)) (sym made)
    (covers_kept it.log left.kept.count p (content copies p) (last_redo copies) left.retired.valid left.kept.within
    covered.covers (omega arith))

-- ---- what is restored of them

pub sound_of : (log : Log) (master : Master) (copies : List CopyView) (pages : List Page)
    → AreLeft log master copies → IsRestoredFrom (files_of log master copies) pages → AreSound log pages
sound_of log master copies pages left is =
    let log_same : is.log ≡ log = same_log_of log is.log is.parts.of_log.spelled (log_is log master copies left) in
    let copies_same : is.copies ≡ copies =
    same_copies copies is.copies is.parts.of_archives.spelled (left_archived log master copies left) in
    subst (λ (k : Log). AreSound k pages) log_same
    (is.sound (rw (log_same, copies_same) (covering_of log master copies left)))

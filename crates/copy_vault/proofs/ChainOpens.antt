-- The headers of a chain's archives, which are read in order.
use Rattle.std.proofs.Common.{◌≡◌, ◌≢◌, ℕ, ◌<◌, ◌≤◌, List, [], ◌∷◌, ◌++◌, length, get_or, set, map}
use Rattle.std.proofs.Common.{refl, sym, ap, ◌∙◌, subst, arith, inl, inr}
use Rattle.std.specs.Prelude.{Option, None}
use Rattle.std.specs.List.{range_with_len}
use Rattle.std.specs.Io.KnownBytes.{Consumes}
use Rattle.std.proofs.lemmas.Bool.{cases_lt}
use Rattle.std.proofs.lemmas.List.{append-nil, get_or-map, get_or-set_other, get_or-set_same, get_or_append_left}
use Rattle.std.proofs.lemmas.List.{get_or_push, length-map, length-set, length_push, map-append}
use Rattle.page_core.specs.PageCounts.{PageCounts, last_count}
use Rattle.copy_vault.specs.declared.archive_cursor.ArchiveCursor.{ArchiveCursor}
use Rattle.copy_vault.specs.declared.chain_read_fault.ChainReadFault.{ChainReadFault}
use Rattle.copy_vault.specs.declared.chain_read_fault.ChainReadFault.TheVariants.{BadArchive, OutOfMemory}
use Rattle.copy_vault.specs.declared.chain_read_fault.ChainReadFault.TheVariants.{ChainBroken, CountDiffers}
use Rattle.copy_vault.specs.declared.chain_read_fault.ChainReadFault.TheVariants.{PageBeyondLog, ReadFault}
use Rattle.copy_vault.specs.declared.chain_read_fault.ChainReadFault.TheVariants.{RedoBeyondLog}
use Rattle.copy_vault.specs.declared.chain_reader.ChainReader.{ChainReader}
use Rattle.copy_vault.specs.declared.copy_id.CopyKind.{CopyKind}
use Rattle.copy_vault.specs.declared.copy_id.CopyKind.TheVariants.{Full, Inc}
use Rattle.copy_vault.specs.declared.header.ArchiveHeader.{ArchiveHeader}
use Rattle.copy_vault.specs.Archive.{header_bytes}
use Rattle.copy_vault.specs.Chain.{content}
use Rattle.copy_vault.specs.ChainRead.{AreRead, HasRead, HeadsFit, IsHeadFit, IsNew, copy_of, hand_at, kind_behind}
use Rattle.copy_vault.specs.ChainRead.{last_point, moment_of}
use Rattle.copy_vault.specs.ChainReading.{AreOpened, IsFirstHeadRefused, IsHeadOf, IsHeadRefused}
use Rattle.copy_vault.specs.ChainReading.{IsNotMade, IsNotOpened, IsPastLog, IsReading, heads_of}
use Rattle.copy_vault.specs.Copy.{CopyView}
use Rattle.copy_vault.proofs.ArchiveSteps.{none_past}
use Rattle.copy_vault.proofs.ChainSteps.{any_default}
use Rattle.copy_vault.proofs.Parts.{read_none}

-- ---- headers in order

fit_push : (counts : PageCounts) (kind : CopyKind) (hs : List ArchiveHeader) (h : ArchiveHeader) → HeadsFit counts kind hs
    → IsHeadFit counts (kind_behind kind hs) h → HeadsFit counts kind (hs ++ h ∷ [])
fit_push counts kind [] h fit here = (here, tt)
fit_push counts kind (x ∷ hs) h fit here = (fit.0, fit_push counts (Inc x.id) hs h fit.1 here)

behind_push : (kind : CopyKind) (hs : List ArchiveHeader) (h : ArchiveHeader)
    → kind_behind kind (hs ++ h ∷ []) ≡ Inc h.id
behind_push kind [] h = refl
behind_push kind (x ∷ hs) h = behind_push (Inc x.id) hs h

heads_push : (its : List ArchiveCursor) (it : ArchiveCursor) → heads_of (its ++ it ∷ []) ≡ heads_of its ++ it.header ∷ []
heads_push its it = map-append (λ (c : ArchiveCursor). c.header) its (it ∷ [])

pub kind_more : (its new : List ArchiveCursor) (it : ArchiveCursor) → new ≡ its ++ it ∷ []
    → Inc it.header.id ≡ kind_behind Full (heads_of new)
kind_more its new it is =
    sym (ap (λ (cs : List ArchiveCursor). kind_behind Full (heads_of cs)) is
    ∙ ap (kind_behind Full) (heads_push its it) ∙ behind_push Full (heads_of its) it.header)

pub opened_none : (counts : PageCounts) (inputs : List (Option (List ℕ))) (its : List ArchiveCursor) → its ≡ []
    → AreOpened counts inputs inputs its
opened_none counts inputs its none = subst (AreOpened counts inputs inputs) (sym none) (record {
  fit = tt;
  within = omega arith;
  count = refl;
  each = λ k i l it lt. absurd (omega arith);
  unread = λ k i past lt. refl;
})

pub opened_more : (counts : PageCounts) (at : ℕ) (kind : CopyKind) (inputs lefts : List (Option (List ℕ)))
    (its new : List ArchiveCursor) (this left : Option (List ℕ)) (it : ArchiveCursor) → AreOpened counts inputs lefts its
    → length its ≡ at → kind ≡ kind_behind Full (heads_of its) → at < length inputs → get_or lefts at this ≡ this
    → IsNew this left it → IsHeadFit counts kind it.header → new ≡ its ++ it ∷ []
    → AreOpened counts inputs (set lefts at left) new
opened_more counts at kind inputs lefts its new this left it opened count kind_is lt of_left fresh fit is =
    subst (AreOpened counts inputs (set lefts at left)) (sym is) (record {
      fit = subst (HeadsFit counts Full) (sym (heads_push its it)) (fit_push counts Full (heads_of its) it.header opened.fit
          (subst (λ (k : CopyKind). IsHeadFit counts k it.header) kind_is fit));
      within = omega (arith, length_push its it, count);
      count = length-set lefts at left ∙ opened.count;
      each = λ k i l jt below. elim (cases_lt k at) [
        | inl less ↦ let ne : k ≢ at = omega arith in
            same_new (get_or inputs k i) (get_or inputs k i) (get_or lefts k l) (get_or (set lefts at left) k l)
            (get_or its k jt) (get_or (its ++ it ∷ []) k jt) refl (sym (get_or-set_other lefts at k left l ne))
            (sym (get_or_append_left its (it ∷ []) jt k (omega (arith, count))))
            (opened.each k i l jt (omega (arith, count)))
        | inr past ↦ let here : at ≡ k = omega (arith, length_push its it, count) in
            subst (λ n. IsNew (get_or inputs n i) (get_or (set lefts at left) n l) (get_or (its ++ it ∷ []) n jt)) here
            (same_new this (get_or inputs at i) left (get_or (set lefts at left) at l) it (get_or (its ++ it ∷ []) at jt)
            (sym of_left ∙ opened.unread at this (omega (arith, count)) lt ∙ any at this i lt)
            (sym (get_or-set_same lefts at left l (omega (arith, opened.count))))
            (sym (get_or_push its it jt at count)) fresh)
      ];
      unread = λ k i past below.
          let ne : k ≢ at = omega (arith, length_push its it, count) in
          get_or-set_other lefts at k left i ne ∙ opened.unread k i (omega (arith, length_push its it)) below;
    })
  where
    same_new : (i j l m : Option (List ℕ)) (a b : ArchiveCursor) → i ≡ j → l ≡ m → a ≡ b → IsNew i l a → IsNew j m b
    same_new i j l m a b one two three new =
        subst (λ (x : ArchiveCursor). IsNew j m x) three
        (subst (λ (x : Option (List ℕ)). IsNew j x a) two
        (subst (λ (x : Option (List ℕ)). IsNew x l a) one new))

    any : (k : ℕ) (d e : Option (List ℕ)) → k < length inputs → get_or inputs k d ≡ get_or inputs k e
    any k d e lt = any_default inputs k d e lt

-- ---- an archive that is refused

head_of : (input left : Option (List ℕ)) (it : ArchiveCursor) → IsNew input left it → IsHeadOf input left it.header
head_of input left it new = record { valid = new.valid; given = new.given }

pub head_refused : (counts : PageCounts) (at : ℕ) (kind : CopyKind) (inputs lefts : List (Option (List ℕ)))
    (its : List ArchiveCursor) (this left : Option (List ℕ)) (fault : ChainReadFault)
    → AreOpened counts inputs lefts its → length its ≡ at → kind ≡ kind_behind Full (heads_of its)
    → at < length inputs → get_or lefts at this ≡ this → IsHeadRefused counts kind this left fault
    → IsFirstHeadRefused counts inputs (set lefts at left) fault
head_refused counts at kind inputs lefts its this left fault opened count kind_is lt of_left why =
    let long : length (heads_of its) ≡ at = length-map its (λ (c : ArchiveCursor). c.header) ∙ count in
    record {
      heads = heads_of its;
      fit = opened.fit;
      there = omega (arith, long);
      before = λ k i l h below.
          let ne : k ≢ at = omega (arith, long) in
          let there : k < length its = omega (arith, long, count) in
          let new = opened.each k i l (blank h) there in
          subst (λ (x : ArchiveHeader). IsHeadOf (get_or inputs k i) (get_or (set lefts at left) k l) x)
          (sym (get_or-map (λ (c : ArchiveCursor). c.header) its k (blank h) h there))
          (subst (λ (x : Option (List ℕ)). IsHeadOf (get_or inputs k i) x (get_or its k (blank h)).header)
          (sym (get_or-set_other lefts at k left l ne))
          (head_of (get_or inputs k i) (get_or lefts k l) (get_or its k (blank h)) new));
      here = λ i l.
          subst (λ n. IsHeadRefused counts (kind_behind Full (heads_of its)) (get_or inputs n i)
          (get_or (set lefts at left) n l) fault) (sym long)
          (subst (λ (x : Option (List ℕ)). IsHeadRefused counts (kind_behind Full (heads_of its)) (get_or inputs at i) x
          fault) (sym (get_or-set_same lefts at left l (omega (arith, opened.count))))
          (subst (λ (x : Option (List ℕ)). IsHeadRefused counts (kind_behind Full (heads_of its)) x left fault)
          (sym of_left ∙ opened.unread at this (omega (arith, count)) lt ∙ any_default inputs at this i lt)
          (subst (λ (k : CopyKind). IsHeadRefused counts k this left fault) kind_is why)));
      behind = λ k i past below.
          let ne : k ≢ at = omega (arith, long) in
          get_or-set_other lefts at k left i ne ∙ opened.unread k i (omega (arith, long, count)) below;
    }
  where
    blank : ArchiveHeader → ArchiveCursor
    blank h = record { header = h; read = 0; from = 0; page = None; turns = 0 }

pub not_opened : (counts : PageCounts) (inputs lefts : List (Option (List ℕ))) (fault : ChainReadFault)
    → IsFirstHeadRefused counts inputs lefts fault → IsNotOpened counts inputs lefts fault
not_opened counts inputs lefts OutOfMemory why = tt
not_opened counts inputs lefts (BadArchive at) why = why
not_opened counts inputs lefts (ChainBroken id) why = why
not_opened counts inputs lefts CountDiffers why = why
not_opened counts inputs lefts ReadFault why = why
not_opened counts inputs lefts RedoBeyondLog why = why
not_opened counts inputs lefts (PageBeyondLog n) why = why

no_redo_fault : (counts : PageCounts) (kind : CopyKind) (input left : Option (List ℕ))
    → ¬ IsHeadRefused counts kind input left RedoBeyondLog
no_redo_fault counts kind input left why = why

pub not_made : (counts : PageCounts) (end : ℕ) (inputs lefts : List (Option (List ℕ))) (fault : ChainReadFault)
    → IsNotOpened counts inputs lefts fault → IsNotMade counts end inputs lefts fault
not_made counts end inputs lefts OutOfMemory why = tt
not_made counts end inputs lefts (BadArchive at) why = why
not_made counts end inputs lefts (ChainBroken id) why = inr why
not_made counts end inputs lefts CountDiffers why = why
not_made counts end inputs lefts ReadFault why = why
not_made counts end inputs lefts RedoBeyondLog why = absurd (why.here None None)
not_made counts end inputs lefts (PageBeyondLog n) why = why

-- ---- a reader that begins

fresh_read : (end : ℕ) (input left : Option (List ℕ)) (it : ArchiveCursor) → IsNew input left it
    → HasRead end 0 it.header input left it (copy_of it.header [])
fresh_read end input left it new = record {
  header = refl;
  is = refl;
  read = read_none it.header new.valid;
  count = new.read;
  from = new.from;
  below = tt;
  given = subst (Consumes input left) (sym (append-nil (header_bytes it.header))) new.given;
  far = inl (omega arith);
  ended = λ some all. absurd (omega (arith, some, all));
  hand = λ p le. none_past [] p (omega arith) ∙ sym (ap (λ o. hand_at o p) new.page);
}

pub copies_of : List ArchiveCursor → List CopyView
copies_of its = map (λ it. copy_of it.header []) its

pub fresh_all : (counts : PageCounts) (end : ℕ) (inputs lefts : List (Option (List ℕ))) (its : List ArchiveCursor)
    → AreOpened counts inputs lefts its → length its ≡ length inputs
    → AreRead end 0 0 (heads_of its) inputs lefts its (copies_of its)
unfolding copies_of
fresh_all counts end inputs lefts its opened all = record {
  heads_count = length-map its (λ (c : ArchiveCursor). c.header);
  inputs_count = sym all;
  lefts_count = opened.count ∙ sym all;
  copies_count = length-map its (λ (c : ArchiveCursor). copy_of c.header []);
  done = λ k h i l it copy lt none. absurd (omega arith);
  due = λ k h i l it copy lt le.
      subst (λ (x : CopyView). HasRead end 0 (get_or (heads_of its) k h) (get_or inputs k i) (get_or lefts k l)
      (get_or its k it) x) (sym (get_or-map (λ (c : ArchiveCursor). copy_of c.header []) its k it copy lt))
      (subst (λ (x : ArchiveHeader). HasRead end 0 x (get_or inputs k i) (get_or lefts k l) (get_or its k it)
      (copy_of (get_or its k it).header [])) (sym (get_or-map (λ (c : ArchiveCursor). c.header) its k it h lt))
      (fresh_read end (get_or inputs k i) (get_or lefts k l) (get_or its k it) (opened.each k i l it lt)));
}

pub reading_none : (counts : PageCounts) (inputs lefts : List (Option (List ℕ))) (it : ChainReader)
    → it.pages ≡ last_count counts → it.given ≡ 0 → it.failed ≡ None
    → AreOpened counts inputs lefts it.cursors.items → length it.cursors.items ≡ length inputs → 0 < length inputs
    → ((k : ℕ) (c : ArchiveCursor) → k < length it.cursors.items
    → (get_or it.cursors.items k c).header.redo < it.end)
    → it.redo ≡ last_point (heads_of it.cursors.items) → IsReading counts inputs lefts it []
reading_none counts inputs lefts it wide none still opened all some below last =
    let its = it.cursors.items in
    record {
      heads = heads_of its;
      copies = copies_of its;
      some = omega (arith, length-map its (λ (c : ArchiveCursor). c.header), all);
      fit = opened.fit;
      points = λ k h lt.
          let there : k < length its = omega (arith, length-map its (λ (c : ArchiveCursor). c.header)) in
          let at : ArchiveCursor = record { header = h; read = 0; from = 0; page = None; turns = 0 } in
          omega (
            arith,
            below k at there,
            ap (λ (x : ArchiveHeader). x.redo) (get_or-map (λ (c : ArchiveCursor). c.header) its k at h there),
          );
      last = last;
      read = subst (λ n. AreRead it.end (moment_of n) 0 (heads_of its) inputs lefts its (copies_of its)) (sym none)
          (fresh_all counts it.end inputs lefts its opened all);
      made = sym (ap (λ n. map (content (copies_of its)) (range_with_len 0 n)) none);
      all = wide;
      within = omega (arith, none);
      open_still = still;
    }

pub past_log : (counts : PageCounts) (end : ℕ) (inputs lefts : List (Option (List ℕ))) (its : List ArchiveCursor) (at : ℕ)
    → AreOpened counts inputs lefts its → length its ≡ length inputs → at < length its
    → ((it : ArchiveCursor) → end ≤ (get_or its at it).header.redo) → IsPastLog counts end inputs lefts
past_log counts end inputs lefts its at opened all there past = record {
  its = its;
  opened = opened;
  all = all;
  at = at;
  there = there;
  past = λ h.
      let c : ArchiveCursor = record { header = h; read = 0; from = 0; page = None; turns = 0 } in
      omega (
        arith,
        past c,
        ap (λ (x : ArchiveHeader). x.redo) (get_or-map (λ (c : ArchiveCursor). c.header) its at c h there),
      );
}

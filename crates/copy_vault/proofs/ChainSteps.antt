-- Archives that are read side by side: what a step makes of what was read, and why one is refused.
use Rattle.std.proofs.Common.{◌≡◌, ◌≢◌, ℕ, ◌+◌, ◌<◌, ◌≤◌, List, [], ◌∷◌, ◌++◌, length, get_or, map, set, drop}
use Rattle.std.proofs.Common.{refl, sym, ap, ◌∙◌, subst, arith, suc, zero, inl, inr}
use Rattle.std.specs.Prelude.{Option, None, IfSome}
use Rattle.std.proofs.KnownBytes.{Consumes-nil}
use Rattle.std.proofs.lemmas.Bool.{cases_lt}
use Rattle.std.proofs.Math.Seq.{map-set_same}
use Rattle.std.proofs.lemmas.List.{drop_all, get_or-set_other, get_or-set_same, length-set}
use Rattle.page_core.specs.declared.page.Page.{Page}
use Rattle.page_core.specs.Page.{formatted}
use Rattle.page_core.proofs.Public.{of_input}
use Rattle.copy_vault.specs.declared.archive_cursor.ArchiveCursor.{ArchiveCursor}
use Rattle.copy_vault.specs.declared.chain_read_fault.ChainReadFault.{ChainReadFault}
use Rattle.copy_vault.specs.declared.chain_read_fault.ChainReadFault.TheVariants.{BadArchive, OutOfMemory}
use Rattle.copy_vault.specs.declared.chain_read_fault.ChainReadFault.TheVariants.{ChainBroken, CountDiffers}
use Rattle.copy_vault.specs.declared.chain_read_fault.ChainReadFault.TheVariants.{PageBeyondLog, ReadFault}
use Rattle.copy_vault.specs.declared.chain_read_fault.ChainReadFault.TheVariants.{RedoBeyondLog}
use Rattle.copy_vault.specs.declared.copy_id.CopyKind.TheVariants.{Full}
use Rattle.copy_vault.specs.declared.header.ArchiveHeader.{ArchiveHeader}
use Rattle.copy_vault.specs.ArchiveRead.{given_for}
use Rattle.copy_vault.specs.Chain.{content, last_of, row, takings}
use Rattle.copy_vault.specs.ChainRead.{AreAtHand, AreRead, AreReadOn, AreRefused, FailsAt, GaveRight, HasRead}
use Rattle.copy_vault.specs.ChainRead.{HasReadOn, IsFirstMet, IsGiven, IsMet, IsRightTo, IsRowGiven, hand_at}
use Rattle.copy_vault.specs.ChainRead.{moment_of, place_list}
use Rattle.copy_vault.specs.ChainReading.{heads_of}
use Rattle.page_decisions.specs.Decisions.{decision_at, page_of, taken_pages}
use Rattle.copy_vault.specs.Copy.{CopyView}
use Rattle.copy_vault.proofs.ArchiveSteps.{unread}
use Rattle.copy_vault.proofs.Chains.{content_at, none_later}

-- in the place of a copy that is not there
abbrev pub no_copy : CopyView
no_copy = record { id = 0; kind = Full; begin = 0; redo = 0; pages = [] }

-- ---- the page at hand

pub page_found : (its : List ArchiveCursor) (copies : List CopyView) (k p : ℕ) (it : ArchiveCursor) (page : Page)
    → AreAtHand its p copies → k < length its → get_or its k it ≡ it → page ∷ [] ≡ hand_at it.page p
    → takings (drop (k + 1) copies) p ≡ [] → page ≡ content copies p
page_found its copies k p it page hands lt is here later =
    sym (content_at copies k p no_copy page (omega (arith, hands.count)) later
    (hands.each k it no_copy lt ∙ ap (λ (c : ArchiveCursor). hand_at c.page p) is ∙ sym here))

pub page_not_here : (its : List ArchiveCursor) (copies : List CopyView) (k p : ℕ) (it : ArchiveCursor)
    → AreAtHand its p copies → k < length its → get_or its k it ≡ it → [] ≡ hand_at it.page p
    → takings (drop (k + 1) copies) p ≡ [] → takings (drop k copies) p ≡ []
page_not_here its copies k p it hands lt is none later =
    none_later copies k p no_copy (omega (arith, hands.count))
    (hands.each k it no_copy lt ∙ ap (λ (c : ArchiveCursor). hand_at c.page p) is ∙ sym none) later

pub none_behind : (its : List ArchiveCursor) (copies : List CopyView) (p : ℕ) → AreAtHand its p copies
    → takings (drop (length its) copies) p ≡ []
none_behind its copies p hands =
    ap (λ (cs : List CopyView). takings cs p) (drop_all (length its) copies (omega (arith, hands.count)))

pub none_found : (copies : List CopyView) (p : ℕ) → takings (drop 0 copies) p ≡ [] → formatted p ≡ content copies p
none_found copies p none = sym (ap (last_of (formatted p)) none)

-- ---- a step in one of the archives

-- what was read is so, by another name of each thing
moved : (end next : ℕ) (h : ArchiveHeader) (i l m : Option (List ℕ)) (it jt : ArchiveCursor) (c d : CopyView)
    → l ≡ m → it ≡ jt → c ≡ d → HasRead end next h i l it c → HasRead end next h i m jt d
moved end next h i l m it jt c d left same copy read =
    subst (λ (z : CopyView). HasRead end next h i m jt z) copy
    (subst (λ (z : ArchiveCursor). HasRead end next h i m z c) same
    (subst (λ (z : Option (List ℕ)). HasRead end next h i z it c) left read))

row_set : (copies : List CopyView) (i p : ℕ) (copy d : CopyView)
    → page_of (decision_at copy.pages p) ≡ page_of (decision_at (get_or copies i d).pages p)
    → row (set copies i copy) p ≡ row copies p
row_set copies i p copy d same = map-set_same (λ (c : CopyView). page_of (decision_at c.pages p)) copies i copy d same

set_read : (end next at : ℕ) (heads : List ArchiveHeader) (inputs lefts : List (Option (List ℕ)))
    (its : List ArchiveCursor) (copies : List CopyView) (left : Option (List ℕ)) (it : ArchiveCursor) (copy : CopyView)
    → AreRead end next at heads inputs lefts its copies → at < length its
    → ((h : ArchiveHeader) (i : Option (List ℕ))
    → HasRead end (next + 1) (get_or heads at h) (get_or inputs at i) left it copy)
    → AreRead end next (at + 1) heads inputs (set lefts at left) (set its at it) (set copies at copy)
set_read end next at heads inputs lefts its copies left it copy read lt here =
    let wide : length (set its at it) ≡ length its = length-set its at it in
    record {
      heads_count = read.heads_count ∙ sym wide;
      inputs_count = read.inputs_count ∙ sym wide;
      lefts_count = length-set lefts at left ∙ read.lefts_count ∙ sym wide;
      copies_count = length-set copies at copy ∙ read.copies_count ∙ sym wide;
      done = λ k h i l jt c below before. elim (cases_lt k at) [
        | inl less ↦ let ne : k ≢ at = omega arith in
            moved end (next + 1) (get_or heads k h) (get_or inputs k i) (get_or lefts k l)
            (get_or (set lefts at left) k l) (get_or its k jt) (get_or (set its at it) k jt) (get_or copies k c)
            (get_or (set copies at copy) k c) (sym (get_or-set_other lefts at k left l ne))
            (sym (get_or-set_other its at k it jt ne)) (sym (get_or-set_other copies at k copy c ne))
            (read.done k h i l jt c (omega (arith, wide, below)) less)
        | inr past ↦ let same : at ≡ k = omega arith in
            subst (λ n. HasRead end (next + 1) (get_or heads n h) (get_or inputs n i) (get_or (set lefts at left) n l)
            (get_or (set its at it) n jt) (get_or (set copies at copy) n c)) same
            (moved end (next + 1) (get_or heads at h) (get_or inputs at i) left (get_or (set lefts at left) at l) it
            (get_or (set its at it) at jt) copy (get_or (set copies at copy) at c)
            (sym (get_or-set_same lefts at left l (omega (arith, read.lefts_count, lt))))
            (sym (get_or-set_same its at it jt lt))
            (sym (get_or-set_same copies at copy c (omega (arith, read.copies_count, lt)))) (here h i))
      ];
      due = λ k h i l jt c below past.
          let ne : k ≢ at = omega arith in
          moved end next (get_or heads k h) (get_or inputs k i) (get_or lefts k l)
          (get_or (set lefts at left) k l) (get_or its k jt) (get_or (set its at it) k jt) (get_or copies k c)
          (get_or (set copies at copy) k c) (sym (get_or-set_other lefts at k left l ne))
          (sym (get_or-set_other its at k it jt ne)) (sym (get_or-set_other copies at k copy c ne))
          (read.due k h i l jt c (omega (arith, wide, below)) (omega arith));
    }

-- an element that is there is the same whatever stands for one that is not
pub any_default : {X : Type 0} (xs : List X) (k : ℕ) (d e : X) → k < length xs → get_or xs k d ≡ get_or xs k e
any_default [] k d e lt = absurd (omega arith)
any_default (x ∷ xs) zero d e lt = refl
any_default (x ∷ xs) (suc k) d e lt = any_default xs k d e (omega arith)

-- the next archive was read on
pub step_read : (end next at : ℕ) (heads : List ArchiveHeader) (inputs lefts : List (Option (List ℕ)))
    (its : List ArchiveCursor) (old : List CopyView) (this left : Option (List ℕ)) (it new : ArchiveCursor)
    → AreReadOn end next at next heads inputs lefts its old → at < length its → get_or lefts at this ≡ this
    → get_or its at it ≡ it
    → ((h : ArchiveHeader) (i : Option (List ℕ)) (copy : CopyView) → HasRead end next h i this it copy
    → HasReadOn end next h i left new copy)
    → AreReadOn end next (at + 1) next heads inputs (set lefts at left) (set its at new) old
step_read end next at heads inputs lefts its old this left it new on lt of_left of_it step =
    let copies = on.copies in
    let copy = get_or copies at no_copy in
    let head = get_or heads at it.header in
    let input = get_or inputs at this in
    let some = step head input copy (moved end next head input (get_or lefts at this) this (get_or its at it) it copy
    copy of_left of_it refl (on.read.due at it.header this this it no_copy lt (omega arith))) in
    record {
      copies = set copies at some.copy;
      read = set_read end next at heads inputs lefts its copies left new some.copy on.read lt (λ h i.
          subst (λ (x : ArchiveHeader). HasRead end (next + 1) x (get_or inputs at i) left new some.copy)
          (any_default heads at it.header h (omega (arith, on.read.heads_count)))
          (subst (λ (x : Option (List ℕ)). HasRead end (next + 1) head x left new some.copy)
          (any_default inputs at this i (omega (arith, on.read.inputs_count))) some.read));
      same = λ p below. row_set copies at p some.copy no_copy (some.same p below) ∙ on.same p below;
    }

pub start_read : (end next : ℕ) (heads : List ArchiveHeader) (inputs lefts : List (Option (List ℕ)))
    (its : List ArchiveCursor) (copies : List CopyView) → AreRead end next 0 heads inputs lefts its copies
    → AreReadOn end next 0 next heads inputs lefts its copies
start_read end next heads inputs lefts its copies read =
    record { copies = copies; read = read; same = λ p below. refl }

-- every archive was read on
pub all_read : (end next at : ℕ) (heads : List ArchiveHeader) (inputs lefts : List (Option (List ℕ)))
    (its : List ArchiveCursor) (copies : List CopyView) → AreRead end next at heads inputs lefts its copies
    → length its ≤ at → AreRead end (next + 1) 0 heads inputs lefts its copies
all_read end next at heads inputs lefts its copies read past = record {
  heads_count = read.heads_count;
  inputs_count = read.inputs_count;
  lefts_count = read.lefts_count;
  copies_count = read.copies_count;
  done = λ k h i l it c lt none. absurd (omega arith);
  due = λ k h i l it c lt le. read.done k h i l it c lt (omega arith);
}

-- ---- a refusal in one of the archives

right_to : (end next : ℕ) (h : ArchiveHeader) (input left : Option (List ℕ)) (it : ArchiveCursor) (copy : CopyView)
    → HasRead end next h input left it copy → IfSome input (IsRightTo end next h)
right_to end next h input left it copy read =
    of_input input left (given_for h copy.pages) (IsRightTo end next h) read.given (λ rest none. record {
      pages = taken_pages copy.pages;
      rest = rest;
      begins = record { front = read.read.part.front; spelled = refl };
      below = read.below;
      far = elim read.far [
        | inl le ↦ inl (omega (arith, le, read.read.next))
        | inr all ↦ inr all
      ];
      whole = λ some all. none (read.ended some all);
    })

right_of : (end next : ℕ) (h : ArchiveHeader) (input left : Option (List ℕ)) (it : ArchiveCursor) (copy : CopyView)
    → HasRead end next h input left it copy → GaveRight end h input left
right_of end next h input left it copy read =
    unread end next h input left left it copy [] read (Consumes-nil left) (omega arith) (λ all. refl)

-- a fault of this archive is the first one that is met
first_met : (end next at : ℕ) (heads : List ArchiveHeader) (inputs lefts : List (Option (List ℕ)))
    (its : List ArchiveCursor) (copies : List CopyView) (it : ArchiveCursor) (fault : ChainReadFault)
    → AreRead end next at heads inputs lefts its copies → at < length its
    → ((h : ArchiveHeader) (i : Option (List ℕ))
    → IfSome (get_or inputs at i) (λ bytes. IsMet end next (get_or heads at h) bytes fault))
    → IsFirstMet end heads inputs fault
first_met end next at heads inputs lefts its copies it fault read lt here = record {
  next = next;
  at = at;
  there = omega (arith, read.inputs_count);
  before = λ k h i less.
      right_to end (next + 1) (get_or heads k h) (get_or inputs k i) (get_or lefts k i) (get_or its k it)
      (get_or copies k no_copy) (read.done k h i i it no_copy (omega arith) less);
  here = here;
  behind = λ k h i past below.
      right_to end next (get_or heads k h) (get_or inputs k i) (get_or lefts k i) (get_or its k it)
      (get_or copies k no_copy) (read.due k h i i it no_copy (omega (arith, read.inputs_count, below)) (omega arith));
}

-- what is said of each archive that was gone through, and of each other one
right_each : (end next at : ℕ) (heads : List ArchiveHeader) (inputs lefts : List (Option (List ℕ)))
    (its : List ArchiveCursor) (copies : List CopyView) (it : ArchiveCursor) (k : ℕ) (h : ArchiveHeader)
    (i l : Option (List ℕ)) → AreRead end next at heads inputs lefts its copies → k < length its
    → GaveRight end (get_or heads k h) (get_or inputs k i) (get_or lefts k l)
right_each end next at heads inputs lefts its copies it k h i l read lt = elim (cases_lt k at) [
  | inl less ↦ right_of end (next + 1) (get_or heads k h) (get_or inputs k i) (get_or lefts k l) (get_or its k it)
      (get_or copies k no_copy) (read.done k h i l it no_copy lt less)
  | inr past ↦ right_of end next (get_or heads k h) (get_or inputs k i) (get_or lefts k l) (get_or its k it)
      (get_or copies k no_copy) (read.due k h i l it no_copy lt past)
]

-- the fault of a step is that of all archives
refused_here : (end next at : ℕ) (heads : List ArchiveHeader) (inputs lefts : List (Option (List ℕ)))
    (its : List ArchiveCursor) (copies : List CopyView) (it : ArchiveCursor) (left : Option (List ℕ))
    (fault : ChainReadFault) → AreRead end next at heads inputs lefts its copies → at < length its
    → ((h : ArchiveHeader) (i : Option (List ℕ)) → FailsAt end next (get_or heads at h) (get_or inputs at i) left fault)
    → AreRefused end heads inputs (set lefts at left) fault
refused_here end next at heads inputs lefts its copies it left ReadFault read lt here = λ k h i l below.
    elim (cases_lt k at) [
      | inl less ↦ let ne : k ≢ at = omega arith in
          subst (GaveRight end (get_or heads k h) (get_or inputs k i)) (sym (get_or-set_other lefts at k left l ne))
          (right_each end next at heads inputs lefts its copies it k h i l read (omega arith))
      | inr past ↦ elim (cases_lt at k) [
        | inl behind ↦ let ne : k ≢ at = omega arith in
            subst (GaveRight end (get_or heads k h) (get_or inputs k i)) (sym (get_or-set_other lefts at k left l ne))
            (right_each end next at heads inputs lefts its copies it k h i l read
            (omega (arith, read.inputs_count, below)))
        | inr le ↦ let same : at ≡ k = omega arith in
            subst (λ n. GaveRight end (get_or heads n h) (get_or inputs n i) (get_or (set lefts at left) n l)) same
            (subst (GaveRight end (get_or heads at h) (get_or inputs at i))
            (sym (get_or-set_same lefts at left l (omega (arith, read.lefts_count)))) (here h i))
      ]
    ]
refused_here end next at heads inputs lefts its copies it left OutOfMemory read lt here =
    first_met end next at heads inputs lefts its copies it OutOfMemory read lt here
refused_here end next at heads inputs lefts its copies it left (BadArchive n) read lt here =
    first_met end next at heads inputs lefts its copies it (BadArchive n) read lt here
refused_here end next at heads inputs lefts its copies it left (ChainBroken id) read lt here =
    first_met end next at heads inputs lefts its copies it (ChainBroken id) read lt here
refused_here end next at heads inputs lefts its copies it left CountDiffers read lt here =
    first_met end next at heads inputs lefts its copies it CountDiffers read lt here
refused_here end next at heads inputs lefts its copies it left RedoBeyondLog read lt here =
    first_met end next at heads inputs lefts its copies it RedoBeyondLog read lt here
refused_here end next at heads inputs lefts its copies it left (PageBeyondLog n) read lt here =
    first_met end next at heads inputs lefts its copies it (PageBeyondLog n) read lt here

pub step_refused : (end next at : ℕ) (heads : List ArchiveHeader) (inputs lefts : List (Option (List ℕ)))
    (its : List ArchiveCursor) (old : List CopyView) (this left : Option (List ℕ)) (it : ArchiveCursor)
    (fault : ChainReadFault) → AreReadOn end next at next heads inputs lefts its old → at < length its
    → get_or lefts at this ≡ this → get_or its at it ≡ it
    → ((h : ArchiveHeader) (i : Option (List ℕ)) (copy : CopyView) → HasRead end next h i this it copy
    → FailsAt end next h i left fault)
    → AreRefused end heads inputs (set lefts at left) fault
step_refused end next at heads inputs lefts its old this left it fault on lt of_left of_it step =
    let copies = on.copies in
    let copy = get_or copies at no_copy in
    refused_here end next at heads inputs lefts its copies it left fault on.read lt (λ h i.
    step (get_or heads at h) (get_or inputs at i) copy (moved end next (get_or heads at h) (get_or inputs at i)
    (get_or lefts at this) this (get_or its at it) it copy copy of_left of_it refl
    (on.read.due at h i this it no_copy lt (omega arith))))

-- ---- a page that is given

-- once each archive was read through this moment, the page at hand is the one that follows
pub at_hand : (end p : ℕ) (heads : List ArchiveHeader) (inputs lefts : List (Option (List ℕ)))
    (its : List ArchiveCursor) (copies : List CopyView) → AreRead end (p + 1) 0 heads inputs lefts its copies → AreAtHand its p copies
at_hand end p heads inputs lefts its copies read = record {
  count = read.copies_count;
  each = λ k it copy lt. (read.due k it.header None None it copy lt (omega arith)).hand p (omega arith);
}

abbrev flat : List (List Page) → List Page
flat [] = []
flat (ps ∷ more) = ps ++ flat more

takings_row : (copies : List CopyView) (p : ℕ) → takings copies p ≡ flat (row copies p)
takings_row [] p = refl
takings_row (copy ∷ copies) p =
    ap (λ (ps : List Page). page_of (decision_at copy.pages p) ++ ps) (takings_row copies p)

-- a page is that of the last one in its row
pub row_content : (a b : List CopyView) (p : ℕ) → row a p ≡ row b p → content a p ≡ content b p
row_content a b p same =
    ap (last_of (formatted p)) (takings_row a p ∙ ap (λ (r : List (List Page)). flat r) same ∙ sym (takings_row b p))

-- the page that follows so many is given, between two moments
pub page_given : (end p : ℕ) (heads : List ArchiveHeader) (inputs lefts : List (Option (List ℕ)))
    (its : List ArchiveCursor) (old mid : List CopyView) (page : Page)
    → ((q : ℕ) → q < p → row mid q ≡ row old q)
    → AreReadOn end (p + 1) (length its) (p + 1) heads inputs lefts its mid → page ≡ content mid p
    → IsGiven end p heads inputs lefts its old page
page_given end p heads inputs lefts its old mid page before on is = record {
  copies = on.copies;
  read = subst (λ n. AreRead end n 0 heads inputs lefts its on.copies) two
      (all_read end (p + 1) (length its) heads inputs lefts its on.copies on.read (omega arith));
  same = λ q lt. on.same q (omega arith) ∙ before q lt;
  is = is ∙ row_content mid on.copies p (sym (on.same p (omega arith)));
}
  where
    two : p + 1 + 1 ≡ p + 2
    two = omega arith

-- so is the row that follows
pub row_given : (end p : ℕ) (heads : List ArchiveHeader) (inputs lefts : List (Option (List ℕ)))
    (its : List ArchiveCursor) (old mid : List CopyView) (pages : List (List Page))
    → ((q : ℕ) → q < p → row mid q ≡ row old q)
    → AreReadOn end (p + 1) (length its) (p + 1) heads inputs lefts its mid → pages ≡ row mid p
    → IsRowGiven end p heads inputs lefts its old pages
row_given end p heads inputs lefts its old mid pages before on is = record {
  copies = on.copies;
  read = subst (λ n. AreRead end n 0 heads inputs lefts its on.copies) two
      (all_read end (p + 1) (length its) heads inputs lefts its on.copies on.read (omega arith));
  same = λ q lt. on.same q (omega arith) ∙ before q lt;
  is = is ∙ sym (on.same p (omega arith));
}
  where
    two : p + 1 + 1 ≡ p + 2
    two = omega arith

-- ---- the pages at hand of all archives

pub same_each : {X Y Z : Type 0} (f : X → Z) (g : Y → Z) (xs : List X) (ys : List Y) → length xs ≡ length ys
    → ((k : ℕ) (x : X) (y : Y) → k < length xs → f (get_or xs k x) ≡ g (get_or ys k y)) → map f xs ≡ map g ys
same_each f g [] [] long each = refl
same_each f g [] (y ∷ ys) long each = absurd (omega arith)
same_each f g (x ∷ xs) [] long each = absurd (omega arith)
same_each {Z = Z} f g (x ∷ xs) (y ∷ ys) long each =
    ap (λ (z : Z). z ∷ map f xs) (each 0 x y (omega arith))
    ∙ ap (λ (zs : List Z). g y ∷ zs)
    (same_each f g xs ys (omega arith) (λ k a b lt. each (suc k) a b (omega arith)))

-- they are the row
pub hands_row : (its : List ArchiveCursor) (copies : List CopyView) (p : ℕ) → AreAtHand its p copies
    → map (λ it. hand_at it.page p) its ≡ row copies p
hands_row its copies p hands =
    same_each (λ (it : ArchiveCursor). hand_at it.page p) (λ (copy : CopyView). page_of (decision_at copy.pages p)) its
    copies (sym hands.count) (λ k it copy lt. sym (hands.each k it copy lt))

-- the pages in the places are those at hand
pub places_full : (its : List ArchiveCursor) (places : List (Option Page)) (p : ℕ) → length places ≡ length its
    → ((k : ℕ) (place : Option Page) (it : ArchiveCursor) → k < length its
    → place_list (get_or places k place) ≡ hand_at (get_or its k it).page p)
    → map place_list places ≡ map (λ it. hand_at it.page p) its
places_full its places p long each =
    same_each place_list (λ (it : ArchiveCursor). hand_at it.page p) places its long
    (λ k place it lt. each k place it (omega (arith, long)))

-- an archive that is read on keeps its header
pub heads_set : (its : List ArchiveCursor) (i : ℕ) (it d : ArchiveCursor) → it.header ≡ (get_or its i d).header
    → heads_of (set its i it) ≡ heads_of its
heads_set its i it d same = map-set_same (λ (x : ArchiveCursor). x.header) its i it d same

-- ---- the first page

pub first_moment : (given : ℕ) → given ≤ 0 → moment_of given ≡ 0
first_moment zero none = refl
first_moment (suc n) none = absurd (omega arith)

pub later_moment : (given : ℕ) → 0 < given → moment_of given ≡ given + 1
later_moment zero some = absurd (omega arith)
later_moment (suc n) some = refl

-- the first pages are read, before which no page is given
pub all_on : (end given : ℕ) (heads : List ArchiveHeader) (inputs lefts : List (Option (List ℕ)))
    (its : List ArchiveCursor) (old : List CopyView) → given ≤ 0
    → AreReadOn end 0 (length its) 0 heads inputs lefts its old
    → AreReadOn end (given + 1) 0 given heads inputs lefts its old
all_on end given heads inputs lefts its old none on =
    let one : 0 + 1 ≡ given + 1 = omega arith in
    record {
      copies = on.copies;
      read = subst (λ n. AreRead end n 0 heads inputs lefts its on.copies) one
          (all_read end 0 (length its) heads inputs lefts its on.copies on.read (omega arith));
      same = λ p lt. absurd (omega arith);
    }

-- they were read before
pub on_later : (end given : ℕ) (heads : List ArchiveHeader) (inputs lefts : List (Option (List ℕ)))
    (its : List ArchiveCursor) (copies : List CopyView) → 0 < given
    → AreRead end (moment_of given) 0 heads inputs lefts its copies
    → AreReadOn end (given + 1) 0 given heads inputs lefts its copies
on_later end given heads inputs lefts its copies some read =
    record {
      copies = copies;
      read = subst (λ n. AreRead end n 0 heads inputs lefts its copies) (later_moment given some) read;
      same = λ p lt. refl;
    }

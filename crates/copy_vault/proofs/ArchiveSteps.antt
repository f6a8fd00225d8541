-- An archive that is read page by page: how a step goes on, and why one is refused.
use Rattle.std.proofs.Common.{◌≡◌, ◌≢◌, ℕ, ◌+◌, ◌-◌, ◌*◌, ◌<◌, ◌≤◌, List, [], ◌∷◌, ◌++◌, length, take}
use Rattle.std.proofs.Common.{replicate, refl, sym, ap, ◌∙◌, subst, arith, suc, zero, inl, inr, cond}
use Rattle.std.specs.Prelude.{Option, Some, IfSome}
use Rattle.std.specs.Io.KnownBytes.{Consumes, IsAtEnd}
use Rattle.std.proofs.KnownBytes.{Consumes-trans}
use Rattle.std.proofs.Math.ListN.{get_or-eq_default}
use Rattle.std.proofs.lemmas.Bool.{cases_lt}
use Rattle.std.proofs.lemmas.Bool.Decides.{eqb_tells}
use Rattle.std.proofs.lemmas.List.{append_assoc, append-nil, length-append, length-replicate, length_push}
use Rattle.std.proofs.lemmas.List.{get_or_append_left, get_or_push, nil_from_length, take_at}
use Rattle.page_core.specs.declared.page.Page.{Page}
use Rattle.page_core.specs.Page.{IsPage, page_bytes}
use Rattle.page_core.proofs.Public.{of_input}
use Rattle.page_core.proofs.Public.{length-page_bytes}
use Rattle.copy_vault.specs.declared.archive_cursor.ArchiveCursor.{ArchiveCursor}
use Rattle.copy_vault.specs.declared.chain_read_fault.ChainReadFault.{ChainReadFault}
use Rattle.copy_vault.specs.declared.chain_read_fault.ChainReadFault.TheVariants.{BadArchive, OutOfMemory}
use Rattle.copy_vault.specs.declared.chain_read_fault.ChainReadFault.TheVariants.{ChainBroken, CountDiffers}
use Rattle.copy_vault.specs.declared.chain_read_fault.ChainReadFault.TheVariants.{PageBeyondLog, ReadFault}
use Rattle.copy_vault.specs.declared.chain_read_fault.ChainReadFault.TheVariants.{RedoBeyondLog}
use Rattle.copy_vault.specs.declared.header.ArchiveHeader.{ArchiveHeader}
use Rattle.page_decisions.specs.Decisions.{PageDecision, undecided, taken, kept, decision_at, page_of, taken_count}
use Rattle.copy_vault.specs.Copy.{CopyView}
use Rattle.page_decisions.specs.Decisions.{taken_pages}
use Rattle.copy_vault.specs.Archive.{IsFront, front_bytes}
use Rattle.copy_vault.specs.ArchiveFault.{HasNext}
use Rattle.copy_vault.specs.ArchiveRead.{IsPart, given_for}
use Rattle.copy_vault.specs.ChainRead.{AreBelow, EndsAfter, FailsAt, FindsNoEnd, GaveRight, HasRead, HasReadOn}
use Rattle.copy_vault.specs.ChainRead.{IsMet, IsPageAfter, IsWrongBehind, IsWrongPage, copy_of, hand_at}
use Rattle.page_decisions.proofs.Public.{all_push}
use Rattle.copy_vault.proofs.Fronts.{all_last, front_push, rise_last}
use Rattle.copy_vault.proofs.Parts.{given_push, part_kept, read_push}
use Rattle.page_decisions.proofs.Public.{taken_kept, taken_push}

-- ---- decisions

-- a page that is kept is no page
none_kept : (m p : ℕ) → page_of (decision_at (replicate m kept) p) ≡ []
none_kept zero p = refl
none_kept (suc m) zero = refl
none_kept (suc m) (suc p) = none_kept m p

pub page_with_kept : (xs : List PageDecision) (m p : ℕ)
    → page_of (decision_at (xs ++ replicate m kept) p) ≡ page_of (decision_at xs p)
page_with_kept [] m p = none_kept m p
page_with_kept (x ∷ xs) m zero = refl
page_with_kept (x ∷ xs) m (suc p) = page_with_kept xs m p

-- no page past the last one
pub none_past : (xs : List PageDecision) (p : ℕ) → length xs ≤ p → page_of (decision_at xs p) ≡ []
none_past xs p past = ap page_of (get_or-eq_default xs undecided past)

-- the decisions up to a page, and this page taken
abbrev pub kept_up_to : List PageDecision → ℕ → List PageDecision
kept_up_to xs n = xs ++ replicate (n - length xs) kept

abbrev pub with_page : List PageDecision → Page → List PageDecision
with_page xs page = kept_up_to xs page.number ++ taken page ∷ []

pub length_up_to : (xs : List PageDecision) (n : ℕ) → length xs ≤ n → length (kept_up_to xs n) ≡ n
length_up_to xs n le =
    omega (arith, length-append xs (replicate (n - length xs) kept), length-replicate (n - length xs) kept)

pub taken_with : (xs : List PageDecision) (page : Page) → taken_pages (with_page xs page) ≡ taken_pages xs ++ page ∷ []
taken_with xs page =
    taken_push (kept_up_to xs page.number) (taken page)
    ∙ ap (λ (ps : List Page). ps ++ page ∷ []) (taken_kept (page.number - length xs) xs)

-- what is read below stays
pub same_below : (xs : List PageDecision) (page : Page) (p : ℕ) → length xs ≤ page.number → p < length xs
    → page_of (decision_at (with_page xs page) p) ≡ page_of (decision_at xs p)
same_below xs page p le lt =
    ap page_of (get_or_append_left (kept_up_to xs page.number) (taken page ∷ []) undecided p
    (omega (arith, length_up_to xs page.number le)))
    ∙ page_with_kept xs (page.number - length xs) p

-- behind it just the page stands
pub hand_behind : (xs : List PageDecision) (page : Page) (p : ℕ) → length xs ≤ page.number → length xs ≤ p
    → page_of (decision_at (with_page xs page) p) ≡ hand_at (Some page) p
hand_behind xs page p le past = elim (eqb_tells page.number p) [
  | inl same ↦ ap page_of (get_or_push (kept_up_to xs page.number) (taken page) undecided p
      (length_up_to xs page.number le ∙ same.1))
      ∙ sym (ap (λ b. cond b (page ∷ []) []) same.0)
  | inr other ↦ elsewhere other.1 ∙ sym (ap (λ b. cond b (page ∷ []) []) other.0)
]
  where
    elsewhere : page.number ≢ p → page_of (decision_at (with_page xs page) p) ≡ []
    elsewhere ne = elim (cases_lt p page.number) [
      | inl below ↦ ap page_of (get_or_append_left (kept_up_to xs page.number) (taken page ∷ []) undecided p
          (omega (arith, length_up_to xs page.number le)))
          ∙ page_with_kept xs (page.number - length xs) p ∙ none_past xs p past
      | inr beyond ↦ none_past (with_page xs page) p
          (omega (arith, length_up_to xs page.number le, length_push (kept_up_to xs page.number) (taken page), ne))
    ]

-- ---- a step

-- the next page is read
pub one_more : (end next : ℕ) (h : ArchiveHeader) (input left further : Option (List ℕ)) (it new : ArchiveCursor)
    (copy : CopyView) (page : Page) (bytes : List ℕ) → HasRead end next h input left it copy → it.from ≡ next
    → it.read < h.taken → IsPageAfter it.from it.header.pages bytes page → page.lsn < end → Consumes left further bytes
    → new.header ≡ it.header → new.read ≡ it.read + 1 → new.from ≡ page.number + 1 → new.page ≡ Some page
    → (new.read ≡ h.taken → IsAtEnd further) → HasReadOn end next h input further new copy
one_more end next h input left further it new copy page bytes read due some after below took header count from hand
    ended =
    let old = copy.pages in
    let pages = with_page old page in
    let rises : length old ≤ page.number = omega (arith, after.rises, read.from) in
    let within : page.number < h.pages =
    omega (arith, after.within, ap (λ (k : ArchiveHeader). k.pages) read.header) in
    let place = length_up_to old page.number rises in
    let part : IsPart h (kept_up_to old page.number) =
    part_kept h (page.number - length old) old read.read.part (omega arith) in
    let before : taken_pages (kept_up_to old page.number) ≡ taken_pages old =
    taken_kept (page.number - length old) old in
    let more = taken_with old page in
    let wide : length pages ≡ page.number + 1 =
    omega (arith, place, length_push (kept_up_to old page.number) (taken page)) in
    let counted : taken_count pages ≡ taken_count old + 1 =
    ap length more ∙ length_push (taken_pages old) page ∙ omega arith in
    record {
      copy = copy_of h pages;
      read = record {
        header = header ∙ read.header;
        is = refl;
        read = read_push h (kept_up_to old page.number) page part
            (omega (arith, ap length before, read.count, some)) after.spells.valid (sym place) within;
        count = omega (arith, counted, count, read.count);
        from = omega (arith, wide, from);
        below = subst (AreBelow end) (sym more)
            (all_push (λ (q : Page). q.lsn < end) (taken_pages old) page read.below below);
        given = subst (Consumes input further) (sym (given_push h old pages page bytes more after.spells.spelled))
            (Consumes-trans input left further (given_for h old) bytes read.given took);
        far = inl (omega (arith, wide, read.from, due, rises));
        ended = λ any all. ended (omega (arith, counted, count, read.count, all));
        hand = λ p le. hand_behind old page p rises (omega (arith, read.from, due))
            ∙ sym (ap (λ (o : Option Page). hand_at o p) hand);
      };
      same = λ p lt. same_below old page p rises (omega (arith, read.from, due));
    }

-- ---- a refusal

-- what is wrong behind these bytes is met at this moment
pub met : (end next : ℕ) (h : ArchiveHeader) (input left further : Option (List ℕ)) (it : ArchiveCursor)
    (copy : CopyView) (bytes : List ℕ) (fault : ChainReadFault) → HasRead end next h input left it copy
    → it.from ≡ next → Consumes left further bytes
    → ((rest : List ℕ) → (IsAtEnd further → rest ≡ [])
    → IsWrongBehind end h (taken_pages copy.pages) (bytes ++ rest) fault)
    → IfSome input (λ bs. IsMet end next h bs fault)
met end next h input left further it copy bytes fault read due took wrong =
    let given = given_for h copy.pages in
    of_input input further (given ++ bytes) (λ bs. IsMet end next h bs fault)
    (Consumes-trans input left further given bytes read.given took)
    (λ rest none. record {
      pages = taken_pages copy.pages;
      rest = bytes ++ rest;
      begins = record { front = read.read.part.front; spelled = append_assoc given bytes rest };
      below = read.below;
      moment = sym due ∙ read.from ∙ read.read.next;
      wrong = wrong rest none;
    })

-- what was given is right, where it ends within the next page
pub unread : (end next : ℕ) (h : ArchiveHeader) (input left further : Option (List ℕ)) (it : ArchiveCursor)
    (copy : CopyView) (pending : List ℕ) → HasRead end next h input left it copy → Consumes left further pending
    → length pending < 512 → (it.read ≡ h.taken → pending ≡ []) → GaveRight end h input further
unread end next h input left further it copy pending read took short last = (
  given_for h copy.pages ++ pending,
  (
    Consumes-trans input left further (given_for h copy.pages) pending read.given took,
    record {
      pages = taken_pages copy.pages;
      pending = pending;
      begins = record { front = read.read.part.front; spelled = refl };
      below = read.below;
      short = short;
      last = λ all. last (read.count ∙ all);
    },
  ),
)

-- fewer bytes than a page are none
short_rest : (h : ArchiveHeader) (pages : List Page) (rest : List ℕ) → length rest < 512 → ¬ HasNext h pages rest
short_rest h pages rest short next =
    let valid = all_last IsPage pages next.page next.front.valid in
    omega (
      arith,
      ap length next.spelled,
      length-append (page_bytes next.page) next.more,
      length-page_bytes next.page valid.count,
    )

-- a page that may follow the bytes so far may come next
may_come : (end next : ℕ) (h : ArchiveHeader) (input left : Option (List ℕ)) (it : ArchiveCursor)
    (copy : CopyView) (bytes rest : List ℕ) → HasRead end next h input left it copy → length bytes ≡ 512
    → (found : HasNext h (taken_pages copy.pages) (bytes ++ rest)) → IsPageAfter it.from it.header.pages bytes found.page
may_come end next h input left it copy bytes rest read wide found =
    let valid : IsPage found.page = all_last IsPage (taken_pages copy.pages) found.page found.front.valid in
    let rises = rise_last 0 (taken_pages copy.pages) found.page found.front.rising in
    let below = all_last (λ (p : Page). p.number < h.pages) (taken_pages copy.pages) found.page found.front.within in
    record {
      spells = record {
        valid = valid;
        spelled = sym (take_at bytes rest 512 wide) ∙ ap (take 512) found.spelled
            ∙ take_at (page_bytes found.page) found.more 512 (length-page_bytes found.page valid.count);
      };
      rises = omega (arith, rises, read.read.next, read.from);
      within = omega (arith, below, ap (λ (k : ArchiveHeader). k.pages) read.header);
    }

-- a page that may come next may follow those before it
follows : (end next : ℕ) (h : ArchiveHeader) (input left : Option (List ℕ)) (it : ArchiveCursor)
    (copy : CopyView) (bytes : List ℕ) (page : Page) → HasRead end next h input left it copy → it.read < h.taken
    → IsPageAfter it.from it.header.pages bytes page → IsFront h (taken_pages copy.pages ++ page ∷ [])
follows end next h input left it copy bytes page read some after =
    front_push h (taken_pages copy.pages) page read.read.part.front (omega (arith, read.count, some))
    after.spells.valid (omega (arith, after.rises, read.from, read.read.next))
    (omega (arith, after.within, ap (λ (k : ArchiveHeader). k.pages) read.header))

pub wrong_page : (end next : ℕ) (h : ArchiveHeader) (input left further : Option (List ℕ)) (it : ArchiveCursor)
    (copy : CopyView) (bytes : List ℕ) (fault : ChainReadFault) → HasRead end next h input left it copy
    → it.from ≡ next → it.read < h.taken → Consumes left further bytes → length bytes ≡ 512
    → IsWrongPage end it.read it.from it.header.pages bytes fault → FailsAt end next h input further fault
wrong_page end next h input left further it copy bytes (BadArchive at) read due some took whole wrong =
    met end next h input left further it copy bytes (BadArchive at) read due took (λ rest none. (
      wrong.0 ∙ ap (λ n. 64 + 512 * n) read.count,
      omega (arith, read.count, some),
      omega (arith, length-append bytes rest, whole),
      λ found. wrong.1 found.page (may_come end next h input left it copy bytes rest read whole found),
    ))
wrong_page end next h input left further it copy bytes (PageBeyondLog number) read due some took whole wrong =
    met end next h input left further it copy bytes (PageBeyondLog number) read due took (λ rest none. record {
      page = wrong.0;
      more = rest;
      stands = record {
        front = follows end next h input left it copy bytes wrong.0 read some wrong.1.0;
        spelled = ap (λ (bs : List ℕ). bs ++ rest) wrong.1.0.spells.spelled;
      };
      number_is = wrong.1.1;
      past = wrong.1.2;
    })
wrong_page end next h input left further it copy bytes OutOfMemory read due some took whole wrong = absurd wrong
wrong_page end next h input left further it copy bytes (ChainBroken id) read due some took whole wrong = absurd wrong
wrong_page end next h input left further it copy bytes CountDiffers read due some took whole wrong = absurd wrong
wrong_page end next h input left further it copy bytes ReadFault read due some took whole wrong = absurd wrong
wrong_page end next h input left further it copy bytes RedoBeyondLog read due some took whole wrong = absurd wrong

-- the archive ends within a page
pub cut_page : (end next : ℕ) (h : ArchiveHeader) (input left further : Option (List ℕ)) (it : ArchiveCursor)
    (copy : CopyView) (filled at : ℕ) → HasRead end next h input left it copy → it.from ≡ next → it.read < h.taken
    → EndsAfter filled left further → 0 < filled → filled < 512 → at ≡ 64 + 512 * it.read
    → FailsAt end next h input further (BadArchive at)
cut_page end next h input left further it copy filled at read due some ends nonempty short place =
    let bytes = ends.0 in
    met end next h input left further it copy bytes (BadArchive at) read due ends.1.0 (λ rest none. (
      place ∙ ap (λ n. 64 + 512 * n) read.count,
      omega (arith, read.count, some),
      omega (arith, length-append bytes rest, ends.1.1, nonempty),
      short_rest h (taken_pages copy.pages) (bytes ++ rest)
          (omega (arith, length-append bytes rest, ap length (none ends.1.2), ends.1.1, short)),
    ))

-- the archive ends where a page should stand
pub no_page : (end next : ℕ) (h : ArchiveHeader) (input left further : Option (List ℕ)) (it : ArchiveCursor)
    (copy : CopyView) (filled : ℕ) → HasRead end next h input left it copy → it.from ≡ next → it.read < h.taken
    → EndsAfter filled left further → filled ≡ 0 → FailsAt end next h input further CountDiffers
no_page end next h input left further it copy filled read due some ends empty =
    let bytes = ends.0 in
    met end next h input left further it copy bytes CountDiffers read due ends.1.0 (λ rest none. inl (
      omega (arith, read.count, some),
      nil_from_length (bytes ++ rest)
          (omega (arith, length-append bytes rest, ap length (none ends.1.2), ends.1.1, empty)),
    ))

-- bytes follow the last page, or the reader failed before it gave more
pub no_end : (end next : ℕ) (h : ArchiveHeader) (input left mid further : Option (List ℕ)) (it : ArchiveCursor)
    (copy : CopyView) (page : Page) (bytes : List ℕ) (fault : ChainReadFault)
    → HasRead end next h input left it copy → it.from ≡ next → it.read + 1 ≡ h.taken → IsPageAfter it.from it.header.pages bytes page
    → page.lsn < end → Consumes left mid bytes → FindsNoEnd mid further fault
    → FailsAt end next h input further fault
no_end end next h input left mid further it copy page bytes CountDiffers read due last after below took found =
    met end next h input left further it copy (bytes ++ found.0) CountDiffers read due
    (Consumes-trans left mid further bytes found.0 took found.1.0) (λ rest none. inr (inr (record {
      page = page;
      more = found.0 ++ rest;
      stands = record {
        front = follows end next h input left it copy bytes page read (omega (arith, last)) after;
        spelled = append_assoc bytes found.0 rest
            ∙ ap (λ (bs : List ℕ). bs ++ (found.0 ++ rest)) after.spells.spelled;
      };
      below = below;
      last = omega (arith, read.count, last);
      some = omega (arith, length-append found.0 rest, found.1.1);
    })))
no_end end next h input left mid further it copy page bytes ReadFault read due last after below took found =
    let more = front_push h (taken_pages copy.pages) page read.read.part.front (omega (arith, read.count, last))
    after.spells.valid (omega (arith, after.rises, read.from, read.read.next))
    (omega (arith, after.within, ap (λ (k : ArchiveHeader). k.pages) read.header)) in
    let pages = with_page copy.pages page in
    let is = given_push h copy.pages pages page bytes (taken_with copy.pages page) after.spells.spelled in (
      given_for h pages,
      (
        subst (Consumes input further) (append-nil (given_for h copy.pages ++ bytes) ∙ sym is)
            (Consumes-trans input mid further (given_for h copy.pages ++ bytes) []
            (Consumes-trans input left mid (given_for h copy.pages) bytes read.given took) found),
        record {
          pages = taken_pages copy.pages ++ page ∷ [];
          pending = [];
          begins = record {
            front = more;
            spelled = ap (front_bytes h) (taken_with copy.pages page)
                ∙ sym (append-nil (front_bytes h (taken_pages copy.pages ++ page ∷ [])));
          };
          below = all_push (λ (q : Page). q.lsn < end) (taken_pages copy.pages) page read.below below;
          short = omega arith;
          last = λ all. refl;
        },
      ),
    )
no_end end next h input left mid further it copy page bytes OutOfMemory read due last after below took found =
    absurd found
no_end end next h input left mid further it copy page bytes (BadArchive at) read due last after below took found =
    absurd found
no_end end next h input left mid further it copy page bytes (ChainBroken id) read due last after below took found =
    absurd found
no_end end next h input left mid further it copy page bytes RedoBeyondLog read due last after below took found =
    absurd found
no_end end next h input left mid further it copy page bytes (PageBeyondLog n) read due last after below took found =
    absurd found

-- bytes follow a header without pages, or the reader failed before it gave more
pub no_end_empty : (end next : ℕ) (h : ArchiveHeader) (input left further : Option (List ℕ)) (it : ArchiveCursor)
    (copy : CopyView) (fault : ChainReadFault) → HasRead end next h input left it copy → it.from ≡ next
    → h.taken ≡ 0 → FindsNoEnd left further fault → FailsAt end next h input further fault
no_end_empty end next h input left further it copy CountDiffers read due none found =
    met end next h input left further it copy found.0 CountDiffers read due found.1.0 (λ rest ended. inr (inl (
      nil_from_length (taken_pages copy.pages) (omega (arith, none, read.read.part.front.few)),
      none,
      omega (arith, length-append found.0 rest, found.1.1),
    )))
no_end_empty end next h input left further it copy ReadFault read due none found =
    unread end next h input left further it copy [] read found (omega arith) (λ all. refl)
no_end_empty end next h input left further it copy OutOfMemory read due none found = absurd found
no_end_empty end next h input left further it copy (BadArchive at) read due none found = absurd found
no_end_empty end next h input left further it copy (ChainBroken id) read due none found = absurd found
no_end_empty end next h input left further it copy RedoBeyondLog read due none found = absurd found
no_end_empty end next h input left further it copy (PageBeyondLog n) read due none found = absurd found

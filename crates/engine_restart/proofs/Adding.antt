-- A copy of an older life is taken up.
use Rattle.std.proofs.Common.{◌≡◌, ℕ, zero, suc, ◌+◌, ◌-◌, ◌*◌, ◌<◌, ◌≤◌, List, [], ◌∷◌, ◌++◌, append_assoc, length, replicate, reverse}
use Rattle.std.proofs.Common.{refl, sym, ap, subst, ◌∙◌, arith, inl, inr, take}
use Rattle.std.specs.Prelude.{Some, None, Result, Ok, Err, OnOk, OnErr, nat_le, nat_lt}
use Rattle.std.proofs.Common.{Bool, true, false, cond}
use Rattle.std.proofs.lemmas.Bool.{cases_eq, cases_lt, leb-false, ltb-false}
use Rattle.std.proofs.lemmas.List.{append-nil, get_or_past, length-append, length-replicate, reverse-append}
use Rattle.page_core.specs.declared.page.Page.{Page}
use Rattle.log_records.specs.Coverage.{Covers, IsPast}
use Rattle.log_records.specs.Log.{IsLog, Log, lsn_of, page_count}
use Rattle.log_records.specs.Image.{image}
use Rattle.log_records.specs.declared.record.Record.{Record}
use Rattle.log_records.proofs.Public.{lsn-image}
use Rattle.copy_vault.specs.declared.copy_id.CopyKind.{CopyKind}
use Rattle.copy_vault.specs.declared.copy_id.CopyKind.TheVariants.{Full, Inc}
use Rattle.copy_vault.specs.declared.copy_id.TheConstants.{MAX_COPIES}
use Rattle.copy_vault.specs.declared.add_fault.AddFault.{AddFault}
use Rattle.copy_vault.specs.declared.add_fault.AddFault.TheVariants.{IdGiven, NoParent, TooManyCopies}
use Rattle.copy_vault.specs.Added.{add_refusal, lacks_parent, with_copy}
use Rattle.copy_vault.specs.Chain.{content, last_of}
use Rattle.page_decisions.specs.Decisions.{AreDecidedBelow, PageDecision, decision_at, page_of, undecided}
use Rattle.copy_vault.specs.Copy.{CopyView, IsComplete}
use Rattle.copy_vault.specs.Vault.{CopyState, HasParent, complete, dropped, reading, state_of}
use Rattle.copy_vault.proofs.Public.{parent_there}
use Rattle.copy_vault.proofs.Public.{GoesOn}
use Rattle.copy_coverage.specs.Copied.{AreCopied, AreRestorable, IsCopyOf, IsCovered, StandsOn, copy_in}
use Rattle.copy_coverage.proofs.Public.{restorable}
use Rattle.copy_coverage.proofs.Public.{count_below-not_more, formatted_is_past, later_covers, lsn_of_formatted}
use Rattle.copy_coverage.proofs.Public.{IsChanged, MayStand, complete_same, copied_changed, opened_changes}
use Rattle.engine_rules.specs.Resumed.{MayResume}
use Rattle.engine_restart.specs.Added.{MayAdd}
use Rattle.engine_restart.proofs.Stands.{behind_is, content_push}

-- ---- the ids that are passed over, and the copy

on_both : (a b c : List CopyState) → GoesOn a b → GoesOn b c → GoesOn a c
on_both a b c first then = record { stays = λ id copy is. then.stays id copy (first.stays id copy is) }

skipped_on : (copies : List CopyState) (n : ℕ) → GoesOn copies (copies ++ replicate n dropped)
skipped_on copies zero =
    subst (GoesOn copies) (sym (append-nil copies)) (record { stays = λ id copy is. is })
skipped_on copies (suc n) =
    let next : List CopyState = copies ++ dropped ∷ [] in
    subst (GoesOn copies) (append_assoc copies (dropped ∷ []) (replicate n dropped))
    (on_both copies next (next ++ replicate n dropped) (opened_changes copies dropped).on (skipped_on next n))

-- an id that is passed over is as one that was not given
skipped_same : (copies : List CopyState) (n j : ℕ) → state_of (copies ++ replicate n dropped) j ≡ state_of copies j
skipped_same copies zero j = ap (λ (cs : List CopyState). state_of cs j) (append-nil copies)
skipped_same copies (suc n) j =
    let next : List CopyState = copies ++ dropped ∷ [] in
    ap (λ (cs : List CopyState). state_of cs j) (sym (append_assoc copies (dropped ∷ []) (replicate n dropped)))
    ∙ skipped_same next n j ∙ one j
  where
    none : (k : ℕ) → length copies ≤ k → state_of copies (k + 1) ≡ dropped
    none k past = let next : k + 1 ≡ suc k = omega arith in ap (state_of copies) next ∙ get_or_past copies k dropped past

    one : (j : ℕ) → state_of (copies ++ dropped ∷ []) j ≡ state_of copies j
    one j = elim (cases_eq j (length copies + 1)) [
      | inl at ↦
          let here : state_of (copies ++ dropped ∷ []) j ≡ dropped =
          ap (state_of (copies ++ dropped ∷ [])) at ∙ (opened_changes copies dropped).here in
          let was : state_of copies j ≡ dropped = ap (state_of copies) at ∙ none (length copies) (omega arith) in
          here ∙ sym was
      | inr other ↦ (opened_changes copies dropped).others j other
    ]

pub added_changes : (copies : List CopyState) (copy : CopyView) → length copies < copy.id
    → IsChanged copies (with_copy copies copy) copy.id (complete copy)
added_changes copies copy after =
    let n = copy.id - 1 - length copies in
    let before : List CopyState = copies ++ replicate n dropped in
    let long : length before ≡ length copies + n =
    length-append copies (replicate n dropped) ∙ ap (λ (k : ℕ). length copies + k) (length-replicate n dropped) in
    let place : length before + 1 ≡ copy.id = omega (arith, long, after) in
    let last = opened_changes before (complete copy) in
    record {
      here = ap (state_of (before ++ complete copy ∷ [])) (sym place) ∙ last.here;
      others = λ j other. last.others j (λ e. other (e ∙ place)) ∙ skipped_same copies n j;
      on = on_both copies before (before ++ complete copy ∷ []) (skipped_on copies n) last.on;
    }

pub added_length : (copies : List CopyState) (copy : CopyView) → length copies < copy.id
    → length (with_copy copies copy) ≡ copy.id
added_length copies copy after =
    let n = copy.id - 1 - length copies in
    let before : List CopyState = copies ++ replicate n dropped in
    let long : length before ≡ length copies + n =
    length-append copies (replicate n dropped) ∙ ap (λ (k : ℕ). length copies + k) (length-replicate n dropped) in
    let all : length (before ++ complete copy ∷ []) ≡ length before + 1 = length-append before (complete copy ∷ []) in
    omega (arith, long, all, after)

-- ---- copies that are restorable, none of which is being read

some_same : (a b : CopyView) → Some a ≡ Some b → a ≡ b
some_same a b e = cc

is_complete : (state : CopyState) (copy : CopyView) → copy_in state ≡ Some copy → ¬ (state ≡ reading copy)
    → state ≡ complete copy
is_complete (reading it) copy is none = absurd (none (ap reading (some_same it copy is)))
is_complete (complete it) copy is none = ap complete (some_same it copy is)
is_complete dropped copy is none = cc

as_copied : (log : Log) (f : ℕ) (copies : List CopyState) → AreRestorable log f copies
    → ((id : ℕ) (copy : CopyView) → ¬ (state_of copies id ≡ reading copy)) → AreCopied log f [] copies
as_copied log f copies are none = record {
  few = are.few;
  each = λ id copy is. are.each id copy (is_complete (state_of copies id) copy is (none id copy));
  decided = are.decided;
  read = λ id copy is. absurd (none id copy is);
  covered = λ id copy older is on p done.
      are.covered id copy older (is_complete (state_of copies id) copy is (none id copy)) on p;
}

-- a page of the log's past is older than the log's end
nothing_of_none : (k : ℕ) → take {A = Record} k [] ≡ []
nothing_of_none zero = refl
nothing_of_none (suc k) = refl

past_low : (log : Log) (p k : ℕ) → IsLog log → k ≤ length log.records → (image (take k log.records) p).lsn ≤ 64 * k
past_low log p k valid le = by_first log.records refl
  where
    by_first : (rs : List Record) → log.records ≡ rs → (image (take k log.records) p).lsn ≤ 64 * k
    by_first [] e =
        let none : take k log.records ≡ [] = ap (take k) e ∙ nothing_of_none k in
        let zero_is : (image (take k log.records) p).lsn ≡ 0 =
        ap (λ (rs : List Record). (image rs p).lsn) none ∙ lsn_of_formatted p in
        omega (arith, zero_is)
    by_first (r ∷ rs) e = lsn-image log valid p k r le

past_is_older : (log : Log) (p : ℕ) (page : Page) → IsLog log → IsPast log.records p page
    → page.lsn < lsn_of (length log.records)
past_is_older log p page valid past =
    let low : page.lsn ≤ 64 * past.count =
    subst (λ (q : Page). q.lsn ≤ 64 * past.count) (sym past.made) (past_low log p past.count valid past.within) in
    omega (arith, low, past.within)

-- ---- the copy that is taken up

module _ (log : Log) (copies : List CopyState) (copy : CopyView) (valid : IsLog log)
    (may : MayResume log copies) (add : MayAdd log copies copy) where
  abbrev end : ℕ
  end = lsn_of (length log.records)

  -- what it stands on is of the log's past, page by page
  older_past : (older : List CopyView) → StandsOn copies copy.kind older → (p : ℕ)
      → IsPast log.records p (content (reverse older) p)
  older_past older on p = by_kind copy.kind older on
    where
      by_kind : (kind : CopyKind) (older : List CopyView) → StandsOn copies kind older
          → IsPast log.records p (content (reverse older) p)
      by_kind Full older on =
          subst (λ (cs : List CopyView). IsPast log.records p (content (reverse cs) p)) (sym on)
          (formatted_is_past log.records p)
      by_kind (Inc parent) [] on = absurd on
      by_kind (Inc parent) (one ∷ more) on = (may.restorable.covered parent one more on.0 on.1 p).covers.past

  covers_at : (older : List CopyView) → StandsOn copies copy.kind older → (p : ℕ)
      → Covers log.records p (content (reverse older ++ copy ∷ []) p) copy.redo
  covers_at older on p = elim (cases_lt p (page_count log)) [
    | inl lt ↦
        subst (λ (cs : List CopyView). Covers log.records p (content (cs ++ copy ∷ []) p) copy.redo)
        (sym (behind_is copies copy.kind add.older older add.behind on)) (add.sound p lt)
    | inr past ↦
        let few : length copy.pages ≤ page_count log =
        omega (arith, add.begins.whole, count_below-not_more log copy.begin) in
        let none : decision_at copy.pages p ≡ undecided = get_or_past copy.pages p undecided (omega (arith, few, past)) in
        let same : content (reverse older ++ copy ∷ []) p ≡ content (reverse older) p =
        content_push (reverse older) copy p
        ∙ ap (λ (d : PageDecision). last_of (content (reverse older) p) (page_of d)) none in
        subst (λ (q : Page). Covers log.records p q copy.redo) (sym same)
        (later_covers log p copy.redo (content (reverse older) p) valid
        (omega (arith, past, count_below-not_more log copy.redo)) (older_past older on p))
  ]

  covered_at : (older : List CopyView) → StandsOn copies copy.kind older → (p : ℕ)
      → IsCovered log.records end copy.redo p (content (reverse (copy ∷ older)) p)
  covered_at older on p =
      let turned : reverse (copy ∷ older) ≡ reverse older ++ copy ∷ [] = reverse-append (copy ∷ []) older in
      let covers = covers_at older on p in
      subst (λ (cs : List CopyView). IsCovered log.records end copy.redo p (content cs p)) (sym turned) (record {
        covers = covers;
        stable = past_is_older log p (content (reverse older ++ copy ∷ []) p) valid covers.past;
      })

  not_reading : (a b : CopyView) → ¬ (complete a ≡ reading b)
  not_reading a b e = cc

  may_stand : IsComplete copy.kind copy.pages → length copies < copy.id → lacks_parent copies copy.kind ≡ false
      → MayStand log end [] copies copy.id (complete copy)
  may_stand whole after has = record {
    each = λ it is. subst (IsCopyOf log end copies copy.id) (some_same copy it is) (record {
      named = refl;
      noted = add.begins.noted;
      early = add.begins.within;
      whole = add.begins.whole;
      parent = subst (λ (cs : List CopyState). HasParent cs copy.id copy.kind) (append-nil copies)
          (parent_there copies [] copy.kind copy.id after has);
      in_place = whole.in_place;
      keeps = whole.keeps;
    });
    decided = λ it is. subst (λ (c : CopyView). AreDecidedBelow (length c.pages) c.pages) (complete_same copy it is)
        whole.decided;
    read = λ it is. absurd (not_reading copy it is);
    covered = λ it older is on p done.
        let same = some_same copy it is in
        subst (λ (c : CopyView). IsCovered log.records end c.redo p (content (reverse (c ∷ older)) p)) same
        (covered_at older (subst (λ (c : CopyView). StandsOn copies c.kind older) (sym same) on) p);
  }

  pub may_resume : IsComplete copy.kind copy.pages → length copies < copy.id → copy.id ≤ MAX_COPIES
      → lacks_parent copies copy.kind ≡ false → MayResume log (with_copy copies copy)
  may_resume whole after few has =
      let changed = added_changes copies copy after in
      let copied = copied_changed log end [] copies (with_copy copies copy) copy.id (complete copy) changed
      (omega (arith, added_length copies copy after, few)) (as_copied log end copies may.restorable may.none_read)
      (may_stand whole after has) in
      record {
        linked = may.linked;
        closed = may.closed;
        restorable = restorable log end [] (with_copy copies copy) copied;
        none_read = λ id it is. elim (cases_eq id copy.id) [
          | inl same ↦ not_reading copy it (sym changed.here ∙ ap (state_of (with_copy copies copy)) (sym same) ∙ is)
          | inr other ↦ may.none_read id it (sym (changed.others id other) ∙ is)
        ];
        noted = λ id it is. add.begins.complete;
      }

-- ---- what a vault says of it

passed : (id : ℕ) (copies : List CopyState) (a b c : Bool) (x y z : AddFault)
    → cond a (Some x) (cond b (Some y) (cond c (Some z) None)) ≡ None → (a ≡ false) × (b ≡ false) × (c ≡ false)
passed id copies true b c x y z e = cc
passed id copies false true c x y z e = cc
passed id copies false false true x y z e = cc
passed id copies false false false x y z e = (refl, refl, refl)

resumes_with : (log : Log) (copies : List CopyState) (copy : CopyView) → IsLog log → MayResume log copies
    → MayAdd log copies copy → IsComplete copy.kind copy.pages → add_refusal copies copy ≡ None
    → MayResume log (with_copy copies copy)
resumes_with log copies copy valid may add whole fine =
    let is = passed copy.id copies (nat_le copy.id (length copies)) (nat_lt MAX_COPIES copy.id)
    (lacks_parent copies copy.kind) IdGiven TooManyCopies NoParent fine in
    may_resume log copies copy valid may add whole (leb-false copy.id (length copies) is.0)
    (ltb-false MAX_COPIES copy.id is.1) is.2

pub after_add : {T E : Type 0} (log : Log) (copies new : List CopyState) (copy : CopyView) (result : Result T E)
    → IsLog log → MayResume log copies → MayAdd log copies copy → IsComplete copy.kind copy.pages
    → OnOk result (new ≡ with_copy copies copy) → OnOk result (add_refusal copies copy ≡ None)
    → OnErr result (new ≡ copies) → MayResume log new
after_add log copies new copy (Ok it) valid may add whole added fine same =
    subst (MayResume log) (sym added) (resumes_with log copies copy valid may add whole fine)
after_add log copies new copy (Err why) valid may add whole added fine same = subst (MayResume log) (sym same) may

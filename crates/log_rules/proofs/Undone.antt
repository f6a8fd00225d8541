-- A linked log in which no transaction is open has the committed number in each slot.
use Rattle.std.proofs.Common.{◌≡◌, ◌≢◌, ℕ, ◌^◌, ◌<◌, Bool, true, false, cond, ◌&&◌, eqb, List, [], lit<, slice_index_or}
use Rattle.std.proofs.Common.{◌∷◌, ◌++◌, map, All, sym, refl, ap, ap₂, subst, subst₂, ◌∙◌, arith, append_assoc}
use Rattle.std.proofs.Common.{append-nil, eqb-true}
use Rattle.std.specs.Option.{option_map_or}
use Rattle.std.specs.Prelude.{None}
use Rattle.std.specs.List.{flat_map, list_any, range_with_len}
use Rattle.std.proofs.lemmas.Bool.{and_parts}
use Rattle.std.proofs.lemmas.List.{get_or-replicate}
use Rattle.std.proofs.lemmas.List.Elements.{All-append, All-cons, All-nil}
use Rattle.page_core.specs.declared.change.Change.{Change}
use Rattle.page_core.specs.declared.page.TheConstants.{SLOTS}
use Rattle.page_core.specs.Page.{formatted}
use Rattle.std.proofs.lemmas.List.FromFn.{fill_by_all}
use Rattle.page_core.specs.Change.{Replaces, changed, kind_of, undo_of}
use Rattle.log_rules.specs.declared.pending_change.PendingChange.{PendingChange}
use Rattle.log_records.specs.declared.record.Record.{Record}
use Rattle.log_records.specs.declared.record.Record.TheVariants.{Begin, Update, Comp, Commit, Abort, End, BeginChkpt}
use Rattle.log_records.specs.declared.record.Record.TheVariants.{ChkptPages, ChkptTxns, EndChkpt, Extend}
use Rattle.log_records.specs.Record.{IsChange, IsRecord, change_of}
use Rattle.log_rules.specs.Transactions.{begun_by, is_last, txn_of, is_open, keeps_out, open_in, pending}
use Rattle.log_rules.specs.Transactions.{without_last}
use Rattle.log_records.specs.Image.{image}
use Rattle.log_records.specs.Log.{IsLog, Log}
use Rattle.log_rules.specs.Linked.{Compensates, IsLinked, MayFollow, number_in}
use Rattle.log_rules.specs.Committed.{Values, committed, with_changes, with_commit}
use Rattle.log_rules.proofs.Histories.{along_linked}
use Rattle.log_rules.proofs.Begun.{next_is_new, none_before_begin}
use Rattle.log_rules.proofs.Chains.{AddsWith, leads_to, Apart, Leads, changed_by, leads_pop, leads_push}
use Rattle.log_rules.proofs.Slots.{slots_of_image, after_change, apart_from_free, changes_on, changes_on-append}
use Rattle.log_rules.proofs.Slots.{committed_push, is_on, number_in_push, with_changes_on}
use Rattle.log_rules.proofs.Fronts.{all_front}
use Rattle.log_rules.proofs.Owned.{HasChange, free_of, last_change, own, own_push, own_valid}
use Rattle.log_rules.proofs.Settled.{accounts_aside, Accounts, Explain, accounts_begun, accounts_ended, accounts_kept}

-- ---- each kind of record

now_committed : (rs : List Record) (r : Record) (page slot : ℕ)
    → committed (rs ++ r ∷ []) page slot ≡ with_commit rs (committed rs) r page slot
now_committed rs r page slot = ap (λ (values : Values). values page slot) (committed_push rs r)

-- the changes of one on the slot, which are one or none
abbrev alone : Bool → PendingChange → List Change
alone on p = map (λ q. q.change) (cond on (p ∷ []) [])

-- an Update's change joins those of its transaction
update_leads : (cs ds : List Change) (p : PendingChange) (on : Bool) (from to : ℕ)
    → (on ≡ true → Replaces p.change to) → Leads (cs ++ ds) from to
    → Leads (cs ++ (ds ++ alone on p)) from (cond on (changed p.change to) to)
update_leads cs ds p true from to replaces leads =
    let pushed = leads_push (cs ++ ds) p.change from to leads (replaces refl) in
    subst (λ es. Leads es from (changed p.change to)) (append_assoc cs ds (p.change ∷ [])) pushed
update_leads cs ds p false from to replaces leads =
    subst (λ es. Leads (cs ++ es) from to) (sym (append-nil ds)) leads

-- a Comp takes the last one back
comp_leads : (cs ds : List Change) (p : PendingChange) (on : Bool) (from to : ℕ)
    → All IsChange (cs ++ (ds ++ alone on p)) → from < 2 ^ 64 → Leads (cs ++ (ds ++ alone on p)) from to
    → Leads (cs ++ ds) from (cond on (changed (undo_of p.change) to) to)
comp_leads cs ds p true from to valid fits leads =
    let same = sym (append_assoc cs ds (p.change ∷ [])) in
    let valid_all = subst (All IsChange) same valid in
    leads_pop (cs ++ ds) p.change from to valid_all fits (subst (λ es. Leads es from to) same leads)
comp_leads cs ds p false from to valid fits leads = subst (λ es. Leads (cs ++ es) from to) (append-nil ds) leads

-- a change that the slot's other changes leave free, and they, are Adds
alone_apart : (page slot : ℕ) (p : PendingChange) (qs : List PendingChange)
    → list_any (keeps_out p.page p.slot (kind_of p.change)) qs ≡ false → (on : Bool) → is_on page slot p ≡ on
    → Apart (alone on p) (changes_on page slot qs)
alone_apart page slot p qs free true on =
    let parts = and_parts (eqb p.page page) (eqb p.slot slot) on in
    let Free : ℕ → ℕ → Type 0 = λ m n. AddsWith (changes_on m n qs) p.change in
    let here : Free p.page p.slot = apart_from_free p.page p.slot p.change qs free in
    let there = subst₂ Free (eqb-true p.page page parts.0) (eqb-true p.slot slot parts.1) here in
    let P = AddsWith (changes_on page slot qs) in
    All-cons P p.change [] there (All-nil P)
alone_apart page slot p qs free false on = All-nil (AddsWith (changes_on page slot qs))

module _ (rs : List Record) (page slot : ℕ) (linked : IsLinked rs) (valid : All HasChange rs)
    (known : Accounts rs page slot) (within : slot < SLOTS) where
  -- a record that is no Commit, with its transaction's changes and the number after it
  explained : (r : Record) (cs now ds : List Change) (to : ℕ)
      → committed (rs ++ r ∷ []) page slot ≡ committed rs page slot
      → now ≡ ds → number_in (rs ++ r ∷ []) page slot ≡ to → Leads (cs ++ ds) (committed rs page slot) to
      → Explain (rs ++ r ∷ []) page slot (cs ++ now)
  explained r cs now ds to same_committed is reaches leads =
      subst (λ es. Explain (rs ++ r ∷ []) page slot (cs ++ es)) (sym is)
      (subst₂ (Leads (cs ++ ds)) (sym same_committed) (sym reaches) leads)

  apart_now : (t u : ℕ) → is_open rs t ≡ true → u ≢ t → is_open rs u ≡ true
      → Apart (own rs page slot t) (own rs page slot u)
  apart_now t u still other still_u = known.apart t u still still_u (λ same. other (sym same))

  accounts_update : (lsn t prev on_page on_slot : ℕ) (change : Change)
      → MayFollow rs (Update lsn t prev on_page on_slot change)
      → Accounts (rs ++ Update lsn t prev on_page on_slot change ∷ []) page slot
  accounts_update lsn t prev on_page on_slot change may =
      let r = Update lsn t prev on_page on_slot change in
      let p : PendingChange = record { lsn = lsn; prev = prev; page = on_page; slot = on_slot; change = change } in
      let still = may.active.goes_on.still_open in
      let on = is_on page slot p in
      let before = own rs page slot t in
      let number = number_in rs page slot in
      let now = own_push rs r page slot ∙ changes_on-append page slot (pending rs t) (p ∷ []) in
      let replaces = λ (is : on ≡ true).
      let parts = and_parts (eqb on_page page) (eqb on_slot slot) is in
      let here = λ (m n : ℕ). Replaces change (number_in rs m n) in
      subst₂ here (eqb-true on_page page parts.0) (eqb-true on_slot slot parts.1) may.replaces in
      let same_committed = now_committed rs r page slot in
      let apart = λ (u : ℕ) (other : u ≢ t) (still_u : is_open rs u ≡ true).
      let free = free_of rs on_page on_slot (kind_of change) t may.free u other still_u in
      let joined = alone_apart page slot p (pending rs u) free on refl in
      let P = AddsWith (own rs page slot u) in
      subst (All P) (sym now) (All-append P before (alone on p) (apart_now t u still other still_u) joined) in
      accounts_kept rs page slot linked valid known r refl refl still same_committed apart (λ cs valid_cs leads.
      explained r cs _ (before ++ alone on p) _ same_committed now (number_in_push rs r page slot within)
      (update_leads cs before p on (committed rs page slot) number replaces leads))

  accounts_comp : (lsn t prev undo_next on_page on_slot : ℕ) (change : Change)
      → MayFollow rs (Comp lsn t prev undo_next on_page on_slot change)
      → Accounts (rs ++ Comp lsn t prev undo_next on_page on_slot change ∷ []) page slot
  accounts_comp lsn t prev undo_next on_page on_slot change may =
      let r = Comp lsn t prev undo_next on_page on_slot change in
      let still = may.0.still_open in
      let from = committed rs page slot in
      let number = number_in rs page slot in
      let last = last_change (pending rs t) (Compensates undo_next on_page on_slot change) may.1 in
      let p = last.0 in
      let on = is_on page slot p in
      let mine = own rs page slot t in
      let kept = without_last (pending rs t) in
      let rest = changes_on page slot kept in
      let before = ap (changes_on page slot) last.1 ∙ changes_on-append page slot kept (p ∷ []) in
      let now : own (rs ++ r ∷ []) page slot t ≡ rest = own_push rs r page slot in
      let after = λ (is : Bool) (c : Change). cond is (changed c number) number in
      let reaches = number_in_push rs r page slot within
      ∙ ap₂ (λ m n. after (eqb m page && eqb n slot) change) last.2.same_page last.2.same_slot
      ∙ ap (after on) last.2.undoes in
      let same_committed = now_committed rs r page slot in
      let apart = λ (u : ℕ) (other : u ≢ t) (still_u : is_open rs u ≡ true).
      let P = AddsWith (own rs page slot u) in
      let apart_before = subst (All P) before (apart_now t u still other still_u) in
      subst (All P) (sym now) (all_front P rest (alone on p) apart_before) in
      let undo = λ (cs : List Change) (valid_cs : All IsChange cs) (leads : Explain rs page slot (cs ++ mine)).
      let valid_mine = subst (All IsChange) before (own_valid rs page slot t valid) in
      let valid_all = All-append IsChange cs (rest ++ alone on p) valid_cs valid_mine in
      let leads_all = subst (λ ds. Leads (cs ++ ds) from number) before leads in
      comp_leads cs rest p on from number valid_all known.fits leads_all in
      accounts_kept rs page slot linked valid known r refl refl still same_committed apart (λ cs valid_cs leads.
      explained r cs _ rest _ same_committed now reaches (undo cs valid_cs leads))

  -- a record that changes nothing
  same_number : (r : Record) → change_of r ≡ None → number_in (rs ++ r ∷ []) page slot ≡ number_in rs page slot
  same_number r none =
      let number = number_in rs page slot in
      number_in_push rs r page slot within ∙ ap (λ o. option_map_or (after_change page slot number) o number) none

  accounts_abort : (lsn t prev : ℕ) → MayFollow rs (Abort lsn t prev)
      → Accounts (rs ++ Abort lsn t prev ∷ []) page slot
  accounts_abort lsn t prev may =
      let r = Abort lsn t prev in
      let still = may.goes_on.still_open in
      let mine = own rs page slot t in
      let now : own (rs ++ r ∷ []) page slot t ≡ mine = own_push rs r page slot in
      let same_committed = now_committed rs r page slot in
      let apart = λ (u : ℕ) (other : u ≢ t) (still_u : is_open rs u ≡ true).
      subst (All (AddsWith (own rs page slot u))) (sym now) (apart_now t u still other still_u) in
      accounts_kept rs page slot linked valid known r refl refl still same_committed apart (λ cs valid_cs leads.
      explained r cs _ mine _ same_committed now (same_number r refl) leads)

  accounts_commit : (lsn t prev : ℕ) → MayFollow rs (Commit lsn t prev)
      → Accounts (rs ++ Commit lsn t prev ∷ []) page slot
  accounts_commit lsn t prev may =
      let r = Commit lsn t prev in
      let still = may.goes_on.still_open in
      let made = now_committed rs r page slot ∙ with_changes_on (pending rs t) (committed rs) page slot in
      accounts_ended rs page slot linked valid known r refl refl still made (same_number r refl)

  accounts_end : (lsn t prev : ℕ) → MayFollow rs (End lsn t prev) → Accounts (rs ++ End lsn t prev ∷ []) page slot
  accounts_end lsn t prev may =
      let r = End lsn t prev in
      let from = committed rs page slot in
      let made = now_committed rs r page slot ∙ ap (λ ps. changed_by (changes_on page slot ps) from) (sym may.1) in
      accounts_ended rs page slot linked valid known r refl refl may.0.still_open made (same_number r refl)

  accounts_of_none : (r : Record) → begun_by r ≡ None → is_last r ≡ false → txn_of r ≡ 0 → change_of r ≡ None
      → with_commit rs (committed rs) r page slot ≡ committed rs page slot → Accounts (rs ++ r ∷ []) page slot
  accounts_of_none r none more no_txn changes commits =
      accounts_aside rs page slot linked valid known r none more no_txn (now_committed rs r page slot ∙ commits)
      (same_number r changes)

  accounts_push : (r : Record) → MayFollow rs r → Accounts (rs ++ r ∷ []) page slot
  accounts_push (Begin lsn t) may =
      let r = Begin lsn t in
      let next = may.next in
      let new = next_is_new rs linked t (omega arith) in
      let none = none_before_begin rs linked t (omega arith) new in
      let same_committed = now_committed rs r page slot in
      accounts_begun rs page slot linked valid known lsn t new none same_committed (same_number r refl)
  accounts_push (Update lsn t prev on_page on_slot change) may = accounts_update lsn t prev on_page on_slot change may
  accounts_push (Comp lsn t prev undo_next on_page on_slot change) may =
      accounts_comp lsn t prev undo_next on_page on_slot change may
  accounts_push (Commit lsn t prev) may = accounts_commit lsn t prev may
  accounts_push (Abort lsn t prev) may = accounts_abort lsn t prev may
  accounts_push (End lsn t prev) may = accounts_end lsn t prev may
  accounts_push (BeginChkpt lsn) may = accounts_of_none (BeginChkpt lsn) refl refl refl refl refl
  accounts_push (ChkptPages lsn begin pages) may = accounts_of_none (ChkptPages lsn begin pages)
      refl refl refl refl refl
  accounts_push (ChkptTxns lsn begin t state last undo) may =
      accounts_of_none (ChkptTxns lsn begin t state last undo) refl refl refl refl refl
  accounts_push (EndChkpt lsn begin redo) may = accounts_of_none (EndChkpt lsn begin redo) refl refl refl refl refl
  accounts_push (Extend lsn pages) may = accounts_of_none (Extend lsn pages) refl refl refl refl refl

-- ---- each slot of a linked log

pub accounts : (page slot : ℕ) → slot < SLOTS → (rs : List Record) → IsLinked rs → All HasChange rs
    → Accounts rs page slot
unfolding formatted
accounts page slot within = along_linked (λ rs. All HasChange rs → Accounts rs page slot) none more
  where
    none : All HasChange [] → Accounts [] page slot
    none valid = record {
      fits = lit< tt;
      apart = λ o u still_o still_u other. cc;
      leads = sym (get_or-replicate SLOTS slot 0 0 within);
    }

    more : (rs : List Record) (r : Record) → IsLinked rs → MayFollow rs r
        → (All HasChange rs → Accounts rs page slot) → All HasChange (rs ++ r ∷ []) → Accounts (rs ++ r ∷ []) page slot
    more rs r linked may before valid =
        let valid_rs = all_front HasChange rs (r ∷ []) valid in
        accounts_push rs page slot linked valid_rs (before valid_rs) within r may

pending_on : (rs : List Record) (page slot : ℕ) (os : List ℕ)
    → changes_on page slot (flat_map (pending rs) os) ≡ flat_map (own rs page slot) os
pending_on rs page slot [] = refl
pending_on rs page slot (o ∷ os) =
    changes_on-append page slot (pending rs o) (flat_map (pending rs) os)
    ∙ ap (λ cs. own rs page slot o ++ cs) (pending_on rs page slot os)

-- the number is the committed one with the pending changes on top
pub number_is : (rs : List Record) (page slot : ℕ) → slot < SLOTS → IsLinked rs → All HasChange rs
    → number_in rs page slot ≡ with_changes (committed rs) (flat_map (pending rs) (open_in rs)) page slot
number_is rs page slot within linked valid =
    let from = committed rs page slot in
    let leads = (accounts page slot within rs linked valid).leads in
    sym
    (with_changes_on (flat_map (pending rs) (open_in rs)) (committed rs) page slot
    ∙ ap (λ cs. changed_by cs from) (pending_on rs page slot (open_in rs))
    ∙ leads_to (flat_map (own rs page slot) (open_in rs)) from (number_in rs page slot) leads)

-- so it is the committed one where no transaction is open
pub number_is_committed : (rs : List Record) (page slot : ℕ) → slot < SLOTS → IsLinked rs → All HasChange rs
    → open_in rs ≡ [] → number_in rs page slot ≡ committed rs page slot
number_is_committed rs page slot within linked valid closed =
    number_is rs page slot within linked valid
    ∙ ap (λ os. with_changes (committed rs) (flat_map (pending rs) os) page slot) closed

pub slots_are_committed : (rs : List Record) (page : ℕ) → IsLinked rs → All HasChange rs → open_in rs ≡ []
    → (image rs page).slots ≡ map (committed rs page) (range_with_len 0 SLOTS)
slots_are_committed rs page linked valid closed =
    fill_by_all (committed rs page) (image rs page).slots SLOTS 0 (slots_of_image rs page) (λ slot within.
    number_is_committed rs page slot within linked valid closed)

-- ---- the records of a log

pub changes_of_log : (log : Log) → IsLog log → All HasChange log.records
changes_of_log log valid = λ i d within.
    has_change (slice_index_or log.records i d) (valid.records i d within).valid
  where
    has_change : (r : Record) → IsRecord r → HasChange r
    has_change (Update lsn t prev page slot change) is = is.3.change
    has_change (Comp lsn t prev undo_next page slot change) is = is.3.change
    has_change r is = tt

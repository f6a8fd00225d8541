-- The copies of a vault, and what stays as they change.
use Rattle.std.proofs.Common.{◌≡◌, ℕ, ◌+◌, ◌-◌, ◌<◌, List, [], ◌∷◌, ◌++◌, length, get_or, map, refl, sym, ap, subst}
use Rattle.std.proofs.Common.{◌∙◌, arith, suc, zero, inl, inr, true, false}
use Rattle.std.specs.Prelude.{slice_set, slice_index_or}
use Rattle.std.proofs.Math.ListN.{get_or-eq_default, get_or-map}
use Rattle.std.proofs.lemmas.Bool.{cases_lt}
use Rattle.std.proofs.lemmas.List.{length-set, length-map, map-set, map-append, get_or-set_same, get_or-set_other}
use Rattle.std.proofs.lemmas.List.{get_or_append_left, get_or_push, length_push}
use Rattle.std.proofs.lemmas.List.{get_or_default, set-get_or}
use Rattle.std.specs.Prelude.{Result, Ok, Err, IfOk, OnOk, OnErr, None, IsSome}
use Rattle.page_core.specs.declared.page.Page.{Page}
use Rattle.copy_vault.specs.declared.copy_id.Decision.{Decision}
use Rattle.copy_vault.specs.declared.fault.CopyFault.{CopyFault}
use Rattle.copy_vault.specs.declared.copy_id.CopyKind.{CopyKind}
use Rattle.copy_vault.specs.declared.copy_id.CopyKind.TheVariants.{Full, Inc}
use Rattle.copy_vault.specs.declared.vault.VaultEntry.{VaultEntry}
use Rattle.copy_vault.specs.declared.vault.VaultEntry.TheVariants as entry
use Rattle.page_decisions.specs.Decisions.{decision_at, undecided}
use Rattle.copy_vault.specs.Copy.{CopyView, answer_of, decided_by, with_decision}
use Rattle.copy_vault.specs.Reading.{ReadingView}
use Rattle.copy_vault.specs.Vault.{CopyState, reading, complete, dropped, state_of, since_of, redo_of}
use Rattle.copy_vault.specs.Vault.{HasParent, IsOfId, IsOfVault, IsVault, state_in, with_state, answer_in, decided_in}
use Rattle.copy_vault.specs.Vault.{decided}
use Rattle.copy_vault.specs.Vault.{seal_refusal, drop_refusal, sealed_in, room_in, reading_of, pages_read}

-- every copy that is complete stays as it is
pub record GoesOn (old new : List CopyState) : Type 0 where
  pub stays : (id : ℕ) (copy : CopyView) → state_of old id ≡ complete copy → state_of new id ≡ complete copy

stays_in_set : (copies : List CopyState) (k : ℕ) (s : CopyState)
    → ((copy : CopyView) → ¬ (slice_index_or copies k dropped ≡ complete copy)) → (id : ℕ) (copy : CopyView)
    → state_of copies id ≡ complete copy → state_of (slice_set copies k s) id ≡ complete copy
stays_in_set copies k s none zero copy is = is
stays_in_set copies k s none (suc j) copy is =
    elim (cases_lt j k) [
      | inl lt ↦ get_or-set_other copies k j s dropped (λ e. omega arith) ∙ is
      | inr le ↦ elim (cases_lt k j) [
        | inl lt ↦ get_or-set_other copies k j s dropped (λ e. omega arith) ∙ is
        | inr ge ↦ let same : j ≡ k = omega arith in
            absurd (none copy (ap (λ n. slice_index_or copies n dropped) (sym same) ∙ is))
      ]
    ]

pub goes_on_set : (copies : List CopyState) (k : ℕ) (s : CopyState)
    → ((copy : CopyView) → ¬ (slice_index_or copies k dropped ≡ complete copy)) → GoesOn copies (slice_set copies k s)
goes_on_set copies k s none = record { stays = stays_in_set copies k s none }

stays_in_push : (copies : List CopyState) (s : CopyState) (id : ℕ) (copy : CopyView)
    → state_of copies id ≡ complete copy → state_of (copies ++ s ∷ []) id ≡ complete copy
stays_in_push copies s zero copy is = is
stays_in_push copies s (suc j) copy is =
    elim (cases_lt j (length copies)) [
      | inl lt ↦ get_or_append_left copies (s ∷ []) dropped j lt ∙ is
      | inr le ↦ let gone : slice_index_or copies j dropped ≡ dropped = get_or-eq_default copies dropped le in cc
    ]

pub goes_on_push : (copies : List CopyState) (s : CopyState) → GoesOn copies (copies ++ s ∷ [])
goes_on_push copies s = record { stays = stays_in_push copies s }

parent_stays : (old new : List CopyState) (id : ℕ) (kind : CopyKind) → GoesOn old new → HasParent old id kind
    → HasParent new id kind
parent_stays old new id Full on h = tt
parent_stays old new id (Inc parent) on h = record {
  before = h.before;
  copy = h.copy;
  is_complete = on.stays parent h.copy h.is_complete;
}

since_stays : (old new : List CopyState) (id : ℕ) (kind : CopyKind) → GoesOn old new → HasParent old id kind
    → since_of old kind ≡ since_of new kind
since_stays old new id Full on h = refl
since_stays old new id (Inc parent) on h =
    ap redo_of (h.is_complete ∙ sym (on.stays parent h.copy h.is_complete))

of_id_stays : (old new : List CopyState) (id : ℕ) (copy : CopyView) → GoesOn old new → IsOfId old id copy
    → IsOfId new id copy
of_id_stays old new id copy on h = record {
  id_is = h.id_is;
  parent = parent_stays old new id copy.kind on h.parent;
}

pub kept_stays : (old new : List CopyState) (id : ℕ) (e : VaultEntry) → GoesOn old new → IsOfVault old id e → IsOfVault new id e
kept_stays old new id (entry.Reading it) on h = (
  of_id_stays old new id it.copy on h.0,
  h.1 ∙ since_stays old new id it.copy.kind on h.0.parent,
)
kept_stays old new id (entry.Complete copy) on h = of_id_stays old new id copy on h
kept_stays old new id entry.Dropped on h = tt

-- what is kept of a copy, and its state
pub state_at : (entries : List VaultEntry) (k : ℕ)
    → slice_index_or (map state_in entries) k dropped ≡ state_in (get_or entries k entry.Dropped)
state_at entries k = get_or-map state_in entries k entry.Dropped

-- a copy that is not complete is another one from now on
pub vault_set : (entries : List VaultEntry) (k : ℕ) (e : VaultEntry) → IsVault entries → k < length entries
    → ((copy : CopyView) → ¬ (slice_index_or (map state_in entries) k dropped ≡ complete copy))
    → IsOfVault (map state_in entries) (k + 1) e → IsVault (slice_set entries k e)
vault_set entries k e vault lt none new =
    let old = map state_in entries in
    let on : GoesOn old (map state_in (slice_set entries k e)) =
    subst (GoesOn old) (sym (map-set state_in entries k e)) (goes_on_set old k (state_in e) none) in
    let after = map state_in (slice_set entries k e) in
    record {
      few = omega (arith, vault.few, length-set entries k e);
      each = λ j. elim (cases_lt j k) [
        | inl lt ↦ subst (IsOfVault after (j + 1)) (sym (get_or-set_other entries k j e entry.Dropped (λ s. omega arith)))
            (kept_stays old after (j + 1) (get_or entries j entry.Dropped) on (vault.each j))
        | inr le ↦ elim (cases_lt k j) [
          | inl lt ↦ subst (IsOfVault after (j + 1))
              (sym (get_or-set_other entries k j e entry.Dropped (λ s. omega arith)))
              (kept_stays old after (j + 1) (get_or entries j entry.Dropped) on (vault.each j))
          | inr ge ↦ let same : k ≡ j = omega arith in
              subst (λ n. IsOfVault after (n + 1) (get_or (slice_set entries k e) n entry.Dropped)) same
              (subst (IsOfVault after (k + 1)) (sym (get_or-set_same entries k e entry.Dropped lt))
              (kept_stays old after (k + 1) e on new))
        ]
      ];
    }

-- a copy more
pub vault_push : (entries : List VaultEntry) (e : VaultEntry) → IsVault entries → length entries < 1024
    → IsOfVault (map state_in entries) (length entries + 1) e → IsVault (entries ++ e ∷ [])
vault_push entries e vault room new =
    let old = map state_in entries in
    let after = map state_in (entries ++ e ∷ []) in
    let on : GoesOn old after =
    subst (GoesOn old) (sym (map-append state_in entries (e ∷ []))) (goes_on_push old (state_in e)) in
    record {
      few = omega (arith, length_push entries e);
      each = λ j. elim (cases_lt j (length entries)) [
        | inl lt ↦ subst (IsOfVault after (j + 1)) (sym (get_or_append_left entries (e ∷ []) entry.Dropped j lt))
            (kept_stays old after (j + 1) (get_or entries j entry.Dropped) on (vault.each j))
        | inr le ↦ elim (cases_lt (length entries) j) [
          | inl past ↦ subst (IsOfVault after (j + 1))
              (sym (get_or-eq_default (entries ++ e ∷ []) entry.Dropped (omega (arith, length_push entries e)))) tt
          | inr ge ↦ let same : length entries ≡ j = omega arith in
              subst (λ n. IsOfVault after (n + 1) (get_or (entries ++ e ∷ []) n entry.Dropped)) same
              (subst (IsOfVault after (length entries + 1))
              (sym (get_or_push entries e entry.Dropped (length entries) refl))
              (kept_stays old after (length entries + 1) e on new))
        ]
      ];
    }

-- ---- the copy of an id

pub state_here : (entries : List VaultEntry) (k id : ℕ) (e : VaultEntry) → id ≡ k + 1 → k < length entries
    → e ≡ get_or entries k e → state_of (map state_in entries) id ≡ state_in e
state_here entries k zero e place lt is = absurd (omega arith)
state_here entries k (suc j) e place lt is =
    let same : j ≡ k = omega arith in
    ap (λ n. slice_index_or (map state_in entries) n dropped) same ∙ state_at entries k
    ∙ ap state_in (get_or_default entries k entry.Dropped e lt ∙ sym is)

pub set_state : (entries : List VaultEntry) (k id : ℕ) (e : VaultEntry) (s : CopyState) → id ≡ k + 1 → state_in e ≡ s
    → map state_in (slice_set entries k e) ≡ with_state (map state_in entries) id s
set_state entries k id e s place is =
    let back : k ≡ id - 1 = omega arith in
    map-set state_in entries k e ∙ ap (slice_set (map state_in entries) k) is
    ∙ ap (λ n. slice_set (map state_in entries) n s) back

-- a copy that is being read has an id, and stands there
pub record StandsAt (entries : List VaultEntry) (id : ℕ) (s : CopyState) : Type 0 where
  pub place : id ≡ (id - 1) + 1
  pub there : id - 1 < length entries
  pub state_is : state_in (get_or entries (id - 1) entry.Dropped) ≡ s

stands_at_next : (entries : List VaultEntry) (j : ℕ) (copy : CopyView)
    → slice_index_or (map state_in entries) j dropped ≡ reading copy → StandsAt entries (suc j) (reading copy)
stands_at_next entries j copy is =
    let back : suc j - 1 ≡ j = omega arith in
    record {
      place = omega arith;
      there = elim (cases_lt j (length entries)) [
        | inl lt ↦ omega arith
        | inr le ↦ let gone : slice_index_or (map state_in entries) j dropped ≡ dropped =
            get_or-eq_default (map state_in entries) dropped (omega (arith, length-map entries state_in)) in
            absurd (not_reading copy (sym gone ∙ is))
      ];
      state_is = ap (λ n. state_in (get_or entries n entry.Dropped)) back ∙ sym (state_at entries j) ∙ is;
    }
  where
    not_reading : (copy : CopyView) → ¬ (dropped ≡ reading copy)
    not_reading copy e = cc

pub stands_at : (entries : List VaultEntry) (id : ℕ) (copy : CopyView)
    → state_of (map state_in entries) id ≡ reading copy → StandsAt entries id (reading copy)
stands_at entries zero copy is = cc
stands_at entries (suc j) copy is = stands_at_next entries j copy is

-- ---- a copy that is read on

not_complete : (s : CopyState) (it copy : CopyView) → s ≡ reading it → ¬ (s ≡ complete copy)
not_complete s it copy is e = let same : reading it ≡ complete copy = sym is ∙ e in cc

pub vault_read : (entries : List VaultEntry) (k : ℕ) (it new : ReadingView) → IsVault entries → k < length entries
    → get_or entries k entry.Dropped ≡ entry.Reading it → new.copy.id ≡ it.copy.id → new.copy.kind ≡ it.copy.kind
    → new.since ≡ it.since → IsVault (slice_set entries k (entry.Reading new))
vault_read entries k it new vault lt is id_is kind_is since_is =
    let copies = map state_in entries in
    let here : IsOfVault copies (k + 1) (entry.Reading it) = subst (IsOfVault copies (k + 1)) is (vault.each k) in
    vault_set entries k (entry.Reading new) vault lt
    (λ copy. not_complete (slice_index_or copies k dropped) it.copy copy (state_at entries k ∙ ap state_in is)) (
      record {
        id_is = id_is ∙ here.0.id_is;
        parent = subst (HasParent copies (k + 1)) (sym kind_is) here.0.parent;
      },
      since_is ∙ here.1 ∙ ap (since_of copies) (sym kind_is),
    )

-- what it answers, and what is then decided
pub answer_here : (entries : List VaultEntry) (k : ℕ) (it : ReadingView) (page : Page) → IsVault entries
    → get_or entries k entry.Dropped ≡ entry.Reading it
    → answer_of it.since page ≡ answer_in (map state_in entries) (reading it.copy) page
answer_here entries k it page vault is =
    let copies = map state_in entries in
    let here : IsOfVault copies (k + 1) (entry.Reading it) = subst (IsOfVault copies (k + 1)) is (vault.each k) in
    ap (λ n. answer_of n page) here.1

pub decided_here : (entries : List VaultEntry) (k id p : ℕ) (it new : ReadingView) (page : Page) (answer : Decision)
    → IsVault entries → k < length entries → id ≡ k + 1 → get_or entries k entry.Dropped ≡ entry.Reading it
    → answer ≡ answer_of it.since page → new.copy ≡ with_decision it.copy p (decided_by answer page)
    → map state_in (slice_set entries k (entry.Reading new)) ≡ decided (map state_in entries) id p page
decided_here entries k id p it new page answer vault lt place is answer_is new_is =
    let copies = map state_in entries in
    let state : state_of copies id ≡ reading it.copy =
    state_here entries k id (entry.Reading it) place lt
    (sym is ∙ get_or_default entries k entry.Dropped (entry.Reading it) lt) in
    let same : answer ≡ answer_in copies (reading it.copy) page = answer_is ∙ answer_here entries k it page vault is in
    set_state entries k id (entry.Reading new) (decided_in copies (reading it.copy) p page) place
    (ap reading (new_is ∙ ap (λ a. with_decision it.copy p (decided_by a page)) same))
    ∙ ap (λ s. with_state copies id (decided_in copies s p page)) (sym state)

-- ---- a copy that is sealed or dropped

sealed_was : (s : CopyState) → seal_refusal s ≡ None → (copy : CopyView) × (s ≡ reading copy)
sealed_was (reading copy) e = (copy, refl)
sealed_was (complete copy) e = cc
sealed_was dropped e = cc

dropped_was : (s : CopyState) → drop_refusal s ≡ None → (copy : CopyView) × (s ≡ reading copy)
dropped_was (reading copy) e = (copy, refl)
dropped_was (complete copy) e = cc
dropped_was dropped e = cc

kept_of_reading : (copies : List CopyState) (id : ℕ) (e : VaultEntry) (copy : CopyView) → IsOfVault copies id e
    → state_in e ≡ reading copy → IsOfId copies id copy
kept_of_reading copies id (entry.Reading it) copy h is =
    let same : it.copy ≡ copy = cc in subst (IsOfId copies id) same h.0
kept_of_reading copies id (entry.Complete other) copy h is = cc
kept_of_reading copies id entry.Dropped copy h is = cc

kept_of_complete : (copies : List CopyState) (id : ℕ) (e : VaultEntry) (copy : CopyView) → state_in e ≡ complete copy
    → IsOfId copies id copy → IsOfVault copies id e
kept_of_complete copies id (entry.Reading it) copy is h = cc
kept_of_complete copies id (entry.Complete other) copy is h =
    let same : copy ≡ other = cc in subst (IsOfId copies id) same h
kept_of_complete copies id entry.Dropped copy is h = cc

pub seal_keeps : (entries : List VaultEntry) (k : ℕ) (old new : VaultEntry) (r : Result ℕ CopyFault) → IsVault entries
    → k < length entries → old ≡ get_or entries k old → OnOk r (seal_refusal (state_in old) ≡ None)
    → OnOk r (state_in new ≡ sealed_in (state_in old)) → OnErr r (new ≡ old) → IsVault (slice_set entries k new)
seal_keeps entries k old new (Ok taken) vault lt is fine sealed same =
    let copies = map state_in entries in
    let was = sealed_was (state_in old) fine in
    let here : get_or entries k entry.Dropped ≡ old = get_or_default entries k entry.Dropped old lt ∙ sym is in
    let kept : IsOfVault copies (k + 1) old = subst (IsOfVault copies (k + 1)) here (vault.each k) in
    vault_set entries k new vault lt
    (λ copy. not_complete (slice_index_or copies k dropped) was.0 copy
    (state_at entries k ∙ ap state_in here ∙ was.1))
    (kept_of_complete copies (k + 1) new was.0 (sealed ∙ ap sealed_in was.1)
    (kept_of_reading copies (k + 1) old was.0 kept was.1))
seal_keeps entries k old new (Err fault) vault lt is fine sealed same =
    subst IsVault (sym (ap (slice_set entries k) (same ∙ is) ∙ set-get_or entries k old)) vault

pub drop_keeps : (entries : List VaultEntry) (k : ℕ) (old new : VaultEntry) (r : Result Unit CopyFault) → IsVault entries
    → k < length entries → old ≡ get_or entries k old → OnOk r (drop_refusal (state_in old) ≡ None)
    → OnOk r (new ≡ entry.Dropped) → OnErr r (new ≡ old) → IsVault (slice_set entries k new)
drop_keeps entries k old new (Ok none) vault lt is fine gone same =
    let copies = map state_in entries in
    let was = dropped_was (state_in old) fine in
    let here : get_or entries k entry.Dropped ≡ old = get_or_default entries k entry.Dropped old lt ∙ sym is in
    vault_set entries k new vault lt
    (λ copy. not_complete (slice_index_or copies k dropped) was.0 copy
    (state_at entries k ∙ ap state_in here ∙ was.1)) (subst (IsOfVault copies (k + 1)) (sym gone) tt)
drop_keeps entries k old new (Err fault) vault lt is fine gone same =
    subst IsVault (sym (ap (slice_set entries k) (same ∙ is) ∙ set-get_or entries k old)) vault

pub kept_lent : (copies : List CopyState) (id : ℕ) (e : VaultEntry) (r : Result CopyView CopyFault)
    → IsOfVault copies id e → IfOk r (λ copy. state_in e ≡ complete copy) → IfOk r (IsOfId copies id)
kept_lent copies id (entry.Reading it) (Ok copy) h is = cc
kept_lent copies id (entry.Complete other) (Ok copy) h is =
    let same : other ≡ copy = cc in subst (IsOfId copies id) same h
kept_lent copies id entry.Dropped (Ok copy) h is = cc
kept_lent copies id e (Err fault) h is = tt

-- ---- a new copy

pub kept_new : (entries : List VaultEntry) (id : ℕ) (it : ReadingView) → it.copy.id ≡ id
    → HasParent (map state_in entries) id it.copy.kind
    → it.since ≡ since_of (map state_in entries) it.copy.kind
    → IsOfVault (map state_in entries) id (entry.Reading it)
kept_new entries id it id_is parent since_is = (record { id_is = id_is; parent = parent }, since_is)

pub state_there : (entries : List VaultEntry) (copies : List CopyState) (k id : ℕ) (e : VaultEntry)
    → map state_in entries ≡ copies → id ≡ k + 1 → k < length entries → e ≡ get_or entries k e
    → state_of copies id ≡ state_in e
state_there entries copies k id e same place lt is =
    ap (λ cs. state_of cs id) (sym same) ∙ state_here entries k id e place lt is

pub kept_there : (entries : List VaultEntry) (copies : List CopyState) (k id : ℕ) (e : VaultEntry) → IsVault entries
    → map state_in entries ≡ copies → id ≡ k + 1 → k < length entries → e ≡ get_or entries k e → IsOfVault copies id e
kept_there entries copies k id e vault same place lt is =
    let here : get_or entries k entry.Dropped ≡ e = get_or_default entries k entry.Dropped e lt ∙ sym is in
    subst (λ cs. IsOfVault cs id e) same (subst (λ n. IsOfVault (map state_in entries) n e) (sym place)
    (subst (IsOfVault (map state_in entries) (k + 1)) here (vault.each k)))

-- room was made for a copy that is being read
pub room_made : (entries : List VaultEntry) (k : ℕ) (it : ReadingView) → k < length entries → it.has_room ≡ true
    → get_or (map room_in (slice_set entries k (entry.Reading it))) k false ≡ true
room_made entries k it lt room =
    ap (λ bs. get_or bs k false) (map-set room_in entries k (entry.Reading it))
    ∙ get_or-set_same (map room_in entries) k it.has_room false (omega (arith, length-map entries room_in)) ∙ room

pub is_reading : (e : VaultEntry) (copy : CopyView) → state_in e ≡ reading copy
    → (it : ReadingView) × (e ≡ entry.Reading it)
is_reading (entry.Reading it) copy is = (it, refl)
is_reading (entry.Complete other) copy is = cc
is_reading entry.Dropped copy is = cc

-- the entry of a copy that is being read
pub entry_read : (entries : List VaultEntry) (copies : List CopyState) (number id : ℕ) (copy : CopyView) (e : VaultEntry)
    → map state_in entries ≡ copies → number ≡ id → state_of copies id ≡ reading copy
    → e ≡ get_or entries (number - 1) e
    → StandsAt entries number (reading copy) × (get_or entries (number - 1) entry.Dropped ≡ e)
    × (state_in e ≡ reading copy)
entry_read entries copies number id copy e same place is here =
    let stands = stands_at entries number copy (ap (λ cs. state_of cs number) same ∙ ap (state_of copies) place ∙ is) in
    let default : get_or entries (number - 1) entry.Dropped ≡ e =
    get_or_default entries (number - 1) entry.Dropped e stands.there ∙ sym here in
    (stands, default, ap state_in (sym default) ∙ stands.state_is)

pub same_state : (entries : List VaultEntry) (k : ℕ) (it new : ReadingView)
    → get_or entries k entry.Dropped ≡ entry.Reading it → new.copy ≡ it.copy
    → map state_in (slice_set entries k (entry.Reading new)) ≡ map state_in entries
same_state entries k it new is copy_is =
    let copies = map state_in entries in
    map-set state_in entries k (entry.Reading new)
    ∙ ap (slice_set copies k) (ap reading copy_is ∙ sym (state_at entries k ∙ ap state_in is))
    ∙ set-get_or copies k dropped

pub same_copy : (it : ReadingView) (e : VaultEntry) (copy : CopyView) → e ≡ entry.Reading it → state_in e ≡ reading copy
    → it.copy ≡ copy
same_copy it e copy is state = let same : reading it.copy ≡ reading copy = ap state_in (sym is) ∙ state in cc

-- ---- what a caller says of a copy that is being read

pub was_reading : (s : CopyState) → IsSome (reading_of s) → (copy : CopyView) × (s ≡ reading copy)
was_reading (reading copy) some = (copy, refl)
was_reading (complete copy) some = cc
was_reading dropped some = cc

pub was_undecided : (s : CopyState) (n : ℕ) → n < length (pages_read s) → decision_at (pages_read s) n ≡ undecided
    → (copy : CopyView) × (s ≡ reading copy) × (n < length copy.pages) × (decision_at copy.pages n ≡ undecided)
was_undecided (reading copy) n lt none = (copy, refl, lt, none)
was_undecided (complete copy) n lt none = absurd (omega arith)
was_undecided dropped n lt none = absurd (omega arith)

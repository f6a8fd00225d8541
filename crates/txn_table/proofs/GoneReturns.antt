-- The Comps of a log that go back to savepoints, where those of ended transactions may be left out.
use Rattle.std.proofs.Common.{◌≡◌, ℕ, suc, ◌+◌, ◌≤◌, Bool, true, false, cond, not, ◌&&◌, eqb}
use Rattle.std.proofs.Common.{List, [], ◌∷◌, ◌++◌, append_assoc, length, length-append, refl, sym, ap, subst, ◌∙◌}
use Rattle.std.proofs.Common.{inl, inr, arith, eqb-true, true≢false}
use Rattle.std.specs.Prelude.{Contains, Option, None, Some}
use Rattle.std.specs.List.{All, list_any}
use Rattle.std.specs.Option.{option_to_list}
use Rattle.std.proofs.lemmas.Bool.{cases_eq}
use Rattle.std.proofs.lemmas.List.{append-nil}
use Rattle.std.proofs.lemmas.List.Elements.{All-append, All-nil, All-push, All-weaker}
use Rattle.std.proofs.lemmas.List.Elements.{Contains-append_cases, Contains-append_right}
use Rattle.std.proofs.lemmas.Map.Views.{any-filter_same}
use Rattle.log_records.specs.declared.record.Record.{Record}
use Rattle.log_records.specs.declared.record.Record.TheVariants.{Begin, Update, Comp, Commit, Abort}
use Rattle.log_records.specs.declared.record.Record.TheVariants.{End, BeginChkpt}
use Rattle.log_records.specs.declared.record.Record.TheVariants.{ChkptPages, ChkptTxns, EndChkpt, Extend}
use Rattle.log_rules.specs.Linked.{IsLinked, MayFollow}
use Rattle.log_rules.specs.Transactions.{begun, begun_by, is_last, is_open, is_rolling, open_in, pending, txn_of}
use Rattle.log_rules.specs.Transactions.{without_last}
use Rattle.log_rules.proofs.Public.{along_linked, begun_bounds, filter_map_push, is_open_push_other}
use Rattle.log_rules.proofs.Public.{is_open_push_own, open_has_begun}
use Rattle.txn_table.specs.declared.returns.Return.{Return}
use Rattle.txn_table.specs.Returns.{AreRising, HasReturns, return_of, returns_of}
use Rattle.txn_table.proofs.Stacks.{returns_push}
use Rattle.txn_table.proofs.Going.{return_at}

-- ---- one record more

more_begun : (rs : List Record) (r : Record) → length (begun rs) ≤ length (begun (rs ++ r ∷ []))
more_begun rs r =
    let now : begun (rs ++ r ∷ []) ≡ begun rs ++ option_to_list (begun_by r) = filter_map_push begun_by rs r in
    omega (arith, ap (length {A = ℕ}) now, length-append (begun rs) (option_to_list (begun_by r)))

shut_stays : (rs : List Record) (r : Record) (t : ℕ) → begun_by r ≡ None → is_open rs t ≡ false
    → is_open (rs ++ r ∷ []) t ≡ false
shut_stays rs r t none shut = elim (cases_eq (txn_of r) t) [
  | inl same ↦ is_open_push_own rs r t none same ∙ ap (λ b. b && not (is_last r)) shut
  | inr other ↦ is_open_push_other rs r t other ∙ shut
]

-- a transaction that has ended stays so: each new one has a new number
stays_ended : (rs : List Record) (r : Record) (t : ℕ) → MayFollow rs r → t ≤ length (begun rs)
    → is_open rs t ≡ false → is_open (rs ++ r ∷ []) t ≡ false
stays_ended rs (Begin lsn txn) t may low shut =
    let next : txn ≡ length (begun rs) + 1 = may.next in
    is_open_push_other rs (Begin lsn txn) t (λ same. absurd (omega (arith, next, same, low))) ∙ shut
stays_ended rs (Update lsn txn prev page slot change) t may low shut =
    shut_stays rs (Update lsn txn prev page slot change) t refl shut
stays_ended rs (Comp lsn txn prev undo_next page slot change) t may low shut =
    shut_stays rs (Comp lsn txn prev undo_next page slot change) t refl shut
stays_ended rs (Commit lsn txn prev) t may low shut = shut_stays rs (Commit lsn txn prev) t refl shut
stays_ended rs (Abort lsn txn prev) t may low shut = shut_stays rs (Abort lsn txn prev) t refl shut
stays_ended rs (End lsn txn prev) t may low shut = shut_stays rs (End lsn txn prev) t refl shut
stays_ended rs (BeginChkpt lsn) t may low shut = shut_stays rs (BeginChkpt lsn) t refl shut
stays_ended rs (ChkptPages lsn begin pages) t may low shut = shut_stays rs (ChkptPages lsn begin pages) t refl shut
stays_ended rs (ChkptTxns lsn begin txn state last undo) t may low shut =
    shut_stays rs (ChkptTxns lsn begin txn state last undo) t refl shut
stays_ended rs (EndChkpt lsn begin redo) t may low shut = shut_stays rs (EndChkpt lsn begin redo) t refl shut
stays_ended rs (Extend lsn pages) t may low shut = shut_stays rs (Extend lsn pages) t refl shut

-- what it shows comes behind them
pub returns_more : (rs : List Record) (r : Record) (made : List Return) (back : Option Return) → HasReturns rs made
    → MayFollow rs r → back ≡ return_of rs r → HasReturns (rs ++ r ∷ []) (made ++ option_to_list back)
returns_more rs r made back has may is = record {
  gone = has.gone;
  all = returns_push rs r ∙ ap (λ xs. xs ++ option_to_list (return_of rs r)) has.all
      ∙ append_assoc has.gone made (option_to_list (return_of rs r))
      ∙ ap (λ o. has.gone ++ (made ++ option_to_list o)) (sym is);
  past = has.past;
  within = let within = has.within in omega (arith, within, more_begun rs r);
  older = has.older;
  ended = λ t le. let within = has.within in
      stays_ended rs r t may (omega (arith, le, within)) (has.ended t le);
}

-- where it shows nothing, they stay
pub returns_stay : (rs : List Record) (r : Record) (made : List Return) → return_of rs r ≡ None → MayFollow rs r
    → HasReturns rs made → HasReturns (rs ++ r ∷ []) made
returns_stay rs r made none may has =
    subst (HasReturns (rs ++ r ∷ [])) (append-nil made) (returns_more rs r made None has may (sym none))

-- ---- a log without open transactions

pub returns_none : HasReturns [] []
returns_none = record {
  gone = [];
  all = refl;
  past = 0;
  within = omega arith;
  older = All-nil (λ (x : Return). x.txn ≤ 0);
  ended = λ t le. refl;
}

abbrev AreBegun : List Record → Type 0
AreBegun rs = All (λ x. x.txn ≤ length (begun rs)) (returns_of rs)

last_begun : (rs : List Record) (r : Record) → IsLinked rs → MayFollow rs r
    → All (λ x. x.txn ≤ length (begun rs)) (option_to_list (return_of rs r))
last_begun rs (Comp lsn t prev undo_next page slot change) linked may = by (is_rolling rs t)
  where
    low : t ≤ length (begun rs)
    low = (begun_bounds rs linked t (open_has_begun rs t may.0.still_open)).1

    by : (b : Bool) → All (λ x. x.txn ≤ length (begun rs))
        (option_to_list (cond b None (Some (return_at lsn t (length (without_last (pending rs t)))))))
    by true = All-nil (λ (x : Return). x.txn ≤ length (begun rs))
    by false = All-push (λ (x : Return). x.txn ≤ length (begun rs)) []
        (return_at lsn t (length (without_last (pending rs t)))) (All-nil (λ (x : Return). x.txn ≤ length (begun rs))) low
last_begun rs (Begin lsn t) linked may = All-nil (λ (x : Return). x.txn ≤ length (begun rs))
last_begun rs (Update lsn t prev page slot change) linked may = All-nil (λ (x : Return). x.txn ≤ length (begun rs))
last_begun rs (Commit lsn t prev) linked may = All-nil (λ (x : Return). x.txn ≤ length (begun rs))
last_begun rs (Abort lsn t prev) linked may = All-nil (λ (x : Return). x.txn ≤ length (begun rs))
last_begun rs (End lsn t prev) linked may = All-nil (λ (x : Return). x.txn ≤ length (begun rs))
last_begun rs (BeginChkpt lsn) linked may = All-nil (λ (x : Return). x.txn ≤ length (begun rs))
last_begun rs (ChkptPages lsn begin pages) linked may = All-nil (λ (x : Return). x.txn ≤ length (begun rs))
last_begun rs (ChkptTxns lsn begin t state last undo) linked may = All-nil (λ (x : Return). x.txn ≤ length (begun rs))
last_begun rs (EndChkpt lsn begin redo) linked may = All-nil (λ (x : Return). x.txn ≤ length (begun rs))
last_begun rs (Extend lsn pages) linked may = All-nil (λ (x : Return). x.txn ≤ length (begun rs))

all_begun : (rs : List Record) → IsLinked rs → AreBegun rs
all_begun = along_linked AreBegun (All-nil (λ (x : Return). x.txn ≤ 0)) more
  where
    more : (rs : List Record) (r : Record) → IsLinked rs → MayFollow rs r → AreBegun rs → AreBegun (rs ++ r ∷ [])
    more rs r linked may was =
        let now = λ (x : Return). x.txn ≤ length (begun (rs ++ r ∷ [])) in
        let later : (x : Return) → x.txn ≤ length (begun rs) → now x = λ x low. omega (arith, low, more_begun rs r) in
        subst (All now) (sym (returns_push rs r))
        (All-append now (returns_of rs) (option_to_list (return_of rs r))
        (All-weaker (λ (x : Return). x.txn ≤ length (begun rs)) now later (returns_of rs) was)
        (All-weaker (λ (x : Return). x.txn ≤ length (begun rs)) now later (option_to_list (return_of rs r))
        (last_begun rs r linked may)))

none_open : (rs : List Record) (t : ℕ) → open_in rs ≡ [] → is_open rs t ≡ false
none_open rs t closed = by (is_open rs t) refl
  where
    by : (b : Bool) → is_open rs t ≡ b → b ≡ false
    by false is = refl
    by true live =
        let among : list_any (λ n. eqb n t) (open_in rs) ≡ true =
        any-filter_same (λ n. eqb n t) (is_open rs) true
        (λ n same. ap (is_open rs) (eqb-true n t same) ∙ live) (begun rs) ∙ open_has_begun rs t live in
        absurd (true≢false (sym among ∙ ap (list_any (λ n. eqb n t)) closed))

-- none of them is asked for there
pub returns_ended : (rs : List Record) → IsLinked rs → open_in rs ≡ [] → HasReturns rs []
returns_ended rs linked closed = record {
  gone = returns_of rs;
  all = sym (append-nil (returns_of rs));
  past = length (begun rs);
  within = omega arith;
  older = all_begun rs linked;
  ended = λ t le. none_open rs t closed;
}

-- ---- what they say

pub still_rising : (gone made : List Return) → AreRising (gone ++ made) → AreRising made
still_rising [] made rising = rising
still_rising (x ∷ gone) made rising =
    still_rising gone made (λ i j d below within. rising (suc i) (suc j) d (omega (arith, below)) (omega (arith, within)))

pub among_all : (rs : List Record) (made : List Return) (x : Return) → HasReturns rs made → Contains made x
    → Contains (returns_of rs) x
among_all rs made x has there =
    subst (λ (xs : List Return). Contains xs x) (sym has.all) (Contains-append_right has.gone made x there)

-- each one of an open transaction is there
pub among_kept : (rs : List Record) (made : List Return) (x : Return) → HasReturns rs made → is_open rs x.txn ≡ true
    → Contains (returns_of rs) x → Contains made x
among_kept rs made x has live there = elim
    (Contains-append_cases has.gone made x (subst (λ (xs : List Return). Contains xs x) has.all there)) [
      | inl old ↦
          let low : x.txn ≤ has.past = subst (λ (y : Return). y.txn ≤ has.past) old.2 (has.older old.0 x old.1) in
          absurd (true≢false (sym live ∙ has.ended x.txn low))
      | inr kept ↦ kept
    ]

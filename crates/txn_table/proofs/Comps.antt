-- The Comps that a table keeps: their LSNs rise.
use Rattle.std.proofs.Common.{◌≡◌, ◌-◌, ◌<◌, Bool, true, false, cond, ◌⊎◌}
use Rattle.std.proofs.Common.{List, [], ◌∷◌, ◌++◌}
use Rattle.std.proofs.Common.{length, refl, sym, ap, subst, ◌∙◌, inl, inr, arith}
use Rattle.std.specs.Prelude.{Some, None}
use Rattle.std.specs.List.{All}
use Rattle.std.specs.Option.{option_to_list}
use Rattle.std.proofs.lemmas.List.{append-nil, length_push, length-take-le}
use Rattle.std.proofs.lemmas.List.Elements.{All-nil, All-push}
use Rattle.std.proofs.lemmas.List.Elements.{All-weaker}
use Rattle.std.proofs.lemmas.List.Quantifiers.{all_pairs_push}
use Rattle.log_records.specs.declared.record.Record.{Record}
use Rattle.log_records.specs.declared.record.Record.TheVariants.{Begin, Update, Comp, Commit, Abort}
use Rattle.log_records.specs.declared.record.Record.TheVariants.{End, BeginChkpt}
use Rattle.log_records.specs.declared.record.Record.TheVariants.{ChkptPages, ChkptTxns, EndChkpt, Extend}
use Rattle.log_records.specs.Log.{IsLog, Log, lsn_of}
use Rattle.log_records.specs.Record.{own_lsn}
use Rattle.log_rules.specs.declared.pending_change.PendingChange.{PendingChange}
use Rattle.log_rules.specs.Linked.{IsLinked}
use Rattle.log_rules.specs.Transactions.{is_rolling, pending}
use Rattle.log_rules.specs.Transactions.{without_last}
use Rattle.log_rules.proofs.Public.{along_linked}
use Rattle.txn_table.specs.declared.returns.Return.{Return}
use Rattle.txn_table.specs.Returns
use Rattle.txn_table.specs.Returns.{return_of, returns_of}
use Rattle.txn_table.proofs.Stacks.{returns_push, ArePlaced, placed_front, placed_last}
use Rattle.txn_table.proofs.Going.{return_at}

-- ---- the LSNs of the Comps rise

pub record Rises (rs : List Record) : Type 0 where
  rising : Returns.AreRising (returns_of rs)
  sooner : All (λ x. x.lsn < lsn_of (length rs)) (returns_of rs)

pub one_return : (rs : List Record) (r : Record) → (return_of rs r ≡ None)
    ⊎ ((x : Return) × ((return_of rs r ≡ Some x) × (x.lsn ≡ own_lsn r)))
one_return rs (Comp lsn t prev undo_next page slot change) = by (is_rolling rs t)
  where
    by : (b : Bool)
        → (cond b None (Some (return_at lsn t (length (without_last (pending rs t))))) ≡ None)
        ⊎ ((x : Return) × ((cond b None (Some (return_at lsn t (length (without_last (pending rs t))))) ≡ Some x)
        × (x.lsn ≡ lsn)))
    by true = inl refl
    by false = inr (return_at lsn t (length (without_last (pending rs t))), (refl, refl))
one_return rs (Begin lsn t) = inl refl
one_return rs (Update lsn t prev page slot change) = inl refl
one_return rs (Commit lsn t prev) = inl refl
one_return rs (Abort lsn t prev) = inl refl
one_return rs (End lsn t prev) = inl refl
one_return rs (BeginChkpt lsn) = inl refl
one_return rs (ChkptPages lsn begin pages) = inl refl
one_return rs (ChkptTxns lsn begin t state last undo) = inl refl
one_return rs (EndChkpt lsn begin redo) = inl refl
one_return rs (Extend lsn pages) = inl refl

pub rises_more : (rs : List Record) (r : Record) → own_lsn r ≡ lsn_of (length rs) → Rises rs → Rises (rs ++ r ∷ [])
rises_more rs r own was = by (one_return rs r)
  where
    later : All (λ (x : Return). x.lsn < lsn_of (length (rs ++ r ∷ []))) (returns_of rs)
    later = All-weaker (λ (x : Return). x.lsn < lsn_of (length rs))
        (λ (x : Return). x.lsn < lsn_of (length (rs ++ r ∷ [])))
        (λ x lt. omega (arith, lt, length_push rs r)) (returns_of rs) was.sooner

    by : (return_of rs r ≡ None) ⊎ ((x : Return) × ((return_of rs r ≡ Some x) × (x.lsn ≡ own_lsn r)))
        → Rises (rs ++ r ∷ [])
    by (inl none) =
        let same = returns_push rs r ∙ ap (λ o. returns_of rs ++ option_to_list o) none ∙ append-nil (returns_of rs) in
        record {
          rising = subst Returns.AreRising (sym same) was.rising;
          sooner = subst (All (λ (x : Return). x.lsn < lsn_of (length (rs ++ r ∷ [])))) (sym same) later;
        }
    by (inr some) =
        let x = some.0 in
        let same = returns_push rs r ∙ ap (λ o. returns_of rs ++ option_to_list o) some.1.0 in
        let at : x.lsn ≡ lsn_of (length rs) = some.1.1 ∙ own in
        record {
          rising = subst Returns.AreRising (sym same)
              (all_pairs_push (λ (a b : Return). a.lsn < b.lsn) (returns_of rs) x was.rising
              (λ k d lt. omega (arith, was.sooner k d lt, at)));
          sooner = subst (All (λ (y : Return). y.lsn < lsn_of (length (rs ++ r ∷ [])))) (sym same)
              (All-push (λ (y : Return). y.lsn < lsn_of (length (rs ++ r ∷ []))) (returns_of rs) x later
              (omega (arith, at, length_push rs r)));
        }

pub returns_rise : (log : Log) → IsLog log → IsLinked log.records → Returns.AreRising (returns_of log.records)
returns_rise log valid linked =
    (along_linked (λ rs. ArePlaced rs → Rises rs)
    (λ placed. record {
      rising = λ i j d below within. absurd (omega arith);
      sooner = All-nil (λ (x : Return). x.lsn < lsn_of 0);
    })
    (λ rs r linked may was placed. rises_more rs r (placed_last rs r placed) (was (placed_front rs r placed)))
    log.records linked (λ i d lt. let stands = valid.records i d lt in stands.lsn)).rising

-- ---- what the next record shows

pub length_without : (changes : List PendingChange) → length (without_last changes) ≡ length changes - 1
length_without changes = omega (arith, length-take-le (length changes - 1) changes (omega arith))

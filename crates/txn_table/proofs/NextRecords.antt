-- The records of a log, one by one.
use Rattle.std.proofs.Common.{◌≡◌, ◌+◌, ◌<◌, ◌∷◌, ◌++◌, [], ℕ, List, get_or, length, suc, take, ap, ◌∙◌, sym, subst, arith}
use Rattle.std.proofs.Math.Seq.{take-suc}
use Rattle.log_records.specs.declared.record.Record.{Record}
use Rattle.log_rules.specs.Linked.{IsLinked, MayFollow}

pub with_next : (records : List Record) (i : ℕ) (r : Record) → i < length records → r ≡ get_or records i r
    → take (i + 1) records ≡ take i records ++ r ∷ []
with_next records i r lt is =
    let step : i + 1 ≡ suc i = omega arith in
    ap (λ (k : ℕ). take k records) step ∙ take-suc records i r lt
    ∙ ap (λ (x : Record). take i records ++ x ∷ []) (sym is)

pub next_follows : (records : List Record) (i : ℕ) (r : Record) → IsLinked records → i < length records
    → r ≡ get_or records i r → MayFollow (take i records) r
next_follows records i r linked lt is = subst (MayFollow (take i records)) (sym is) (linked i r lt)

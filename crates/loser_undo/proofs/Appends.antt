-- How many records undo may still append.
use Rattle.std.proofs.Common.{◌≡◌, ◌+◌, ◌*◌, ◌≤◌, List, [], ◌∷◌, ◌++◌, length, arith}
use Rattle.std.proofs.lemmas.List.{length_push}
use Rattle.log_records.specs.declared.record.Record.{Record}
use Rattle.log_records.specs.declared.record.Record.TheVariants.{Begin, Update, BeginChkpt, ChkptPages, ChkptTxns, EndChkpt, Extend}
use Rattle.log_rules.specs.Linked.{IsLinked, MayFollow}
use Rattle.log_rules.specs.Transactions.{owed}
use Rattle.log_rules.proofs.Public.{along_linked}
use Rattle.log_rules.proofs.Public.{claimed_push, needs}

-- a record that needs no room of its own takes what was owed
pub claims_no_more : (rs : List Record) (r : Record) → IsLinked rs → MayFollow rs r → needs r ≡ 0
    → length (rs ++ r ∷ []) + owed (rs ++ r ∷ []) ≤ length rs + owed rs
claims_no_more rs r linked may none = omega (arith, claimed_push rs r linked may, none)

needs_few : (r : Record) → needs r ≤ 3
needs_few (Begin lsn t) = omega arith
needs_few (Update lsn t prev page slot change) = omega arith
needs_few (BeginChkpt lsn) = omega arith
needs_few (ChkptPages lsn begin pages) = omega arith
needs_few (ChkptTxns lsn begin t state last undo) = omega arith
needs_few (EndChkpt lsn begin redo) = omega arith
needs_few (Extend lsn pages) = omega arith
needs_few other = omega arith

pub owed_few : (rs : List Record) → IsLinked rs → length rs + owed rs ≤ 3 * length rs
owed_few = along_linked (λ rs. length rs + owed rs ≤ 3 * length rs) (omega arith) more
  where
    more : (rs : List Record) (r : Record) → IsLinked rs → MayFollow rs r → length rs + owed rs ≤ 3 * length rs
        → length (rs ++ r ∷ []) + owed (rs ++ r ∷ []) ≤ 3 * length (rs ++ r ∷ [])
    more rs r linked may few = omega (arith, few, claimed_push rs r linked may, needs_few r, length_push rs r)

use Rattle.std.proofs.Common.{◌∙◌, ap, refl, sym}
use Rattle.std.proofs.lemmas.Bool.{false≢true}
use Rattle.txn_table.specs.OpenList.{entries_in}
use Rattle.log_rules.specs.Table.{IsActiveEntry, Table, without_entry}
use Rattle.txn_table.proofs.Stored.{at-row, nobody-here, said-here, says-here, sits-still, stored-gone, view-gone}
use Rattle.txn_table.proofs.Stored.{view-stays}
use Rattle.txn_table.proofs.Tracked.{held-at}
use Rattle.txn_table.proofs.Viewed.{table_is}
use Rattle.txn_table.proofs.open_transactions.OpenTransactions.commit.Goals as goal

pub returns-in_default : goal.returns-in_default
returns-in_default c = λ lsn. (
  nobody-here c.self.inside.begun c.args.txn (entries_in c.self.inside.list) c.args.self.now.table (IsActiveEntry c.args.prev)
      (table_is c.self.view_is) (c.row_of.ensures.none c.in_default.is),
  refl,
)

pub returns-then-not-is_active : goal.returns-then-not-is_active
returns-then-not-is_active c = λ lsn. (
  λ some. false≢true (sym c.if-not-is_active.true ∙ c.is_active.ensures.1
      (said-here c.self.invariant c.in-Some.ensures.found c.index_mut-entry.ensures.value c.args.self.now.table (table_is c.self.view_is)
      (IsActiveEntry c.args.prev) some)),
  ap (λ es. let v : Table = record { begun = c.self.inside.begun; entries = es } in v)
      (view-stays c.self.invariant c.in-Some.ensures.found c.index_mut-entry.ensures.value c.index_mut-entry.result.now
      refl)
      ∙ (table_is c.self.view_is),
)

pub release-requires-clause-held : goal.release-requires-clause-held
release-requires-clause-held c =
    held-at (at-row c.self.invariant c.in-Some.ensures.found c.index_mut-entry.ensures.value) c.self.invariant.tracks

pub remove-requires-clause-sits : goal.remove-requires-clause-sits
remove-requires-clause-sits c = (
  c.release.new.self.txn,
  sits-still c.self.invariant c.in-Some.ensures.found c.index_mut-entry.ensures.value c.release.new.self,
)

pub invariant_of-self-2 : goal.invariant_of-self-2
invariant_of-self-2 c =
    let sits = c.in-Some.ensures.found in
    stored-gone c.self.invariant sits c.index_mut-entry.ensures.value c.release.new.self c.remove.new.self
    (c.remove.ensures.order sits.place sits.within sits.row_is) (ap (λ v. v.items) c.remove.ensures.rows)
    c.release.new.claims c.release.ensures.kept c.release.ensures.changes c.remove.ensures.sound

pub returns : goal.returns
returns c = λ lsn.
    let sits = c.in-Some.ensures.found in
    let kept = c.release.ensures.kept in (
      says-here c.self.invariant sits c.index_mut-entry.ensures.value c.args.self.now.table (table_is c.self.view_is)
          (IsActiveEntry c.args.prev) (c.is_active.ensures.0 c.if-not-is_active.false),
      ap (λ es. let v : Table = record { begun = c.self.inside.begun; entries = es } in v)
          (sym (view-gone c.self.invariant sits c.index_mut-entry.ensures.value c.release.new.self c.remove.new.self
          (c.remove.ensures.order sits.place sits.within sits.row_is) (ap (λ v. v.items) c.remove.ensures.rows)
          kept.txn kept.row))
          ∙ ap (λ (v : Table). without_entry v c.args.txn) (table_is c.self.view_is),
    )

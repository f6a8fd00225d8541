-- Restarts that are interrupted find logs that have the same log after undo.
use Rattle.std.proofs.Common.{◌≡◌, ◌≤◌, List, ◌++◌, length, take, drop, sym, refl, ap, subst, ◌∙◌, arith}
use Rattle.std.proofs.lemmas.List.{take-append-drop, take-take, take_at}
use Rattle.log_records.specs.declared.record.Record.{Record}
use Rattle.log_records.specs.Log.{IsLog, Log}
use Rattle.log_records.proofs.Public.{valid_cut}
use Rattle.log_rules.specs.Linked.{IsLinked}
use Rattle.log_rules.proofs.Public.{linked-take}
use Rattle.loser_undo.specs.Undo.{after_undo}
use Rattle.loser_undo.proofs.Public.{undo_is_linked}
use Rattle.engine_restart.specs.Interrupted.{IsFoundFrom, IsPartlyUndone, at_once, interrupted}
use Rattle.engine_restart.specs.Restart.{undone_log}
use Rattle.engine_restart.proofs.UndoneParts.{Begins, UndoLaws, begins_itself, begins_undo, begins_with, parts_go_on}

-- undo keeps the log
pub log_stays : (rs : List Record) → take (length rs) (after_undo rs) ≡ rs
log_stays rs =
    let begins = begins_undo rs in ap (take (length rs)) begins.1 ∙ take_at rs begins.0 (length rs) refl

pub valid_before : (log : Log) → IsLog (undone_log log) → IsLog log
valid_before log valid =
    subst (λ (rs : List Record). IsLog (record log { records = rs })) (log_stays log.records)
    (valid_cut (undone_log log) (length log.records) valid)

linked_undone : (log : Log) → IsLog (undone_log log) → IsLinked log.records → IsLinked (after_undo log.records)
linked_undone log valid linked = undo_is_linked log (valid_before log valid) linked

linked_part : (log left : Log) → IsLog (undone_log log) → IsLinked log.records → IsPartlyUndone log left
    → IsLinked left.records
linked_part log left valid linked is =
    subst (λ (l : Log). IsLinked l.records) (sym is.made)
    (linked-take (after_undo log.records) (linked_undone log valid linked) is.count)

-- ---- what is found begins with what was left

part_begins : (log left : Log) → IsPartlyUndone log left → Begins log.records left.records
part_begins log left is =
    let n = length log.records in
    let many = is.forced in
    let low : n ≤ is.count = omega (arith, many) in
    let made : left.records ≡ take is.count (after_undo log.records) = ap (λ (l : Log). l.records) is.made in
    let front : take n left.records ≡ log.records =
    ap (take n) made ∙ take-take n is.count (after_undo log.records) low ∙ log_stays log.records in (
      drop n left.records,
      sym (take-append-drop n left.records) ∙ ap (λ (rs : List Record). rs ++ drop n left.records) front,
    )

pub found_begins : (log found : Log) → IsFoundFrom log found → Begins log.records found.records
found_begins log found (at_once _) = begins_itself log.records
found_begins log found (interrupted _ left _ is later) =
    begins_with log.records left.records found.records (part_begins log left is) (found_begins left found later)

-- ---- and undo of it goes on

module _ (laws : UndoLaws) where
  undone_once : (log left : Log) → IsLog (undone_log log) → IsLinked log.records → IsPartlyUndone log left
      → undone_log left ≡ undone_log log
  undone_once log left valid linked is =
      let whole = undone_log log in
      let many = is.forced in
      ap undone_log is.made
      ∙ ap (λ (rs : List Record). let l : Log = record log { records = rs } in l)
      (parts_go_on laws whole valid (linked_undone log valid linked) log.records refl is.count (omega (arith, many)))

  pub undone_always : (log found : Log) → IsLog (undone_log log) → IsLinked log.records → IsFoundFrom log found
      → undone_log found ≡ undone_log log
  undone_always log found valid linked (at_once _) = refl
  undone_always log found valid linked (interrupted _ left _ is later) =
      let same = undone_once log left valid linked is in
      undone_always left found (subst IsLog (sym same) valid) (linked_part log left valid linked is) later ∙ same

  pub found_valid : (log found : Log) → IsLog (undone_log log) → IsLinked log.records → IsFoundFrom log found
      → IsLog found
  found_valid log found valid linked is =
      valid_before found (subst IsLog (sym (undone_always log found valid linked is)) valid)

use Rattle.log_rules.proofs.Undone.{changes_of_log, number_is, number_is_committed}
use Rattle.log_rules.proofs.laws.numbers_are_committed_under_pending_changes.Goals as goal

pub returns : goal.returns
returns c = record {
  pending = λ log page slot valid linked within. number_is log.records page slot within linked
      (changes_of_log log valid);
  closed = λ log page slot valid linked within.
      number_is_committed log.records page slot within linked (changes_of_log log valid);
}

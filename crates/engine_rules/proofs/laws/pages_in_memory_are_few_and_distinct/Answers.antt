use Rattle.engine_rules.proofs.Residents.{framed_of_run}
use Rattle.engine_rules.proofs.laws.pages_in_memory_are_few_and_distinct.Goals as goal

pub returns-clause-few : goal.returns-clause-few
returns-clause-few c = λ pages frames events replies new count numbers run.
    (framed_of_run pages frames events replies new count numbers run).few

pub returns-clause-distinct : goal.returns-clause-distinct
returns-clause-distinct c = λ pages frames events replies new count numbers run.
    (framed_of_run pages frames events replies new count numbers run).distinct

use Rattle.std.proofs.Common.{◌≡◌, ◌∙◌, List, ap, subst, sym}
use Rattle.std.specs.List.{All, Contains}
use Rattle.log_records.specs.Coverage.{next_dirty}
use Rattle.log_records.specs.declared.dirty_page.DirtyPage.{DirtyPage}
use Rattle.buffer_pool.specs.Pool.{unwritten}
use Rattle.buffer_pool.proofs.Dirty.{next_empty, next_named, next_passed, table_is}
use Rattle.buffer_pool.proofs.laws.next_dirty_pages_pass_over_none.Goals as goal

pub returns-clause-named : goal.returns-clause-named
returns-clause-named g c = λ log pool cursor e of has.
    let table = table_is log pool.states (λ p lt. (of.states p unwritten lt).dirty) in
    next_named pool.states cursor e
    (subst (λ (es : List DirtyPage). Contains (next_dirty es cursor) e) table has)

pub returns-clause-passed : goal.returns-clause-passed
returns-clause-passed g c = λ log pool cursor number e of has le lt others.
    let table = table_is log pool.states (λ p lt'. (of.states p unwritten lt').dirty) in
    next_passed pool.states cursor number e
    (subst (λ (es : List DirtyPage). Contains (next_dirty es cursor) e) table has) le lt
    (subst (λ (es : List DirtyPage). All (λ x. x.page ≡ number → ⊥) (next_dirty es cursor)) table others)

pub returns-clause-none : goal.returns-clause-none
returns-clause-none g c = λ log pool cursor number of none le lt.
    let table = table_is log pool.states (λ p lt'. (of.states p unwritten lt').dirty) in
    next_empty pool.states cursor number (ap (λ (es : List DirtyPage). next_dirty es cursor) (sym table) ∙ none) le lt

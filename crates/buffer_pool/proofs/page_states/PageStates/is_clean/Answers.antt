use Rattle.std.proofs.Common.{◌∙◌, ℕ, length, ap, sym, arith, inl, inr}
use Rattle.std.specs.Prelude.{Option, None, is_none}
use Rattle.std.proofs.lemmas.Bool.{cases_lt}
use Rattle.std.proofs.lemmas.List.{get_or_past}
use Rattle.buffer_pool.specs.Pool.{PageState, unwritten}
use Rattle.buffer_pool.proofs.Columns.{count_is, state_is}
use Rattle.buffer_pool.proofs.page_states.PageStates.is_clean.Goals as goal

pub returns : goal.returns
returns c =
    let s = c.self.inside in
    let n = c.args.number in
    let columns = s.rec_lsns in
    let count = count_is s.last_writes.items columns s.images.items s.first_changes.items c.args.self.now c.self.view_is in
    c.has_none.ensures ∙ ap (λ (o : Option ℕ). is_none o) (elim (cases_lt n (length columns)) [
      | inl within ↦
          sym (ap (λ (x : PageState). x.rec_lsn) (state_is s.last_writes.items columns s.images.items
          s.first_changes.items c.args.self.now n c.self.view_is (omega (arith, count, c.self.invariant.0.rec_lsn_count))))
      | inr past ↦
          get_or_past columns n None past
          ∙ sym (ap (λ (x : PageState). x.rec_lsn)
          (get_or_past c.args.self.now n unwritten (omega (arith, count, c.self.invariant.0.rec_lsn_count))))
    ])

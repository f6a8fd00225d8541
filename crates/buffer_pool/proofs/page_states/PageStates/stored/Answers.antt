use Rattle.std.proofs.Common.{◌∙◌, List, ap, sym, slice_set}
use Rattle.buffer_pool.specs.Pool.{PageState, state_in, write_ended}
use Rattle.buffer_pool.proofs.Resumed.{filled_next}
use Rattle.buffer_pool.proofs.page_states.PageStates.stored.Goals as goal

pub loop-index-preserved : goal.loop-index-preserved
loop-index-preserved c =
    let i = c.loop-index.index in
    let page = c.index-pages-index.result in
    record {
      states = c.end_write.ensures
          ∙ ap (λ (states : List PageState). slice_set states i (write_ended (state_in states i) page.lsn))
          c.loop-index.invariant.states
          ∙ filled_next c.args.pages.now i page c.loop-index-test.true (sym c.index-pages-index.is);
    }

use Rattle.std.proofs.Common.{◌∙◌, ℕ, List, [], ap, subst, sym}
use Rattle.page_core.specs.declared.page.Page.{Page}
use Rattle.buffer_pool.specs.Pool.{IsPoolOf, PageState}
use Rattle.buffer_pool.proofs.Resumed.{pool_resumed}
use Rattle.buffer_pool.proofs.pool.Pool.resume.Goals as goal

pub returns-clause-clean : goal.returns-clause-clean
returns-clause-clean g c =
    ap (λ (pages : List Page). record {
      store = c.args.store;
      frames = c.args.frames;
      room = c.in-Ok-new.held.room;
      resident = pages;
      states = c.in-Ok.states;
    }) c.in-Ok-new.ensures.pages
    ∙ ap (λ (room : ℕ). record {
      store = c.args.store;
      frames = c.args.frames;
      room = room;
      resident = [];
      states = c.in-Ok.states;
    }) c.in-Ok-new.ensures.room
    ∙ ap (λ (states : List PageState). record {
      store = c.args.store;
      frames = c.args.frames;
      room = 0;
      resident = [];
      states = states;
    }) c.in-Ok.ensures

pub returns-clause-of_log : goal.returns-clause-of_log
returns-clause-of_log g c = λ log valid are.
    let stored_in = g.S.PageStore.stored in
    subst (IsPoolOf stored_in log) (sym (returns-clause-clean g c))
    (pool_resumed stored_in c.args.store log c.args.pages.now c.args.frames valid c.requires are)

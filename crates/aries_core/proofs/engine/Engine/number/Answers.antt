use Rattle.std.proofs.Common.{ℕ, get_or, sym, ap, subst, ◌∙◌}
use Rattle.page_core.specs.declared.page.Page.{Page}
use Rattle.buffer_pool.specs.Frames.{IsResident}
use Rattle.log_rules.specs.Linked.{number_in}
use Rattle.log_records.specs.Image.{image}
use Rattle.engine_rules.specs.EngineState.{log_of}
use Rattle.engine_rules.specs.EngineView.{EngineView, engine_view}
use Rattle.aries_core.specs.OpenCkpt.{media_view}
use Rattle.aries_core.proofs.engine.Engine.number.Goals as goal

pub current-requires : goal.current-requires
current-requires g c =
    subst (λ (v : EngineView g.row.S.Denot g.row.D.Denot). IsResident v.state.resident c.args.page)
    (sym c.self.view_is) c.requires.there

pub returns : goal.returns
returns g c =
    let it = c.self.inside in
    let s = (engine_view g.S.PageStore.stored it.log it.pool
    (media_view it.master it.session it.vault.copies it.returns.made)).state in
    ap (λ (p : Page). get_or p.slots c.slot.inside.0 0)
    (c.current.ensures.image (log_of s) c.self.invariant.pool_of_log)
    ∙ ap (λ (n : ℕ). get_or (image s.log c.args.page).slots n 0) c.slot.view_is
    ∙ ap (λ (v : EngineView g.row.S.Denot g.row.D.Denot). number_in v.state.log c.args.page c.args.slot) c.self.view_is

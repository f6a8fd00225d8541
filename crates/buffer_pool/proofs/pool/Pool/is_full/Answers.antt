use Rattle.std.proofs.Common.{◌≡◌, ◌∙◌, ◌≤◌, Bool, true, false, List, ℕ, length, not, ap, sym, refl, arith}
use Rattle.std.specs.Prelude.{Option, Some, None, is_some}
use Rattle.std.specs.List.{list_any}
use Rattle.page_core.specs.declared.page.Page.{Page}
use Rattle.buffer_pool.specs.Pool.{PageState, PoolView, is_clean, is_clean_in, written_of}
use Rattle.buffer_pool.proofs.Fetching.{agree, any_same, full_if}
use Rattle.buffer_pool.proofs.pool.Pool.is_full.Goals as goal

pub returns-then-len-self : goal.returns-then-len-self
returns-then-len-self g c = λ log of.
    let pool = c.args.self.now in
    let it = c.self.inside in
    let clean = is_clean log.records (written_of pool.states) in
    let pages : it.frames.pages ≡ pool.resident = ap (λ (v : PoolView g.row.S.Denot). v.resident) c.self.view_is in
    let states : it.states ≡ pool.states = ap (λ (v : PoolView g.row.S.Denot). v.states) c.self.view_is in
    let frames : it.limit ≡ pool.frames = ap (λ (v : PoolView g.row.S.Denot). v.frames) c.self.view_is in
    let many : pool.frames ≤ length pool.resident =
    omega (arith, c.len.ensures, ap (length {A = Page}) pages) in
    told c.first_clean.result c.is_none.result c.is_none.ensures ∙ ap not c.first_clean.ensures.found
    ∙ ap (λ (ss : List PageState). not (list_any (λ page. is_clean_in ss page.number) it.frames.pages)) states
    ∙ ap (λ (ps : List Page). not (list_any (λ page. is_clean_in pool.states page.number) ps)) pages
    ∙ ap not (any_same (is_clean_in pool.states) clean pool.resident (agree g.S.PageStore.stored log pool of))
    ∙ sym (full_if pool.frames clean pool.resident many)
  where
    told : (o : Option ℕ) (r : Bool) → is_some o ≡ not r → r ≡ not (is_some o)
    told None true e = refl
    told None false e = absurd (cc)
    told (Some x) true e = absurd (cc)
    told (Some x) false e = refl

use Rattle.std.proofs.Common.{◌≡◌, ◌∙◌, ◌≤◌, ◌<◌, ◌++◌, ◌∷◌, [], List, false, true, length, get_or, ap, subst}
use Rattle.std.proofs.Common.{sym, arith}
use Rattle.std.proofs.lemmas.Bool.{not-false}
use Rattle.std.specs.List.{list_any}
use Rattle.page_core.specs.declared.page.Page.{Page}
use Rattle.log_records.specs.Image.{image}
use Rattle.log_records.specs.Log.{Log}
use Rattle.buffer_pool.specs.Frames.{IsResident, given_up, is_full, is_resident}
use Rattle.buffer_pool.specs.Pool.{IsPoolOf, IsWhole, PageState, PoolView, is_clean, is_clean_in, written_of}
use Rattle.buffer_pool.proofs.Fetching.{agree, all_less, any_same, dirty_stays, fetched_free, fetched_given_up, full_if, given_up_same}
use Rattle.buffer_pool.proofs.Fetching.{length_less, pool_more, read_is, resident_last}
use Rattle.buffer_pool.proofs.pool.Pool.fetch.Goals as goal

pub returns-then-len-self-clause-kept : goal.returns-then-len-self-clause-kept
returns-then-len-self-clause-kept g c = λ log of.
    let stored_in = g.S.PageStore.stored in
    let it = c.self.inside in
    let n = c.args.number in
    let pool : PoolView g.row.S.Denot = record {
      store = it.store;
      frames = it.limit;
      room = it.frames.room;
      resident = it.frames.pages;
      states = it.states;
    } in
    let view : pool ≡ c.args.self.now = c.self.view_is in
    let is = subst (IsPoolOf stored_in log) (sym view) of in
    let page = c.in_ok-page.page in
    let found = c.in_ok-page.ensures.found in
    let there : n < length it.states =
    subst (λ (v : PoolView g.row.S.Denot). n < length v.states) (sym view) c.requires.within in
    let absent : is_resident it.frames.pages n ≡ false =
    ap (λ (v : PoolView g.row.S.Denot). is_resident v.resident n) view ∙ c.requires.absent in
    let few : length it.frames.pages < it.limit = omega (arith, c.len.ensures, c.if-len-self.true) in
    subst (λ (pages : List Page). IsPoolOf stored_in log (record pool {
      store = c.read.new.self;
      room = c.put.new.self.room;
      resident = pages;
    }))
    (sym c.put.ensures.pages)
    (pool_more stored_in log pool c.read.new.self (c.put.new.self.room) n it.frames.pages page is c.in_ok-page.ensures.same
    c.self.invariant.whole.enough there (λ d. read_is (stored_in it.store) n page d found) c.in_ok-page.ensures.numbered
    absent few is.within is.resident is.held)

pub returns-then-len-self-clause-resident : goal.returns-then-len-self-clause-resident
returns-then-len-self-clause-resident g c =
    subst (λ (pages : List Page). IsResident pages c.args.number) (sym c.put.ensures.pages)
    (resident_last c.self.inside.frames.pages c.in_ok-page.page c.args.number c.in_ok-page.ensures.numbered)

pub returns-else-len-self-clause-resident : goal.returns-else-len-self-clause-resident
returns-else-len-self-clause-resident g c =
    let it = c.self.inside in
    subst (λ (pages : List Page). IsResident pages c.args.number) (sym c.replace.ensures.pages)
    (resident_last (given_up (is_clean_in it.states) it.frames.pages) c.in_ok-page.page c.args.number
    c.in_ok-page.ensures.numbered)

pub invariant_of-self-then-len-self : goal.invariant_of-self-then-len-self
invariant_of-self-then-len-self g c =
    let it = c.self.inside in
    record {
      whole = subst (λ (ps : List Page). IsWhole ps it.states) (sym c.in_ok-page.ensures.same) c.self.invariant.whole;
      sought = c.put.ensures.sought (is_clean_in it.states) c.self.invariant.sought;
    }

pub returns-then-len-self-clause-fetched : goal.returns-then-len-self-clause-fetched
returns-then-len-self-clause-fetched g c = λ log d of.
    let stored_in = g.S.PageStore.stored in
    let it = c.self.inside in
    let n = c.args.number in
    let pool = c.args.self.now in
    let clean = is_clean log.records (written_of pool.states) in
    let page = c.in_ok-page.page in
    let store : it.store ≡ pool.store = ap (λ (v : PoolView g.row.S.Denot). v.store) c.self.view_is in
    let pages : it.frames.pages ≡ pool.resident = ap (λ (v : PoolView g.row.S.Denot). v.resident) c.self.view_is in
    let frames : it.limit ≡ pool.frames = ap (λ (v : PoolView g.row.S.Denot). v.frames) c.self.view_is in
    let few : length pool.resident < pool.frames =
    omega (arith, c.len.ensures, ap (length {A = Page}) pages, c.if-len-self.true) in
    c.put.ensures.pages
    ∙ ap (λ (ps : List Page). ps ++ page ∷ []) pages
    ∙ ap (λ (q : Page). pool.resident ++ q ∷ [])
    (read_is (stored_in it.store) n page d c.in_ok-page.ensures.found
    ∙ ap (λ s. get_or (stored_in s) n d) store)
    ∙ sym (fetched_free pool.frames clean pool.resident (get_or (stored_in pool.store) n d) few)

pub returns-else-len-self-clause-fetched : goal.returns-else-len-self-clause-fetched
returns-else-len-self-clause-fetched g c = λ log d of.
    let stored_in = g.S.PageStore.stored in
    let it = c.self.inside in
    let n = c.args.number in
    let pool = c.args.self.now in
    let clean = is_clean log.records (written_of pool.states) in
    let page = c.in_ok-page.page in
    let store : it.store ≡ pool.store = ap (λ (v : PoolView g.row.S.Denot). v.store) c.self.view_is in
    let pages : it.frames.pages ≡ pool.resident = ap (λ (v : PoolView g.row.S.Denot). v.resident) c.self.view_is in
    let states : it.states ≡ pool.states = ap (λ (v : PoolView g.row.S.Denot). v.states) c.self.view_is in
    let frames : it.limit ≡ pool.frames = ap (λ (v : PoolView g.row.S.Denot). v.frames) c.self.view_is in
    let many : pool.frames ≤ length pool.resident =
    omega (arith, c.len.ensures, ap (length {A = Page}) pages, c.if-len-self.false) in
    c.replace.ensures.pages
    ∙ ap (λ (ss : List PageState). given_up (is_clean_in ss) it.frames.pages ++ page ∷ []) states
    ∙ ap (λ (ps : List Page). given_up (is_clean_in pool.states) ps ++ page ∷ []) pages
    ∙ ap (λ (ps : List Page). ps ++ page ∷ [])
    (given_up_same (is_clean_in pool.states) clean pool.resident (agree stored_in log pool of))
    ∙ ap (λ (q : Page). given_up clean pool.resident ++ q ∷ [])
    (read_is (stored_in it.store) n page d c.in_ok-page.ensures.found
    ∙ ap (λ s. get_or (stored_in s) n d) store)
    ∙ sym (fetched_given_up pool.frames clean pool.resident (get_or (stored_in pool.store) n d) many)

pub returns-else-len-self-clause-kept : goal.returns-else-len-self-clause-kept
returns-else-len-self-clause-kept g c = λ log of.
    let stored_in = g.S.PageStore.stored in
    let it = c.self.inside in
    let n = c.args.number in
    let pool : PoolView g.row.S.Denot = record {
      store = it.store;
      frames = it.limit;
      room = it.frames.room;
      resident = it.frames.pages;
      states = it.states;
    } in
    let view : pool ≡ c.args.self.now = c.self.view_is in
    let is = subst (IsPoolOf stored_in log) (sym view) of in
    let clean = is_clean_in it.states in
    let page = c.in_ok-page.page in
    let there : n < length it.states =
    subst (λ (v : PoolView g.row.S.Denot). n < length v.states) (sym view) c.requires.within in
    let absent : is_resident it.frames.pages n ≡ false =
    ap (λ (v : PoolView g.row.S.Denot). is_resident v.resident n) view ∙ c.requires.absent in
    let many : it.limit ≤ length it.frames.pages = omega (arith, c.len.ensures, c.if-len-self.false) in
    let some : list_any (λ q. clean q.number) it.frames.pages ≡ true =
    some_clean stored_in c.requires.frame.0 pool many
    (subst (λ (v : PoolView g.row.S.Denot). IsPoolOf stored_in c.requires.frame.0 v
    × (is_full v.frames (is_clean c.requires.frame.0.records (written_of v.states)) v.resident ≡ false)) (sym view)
    c.requires.frame.1) in
    let less = length_less clean it.frames.pages some in
    subst (λ (pages : List Page). IsPoolOf stored_in log (record pool {
      store = c.read.new.self;
      room = c.replace.new.self.room;
      resident = pages;
    }))
    (sym c.replace.ensures.pages)
    (pool_more stored_in log pool c.read.new.self (c.replace.new.self.room) n (given_up clean it.frames.pages) page is
    c.in_ok-page.ensures.same c.self.invariant.whole.enough there
    (λ d. read_is (stored_in it.store) n page d c.in_ok-page.ensures.found) c.in_ok-page.ensures.numbered absent
    (omega (arith, less, is.few))
    (all_less (λ q. q.number < length it.states) clean it.frames.pages is.within)
    (all_less (λ q. q ≡ image log.records q.number) clean it.frames.pages is.resident)
    (λ p lt dirty. dirty_stays clean it.frames.pages p dirty (is.held p lt dirty)))
  where
    -- where each frame is taken and one can be had, one has a clean page
    some_clean : {S : Type 0} (stored_in : S → List Page) (log : Log) (pool : PoolView S)
        → pool.frames ≤ length pool.resident
        → IsPoolOf stored_in log pool
        × (is_full pool.frames (is_clean log.records (written_of pool.states)) pool.resident ≡ false)
        → list_any (λ q. is_clean_in pool.states q.number) pool.resident ≡ true
    some_clean stored_in log pool many both =
        let clean = is_clean log.records (written_of pool.states) in
        any_same (is_clean_in pool.states) clean pool.resident (agree stored_in log pool both.0)
        ∙ not-false (list_any (λ q. clean q.number) pool.resident)
        (sym (full_if pool.frames clean pool.resident many) ∙ both.1)

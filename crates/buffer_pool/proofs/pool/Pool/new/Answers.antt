use Rattle.std.proofs.Common.{◌≡◌, ◌∙◌, ℕ, List, [], length, replicate, ap, subst, sym, arith}
use Rattle.std.proofs.lemmas.List.{length-replicate}
use Rattle.std.proofs.lemmas.List.FromFn.{length-map-range_with_len}
use Rattle.page_core.specs.Page.{formatted}
use Rattle.page_core.specs.declared.page.Page.{Page}
use Rattle.page_core.specs.Volume.{formatted_pages}
use Rattle.log_records.specs.Log.{IsPageCount}
use Rattle.buffer_pool.specs.Pool.{IsPoolOf, PageState, is_clean_in, unwritten}
use Rattle.buffer_pool.proofs.Pools.{pool_new}
use Rattle.buffer_pool.proofs.Sought.{sought_empty}
use Rattle.buffer_pool.proofs.pool.Pool.new.Goals as goal

pub new-requires : goal.new-requires
new-requires g c =
    let n = c.requires.0 in
    omega (
      arith,
      c.requires.1.0.most,
      c.pages-count.ensures.count,
      ap length c.requires.1.1,
      length-map-range_with_len formatted 0 n,
    )

pub invariant_of-result : goal.invariant_of-result
invariant_of-result g c =
    let n = c.requires.0 in
    let count = c.pages-count.result in
    let same : count ≡ n =
    c.pages-count.ensures.count ∙ ap length c.requires.1.1 ∙ length-map-range_with_len formatted 0 n in
    let states : length c.in-Ok.states ≡ count =
    ap (length {A = PageState}) c.in-Ok.ensures ∙ length-replicate count unwritten in
    record {
      whole = record {
        few = omega (arith, c.requires.1.0.most);
        enough = omega (arith, c.pages-count.ensures.count, states);
        stored_numbers = c.pages-count.ensures.numbered;
      };
      sought = sought_empty (is_clean_in c.in-Ok.states) c.in-Ok-new.held.slots c.in-Ok-new.held.marks
          c.in-Ok-new.ensures.slots;
    }

-- so many pages are stored
count_is : {S : Type 0} (stored_in : S → List Page) (store : S) (count n : ℕ) → count ≡ length (stored_in store)
    → stored_in store ≡ formatted_pages n → count ≡ n
count_is stored_in store count n long holds = long ∙ ap length holds ∙ length-map-range_with_len formatted 0 n

pub returns-clause-new : goal.returns-clause-new
returns-clause-new g c = λ n holds.
    let same = count_is g.S.PageStore.stored c.args.store c.pages-count.result n c.pages-count.ensures.count holds in
    ap (λ (pages : List Page). record {
      store = c.args.store;
      frames = c.args.frames;
      room = c.in-Ok-new.held.room;
      resident = pages;
      states = c.in-Ok.states;
    }) c.in-Ok-new.ensures.pages
    ∙ ap (λ (room : ℕ). record {
      store = c.args.store;
      frames = c.args.frames;
      room = room;
      resident = [];
      states = c.in-Ok.states;
    }) c.in-Ok-new.ensures.room
    ∙ ap (λ (states : List PageState). record {
      store = c.args.store;
      frames = c.args.frames;
      room = 0;
      resident = [];
      states = states;
    }) (c.in-Ok.ensures ∙ ap (λ (k : ℕ). replicate k unwritten) same)

pub returns-clause-empty : goal.returns-clause-empty
returns-clause-empty g c = λ n holds.
    let stored_in = g.S.PageStore.stored in
    let store = c.args.store in
    let count = c.pages-count.ensures.count in
    let same = count_is stored_in store c.pages-count.result n count holds in
    let given = count_is stored_in store c.pages-count.result c.requires.0 count c.requires.1.1 in
    subst (IsPoolOf stored_in (record { pages = n; records = [] })) (sym (returns-clause-new g c n holds))
    (pool_new stored_in store n c.args.frames (subst IsPageCount (sym given ∙ same) c.requires.1.0) holds)

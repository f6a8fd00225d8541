use Rattle.std.proofs.Common.{◌≡◌, ◌∙◌, ℕ, List, [], length, replicate, ap, subst, sym, arith}
use Rattle.std.proofs.lemmas.List.{length-replicate}
use Rattle.std.proofs.lemmas.List.FromFn.{length-map-range_with_len}
use Rattle.page_core.specs.Page.{formatted}
use Rattle.page_core.specs.declared.page.Page.{Page}
use Rattle.page_core.specs.Volume.{formatted_pages}
use Rattle.log_records.specs.Log.{IsPageCount}
use Rattle.buffer_pool.specs.Pool.{IsPoolOf, PageState, PoolView, is_clean_in, unwritten, whole_pool}
use Rattle.buffer_pool.proofs.Pools.{pool_whole}
use Rattle.buffer_pool.proofs.Sought.{sought_all}
use Rattle.buffer_pool.proofs.pool.Pool.whole.Goals as goal

pub new-requires : goal.new-requires
new-requires g c =
    let n = c.requires.0 in
    omega (
      arith,
      c.requires.1.0.most,
      c.pages-count.ensures.count,
      ap length c.requires.1.1,
      length-map-range_with_len formatted 0 n,
    )

pub formatted-requires : goal.formatted-requires
formatted-requires g c =
    let n = c.requires.0 in
    omega (
      arith,
      c.requires.1.0.most,
      c.pages-count.ensures.count,
      ap length c.requires.1.1,
      length-map-range_with_len formatted 0 n,
    )

pub invariant_of-result : goal.invariant_of-result
invariant_of-result g c =
    let n = c.requires.0 in
    let count = c.pages-count.result in
    let same : count ≡ n =
    c.pages-count.ensures.count ∙ ap length c.requires.1.1 ∙ length-map-range_with_len formatted 0 n in
    let states : length c.in-Ok-new.states ≡ count =
    ap (length {A = PageState}) c.in-Ok-new.ensures ∙ length-replicate count unwritten in
    record {
      whole = record {
        few = omega (arith, c.requires.1.0.most);
        enough = omega (arith, c.pages-count.ensures.count, states);
        stored_numbers = c.pages-count.ensures.numbered;
      };
      sought = sought_all (is_clean_in c.in-Ok-new.states) c.in-Ok.frames.slots c.in-Ok.frames.marks
          c.in-Ok.ensures.sought;
    }

-- so many pages are stored
count_is : {S : Type 0} (stored_in : S → List Page) (store : S) (count n : ℕ) → count ≡ length (stored_in store)
    → stored_in store ≡ formatted_pages n → count ≡ n
count_is stored_in store count n long holds = long ∙ ap length holds ∙ length-map-range_with_len formatted 0 n

pub returns-clause-new : goal.returns-clause-new
returns-clause-new g c = λ n holds.
    let same = count_is g.S.PageStore.stored c.args.store c.pages-count.result n c.pages-count.ensures.count holds in
    let room = c.in-Ok.frames.room in
    ap (λ (count : ℕ). record {
      store = c.args.store;
      frames = count;
      room = room;
      resident = c.in-Ok.frames.pages;
      states = c.in-Ok-new.states;
    }) same
    ∙ ap (λ (pages : List Page). record {
      store = c.args.store;
      frames = n;
      room = room;
      resident = pages;
      states = c.in-Ok-new.states;
    }) (c.in-Ok.ensures.pages ∙ ap formatted_pages same)
    ∙ ap (λ (states : List PageState). record {
      store = c.args.store;
      frames = n;
      room = room;
      resident = formatted_pages n;
      states = states;
    }) (c.in-Ok-new.ensures ∙ ap (λ (k : ℕ). replicate k unwritten) same)

-- room for more pages says nothing of a pool
roomy : {S : Type 0} (stored_in : S → List Page) (n room : ℕ) (pool : PoolView S)
    → IsPoolOf stored_in (record { pages = n; records = [] }) pool
    → IsPoolOf stored_in (record { pages = n; records = [] }) (record pool { room = room })
roomy stored_in n room pool is = record {
  valid = is.valid;
  pages = is.pages;
  few = is.few;
  within = is.within;
  resident = is.resident;
  held = is.held;
  states = is.states;
  stored = is.stored;
}

pub returns-clause-empty : goal.returns-clause-empty
returns-clause-empty g c = λ n holds.
    let stored_in = g.S.PageStore.stored in
    let store = c.args.store in
    let count = c.pages-count.ensures.count in
    let same = count_is stored_in store c.pages-count.result n count holds in
    let given = count_is stored_in store c.pages-count.result c.requires.0 count c.requires.1.1 in
    subst (IsPoolOf stored_in (record { pages = n; records = [] })) (sym (returns-clause-new g c n holds))
    (roomy stored_in n (c.in-Ok.frames.room) (whole_pool store n)
    (pool_whole stored_in store n (subst IsPageCount (sym given ∙ same) c.requires.1.0) holds))

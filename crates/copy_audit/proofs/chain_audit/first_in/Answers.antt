use Rattle.std.proofs.Common.{◌≡◌, ◌∙◌, ◌+◌, ◌^◌, ◌<◌, rules, ℕ, List, [], ◌∷◌, ◌++◌, length, map, sym, ap, subst, arith, inl, inr}
use Rattle.std.specs.Prelude.{Option}
use Rattle.std.specs.Vec.{with_items}
use Rattle.std.proofs.lemmas.List.{with_items_is}
use Rattle.std.proofs.lemmas.List.FromFn.{length-map-range_with_len}
use Rattle.std.proofs.lemmas.Result.{err_from_is_err_and}
use Rattle.page_core.specs.PageCounts.{PageCounts, last_count}
use Rattle.page_core.specs.declared.page.Page.{Page}
use Rattle.log_records.specs.Log.{Log, lsn_of}
use Rattle.loser_undo.specs.Kept.{Kept}
use Rattle.page_redo.specs.Placed.{Placed}
use Rattle.copy_vault.specs.ChainEach.{IsReadingEach, place_list}
use Rattle.copy_vault.specs.ChainReading.{IsStopped}
use Rattle.copy_audit.specs.Changes.{AreChangesOf, IsKeptOf}
use Rattle.copy_audit.specs.Places.{places_on}
use Rattle.copy_audit.proofs.OnPage.{few_kept, listed_of}
use Rattle.copy_audit.specs.Rows.{AreFound}
use Rattle.copy_audit.proofs.Looks.{HasLooked, all_looked, looked_more, looked_none, next_below}
use Rattle.copy_audit.proofs.chain_audit.first_in.Goals as goal

pub rows-init : goal.rows-init
rows-init g c =
    let left = g.A.Read.remaining in
    let inputs = map left c.args.archives.now in
    let lefts = map left c.new.new.readers in
    let kept = c.args.log.now in
    let log = c.requires.0 in
    let of = c.requires.1 in
    let chain = c.in_ok-chain.chain in
    let counts : c.counts.result.now ≡ kept.counts =
    c.counts.ensures log of.same ∙ sym (ap (λ (k : Kept). k.counts) of.same) in
    let made = c.in_ok-chain.ensures in
    let rows = c.in_ok-row.ensures in
    record {
      looked = looked_none inputs lefts kept chain (length c.in_ok-row.row.items)
          (subst (λ (n : PageCounts). IsReadingEach n inputs lefts chain []) counts made.each)
          (omega (arith, made.points, rows, c.new.auto.readers)) (omega (arith, made.count, rows, c.new.auto.readers))
          (made.end ∙ c.end.ensures);
      rows = rows;
      points = c.in_ok-points.ensures;
      many = c.new.auto.readers;
    }

pub new-requires-2 : goal.new-requires-2
new-requires-2 g c =
    let few = few_kept c.requires.0 c.args.log.now c.requires.1 in
    record { few = omega (arith, ap (length {A = Placed}) c.changes.ensures, few) }

pub returns-in_err-next_each-clause-err : goal.returns-in_err-next_each-clause-err
returns-in_err-next_each-clause-err g c =
    let left = g.A.Read.remaining in
    let inputs = map left c.args.archives.now in
    let lefts = map left c.next_each.new.readers in
    let kept = c.args.log.now in
    let looked = c.rows.invariant.looked in
    let fault = c.in_err-next_each.field-0.0 in
    let stopped : IsStopped kept.counts (lsn_of kept.count) inputs lefts fault =
    subst (λ n. IsStopped kept.counts n inputs lefts fault) looked.end
    (c.in_err-next_each.ensures.err kept.counts inputs looked.given looked.reading) in
    let p = err_from_is_err_and c.from_residual-in_err-next_each.result c.from_residual-in_err-next_each.ensures.1 in
    rw (p.1, p.2)
    (λ log of. inr (inl (subst (λ (k : Kept). IsStopped k.counts (lsn_of k.count) inputs lefts fault) of.same stopped)))

pub returns-then-not-branch-clause-ok : goal.returns-then-not-branch-clause-ok
returns-then-not-branch-clause-ok g c =
    let left = g.A.Read.remaining in
    let inputs = map left c.args.archives.now in
    let kept = c.args.log.now in
    let looked = c.rows.invariant.looked in
    let ended = c.in_ok-next_each.ensures in
    let read = (rw c.if-not-branch.true at (ended.ok kept.counts inputs looked.given looked.reading)).0 in
    all_looked inputs (map left c.rows.archives) kept c.rows.chain c.next_each.new.self
    (length c.rows.row.items) c.rows.number c.rows.found c.named.result looked read ended.points ended.end
    c.named.ensures

pub returns-then-not-branch-clause-end : goal.returns-then-not-branch-clause-end
returns-then-not-branch-clause-end g c =
    let inputs = map g.A.Read.remaining c.args.archives.now in
    let looked = c.rows.invariant.looked in
    (rw c.if-not-branch.true at (c.in_ok-next_each.ensures.ok c.args.log.now.counts inputs looked.given looked.reading)).1

pub list-requires : goal.list-requires
list-requires g c =
    let left = g.A.Read.remaining in
    let inputs = map left c.args.archives.now in
    let now = map left c.next_each.new.readers in
    let kept = c.args.log.now in
    let looked = c.rows.invariant.looked in
    let step = c.in_ok-next_each.ensures in
    let going = rw c.if-not-branch.false at (step.ok kept.counts inputs looked.given looked.reading) in
    let below = next_below inputs (map left c.rows.archives) now kept c.rows.chain c.next_each.new.self
    (length c.rows.row.items) c.rows.number c.rows.found (map place_list c.next_each.new.row) looked going in
    let of = c.requires.1 in
    let pages : c.last.result ≡ last_count kept.counts = c.last.ensures ∙ ap last_count
    (c.counts-2.ensures c.requires.0 of.same ∙ sym (ap (λ (k : Kept). k.counts) of.same)) in
    omega (
      arith,
      below,
      pages,
      ap length c.in_ok-changes.ensures,
      length-map-range_with_len (places_on c.changes.result.now) 0 c.last.result,
    )

pub overflow_add-number : goal.overflow_add-number
overflow_add-number g c =
    let left = g.A.Read.remaining in
    let inputs = map left c.args.archives.now in
    let now = map left c.next_each.new.readers in
    let kept = c.args.log.now in
    let looked = c.rows.invariant.looked in
    let step = c.in_ok-next_each.ensures in
    let going = rw c.if-not-branch.false at (step.ok kept.counts inputs looked.given looked.reading) in
    let below = next_below inputs (map left c.rows.archives) now kept c.rows.chain c.next_each.new.self
    (length c.rows.row.items) c.rows.number c.rows.found (map place_list c.next_each.new.row) looked going in
    let of = c.requires.1 in
    let pages : c.last.result ≡ last_count kept.counts = c.last.ensures ∙ ap last_count
    (c.counts-2.ensures c.requires.0 of.same ∙ sym (ap (λ (k : Kept). k.counts) of.same)) in
    let fits : c.rows.number + 1 < 2 ^ 32 = omega (arith, below, pages) in
    search rules

pub rows-smaller : goal.rows-smaller
rows-smaller g c =
    let left = g.A.Read.remaining in
    let inputs = map left c.args.archives.now in
    let now = map left c.next_each.new.readers in
    let kept = c.args.log.now in
    let looked = c.rows.invariant.looked in
    let step = c.in_ok-next_each.ensures in
    let going = rw c.if-not-branch.false at (step.ok kept.counts inputs looked.given looked.reading) in
    let below = next_below inputs (map left c.rows.archives) now kept c.rows.chain c.next_each.new.self
    (length c.rows.row.items) c.rows.number c.rows.found (map place_list c.next_each.new.row) looked going in
    omega (arith, below)

pub rows-preserved : goal.rows-preserved
rows-preserved g c =
    let left = g.A.Read.remaining in
    let inputs = map left c.args.archives.now in
    let now = map left c.next_each.new.readers in
    let kept = c.args.log.now in
    let looked = c.rows.invariant.looked in
    let step = c.in_ok-next_each.ensures in
    let going = rw c.if-not-branch.false at (step.ok kept.counts inputs looked.given looked.reading) in
    let below = next_below inputs (map left c.rows.archives) now kept c.rows.chain c.next_each.new.self
    (length c.rows.row.items) c.rows.number c.rows.found (map place_list c.next_each.new.row) looked going in
    let of = c.requires.1 in
    let pages : c.last.result ≡ last_count kept.counts = c.last.ensures ∙ ap last_count
    (c.counts-2.ensures c.requires.0 of.same ∙ sym (ap (λ (k : Kept). k.counts) of.same)) in
    let places = with_items c.rows.row c.next_each.new.row in
    let wide : length c.next_each.new.row ≡ length c.rows.row.items =
    step.length ∙ ap length c.deref_mut.ensures.value in
    let same : places.items ≡ c.next_each.new.row =
    with_items_is c.rows.row c.next_each.new.row (omega (arith, c.rows.row.ok.0, wide)) in
    let row : c.deref-in-rows-2.result.now ≡ places.items = c.deref-in-rows-2.ensures.value in
    let same_points = c.deref.ensures.value ∙ c.rows.invariant.points ∙ sym step.points in
    let listed_now : (log : Log) → IsKeptOf log kept
    → AreChangesOf log.records c.rows.number c.count.result c.deref-in-rows.result.now = λ log is.
    listed_of log kept c.changes-in-rows.result.now c.changes.result.now c.deref-in-rows.result.now c.in_ok-changes.changes
    c.count.result c.last.result c.rows.number is c.changes.ensures c.changes-in-rows.ensures c.in_ok-changes.ensures
    (omega (arith, below, pages)) (c.deref-in-rows.ensures.value ∙ c.in_ok-list.ensures) c.count.ensures in
    let more = looked_more inputs (map left c.rows.archives) now kept c.rows.chain c.next_each.new.self
    (length c.rows.row.items) c.rows.number c.rows.found c.in_ok-found.found c.deref-in-rows-2.result.now looked
    (subst (λ (r : List (Option Page)). IsReadingEach kept.counts inputs now c.next_each.new.self (looked.given ++ map place_list r ∷ []))
    (sym (row ∙ same)) going)
    step.ids step.points step.end (ap length (row ∙ same) ∙ wide)
    (λ log is. subst (λ (ps : List ℕ). (given : List (List (List Page))) → length given ≡ c.rows.number
    → AreFound log.records ps (length c.deref-in-rows-2.result.now) given c.rows.found
    → AreFound log.records ps (length c.deref-in-rows-2.result.now)
    (given ++ map place_list c.deref-in-rows-2.result.now ∷ []) c.in_ok-found.found) same_points
    (c.in_ok-found.ensures log.records (listed_now log is))) in
    record {
      looked = subst (λ n. HasLooked inputs now kept c.next_each.new.self n (c.rows.number + 1)
          c.in_ok-found.found) (ap length row) more;
      rows = omega (arith, ap length same, wide, c.rows.invariant.rows, c.next_each.auto.readers);
      points = c.rows.invariant.points ∙ sym step.points;
      many = omega (arith, c.rows.invariant.many, c.next_each.auto.readers);
    }

use Rattle.std.proofs.Common.{◌≡◌, ◌<◌, ap, sym, arith, ◌∙◌}
use Rattle.page_core.specs.PageCounts.{PageCounts, count_below}
use Rattle.log_records.specs.Log.{counts_of}
use Rattle.log_records.proofs.Public.{count_below-counts_of}
use Rattle.engine_restart.proofs.Beginnings.{begins, last_there}
use Rattle.engine_restart.proofs.copy_check.begins_in.Goals as goal

pub returns-then-pages-below : goal.returns-then-pages-below
returns-then-pages-below c =
    let log = c.args.log.now in
    let copy = c.args.copy.now in
    let below_is : c.below.result ≡ count_below (counts_of log) copy.begin =
    c.below.ensures ∙ ap (λ (k : PageCounts). count_below k c.begin-begin.result) c.in_ok-counts.ensures
    ∙ ap (count_below (counts_of log)) c.begin-begin.ensures in (
      λ e. cc,
      λ is.
          let same : c.pages.result ≡ c.below.result =
          c.pages.ensures.count ∙ is.whole ∙ sym (below_is ∙ count_below-counts_of log copy.begin c.requires.valid) in
          absurd (omega (arith, c.if-pages-below.true, same)),
    )

pub returns : goal.returns
returns c =
    let log = c.args.log.now in
    let below_is : c.below.result ≡ count_below (counts_of log) c.begin-begin.result =
    c.below.ensures ∙ ap (λ (k : PageCounts). count_below k c.begin-begin.result) c.in_ok-counts.ensures in
    let lt : c.begin-begin.result < c.end.result =
    omega (arith, c.if-begin-end.false, c.begin.view_is, c.end-else-not-is_point.view_is) in
    let has = last_there log c.args.last.now c.is_some.result c.is_some.ensures c.requires.linked c.requires.last in (
      λ yes. begins log c.args.copy.now c.begin-begin.result c.redo.result c.end.result c.pages.result c.below.result
          c.requires.valid c.begin-begin.ensures c.redo.ensures (c.is_point.ensures.0 c.if-not-is_point.false) lt
          c.end.ensures c.pages.ensures.count (omega (arith, c.if-pages-below.false)) below_is
          (has.0 yes),
      λ is. has.1 is.complete,
    )

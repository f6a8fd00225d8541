use Rattle.std.proofs.Common.{◌≡◌, ◌+◌, ◌-◌, ◌<◌, ◌∙◌, min, length, ap, sym, subst, arith}
use Rattle.std.proofs.lemmas.Grind.{get_or_default_zero}
use Rattle.log_records.specs.Log.{Log, page_count_at, page_count_below}
use Rattle.settlement.proofs.Counted.{count_at_least, count_at_none}
use Rattle.settlement.proofs.counted_log.CountedLog.count_below.Goals as goal

pub returns-then-count-eq0 : goal.returns-then-count-eq0
returns-then-count-eq0 c =
    let log : Log = record { pages = c.self.inside.first; records = c.self.inside.records.now } in
    let n = c.records_below.result in
    let least : c.min-count.result ≡ min n (length log.records) = c.min-count.ensures in
    let here : c.self.inside.first ≡ page_count_at log n =
    sym (count_at_none log c.min-count.result c.if-count-eq0.true) ∙ ap (page_count_at log) least
    ∙ count_at_least log n in
    subst (λ (lg : Log). c.self.inside.first ≡ page_count_below lg c.args.lsn) c.self.view_is
    (here ∙ ap (page_count_at log) c.records_below.ensures)

pub returns : goal.returns
returns c =
    let log : Log = record { pages = c.self.inside.first; records = c.self.inside.records.now } in
    let n = c.records_below.result in
    let last = c.min-count.result - 1 in
    let least : c.min-count.result ≡ min n (length log.records) = c.min-count.ensures in
    let all = c.self.invariant in
    let each = all.each in
    let some = c.if-count-eq0.false in
    let within : last < length log.records = omega (arith, some) in
    let more : last + 1 ≡ c.min-count.result = omega (arith, some) in
    let x = c.index.result.now in
    let here : x ≡ page_count_at log n =
    c.index.ensures ∙ get_or_default_zero c.self.inside.behind.items last x (omega arith)
    ∙ all.counted last within ∙ ap (page_count_at log) (more ∙ least) ∙ count_at_least log n in
    subst (λ (lg : Log). x ≡ page_count_below lg c.args.lsn) c.self.view_is
    (here ∙ ap (page_count_at log) c.records_below.ensures)

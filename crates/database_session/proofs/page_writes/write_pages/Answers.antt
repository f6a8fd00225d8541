use Rattle.std.proofs.Common.{◌≡◌, ◌+◌, arith, refl}
use Rattle.log_records.specs.Coverage.{entries_of}
use Rattle.engine_rules.proofs.Public.{fit_of_run}
use Rattle.database_session.proofs.DirtyPages.{first_is}
use Rattle.database_session.proofs.PageWrites.{all_passed, clean_below, few_pages, none_left}
use Rattle.database_session.proofs.CommandRuns.{handed_on, runs_nothing, writes_none, written_refused, written_then}
use Rattle.database_session.specs.Calls.{IsOfClosing}
use Rattle.database_session.specs.CommandCalls.{AreRefused, Runs, WritesPages}
use Rattle.database_session.proofs.page_writes.write_pages.Goals as goal

pub loop-number-init : goal.loop-number-init
loop-number-init g c = (
  omega arith,
  runs_nothing (WritesPages 0) c.args.engine.now.state writes_none,
  omega arith,
  c.log_end-end.ensures.fit,
  λ p lt. absurd (omega arith),
)

pub returns-in_default-clause-clean : goal.returns-in_default-clause-clean
returns-in_default-clause-clean g c =
    none_left c.loop-number.cursor c.loop-number.engine.state c.loop-number.invariant.4 c.in_default.ensures

pub returns-in_err-count-clause-refused : goal.returns-in_err-count-clause-refused
returns-in_err-count-clause-refused g c =
    handed_on c.from_residual.result c.in_err-count.field-0.0
    (λ why. Runs (AreRefused IsOfClosing why) c.args.engine.now.state c.write_page.new.engine.state)
    c.from_residual.ensures.1
    (written_refused c.loop-number.count c.in_err-count.field-0.0 c.args.engine.now.state
    c.loop-number.engine.state c.write_page.new.engine.state c.loop-number.invariant.1
    c.in_err-count.ensures.refused)

pub loop-number-preserved : goal.loop-number-preserved
loop-number-preserved g c =
    let s = c.loop-number.engine.state in
    let first = first_is s.log s.written c.loop-number.cursor c.first_of-page.result (entries_of c.in-Some.pages)
    c.first_of-page.ensures c.in-Some.ensures in
    let runs = c.in_ok-count.ensures.written in
    let few = few_pages s c.loop-number.invariant.3 in
    let within = first.within in
    let on = first.on in
    let next : c.saturating_add.result ≡ c.first_of-page.result + 1 = omega arith in (
      omega (arith, c.loop-number.invariant.0, c.in_ok-count.ensures.few),
      written_then c.loop-number.count c.in_ok-count.field-0 (c.loop-number.count + c.in_ok-count.field-0)
          c.args.engine.now.state s c.write_page.new.engine.state refl
          c.loop-number.invariant.1 runs,
      omega (arith, c.loop-number.invariant.2),
      fit_of_run s runs.events runs.replies c.write_page.new.engine.state c.loop-number.invariant.3 runs.fit runs.run,
      clean_below c.loop-number.cursor c.first_of-page.result c.saturating_add.result s c.write_page.new.engine.state next
          c.loop-number.invariant.4 first c.in_ok-count.ensures.cleaned,
    )

pub returns-clause-clean : goal.returns-clause-clean
returns-clause-clean g c =
    all_passed c.loop-number.cursor c.loop-number.engine.state c.loop-number.invariant.3 c.loop-number.invariant.4
    (omega (arith, c.loop-number.invariant.2))

use Rattle.std.proofs.Common.{◌≡◌, ◌∙◌, ap}
use Rattle.std.specs.List.{filter}
use Rattle.page_core.specs.declared.page.Page.{Page}
use Rattle.log_records.specs.Coverage.{resume}
use Rattle.log_records.specs.Log.{Log}
use Rattle.log_records.proofs.Public.{resume_covering}
use Rattle.log_records.proofs.Public.{number-image_from}
use Rattle.copy_vault.specs.Chain.{content, last_redo}
use Rattle.log_store.specs.PageHistory.{is_above}
use Rattle.page_redo.proofs.rebuild.rebuild_page.Goals as goal

resumed : (c : goal.After-redo_page) → c.redo_page.new.page
    ≡ resume (content c.args.chain.now c.args.number) c.args.log.now (last_redo c.args.chain.now)
resumed c =
    let log = c.args.log.now in
    c.redo_page.ensures ∙ c.records_from.ensures c.content-page.result
    ∙ ap (λ (q : Page). resume q log c.redo.result) c.content-page.ensures.content
    ∙ ap (resume (content c.args.chain.now c.args.number) log) c.redo.ensures.redo

pub returns-clause-image : goal.returns-clause-image
returns-clause-image c = λ covers.
    let log : Log = record { pages = c.requires.log.0; records = c.args.log.now } in
    resumed c ∙ resume_covering log c.args.number (content c.args.chain.now c.args.number)
    (last_redo c.args.chain.now) c.requires.log.1 covers

pub returns-clause-numbered : goal.returns-clause-numbered
returns-clause-numbered c =
    let copied = c.content-page.result in
    ap (λ (q : Page). q.number) c.redo_page.ensures
    ∙ number-image_from copied (filter (is_above copied.lsn) c.records_from.result.now)
    ∙ c.content-page.ensures.numbered

use Rattle.std.proofs.Common.{ap, ◌≡◌, ◌∙◌, List, length}
use Rattle.page_core.specs.declared.page.Page.{Page}
use Rattle.log_records.specs.Log.{page_count}
use Rattle.log_records.proofs.Public.{length-redo_all}
use Rattle.embed_calls.proofs.check.counted.Goals as goal

pub returns : goal.returns
returns c log made valid =
    let found = c.into_analysis-found.ensures log made in
    let pages : length c.into_analysis-found.result.pages.items ≡ page_count log =
    ap (λ (ps : List Page). length ps) found.pages ∙ length-redo_all log.records (page_count log) in
    let records = found.records in
    cc

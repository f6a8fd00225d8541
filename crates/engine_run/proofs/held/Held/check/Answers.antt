use Rattle.std.proofs.Common.{ℕ, ◌≡◌, ◌∙◌, List, ap, subst}
use Rattle.log_records.specs.declared.record.Record.{Record}
use Rattle.log_records.specs.Log.{Log}
use Rattle.copy_vault.specs.Vault.{CopyState}
use Rattle.engine_rules.specs.EngineState.{log_of}
use Rattle.engine_run.specs.Settled.{IsWrongAt, evidence, evidence_of}
use Rattle.engine_run.proofs.held.Held.check.Goals as goal

-- a log is its page count and its records
same_log : (counted log : Log) (pages : ℕ) (rs : List Record)
    → counted ≡ record { pages = pages; records = rs } → pages ≡ log.pages → rs ≡ log.records
    → counted ≡ log
same_log counted log pages rs is same_pages same_records =
    let made : ℕ → List Record → Log = λ n xs. record { pages = n; records = xs } in
    is ∙ ap (λ n. made n rs) same_pages ∙ ap (made log.pages) same_records

pub returns-clause-err : goal.returns-clause-err
returns-clause-err g c =
    let s = c.self.inside.engine.state in
    let sessions = c.args.sessions.now in
    let works = c.args.works.now in
    let at = c.in-Err.at in
    let counted = c.in-Ok-new.counted in
    let log : counted ≡ log_of s =
    same_log counted c.log-log.result.now.log c.header_pages.result c.records-records.result.now
    c.in-Ok-new.ensures c.header_pages.ensures c.records-records.ensures.records
    ∙ c.log-log.ensures.log in
    let forced = c.forced_end-forced_end.ensures.end ∙ c.log-log.ensures.forced_end in
    subst (λ v. IsWrongAt c.args.began (evidence_of v.engine.state) sessions works at) c.self.view_is
    (subst (λ (lg : Log). IsWrongAt c.args.began (evidence lg s.forced_end s.copies) sessions works at) log
    (subst (λ n. IsWrongAt c.args.began (evidence counted n s.copies) sessions works at) forced
    (subst (λ (copies : List CopyState). IsWrongAt c.args.began (evidence counted c.forced_end-forced_end.result copies)
    sessions works at) c.copies-copies.ensures c.in-Err.ensures.err)))

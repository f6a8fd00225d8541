use Rattle.std.proofs.Common.{◌≡◌, ◌∙◌, ℕ, ◌<◌, ◌≤◌, ◌∷◌, [], sym, subst}
use Rattle.log_records.specs.declared.record.Record.TheVariants.{EndChkpt}
use Rattle.log_records.specs.Log.{Log, StandsAt, page_count, page_count_below, with_next}
use Rattle.fuzzy_ckpt.specs.Ckpt.{AllCover, CkptView}
use Rattle.fuzzy_ckpt.specs.Steps.{end_of, end_record}
use Rattle.fuzzy_ckpt.specs.declared.phase.Gathered.{Gathered}
use Rattle.fuzzy_ckpt.proofs.Ends.{end_covers, end_order, end_pages, end_stands, said}
use Rattle.fuzzy_ckpt.proofs.ckpt.Ckpt+Gathered.finish.Goals as goal

pub append-requires-clause-stands : goal.append-requires-clause-stands
append-requires-clause-stands g c =
    let log = c.args.log.now.log in
    subst (λ (n : ℕ). StandsAt (page_count log) (end_of log.records) (EndChkpt n c.self.inside.begin c.self.inside.redo))
    (sym c.end_of-lsn.ensures.end)
    (subst (λ (v : CkptView Gathered). StandsAt (page_count log) (end_of log.records) (end_record log.records v))
    (sym c.self.view_is)
    (end_stands log c.args.self c.end_of-lsn.ensures.valid c.requires.ckpt c.requires.few))

pub returns-in-Ok-clause-stored : goal.returns-in-Ok-clause-stored
returns-in-Ok-clause-stored g c =
    let log = c.args.log.now.log in
    let stored = g.S.PageStore.stored c.args.pool.now.store in
    let logged : c.force_to.new.self.log ≡ with_next log
    (EndChkpt c.end_of-lsn.result c.self.inside.begin c.self.inside.redo ∷ []) =
    c.force_to.ensures.same ∙ said c.append.result _
    (sym c.is_err.ensures.value ∙ c.if-is_err.false) c.append.ensures.ok in
    subst (λ (l : Log). AllCover l.records stored c.self.inside.redo) (sym logged)
    (subst (λ (n : ℕ). AllCover (with_next log
    (EndChkpt n c.self.inside.begin c.self.inside.redo ∷ [])).records stored c.self.inside.redo)
    (sym c.end_of-lsn.ensures.end)
    (subst (λ (v : CkptView Gathered). AllCover (with_next log (end_record log.records v ∷ [])).records stored v.redo)
    (sym c.self.view_is)
    (end_covers log c.args.self stored c.end_of-lsn.ensures.valid c.requires.ckpt c.requires.covered)))

pub returns-in-Ok-clause-pages : goal.returns-in-Ok-clause-pages
returns-in-Ok-clause-pages g c =
    let log = c.args.log.now.log in
    let logged : c.force_to.new.self.log ≡ with_next log
    (EndChkpt c.end_of-lsn.result c.self.inside.begin c.self.inside.redo ∷ []) =
    c.force_to.ensures.same ∙ said c.append.result _
    (sym c.is_err.ensures.value ∙ c.if-is_err.false) c.append.ensures.ok in
    subst (λ (l : Log). c.self.inside.pages ≡ page_count_below l c.self.inside.begin) (sym logged)
    (subst (λ (n : ℕ). c.self.inside.pages ≡ page_count_below (with_next log
    (EndChkpt n c.self.inside.begin c.self.inside.redo ∷ [])) c.self.inside.begin)
    (sym c.end_of-lsn.ensures.end)
    (subst (λ (v : CkptView Gathered). v.pages ≡ page_count_below (with_next log (end_record log.records v ∷ [])) v.begin)
    (sym c.self.view_is)
    (end_pages log c.args.self c.end_of-lsn.ensures.valid c.requires.ckpt)))

pub returns-in-Ok-clause-order : goal.returns-in-Ok-clause-order
returns-in-Ok-clause-order g c =
    let log = c.args.log.now.log in
    subst (λ (n : ℕ). (c.self.inside.redo ≤ c.self.inside.begin) × (c.self.inside.begin < n))
    (sym c.end_of-lsn.ensures.end)
    (subst (λ (v : CkptView Gathered). (v.redo ≤ v.begin) × (v.begin < end_of log.records)) (sym c.self.view_is)
    (end_order log c.args.self c.end_of-lsn.ensures.valid c.requires.ckpt))

pub returns-in-Ok-clause-called : goal.returns-in-Ok-clause-called
returns-in-Ok-clause-called g c =
    rw (c.append.ensures.forced_end, c.append.ensures.device) at c.in-Ok.ensures.called

pub returns-in-Err-clause-last_call : goal.returns-in-Err-clause-last_call
returns-in-Err-clause-last_call g c = λ fault.
    rw (c.append.ensures.forced_end, c.append.ensures.device) at c.in-Err.ensures.last_call

use Rattle.std.proofs.Common.{◌≡◌, ◌∙◌, ℕ, ◌∷◌, [], refl, sym, ap, subst}
use Rattle.std.specs.Prelude.{IfSome, IsSome}
use Rattle.log_records.specs.declared.record.Record.TheVariants.{ChkptPages}
use Rattle.log_records.specs.DirtyPage.{entries_of}
use Rattle.log_records.specs.Log.{Log, StandsAt, page_count, with_next}
use Rattle.log_rules.specs.Linked.{MayFollow}
use Rattle.fuzzy_ckpt.specs.Ckpt.{AreCovered, CkptView, IsCkptOf, in_pages, in_txns, pages_ckpt}
use Rattle.fuzzy_ckpt.specs.Steps.{Gathering, HasRoomForStep, end_of, past_pages}
use Rattle.fuzzy_ckpt.proofs.Opens.{lowered}
use Rattle.fuzzy_ckpt.proofs.PagesSteps.{pool_more, pool_none}
use Rattle.fuzzy_ckpt.proofs.ckpt.Ckpt+Pages.pages.Goals as goal

pub returns-in_default-clause-covered : goal.returns-in_default-clause-covered
returns-in_default-clause-covered g c =
    let log = c.args.log.now.log in
    let stored = g.S.PageStore.stored in
    subst (λ (v : CkptView ℕ). AreCovered log.records (stored c.args.pool.now.store)
    (record (pages_ckpt v) { phase = in_txns 0 }))
    (sym c.self.view_is)
    (pool_none stored log c.args.pool.now c.args.self c.phase.inside.from c.dirty_from.result c.requires.pool
    c.requires.covered (c.phase.view_is ∙ ap (λ (v : CkptView ℕ). v.phase) c.self.view_is)
    (c.dirty_from.ensures log c.requires.pool) c.in_default.is)

pub append-requires-clause-stands : goal.append-requires-clause-stands
append-requires-clause-stands g c =
    let log = c.args.log.now.log in
    let pages = c.in-Some.dirty in
    let it = pool_more g.S.PageStore.stored log c.args.pool.now c.args.self c.phase.inside.from c.dirty_from.result
    pages
    c.requires.pool c.requires.ckpt c.requires.covered
    (c.phase.view_is ∙ ap (λ (v : CkptView ℕ). v.phase) c.self.view_is)
    (c.dirty_from.ensures log c.requires.pool) c.in-Some.is in
    let few = subst (λ (x : Gathering). HasRoomForStep log.records x.next) it.step c.requires.room in
    subst (λ (n : ℕ). StandsAt (page_count log) (end_of log.records) (ChkptPages n c.self.inside.begin pages))
    (sym c.end-lsn.ensures)
    (subst (λ (v : CkptView ℕ). StandsAt (page_count log) (end_of log.records) (ChkptPages (end_of log.records) v.begin pages))
    (sym c.self.view_is) (it.stands few))

pub behind-requires : goal.behind-requires
behind-requires g c =
    let log = c.args.log.now.log in
    (pool_more g.S.PageStore.stored log c.args.pool.now c.args.self c.phase.inside.from c.dirty_from.result
    c.in-Some.dirty
    c.requires.pool c.requires.ckpt c.requires.covered
    (c.phase.view_is ∙ ap (λ (v : CkptView ℕ). v.phase) c.self.view_is)
    (c.dirty_from.ensures log c.requires.pool) c.in-Some.is).fits

pub returns-in-Ok-clause-follows : goal.returns-in-Ok-clause-follows
returns-in-Ok-clause-follows g c =
    let log = c.args.log.now.log in
    let it = pool_more g.S.PageStore.stored log c.args.pool.now c.args.self c.phase.inside.from c.dirty_from.result
    c.in-Some.dirty c.requires.pool c.requires.ckpt c.requires.covered
    (c.phase.view_is ∙ ap (λ (v : CkptView ℕ). v.phase) c.self.view_is)
    (c.dirty_from.ensures log c.requires.pool) c.in-Some.is in
    subst (λ (x : Gathering). IfSome x.next (MayFollow log.records)) (sym it.step) it.follows

pub returns-in-Err-clause-follows : goal.returns-in-Err-clause-follows
returns-in-Err-clause-follows g c =
    let log = c.args.log.now.log in
    let it = pool_more g.S.PageStore.stored log c.args.pool.now c.args.self c.phase.inside.from c.dirty_from.result
    c.in-Some.dirty c.requires.pool c.requires.ckpt c.requires.covered
    (c.phase.view_is ∙ ap (λ (v : CkptView ℕ). v.phase) c.self.view_is)
    (c.dirty_from.ensures log c.requires.pool) c.in-Some.is in
    subst (λ (x : Gathering). IfSome x.next (MayFollow log.records)) (sym it.step) it.follows

pub returns-in-Ok-clause-ckpt : goal.returns-in-Ok-clause-ckpt
returns-in-Ok-clause-ckpt g c =
    let log = c.args.log.now.log in
    let pages = c.in-Some.dirty in
    let it = pool_more g.S.PageStore.stored log c.args.pool.now c.args.self c.phase.inside.from c.dirty_from.result
    pages
    c.requires.pool c.requires.ckpt c.requires.covered
    (c.phase.view_is ∙ ap (λ (v : CkptView ℕ). v.phase) c.self.view_is)
    (c.dirty_from.ensures log c.requires.pool) c.in-Some.is in
    let logged = c.in-Ok.ensures.ok
    ∙ ap (λ (n : ℕ). with_next log (ChkptPages n c.self.inside.begin pages ∷ [])) c.end-lsn.ensures
    ∙ ap (λ (v : CkptView ℕ). with_next log (ChkptPages (end_of log.records) v.begin pages ∷ [])) c.self.view_is in
    let redo = c.least_of.ensures ∙ ap (λ (v : CkptView ℕ). lowered v.redo (entries_of pages)) c.self.view_is in
    let view : record { begin = c.self.inside.begin; pages = c.self.inside.pages; redo = c.least_of.result; phase = in_pages c.behind.result }
    ≡ past_pages pages (pages_ckpt c.args.self) = λ i. record {
      begin = (c.self.view_is i).begin;
      pages = (c.self.view_is i).pages;
      redo = redo i;
      phase = in_pages (c.behind.ensures i);
    } in
    subst (λ (l : Log). IsCkptOf l (record {
      begin = c.self.inside.begin;
      pages = c.self.inside.pages;
      redo = c.least_of.result;
      phase = in_pages c.behind.result;
    }))
    (sym logged)
    (subst (IsCkptOf (with_next log (ChkptPages (end_of log.records) c.args.self.begin pages ∷ [])))
    (sym view) it.kept)

pub returns-in-Ok-clause-covered : goal.returns-in-Ok-clause-covered
returns-in-Ok-clause-covered g c =
    let log = c.args.log.now.log in
    let pages = c.in-Some.dirty in
    let stored = g.S.PageStore.stored c.args.pool.now.store in
    let it = pool_more g.S.PageStore.stored log c.args.pool.now c.args.self c.phase.inside.from c.dirty_from.result
    pages
    c.requires.pool c.requires.ckpt c.requires.covered
    (c.phase.view_is ∙ ap (λ (v : CkptView ℕ). v.phase) c.self.view_is)
    (c.dirty_from.ensures log c.requires.pool) c.in-Some.is in
    let logged = c.in-Ok.ensures.ok
    ∙ ap (λ (n : ℕ). with_next log (ChkptPages n c.self.inside.begin pages ∷ [])) c.end-lsn.ensures
    ∙ ap (λ (v : CkptView ℕ). with_next log (ChkptPages (end_of log.records) v.begin pages ∷ [])) c.self.view_is in
    let redo = c.least_of.ensures ∙ ap (λ (v : CkptView ℕ). lowered v.redo (entries_of pages)) c.self.view_is in
    let view : record { begin = c.self.inside.begin; pages = c.self.inside.pages; redo = c.least_of.result; phase = in_pages c.behind.result }
    ≡ past_pages pages (pages_ckpt c.args.self) = λ i. record {
      begin = (c.self.view_is i).begin;
      pages = (c.self.view_is i).pages;
      redo = redo i;
      phase = in_pages (c.behind.ensures i);
    } in
    subst (λ (l : Log). AreCovered l.records stored (record {
      begin = c.self.inside.begin;
      pages = c.self.inside.pages;
      redo = c.least_of.result;
      phase = in_pages c.behind.result;
    }))
    (sym logged)
    (subst (AreCovered (with_next log (ChkptPages (end_of log.records) c.args.self.begin pages ∷ [])).records stored)
    (sym view)
    it.covered)

pub returns-in-Err-clause-appends : goal.returns-in-Err-clause-appends
returns-in-Err-clause-appends g c =
    let log = c.args.log.now.log in
    let it = pool_more g.S.PageStore.stored log c.args.pool.now c.args.self c.phase.inside.from c.dirty_from.result
    c.in-Some.dirty c.requires.pool c.requires.ckpt c.requires.covered
    (c.phase.view_is ∙ ap (λ (v : CkptView ℕ). v.phase) c.self.view_is)
    (c.dirty_from.ensures log c.requires.pool) c.in-Some.is in
    subst (λ (x : Gathering). IsSome x.next) (sym it.step) refl

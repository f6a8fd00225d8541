use Rattle.std.proofs.Common.{◌≡◌, ◌∙◌, ℕ, List, map, sym, ap, subst}
use Rattle.page_core.specs.declared.page.Page.{Page}
use Rattle.log_records.specs.Coverage.{resume}
use Rattle.log_records.specs.Image.{redo_all}
use Rattle.log_records.specs.Log.{Log, page_count}
use Rattle.copy_vault.specs.Chain.{IsChain, contents, last_redo}
use Rattle.copy_vault.specs.ChainOf.{IsChainOf}
use Rattle.copy_vault.specs.Copy.{CopyView}
use Rattle.copy_vault.specs.Vault.{CopyState}
use Rattle.copy_coverage.specs.Kept.{IsKeptOf}
use Rattle.media_restore.specs.Load.{IsLoaded, LoadedView, kept_log}
use Rattle.media_restore.proofs.Loads.{all_restored, cut_is_fine, kept_of, loaded, pages_at_cut, room_of}
use Rattle.media_restore.proofs.copy_load.load.Goals as goal

pub new-requires : goal.new-requires
new-requires c =
    let it = c.args.retired in
    let retired = c.refusal_of.ensures.kept in
    let fine = cut_is_fine it c.args.copy c.args.cut (sym c.refusal_of.ensures.refusal ∙ c.in_default.is) in
    let found = c.in-Ok.ensures.chain in
    let members = found.0 in
    let master = c.noted_master-master.result in
    let of_id : IsChainOf it.copies c.args.copy members =
    subst (λ (copies : List CopyState). IsChainOf copies c.args.copy members) c.vault.ensures found.2 in
    let log : c.keep_first.new.self ≡ kept_log it.log c.args.cut =
    c.keep_first.ensures ∙ ap (λ (log : Log). kept_log log c.args.cut) c.into_log-log.ensures in
    let pages = c.truncate.new.self.items in
    let redo = c.in-Ok.loaded.1 in
    let n = page_count (kept_log it.log c.args.cut) in
    let pages_are : pages ≡ contents members n =
    pages_at_cut it c.args.cut c.page_count-count.result c.page_count.result members c.in-Ok.loaded.0.items pages found.3
    (c.page_count-count.ensures.count ∙ ap page_count c.log.ensures.log)
    (c.page_count.ensures.count ∙ ap page_count log) c.truncate.ensures.items in
    let made : Log → List Page → ℕ → Type 0 =
    λ log ps from. IsLoaded (record { log = log; master = master; pages = ps; redo = from }) in
    subst (λ (log : Log). made log pages redo) (sym log)
    (subst (λ (ps : List Page). made (kept_log it.log c.args.cut) ps redo) (sym pages_are)
    (subst (made (kept_log it.log c.args.cut) (contents members n)) (sym found.4)
    (loaded it c.args.cut c.args.copy master members retired c.noted_master-master.ensures found.1 of_id fine)))

pub returns-clause-restores : goal.returns-clause-restores
returns-clause-restores c =
    let it = c.args.retired in
    let retired = c.refusal_of.ensures.kept in
    let fine = cut_is_fine it c.args.copy c.args.cut (sym c.refusal_of.ensures.refusal ∙ c.in_default.is) in
    let found = c.in-Ok.ensures.chain in
    let members = found.0 in
    let of_id : IsChainOf it.copies c.args.copy members =
    subst (λ (copies : List CopyState). IsChainOf copies c.args.copy members) c.vault.ensures found.2 in
    let log : c.keep_first.new.self ≡ kept_log it.log c.args.cut =
    c.keep_first.ensures ∙ ap (λ (log : Log). kept_log log c.args.cut) c.into_log-log.ensures in
    let pages = c.truncate.new.self.items in
    let redo = c.in-Ok.loaded.1 in
    let n = page_count (kept_log it.log c.args.cut) in
    let pages_are : pages ≡ contents members n =
    pages_at_cut it c.args.cut c.page_count-count.result c.page_count.result members c.in-Ok.loaded.0.items pages found.3
    (c.page_count-count.ensures.count ∙ ap page_count c.log.ensures.log)
    (c.page_count.ensures.count ∙ ap page_count log) c.truncate.ensures.items in
    subst (λ (it : LoadedView). map (λ page. resume page it.log.records it.redo) it.pages
    ≡ redo_all it.log.records (page_count it.log))
    (sym c.new.ensures)
    (subst (λ (log : Log). map (λ page. resume page log.records redo) pages ≡ redo_all log.records (page_count log)) (sym log)
    (subst (λ (ps : List Page). map (λ page. resume page (kept_log it.log c.args.cut).records redo) ps
    ≡ redo_all (kept_log it.log c.args.cut).records n) (sym pages_are)
    (subst (λ (from : ℕ). map (λ page. resume page (kept_log it.log c.args.cut).records from)
    (contents members n) ≡ redo_all (kept_log it.log c.args.cut).records n) (sym found.4)
    (all_restored it c.args.cut c.args.copy members retired found.1 of_id (kept_of it c.args.cut retired fine)))))

pub returns-clause-kept : goal.returns-clause-kept
returns-clause-kept c =
    let it = c.args.retired in
    let fine = cut_is_fine it c.args.copy c.args.cut (sym c.refusal_of.ensures.refusal ∙ c.in_default.is) in
    let log : c.keep_first.new.self ≡ kept_log it.log c.args.cut =
    c.keep_first.ensures ∙ ap (λ (log : Log). kept_log log c.args.cut) c.into_log-log.ensures in
    subst (λ (it' : LoadedView). IsKeptOf it.log it.forced_end it'.log) (sym c.new.ensures)
    (subst (IsKeptOf it.log it.forced_end) (sym log) (kept_of it c.args.cut c.refusal_of.ensures.kept fine))

pub returns-clause-room : goal.returns-clause-room
returns-clause-room c =
    room_of c.args.retired c.new.result.log c.refusal_of.ensures.kept (returns-clause-kept c)

pub returns-clause-chain : goal.returns-clause-chain
returns-clause-chain c =
    let it = c.args.retired in
    let found = c.in-Ok.ensures.chain in
    let members = found.0 in
    let of_id : IsChainOf it.copies c.args.copy members =
    subst (λ (copies : List CopyState). IsChainOf copies c.args.copy members) c.vault.ensures found.2 in
    let log : c.keep_first.new.self ≡ kept_log it.log c.args.cut =
    c.keep_first.ensures ∙ ap (λ (log : Log). kept_log log c.args.cut) c.into_log-log.ensures in
    let pages = c.truncate.new.self.items in
    let pages_are : pages ≡ contents members (page_count (kept_log it.log c.args.cut)) =
    pages_at_cut it c.args.cut c.page_count-count.result c.page_count.result members c.in-Ok.loaded.0.items pages found.3
    (c.page_count-count.ensures.count ∙ ap page_count c.log.ensures.log)
    (c.page_count.ensures.count ∙ ap page_count log) c.truncate.ensures.items in
    subst (λ (it' : LoadedView). (ms : List CopyView) × IsChain ms × IsChainOf it.copies c.args.copy ms
    × (it'.pages ≡ contents ms (page_count it'.log)) × (it'.redo ≡ last_redo ms)) (sym c.new.ensures) (
      members,
      found.1,
      of_id,
      pages_are ∙ ap (λ (l : Log). contents members (page_count l)) (sym log),
      found.4,
    )

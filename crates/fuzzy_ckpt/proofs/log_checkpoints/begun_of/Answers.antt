use Rattle.std.proofs.Common.{◌≡◌, ◌∙◌, ap, sym}
use Rattle.std.specs.Prelude.{Some}
use Rattle.std.specs.Option.{option_map}
use Rattle.page_core.specs.PageCounts.{PageCounts, count_below}
use Rattle.log_records.specs.Log.{page_count_below}
use Rattle.log_records.proofs.Public.{count_below-counts_of}
use Rattle.log_rules.specs.Checkpoint.{open_checkpoint}
use Rattle.fuzzy_ckpt.specs.Ckpt.{CkptView, Phase, gathered}
use Rattle.fuzzy_ckpt.proofs.LastCkpts.{begun_at, begun_view}
use Rattle.fuzzy_ckpt.proofs.log_checkpoints.begun_of.Goals as goal

pub returns-in-Some : goal.returns-in-Some
returns-in-Some c = λ log begun counts valid.
    let it = c.in-Some.it in
    let pages : c.below.result ≡ page_count_below log it.begin =
    c.below.ensures ∙ ap (λ (k : PageCounts). count_below k it.begin) counts
    ∙ count_below-counts_of log it.begin valid in
    ap Some (c.found.ensures ∙ ap (λ n. let v : CkptView Phase = record
    { begin = it.begin; pages = n; redo = it.redo; phase = gathered } in v) pages)
    ∙ sym (ap (option_map (begun_view log)) (sym begun ∙ c.in-Some.is)) ∙ begun_at log (open_checkpoint log.records)

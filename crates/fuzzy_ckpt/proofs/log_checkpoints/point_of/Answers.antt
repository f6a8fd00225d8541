use Rattle.std.proofs.Common.{◌≡◌, ◌∙◌, ap, subst, sym}
use Rattle.std.specs.Prelude.{Some}
use Rattle.std.specs.Option.{option_map}
use Rattle.page_core.specs.PageCounts.{PageCounts, count_below}
use Rattle.log_records.specs.Log.{page_count_below}
use Rattle.log_records.proofs.Public.{count_below-counts_of}
use Rattle.fuzzy_ckpt.specs.LogCheckpoints.{IsLastPoint}
use Rattle.fuzzy_ckpt.proofs.LastCkpts.{last_completed, point_at}
use Rattle.fuzzy_ckpt.proofs.log_checkpoints.point_of.Goals as goal

pub returns-in-Some : goal.returns-in-Some
returns-in-Some c = λ log last counts valid.
    let point = c.in-Some.point in
    let pages : c.below.result ≡ page_count_below log point.begin =
    c.below.ensures ∙ ap (λ (k : PageCounts). count_below k point.begin) counts
    ∙ count_below-counts_of log point.begin valid in
    subst (λ n. IsLastPoint log log.records (Some (record {
      begin = point.begin;
      end = point.end;
      redo = point.redo;
      pages = n;
    }))) (sym pages)
    (subst (λ o. IsLastPoint log log.records (option_map (point_at log) o)) (sym last ∙ c.in-Some.is)
    (last_completed log valid))

pub returns-in-None : goal.returns-in-None
returns-in-None c = λ log last counts valid.
    subst (λ o. IsLastPoint log log.records (option_map (point_at log) o)) (sym last ∙ c.in-None.is)
    (last_completed log valid)

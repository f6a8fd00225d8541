use Rattle.folder_reports.proofs.Files.{not_cut}
use Rattle.folder_reports.proofs.log_end.scan_noted.Goals as goal

pub returns-in-None : goal.returns-in-None
returns-in-None g c =
    let it = c.in_ok-found.ensures.found in (
      it.log,
      record {
        valid = it.valid;
        linked = it.linked;
        spelled = not_cut (g.R.Read.remaining c.args.file) it.log c.in_ok-found.found.cut c.in-None.is it.front;
      },
    )

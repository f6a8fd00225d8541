use Rattle.std.proofs.Common.{◌∙◌, ap, length}
use Rattle.std.specs.List.{range_with_len}
use Rattle.std.proofs.lemmas.List.{length-map}
use Rattle.std.proofs.lemmas.List.FromFn.{length-range_with_len}
use Rattle.page_core.specs.Page.{formatted}
use Rattle.engine_run.proofs.room.Room.new.Goals as goal

pub returns-clause-pages : goal.returns-clause-pages
returns-clause-pages c =
    ap length c.in_ok-pages.ensures.formatted
    ∙ length-map (range_with_len 0 c.args.pages) formatted ∙ length-range_with_len 0 c.args.pages

use Rattle.std.proofs.Common.{ap, length, arith}
use Rattle.log_records.proofs.Public.{page_count-is_count}
use Rattle.log_store.proofs.BrokenRules.{count_made}
use Rattle.log_store.proofs.rule_at.rule_behind.Goals as goal

pub overflow_cast-pages : goal.overflow_cast-pages
overflow_cast-pages c =
    let made = c.requires.made in
    omega (
      arith,
      ap length c.pages.ensures,
      count_made made.0 c.args.history.now made.1,
      (page_count-is_count made.0 made.2).most,
    )

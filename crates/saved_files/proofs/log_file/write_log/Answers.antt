use Rattle.std.proofs.Common.{refl}
use Rattle.log_records.specs.Log.{IsLog, Log, SpellsLog, log_bytes}
use Rattle.page_core.specs.declared.format.Format.TheVariants.{Second}
use Rattle.saved_files.proofs.log_file.write_log.Goals as goal

spelled : (log : Log) → IsLog log → SpellsLog log (log_bytes log)
spelled log valid = record {
  valid = valid;
  format = Second;
  of_format = λ i d lt. tt;
  spelled = refl;
}

pub returns-in_default-clause-spelled : goal.returns-in_default-clause-spelled
returns-in_default-clause-spelled g c = spelled c.args.log.now c.pages-pages.ensures.valid

pub returns-in-Ok-write_log-clause-spelled : goal.returns-in-Ok-write_log-clause-spelled
returns-in-Ok-write_log-clause-spelled g c = spelled c.args.log.now c.pages-pages.ensures.valid

pub returns-clause-spelled : goal.returns-clause-spelled
returns-clause-spelled g c = spelled c.args.log.now c.pages-pages.ensures.valid

use Rattle.std.proofs.Common.{◌≡◌, ◌∙◌}
use Rattle.log_records.specs.Log.{format_in}
use Rattle.log_records.proofs.Public.{format_in-header}
use Rattle.page_core.specs.declared.format.Format.TheVariants.{Second}
use Rattle.engine_restart.proofs.Founds.{header_in_front, in_second, none_some}
use Rattle.engine_restart.proofs.found.log_in.Goals as goal

pub returns-in-Second-clause-spelled : goal.returns-in-Second-clause-spelled
returns-in-Second-clause-spelled c =
    let bytes = c.args.bytes.now in
    let header = c.in-Some.header in
    let second : format_in bytes ≡ Second =
    format_in-header header.format header.pages bytes c.in-Some.ensures.found.spelled ∙ c.in-Second.is in
    in_second c.in_ok-front.front.log bytes c.in_ok-front.ensures.found.longest.front.spells second

pub returns-in-First-clause-none : goal.returns-in-First-clause-none
returns-in-First-clause-none c =
    let header = c.in-Some.header in
    format_in-header header.format header.pages c.args.bytes.now c.in-Some.ensures.found.spelled ∙ c.in-First.is

pub returns-in-None-clause-none : goal.returns-in-None-clause-none
returns-in-None-clause-none c log front =
    none_some _ (c.in-None.ensures.only front.spells.format log.pages
    (header_in_front log c.args.bytes.now front.spells))

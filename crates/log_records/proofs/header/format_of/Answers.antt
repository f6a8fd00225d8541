use Rattle.std.proofs.Common.{◌∙◌, ap, refl, sym}
use Rattle.std.specs.Prelude.{Some}
use Rattle.page_core.specs.declared.format.Format.TheVariants.{Second}
use Rattle.log_records.proofs.Logs.{same_formats}
use Rattle.log_records.proofs.header.format_of.Goals as goal

pub returns-then-is_same-clause-only : goal.returns-then-is_same-clause-only
returns-then-is_same-clause-only c = λ format e.
    ap Some (same_formats Second format c.args.pages c.args.pages
    (sym (c.if-is_same.ensures.0 refl ∙ c.header_in.ensures) ∙ e))

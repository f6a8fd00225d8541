use Rattle.std.proofs.Common.{◌≡◌, take}
use Rattle.std.specs.String.{string_bytes}
use Rattle.script_run.specs.PageLines.{page_lines}
use Rattle.script_run.proofs.page_lines.page_lines.Given as goal

abbrev pub invariant-loop-page : goal.invariant-loop-page
invariant-loop-page l = string_bytes l.text ≡ page_lines (take l.page-index l.pages)

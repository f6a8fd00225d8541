use Rattle.std.proofs.Common.{◌-◌, length, replicate, sym, ap, subst, ◌∙◌, arith}
use Rattle.std.proofs.lemmas.List.{length-append, length-replicate}
use Rattle.page_decisions.specs.Decisions.{kept, taken_pages}
use Rattle.copy_vault.specs.ArchiveRead.{IsPart}
use Rattle.page_decisions.proofs.Public.{taken_kept}
use Rattle.copy_vault.proofs.Parts.{part_kept}
use Rattle.copy_vault.proofs.read.keep_up_to.Goals as goal

pub returns-clause-part : goal.returns-clause-part
returns-clause-part c =
    let old = c.args.slots.now in
    let from = c.requires.from in
    let within = c.requires.within in
    subst (IsPart c.args.header.now) (sym c.keep_to.ensures)
    (part_kept c.args.header.now (c.args.end - length old) old c.requires.so_far (omega arith))

pub returns-clause-taken : goal.returns-clause-taken
returns-clause-taken c =
    let old = c.args.slots.now in
    ap taken_pages c.keep_to.ensures ∙ taken_kept (c.args.end - length old) old

pub returns-clause-count : goal.returns-clause-count
returns-clause-count c =
    let old = c.args.slots.now in
    let from = c.requires.from in
    let rest = replicate (c.args.end - length old) kept in
    omega (
      arith,
      ap length c.keep_to.ensures,
      length-append old rest,
      length-replicate (c.args.end - length old) kept,
    )

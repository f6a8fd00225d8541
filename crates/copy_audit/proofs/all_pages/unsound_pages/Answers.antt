use Rattle.std.proofs.Common.{map, refl}
use Rattle.std.proofs.lemmas.Result.{err_from_is_err_and}
use Rattle.copy_audit.specs.Audit.{IsOfLog}
use Rattle.copy_audit.specs.Audited.{of_the_archives, of_the_log}
use Rattle.copy_audit.specs.Changes.{IsKeptOf}
use Rattle.copy_audit.proofs.Audits.{no_page_of_chain, no_page_of_log}
use Rattle.copy_audit.proofs.all_pages.unsound_pages.Goals as goal

pub returns-in_err-kept-clause-err : goal.returns-in_err-kept-clause-err
returns-in_err-kept-clause-err g c =
    let p = err_from_is_err_and c.from_residual.result c.from_residual.ensures.1 in
    rw (p.1, p.2) (of_the_log c.in_err-kept.field-0.0 refl c.in_err-kept.ensures.first)

pub returns-in_err-told-clause-err : goal.returns-in_err-told-clause-err
returns-in_err-told-clause-err g c =
    let found = c.in_ok-kept.ensures.found in
    let log = found.0 in
    let of : IsKeptOf log c.in_ok-kept.field-0.0 = record { valid = found.1.1.1.1.0; same = found.1.0 } in
    let of_log : IsOfLog (g.L.Read.remaining c.args.log.now) log = record {
      valid = found.1.1.1.1.0;
      linked = found.1.1.1.0;
      spelled = found.1.1.1.1.1;
    } in
    let p = err_from_is_err_and c.from_residual-in_err-told.result c.from_residual-in_err-told.ensures.1 in
    rw (p.1, p.2) (of_the_archives log of_log c.in_err-told.field-0.0 refl
    (map g.A.Read.remaining c.pages_in.new.archives) (c.in_err-told.ensures.err log of))

pub returns-in_err-kept-clause-no_page : goal.returns-in_err-kept-clause-no_page
returns-in_err-kept-clause-no_page g c =
    let p = err_from_is_err_and c.from_residual.result c.from_residual.ensures.1 in
    rw (p.1, p.2) (no_page_of_log c.in_err-kept.field-0.0)

pub returns-in_err-told-clause-no_page : goal.returns-in_err-told-clause-no_page
returns-in_err-told-clause-no_page g c =
    let p = err_from_is_err_and c.from_residual-in_err-told.result c.from_residual-in_err-told.ensures.1 in
    rw (p.1, p.2) (no_page_of_chain c.in_err-told.field-0.0)

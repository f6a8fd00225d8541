use Rattle.std.proofs.Common.{map, refl, subst}
use Rattle.std.proofs.lemmas.Result.{err_from_is_err_and}
use Rattle.copy_audit.specs.Audit.{IsOfLog}
use Rattle.copy_audit.specs.Audited.{IsLooked, a_page, of_a_page, of_the_archives, of_the_log, the_archives, the_log}
use Rattle.copy_audit.specs.Changes.{IsKeptOf}
use Rattle.copy_audit.proofs.chain_audit.audit.Goals as goal

pub returns-in_err-kept-clause-err : goal.returns-in_err-kept-clause-err
returns-in_err-kept-clause-err g c =
    let p = err_from_is_err_and c.from_residual.result c.from_residual.ensures.1 in
    rw (p.1, p.2) (of_the_log c.in_err-kept.field-0.0 refl c.in_err-kept.ensures.first)

pub returns-in_err-unsound-clause-err : goal.returns-in_err-unsound-clause-err
returns-in_err-unsound-clause-err g c =
    let found = c.in_ok-kept.ensures.found in
    let log = found.0 in
    let of : IsKeptOf log c.in_ok-kept.field-0.0 = record { valid = found.1.1.1.1.0; same = found.1.0 } in
    let of_log : IsOfLog (g.L.Read.remaining c.args.log.now) log = record {
      valid = found.1.1.1.1.0;
      linked = found.1.1.1.0;
      spelled = found.1.1.1.1.1;
    } in
    let p = err_from_is_err_and c.from_residual-in_err-unsound.result c.from_residual-in_err-unsound.ensures.1 in
    rw (p.1, p.2) (of_the_archives log of_log c.in_err-unsound.field-0.0 refl
    (map g.A.Read.remaining c.first_in.new.archives) (c.in_err-unsound.ensures.err log of))

pub returns-in_err-kept-clause-stops : goal.returns-in_err-kept-clause-stops
returns-in_err-kept-clause-stops g c =
    let p = err_from_is_err_and c.from_residual.result c.from_residual.ensures.1 in
    rw (p.1, p.2) (the_log c.in_err-kept.field-0.0 refl c.in_err-kept.ensures.unread refl)

pub returns-in_err-unsound-clause-stops : goal.returns-in_err-unsound-clause-stops
returns-in_err-unsound-clause-stops g c =
    let found = c.in_ok-kept.ensures.found in
    let log = found.0 in
    let of : IsKeptOf log c.in_ok-kept.field-0.0 = record { valid = found.1.1.1.1.0; same = found.1.0 } in
    let of_log : IsOfLog (g.L.Read.remaining c.args.log.now) log = record {
      valid = found.1.1.1.1.0;
      linked = found.1.1.1.0;
      spelled = found.1.1.1.1.1;
    } in
    let p = err_from_is_err_and c.from_residual-in_err-unsound.result c.from_residual-in_err-unsound.ensures.1 in
    rw (p.1, p.2) (the_archives log of_log (c.read_changes.ensures.known, c.in_ok-kept.ensures.end)
    c.in_err-unsound.field-0.0 refl (c.in_err-unsound.ensures.err log of))

pub returns-in-Some-clause-err : goal.returns-in-Some-clause-err
returns-in-Some-clause-err g c =
    let found = c.in_ok-kept.ensures.found in
    let log = found.0 in
    let of : IsKeptOf log c.in_ok-kept.field-0.0 = record { valid = found.1.1.1.1.0; same = found.1.0 } in
    let of_log : IsOfLog (g.L.Read.remaining c.args.log.now) log = record {
      valid = found.1.1.1.1.0;
      linked = found.1.1.1.0;
      spelled = found.1.1.1.1.1;
    } in
    let inputs = map g.A.Read.remaining c.args.archives.now in
    let looked = subst (IsLooked log inputs) c.in-Some.is (c.in_ok-unsound.ensures.ok log of) in
    of_a_page log looked.copies of_log looked.of_archives looked.chain looked.looked

pub returns-in-Some-clause-stops : goal.returns-in-Some-clause-stops
returns-in-Some-clause-stops g c =
    let found = c.in_ok-kept.ensures.found in
    let log = found.0 in
    let of : IsKeptOf log c.in_ok-kept.field-0.0 = record { valid = found.1.1.1.1.0; same = found.1.0 } in
    let inputs = map g.A.Read.remaining c.args.archives.now in
    let looked = subst (IsLooked log inputs) c.in-Some.is (c.in_ok-unsound.ensures.ok log of) in
    a_page looked.looked.id looked.looked.page looked.looked.named
    (c.read_changes.ensures.known, c.in_ok-kept.ensures.end) c.in_ok-unsound.ensures.end

use Rattle.std.proofs.Common.{◌≡◌, false, true, sym, subst, refl}
use Rattle.manifest.specs.Entries.{IsName}
use Rattle.manifest.proofs.NoPieces.{behind_sum, it_stands, name_is, name_there, name_utf8}
use Rattle.manifest.proofs.pieces.sum_at.Goals as goal

pub returns-in_err-rest-2-clause-none : goal.returns-in_err-rest-2-clause-none
returns-in_err-rest-2-clause-none c =
    rw c.from_residual-in_err-rest-2.ensures (λ sum name more is plain e.
    c.in_err-rest-2.ensures.none _
    (behind_sum c.args.bytes.now c.digits_at.new.room c.in_ok-rest.rest.now sum name more
    c.in_ok-rest.ensures.found.0 c.in_ok-rest.ensures.found.1 is e))

pub returns-in_err-name-clause-none : goal.returns-in_err-name-clause-none
returns-in_err-name-clause-none c =
    rw c.from_residual-in_err-name.ensures (λ sum name more is plain e.
    it_stands 10 c.in_ok-rest-2.rest.now name more c.in_err-name.ensures.none
    (name_there c.in_ok-rest.rest.now c.in_ok-rest-2.rest.now name more c.in_ok-rest-2.ensures.found
    (behind_sum c.args.bytes.now c.digits_at.new.room c.in_ok-rest.rest.now sum name more
    c.in_ok-rest.ensures.found.0 c.in_ok-rest.ensures.found.1 is e)))

pub returns-then-not-are_name_bytes-clause-none : goal.returns-then-not-are_name_bytes-clause-none
returns-then-not-are_name_bytes-clause-none c sum name more is plain e =
    let there =
    name_there c.in_ok-rest.rest.now c.in_ok-rest-2.rest.now name more c.in_ok-rest-2.ensures.found
    (behind_sum c.args.bytes.now c.digits_at.new.room c.in_ok-rest.rest.now sum name more
    c.in_ok-rest.ensures.found.0 c.in_ok-rest.ensures.found.1 is e) in
    let cut = c.in_ok-name.ensures.found in
    let same =
    name_is c.in_ok-rest-2.rest.now c.in_ok-name.name.now c.in_ok-name.rest.now name more cut.0 cut.1 plain there in
    let b : false ≡ true = c.if-not-are_name_bytes.ensures.1 (subst IsName (sym same) plain) in
    cc

pub returns-in_default-clause-none : goal.returns-in_default-clause-none
returns-in_default-clause-none c sum name more is plain e =
    c.in_default.ensures.cases.0
    (name_utf8 c.in_ok-name.name.now (c.if-not-are_name_bytes.ensures.0 refl))

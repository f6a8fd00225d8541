use Rattle.std.proofs.Common.{◌≡◌, ap, subst, ◌∙◌, inl}
use Rattle.std.specs.Prelude.{IfSome}
use Rattle.page_core.proofs.Public.{known_more}
use Rattle.log_store.specs.declared.fault.LogReadFault.TheVariants as whole
use Rattle.log_store.specs.Fault.{Refuses}
use Rattle.log_store.specs.Scan.{HasGivenTo, IsReadTo}
use Rattle.log_prefix.specs.declared.fault.FrontFault.TheVariants.{BadHeader}
use Rattle.log_prefix.specs.Front.{same_fault}
use Rattle.log_prefix.proofs.Scanned.{front_of_all, front_of_part, no_front}
use Rattle.log_prefix.proofs.scan.scan_front.Goals as goal

pub returns-in-Err-clause-none : goal.returns-in-Err-clause-none
returns-in-Err-clause-none g c = λ bad.
    let header : c.none_by.result ≡ BadHeader = cc in
    let is : c.in-Err.fault ≡ whole.BadHeader = c.none_by.ensures ∙ ap same_fault header in
    no_front _ (subst (λ fault. IfSome (g.R.Read.remaining c.args.reader.now) (λ input. Refuses input fault)) is
    c.in-Err.ensures.first)

pub returns-in_err-read_up-in-Some-clause-known : goal.returns-in_err-read_up-in-Some-clause-known
returns-in_err-read_up-in-Some-clause-known g c =
    known_more _ _ _ c.scan_to_fault.ensures.known c.read_up.ensures.known

pub returns-in-None-clause-found : goal.returns-in-None-clause-found
returns-in-None-clause-found g c =
    let scan = c.in-Ok.reached.scan in
    front_of_all g.S.RecordSink.holds scan.sink scan.history _
    (subst (λ fault. IsReadTo g.S.RecordSink.holds scan.sink scan.history fault (g.R.Read.remaining c.args.reader.now))
    c.in-None.is c.in-Ok.ensures.found)

pub returns-in-None-clause-read : goal.returns-in-None-clause-read
returns-in-None-clause-read g c =
    let known = c.scan_to_fault.ensures.known in
    (known.0, (known.1, inl (subst (HasGivenTo _ _) c.in-None.is c.in-Ok.ensures.given)))

pub returns-in_ok-read_up-in-Some-clause-found : goal.returns-in_ok-read_up-in-Some-clause-found
returns-in_ok-read_up-in-Some-clause-found g c =
    let scan = c.in-Ok.reached.scan in
    front_of_part g.S.RecordSink.holds scan.sink scan.history _ c.cut_of-cut.result c.in-Some.fault
    c.cut_of-cut.ensures.why c.cut_of-cut.ensures.at
    (subst (λ fault. IsReadTo g.S.RecordSink.holds scan.sink scan.history fault (g.R.Read.remaining c.args.reader.now))
    c.in-Some.is c.in-Ok.ensures.found)

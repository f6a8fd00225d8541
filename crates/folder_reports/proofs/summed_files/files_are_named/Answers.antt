use Rattle.std.proofs.Common.{◌≡◌, ◌∙◌, List, ap, arith, drop, length, subst, sym}
use Rattle.std.proofs.lemmas.List.{take-append-le, take_all}
use Rattle.std.proofs.lemmas.Result.{IfOk-weaker}
use Rattle.folder_reports.proofs.Sums.{are_named}
use Rattle.folder_reports.specs.Summed.{AreSummed}
use Rattle.folder_reports.specs.declared.summed_files.SummedFile.{SummedFile}
use Rattle.folder_reports.proofs.summed_files.files_are_named.Goals as goal

pub returns : goal.returns
returns g c =
    let entries = g.F.DatabaseFiles.entries c.args.folder.now in
    let files = c.in_ok-files.files.items in
    let summed = c.deref.result.now in
    let new = c.sum_all.new.files in
    let many : c.in_ok-files.files.len ≡ length new =
    omega (arith, c.in_ok-files.files.ok.0, c.sum_all.ensures.many, ap (length {A = SummedFile}) c.deref_mut.ensures.value) in
    let written : summed ≡ new = c.deref.ensures.value
    ∙ take-append-le c.in_ok-files.files.len new (drop (length new) files) (omega (arith, many))
    ∙ take_all c.in_ok-files.files.len new (omega (arith, many)) in
    let sums = subst (λ (old : List SummedFile). AreSummed entries old summed) c.deref_mut.ensures.value
    (subst (AreSummed entries c.deref_mut.result.now) (sym written) c.sum_all.ensures) in
    IfOk-weaker c.tell_all.result _ _ (λ it told yes.
    are_named entries c.args.manifest.now c.log_length-log.result files summed c.log_length-log.ensures c.in_ok-files.ensures sums
    (told yes)) c.tell_all.ensures

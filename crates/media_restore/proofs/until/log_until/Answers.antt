use Rattle.std.proofs.Common.{ap, inl, inr, length, refl, subst, sym, ◌+◌, ◌/◌, ◌∙◌}
use Rattle.std.proofs.lemmas.Bool.{false≢true}
use Rattle.std.specs.Prelude.{IfSome}
use Rattle.log_records.specs.Log.{SpellsLog}
use Rattle.log_store.specs.Fault.{IsPlace}
use Rattle.media_restore.specs.Until.{bytes_until}
use Rattle.media_restore.proofs.Untils.{cut_there, ends_elsewhere, ends_with, exactly, none_ends}
use Rattle.media_restore.proofs.until.log_until.Goals as goal

pub returns-then-found-until-clause-err : goal.returns-then-found-until-clause-err
returns-then-found-until-clause-err g c =
    let found = c.in_ok-scan.ensures.found in
    let input = g.R.Read.remaining c.args.reader.now in
    let spelled : IfSome (bytes_until c.args.until input) (SpellsLog found.0) =
    subst (λ o. IfSome o (SpellsLog found.0)) (cut_there (λ r. g.R.Read.remaining r.now) c.take-front.result
    c.args.until _ (c.take-front.ensures.limit ∙ ap (λ n. n + 64) c.until.view_is)
    c.take-front.ensures.inner) found.1.1.1.1.1 in
    let count = (c.into_analysis-found.ensures found.0 found.1.1.0).records in
    (refl, none_ends input c.args.until found.0 spelled (λ same. c.if-found-until.true (count ∙ same ∙ ap (λ n. n / 64) (sym c.until.view_is))))

pub returns-clause-found : goal.returns-clause-found
returns-clause-found g c =
    let found = c.in_ok-scan.ensures.found in
    let input = g.R.Read.remaining c.args.reader.now in
    let spelled : IfSome (bytes_until c.args.until input) (SpellsLog found.0) =
    subst (λ o. IfSome o (SpellsLog found.0)) (cut_there (λ r. g.R.Read.remaining r.now) c.take-front.result
    c.args.until _ (c.take-front.ensures.limit ∙ ap (λ n. n + 64) c.until.view_is)
    c.take-front.ensures.inner) found.1.1.1.1.1 in
    let analysed = c.into_analysis-found.ensures found.0 found.1.1.0 in
    let place : IsPlace c.args.until = c.is_place.ensures.0 c.if-not-is_place.false in
    let exact = exactly (length found.0.records) c.args.until place
    (sym analysed.records ∙ c.if-found-until.false ∙ ap (λ n. n / 64) c.until.view_is) in (
      found.0,
      (
        record {
          of_log = record { valid = found.1.1.1.1.0; linked = found.1.1.1.0; spelled = spelled };
          last = ends_with found.0 c.args.until found.1.1.1.1.0 exact.0 exact.1;
        },
        analysed,
      ),
    )

pub returns-then-not-is_place-clause-no_record : goal.returns-then-not-is_place-clause-no_record
returns-then-not-is_place-clause-no_record g c =
    inl (λ place. false≢true (sym c.if-not-is_place.true ∙ c.is_place.ensures.1 place))

pub returns-then-found-until-clause-no_record : goal.returns-then-found-until-clause-no_record
returns-then-found-until-clause-no_record g c =
    let found = c.in_ok-scan.ensures.found in
    let input = g.R.Read.remaining c.args.reader.now in
    let spelled : IfSome (bytes_until c.args.until input) (SpellsLog found.0) =
    subst (λ o. IfSome o (SpellsLog found.0)) (cut_there (λ r. g.R.Read.remaining r.now) c.take-front.result
    c.args.until _ (c.take-front.ensures.limit ∙ ap (λ n. n + 64) c.until.view_is)
    c.take-front.ensures.inner) found.1.1.1.1.1 in
    let count = (c.into_analysis-found.ensures found.0 found.1.1.0).records in
    inr (
      found.0,
      record { valid = found.1.1.1.1.0; linked = found.1.1.1.0; spelled = spelled },
      ends_elsewhere found.0 c.args.until found.1.1.1.1.0
          (λ same. c.if-found-until.true (count ∙ same ∙ ap (λ n. n / 64) (sym c.until.view_is))),
    )

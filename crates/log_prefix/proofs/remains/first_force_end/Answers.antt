use Rattle.std.proofs.Common.{◌≡◌, ◌*◌, Some, inl, inr, arith, subst, true≢false, sym}
use Rattle.log_prefix.specs.Remains.{IsForcedAtOnce, StandsAlone}
use Rattle.log_prefix.proofs.Places.{below_last, in_step, place_of}
use Rattle.log_prefix.proofs.remains.first_force_end.Goals as goal
use Rattle.log_prefix.proofs.remains.first_force_end.Goals.{in-Some+else-is_forced_at_once, in_default}

pub loop-place-preserved : goal.loop-place-preserved
loop-place-preserved c = λ at past below ends.
    let place = place_of c.args.bytes.now at ends.it ends.stands in
    elim (in_step c.args.bytes.now c.loop-place.place at place below) [
      | inl earlier ↦ c.loop-place.invariant at past earlier ends
      | inr here ↦
          let stands : StandsAlone c.args.bytes.now (c.loop-place.place * 64) ends.it =
          subst (λ k. StandsAlone c.args.bytes.now k ends.it) here ends.stands in
          let found : c.record_alone.result ≡ Some ends.it =
          c.record_alone.ensures.only ends.it stands in
          elim c.match-record_alone.branch [
            | in-Some+else-is_forced_at_once w ↦
                let same : ends.it ≡ w.in-Some.record = cc in
                let at_once = subst IsForcedAtOnce same ends.at_once in
                true≢false (sym (w.if-is_forced_at_once.ensures.1 at_once))
            | in_default w ↦ w.in_default.not-Some ends.it found
          ]
    ]

pub returns-clause-none : goal.returns-clause-none
returns-clause-none c = λ none at past ends.
    let place = place_of c.args.bytes.now at ends.it ends.stands in
    let below = below_last c.args.bytes.now at place in
    c.loop-place.invariant at past (omega arith) ends

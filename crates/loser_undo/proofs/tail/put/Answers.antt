-- One is put in where it belongs.
use Rattle.std.proofs.Common.{◌≡◌, ◌<◌, ◌≤◌, get_or, length, List, sym, ◌∙◌, rules, arith, subst}
use Rattle.std.proofs.Common.{eqb-true}
use Rattle.std.proofs.lemmas.Bool.{eqb-false}
use Rattle.loser_undo.specs.declared.tail.OpenTxn.{OpenTxn}
use Rattle.loser_undo.proofs.Known.{above_other, put_insert, put_set, same_at}
use Rattle.loser_undo.proofs.tail.put.Goals as goal
use Rattle.loser_undo.proofs.tail.put.Goals.{else-place-len-via-then-place-len+else-eq, else-place-len-via-else-place-len}

pub returns-then-eq : goal.returns-then-eq
returns-then-eq c =
    let known = c.args.known.now.items in
    let place = c.place_of-place.result in
    let long = c.len.ensures in
    let within : place < length known = omega (arith, c.if-place-len.true, c.args.known.now.ok.0) in
    let same : c.index.result.now.txn ≡ c.args.one.txn = eqb-true _ _ (sym c.eq.ensures ∙ c.if-eq.true) in
    sym (put_set c.args.one known place c.args.one within (search rules)
    (same_at known place c.index.result.now c.args.one within c.index.ensures ∙ same))

pub returns : goal.returns
returns c =
    let known = c.args.known.now.items in
    let place = c.place_of-place.result in
    ◌∙◌ {A = List OpenTxn} (search rules) (sym (put_insert c.args.one known place (search rules) (search rules)
    (λ d lt. elim c.else-place-len.branch [
      | else-place-len-via-then-place-len+else-eq w ↦
          let other = eqb-false _ _ (sym w.eq.ensures ∙ w.if-eq.false) in
          let there = same_at known place w.index.result.now d lt w.index.ensures in
          let from : c.args.one.txn ≤ (get_or known place d).txn =
          subst (λ xs. c.args.one.txn ≤ (get_or xs place d).txn) c.deref.ensures.value
          (c.place_of-place.ensures.from d (search rules)) in
          above_other (get_or known place d).txn c.args.one.txn from (λ same. other (sym there ∙ same))
      | else-place-len-via-else-place-len w ↦
          let past = w.if-place-len.false in absurd (omega (arith, c.args.known.now.ok.0, c.len.ensures))
    ])))

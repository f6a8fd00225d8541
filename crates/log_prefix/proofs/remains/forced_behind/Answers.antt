use Rattle.std.proofs.Common.{inl, inr, arith, sym, true≢false}
use Rattle.std.proofs.lemmas.Bool.{cases_lt}
use Rattle.log_prefix.specs.Remains.{HasBehind}
use Rattle.log_prefix.proofs.remains.forced_behind.Goals as goal

pub returns-then-has_behind-clause-first : goal.returns-then-has_behind-clause-first
returns-then-has_behind-clause-first c = λ earlier past before was.
    c.in_ok-at.ensures.first earlier past before was.ends

-- a record behind a later place is behind the first one too
pub returns-else-has_behind-clause-none : goal.returns-else-has_behind-clause-none
returns-else-has_behind-clause-none c = λ none at past was.
    elim (cases_lt at c.in_ok-at.at) [
      | inl earlier ↦ c.in_ok-at.ensures.first at past earlier was.ends
      | inr first ↦
          let has : HasBehind c.args.bytes.now c.in_ok-at.at = record {
            later = was.appended.later;
            behind = omega arith;
            next = was.appended.next;
            stands = was.appended.stands;
          } in
          true≢false (sym (c.if-has_behind.ensures.1 has))
    ]

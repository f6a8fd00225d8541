use Rattle.std.proofs.Common.{rules, ◌≡◌, min, length, sym, ap, ◌∙◌, arith}
use Rattle.std.proofs.lemmas.List.FromFn.{length-range_with_len}
use Rattle.page_claim.specs.Rule.{pages_below, times}
use Rattle.page_claim.proofs.seats.PageClaims.close.Goals as goal
use Rattle.page_claim.proofs.seats.PageClaims.close.Goals.{then-word-from, else-word-from}

pub returns : goal.returns
returns c =
    let word = c.last_word-word.result in
    let count = c.args.self.count in
    let least : c.if-word-from.claimed ≡ min word count = elim c.if-word-from.branch [ then-word-from w ↦ omega arith | else-word-from w ↦ omega arith ] in
    let items = c.first_pages.ensures ∙ ap pages_below least in
    let long = ap length items ∙ length-range_with_len 0 (min word count) in
    record {
      refused = search rules;
      few = omega arith;
      order = items ∙ ap pages_below (sym long);
      all = λ told. let above = c.last_word-word.ensures.all told in omega arith;
      among = λ page. let le = c.last_word-word.ensures.among page in let e = ap (times page) items in omega arith;
      whole = λ every page. c.last_word-word.ensures.whole every page ∙ ap (times page) (sym items);
    }

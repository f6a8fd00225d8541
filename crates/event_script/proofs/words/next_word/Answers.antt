use Rattle.std.proofs.Common.{◌<◌, ◌-◌, ◌≡◌, length, take, drop, arith}
use Rattle.event_script.proofs.Lines.{a_word, no_word, tail}
use Rattle.event_script.proofs.words.next_word.Goals as goal

pub returns-then-end-eq0 : goal.returns-then-end-eq0
returns-then-end-eq0 c =
    let bytes = c.args.bytes.now in
    let s = c.count_spaces in
    let n = c.count_before-end in
    let nothing : n.result ≡ 0 = omega arith in
    no_word bytes (take (length bytes - s.result) (drop s.result bytes)) s.result n.result (tail bytes s.result)
    s.ensures.within s.ensures.spaces s.ensures.other nothing n.ensures.there

pub returns : goal.returns
returns c =
    let bytes = c.args.bytes.now in
    let s = c.count_spaces in
    let n = c.count_before-end in
    let some : 0 < n.result = omega arith in
    let text = take (length bytes - s.result) (drop s.result bytes) in
    a_word bytes text (take (length text - n.result) (drop n.result text)) s.result n.result (tail bytes s.result)
    (tail text n.result) s.ensures.within s.ensures.spaces some n.ensures.within n.ensures.none n.ensures.there

use Rattle.std.proofs.Common.{◌+◌, ◌-◌, ◌<◌, ◌≤◌, ◌++◌, ℕ, List, length, take, drop, ap, subst, ◌∙◌, arith}
use Rattle.std.specs.Io.KnownBytes.{Appends}
use Rattle.std.proofs.KnownBytes.{Appends-trans}
use Rattle.std.proofs.lemmas.List.{length-append, length-take, length-drop}
use Rattle.page_core.specs.Page.{page_bytes, volume_bytes}
use Rattle.page_core.proofs.Public.{into}
use Rattle.page_redo.proofs.Groups.{group, further, whole}
use Rattle.page_redo.proofs.volume_output.write_volume.Goals as goal

pub returns-in-Err-clause-within : goal.returns-in-Err-clause-within
returns-in-Err-clause-within g c =
    let pages = c.args.pages.now in
    let first = c.loop-first.first in
    let count = c.min-count.result in
    let one = volume_bytes (take first pages) in
    let two = volume_bytes (group pages first count) in
    let three = volume_bytes (drop (first + count) pages) in
    let part : c.in-Err.part < length two =
    subst (λ (bs : List ℕ). c.in-Err.part < length bs) c.put_pages-filled.ensures.bytes c.in-Err.ensures.within in
    omega (
      arith,
      part,
      c.loop-first.invariant.count,
      ap length (whole page_bytes pages first count),
      length-append one (two ++ three),
      length-append two three,
    )

pub returns-in-Err-clause-err : goal.returns-in-Err-clause-err
returns-in-Err-clause-err g c =
    let pages = c.args.pages.now in
    let first = c.loop-first.first in
    let count = c.min-count.result in
    let one = volume_bytes (take first pages) in
    let two = volume_bytes (group pages first count) in
    let three = volume_bytes (drop (first + count) pages) in
    let bytes = c.put_pages-filled.ensures.bytes in
    let part : c.in-Err.part ≤ length two = let less : c.in-Err.part < length two =
    subst (λ (bs : List ℕ). c.in-Err.part < length bs) bytes c.in-Err.ensures.within in omega arith in
    let sent : Appends (g.W.Write.contents c.loop-first.writer) (g.W.Write.contents c.write_out.new.writer)
    (take c.in-Err.part two) =
    subst (λ (bs : List ℕ). Appends (g.W.Write.contents c.loop-first.writer) (g.W.Write.contents c.write_out.new.writer)
    (take c.in-Err.part bs)) bytes c.in-Err.ensures.err in
    subst (Appends (g.W.Write.contents c.args.writer.now) (g.W.Write.contents c.write_out.new.writer))
    (into one two three c.loop-first.done c.in-Err.part c.loop-first.invariant.count part
    ∙ ap (take (c.loop-first.done + c.in-Err.part)) (whole page_bytes pages first count))
    (Appends-trans _ _ _ one (take c.in-Err.part two) c.loop-first.invariant.written sent)

pub loop-first-preserved : goal.loop-first-preserved
loop-first-preserved g c =
    let pages = c.args.pages.now in
    let first = c.loop-first.first in
    let count = c.min-count.result in
    let one = volume_bytes (take first pages) in
    let two = volume_bytes (group pages first count) in
    let bytes = c.put_pages-filled.ensures.bytes in
    let least = c.min-count.ensures in
    let sent : Appends (g.W.Write.contents c.loop-first.writer) (g.W.Write.contents c.write_out.new.writer) two =
    subst (Appends (g.W.Write.contents c.loop-first.writer)
    (g.W.Write.contents c.write_out.new.writer)) bytes c.in_default.ensures.ok in
    record {
      within = omega arith;
      count = omega (
        arith,
        c.loop-first.invariant.count,
        c.put_pages-filled.ensures.count,
        ap length (further page_bytes pages first count),
        length-append one two,
      );
      small = omega (
        arith,
        c.put_pages-filled.ensures.pages,
        c.loop-first.invariant.small,
        length-take (first + count - first) (drop first pages),
        length-drop first pages,
      );
      written = subst (Appends (g.W.Write.contents c.args.writer.now) (g.W.Write.contents c.write_out.new.writer))
          (further page_bytes pages first count)
          (Appends-trans _ _ _ one two c.loop-first.invariant.written sent);
    }

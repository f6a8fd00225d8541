use Rattle.std.proofs.Common.{◌≡◌, ℕ, ◌+◌, ◌-◌, ◌≤◌, ◌++◌, List, length, take, drop, sym, ap, ap₂, subst, ◌∙◌, arith}
use Rattle.std.specs.Io.KnownBytes.{Consumes}
use Rattle.std.proofs.KnownBytes.{Consumes-trans}
use Rattle.std.proofs.Math.Seq.{take-add}
use Rattle.std.proofs.lemmas.List.{drop_at, take-append-le, length-take, length-drop, length-append}
use Rattle.std.proofs.lemmas.Slice.{take-put_mid_below}
use borrow.Rule.Slice.PartMut.{put_mid, post_of}
use Rattle.database_files.proofs.whole_file.fill.Goals as goal

-- what fills the buffer after a read behind what filled it before
fills : (buffer read : List ℕ) (len n : ℕ) → len ≤ length buffer → n ≤ length read
    → take len buffer ++ take n read ≡ take (len + n) (put_mid len (length buffer - len) buffer read)
fills buffer read len n le fits =
    let after = put_mid len (length buffer - len) buffer read in
    let behind : drop len after ≡ read ++ post_of len (length buffer - len) buffer =
    drop_at (take len buffer) (read ++ post_of len (length buffer - len) buffer) len
    (omega (arith, length-take len buffer)) in
    sym (take-add len n after
    ∙ ap₂ (λ (xs ys : List ℕ). xs ++ ys) (take-put_mid_below len (length buffer - len) buffer read len (omega arith) le)
    (ap (take n) behind ∙ take-append-le n read (post_of len (length buffer - len) buffer) fits))

pub loop-preserved : goal.loop-preserved
loop-preserved g c =
    let so_far = c.loop.invariant in
    let buffer = c.loop.bytes in
    let read = c.read.new.buf in
    let count = c.in_ok-count.count in
    let bound = c.in_ok-count.ensures.bound in
    let after = put_mid c.loop.len (length buffer - c.loop.len) buffer read in
    let long : length after ≡ length buffer =
    simp (length-append, length-take, length-drop) (omega arith) in
    let some = c.if-count-eq0.false in
    record {
      within = omega arith;
      same = long ∙ so_far.same;
      turns = omega arith;
      taken = subst (Consumes (g.R.Read.remaining c.args.file.now) (g.R.Read.remaining c.read.new.self))
          (fills buffer read c.loop.len count so_far.within (omega arith))
          (Consumes-trans (g.R.Read.remaining c.args.file.now) (g.R.Read.remaining c.loop.file) (g.R.Read.remaining c.read.new.self)
          (take c.loop.len buffer) (take count read) so_far.taken c.in_ok-count.ensures.bytes.0);
    }

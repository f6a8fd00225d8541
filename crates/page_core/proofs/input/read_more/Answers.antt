use Rattle.std.proofs.Common.{◌≡◌, ℕ, ◌+◌, ◌-◌, ◌≤◌, ◌++◌, List, length, take, drop, sym, ap, subst, ◌∙◌, arith}
use Rattle.std.specs.Io.KnownBytes.{Consumes}
use Rattle.std.proofs.KnownBytes.{Consumes-trans}
use Rattle.std.proofs.lemmas.List.{append_assoc, drop_at, take-append-le, length-take, length-drop, length-append}
use Rattle.std.proofs.lemmas.Slice.{take-put_mid_below}
use borrow.Rule.Slice.PartMut.{put_mid, post_of}
use Rattle.page_core.proofs.Pieces.{grow}
use Rattle.page_core.proofs.input.read_more.Goals as goal

-- what fills the buffer after a read behind what filled it before
fills : (buffer read : List ℕ) (filled n : ℕ) → filled ≤ length buffer → n ≤ length read
    → take filled buffer ++ take n read ≡ take (filled + n) (put_mid filled (length buffer - filled) buffer read)
fills buffer read filled n le fits =
    let after = put_mid filled (length buffer - filled) buffer read in
    let wide : filled + n - filled ≡ n = omega arith in
    let behind : drop filled after ≡ read ++ post_of filled (length buffer - filled) buffer =
    drop_at (take filled buffer) (read ++ post_of filled (length buffer - filled) buffer) filled
    (omega (arith, length-take filled buffer)) in
    grow after (take filled buffer) (take n read) filled (filled + n) (omega arith)
    (sym (take-put_mid_below filled (length buffer - filled) buffer read filled (omega arith) le))
    (sym (ap (λ k. take k (drop filled after)) wide ∙ ap (take n) behind
    ∙ take-append-le n read (post_of filled (length buffer - filled) buffer) fits))

pub returns-in-Ok : goal.returns-in-Ok
returns-in-Ok g c =
    let buffer = c.args.buffer.now in
    let read = c.read.new.buf in
    let bound = c.in-Ok.ensures.bound in (
      simp (length-append, length-take, length-drop) (omega arith),
      λ start given taken. subst (Consumes start (g.R.Read.remaining c.read.new.self))
          (append_assoc given (take c.args.filled buffer) (take c.in-Ok.count read)
          ∙ ap (λ (bs : List ℕ). given ++ bs)
          (fills buffer read c.args.filled c.in-Ok.count (omega arith) (omega arith)))
          (Consumes-trans start (g.R.Read.remaining c.args.reader.now) (g.R.Read.remaining c.read.new.self)
          (given ++ take c.args.filled buffer) (take c.in-Ok.count read) taken c.in-Ok.ensures.bytes.0),
    )

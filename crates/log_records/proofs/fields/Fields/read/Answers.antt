use Rattle.std.proofs.Common.{List, ℕ, refl, sym, ap, ◌∙◌, arith, lit≤}
use Rattle.std.specs.Prelude.{slice_range}
use Rattle.std.proofs.lemmas.List.{take_all}
use Rattle.log_records.specs.Fields.{fields_bytes}
use Rattle.page_core.proofs.Public.{grow}
use Rattle.log_records.proofs.fields.Fields.read.Goals as goal

pub returns-clause-found : goal.returns-clause-found
unfolding fields_bytes
returns-clause-found c =
    let xs : List ℕ = c.args.bytes.now in
    let p1 = grow xs _ _ 4 8 (lit≤ tt) c.u32_at.ensures.spelled c.u32_at-2.ensures.spelled in
    let p2 = grow xs _ _ 8 16 (lit≤ tt) p1 c.u64_at.ensures.spelled in
    let p3 = grow xs _ _ 16 24 (lit≤ tt) p2 c.u64_at-2.ensures.spelled in
    let p4 = grow xs _ _ 24 28 (lit≤ tt) p3 c.u32_at-3.ensures.spelled in
    let p5 = grow xs _ _ 28 30 (lit≤ tt) p4 c.u16_at.ensures.spelled in
    let p6 = grow xs _ _ 30 32 (lit≤ tt) p5 c.u16_at-2.ensures.spelled in
    let p7 = grow xs _ _ 32 40 (lit≤ tt) p6 c.u64_at-3.ensures.spelled in
    let p8 = grow xs _ _ 40 48 (lit≤ tt) p7 c.u64_at-4.ensures.spelled in
    let p9 = grow xs _ _ 48 56 (lit≤ tt) p8 c.u64_at-5.ensures.spelled in
    let p10 = grow xs _ _ 56 64 (lit≤ tt) p9 c.u64_at-6.ensures.spelled in
    sym (p10 ∙ take_all 64 xs (omega arith))

pub returns-clause-only : goal.returns-clause-only
unfolding fields_bytes
returns-clause-only c = λ fields fits e.
    let field = λ (a b : ℕ). ap (λ (bs : List ℕ). slice_range bs a b) (sym e) in
    rw (
      c.u32_at.ensures.only fields.kind fits.kind (field 0 4),
      c.u32_at-2.ensures.only fields.txn fits.txn (field 4 8),
      c.u64_at.ensures.only fields.prev fits.prev (field 8 16),
      c.u64_at-2.ensures.only fields.undo_next fits.undo_next (field 16 24),
      c.u32_at-3.ensures.only fields.page fits.page (field 24 28),
      c.u16_at.ensures.only fields.slot fits.slot (field 28 30),
      c.u16_at-2.ensures.only fields.change fits.change (field 30 32),
      c.u64_at-3.ensures.only fields.before fits.before (field 32 40),
      c.u64_at-4.ensures.only fields.after fits.after (field 40 48),
      c.u64_at-5.ensures.only fields.spare fits.spare (field 48 56),
      c.u64_at-6.ensures.only fields.lsn fits.lsn (field 56 64),
    ) refl

use Rattle.std.proofs.Common.{◌≡◌, ◌∙◌, ap, sym, subst, arith, rules, List, ℕ, length}
use Rattle.std.specs.Prelude.{slice_range, Some}
use Rattle.log_store.specs.declared.master.Master.{Master}
use Rattle.log_store.specs.Master.{IsMaster, master_bytes}
use Rattle.log_store.proofs.Masters.{begin_at, end_at, length-master_bytes, same_master}
use Rattle.log_store.proofs.master.decode_master.Goals as goal
use Rattle.log_store.proofs.master.decode_master.Goals.{else-is_master-via-then-is_master+else-is_same}
use Rattle.log_store.proofs.master.decode_master.Goals.{else-is_master-via-else-is_master}

pub returns-then-bytes-ne-MASTER_BYTES-clause-only : goal.returns-then-bytes-ne-MASTER_BYTES-clause-only
returns-then-bytes-ne-MASTER_BYTES-clause-only c = λ m spells.
    absurd (omega (arith, ap length spells.spelled ∙ length-master_bytes m))

pub returns-then-is_same-clause-only : goal.returns-then-is_same-clause-only
unfolding master_bytes
returns-then-is_same-clause-only c = λ m spells.
    let found : Master = record { begin = c.u64_at.result; end = c.u64_at-2.result } in
    let same : c.args.bytes.now ≡ master_bytes found = search rules in
    let valid : IsMaster found = search rules in
    ap Some (same_master found m c.args.bytes.now record { valid = valid; spelled = same } spells)

pub returns-else-is_master-clause-only : goal.returns-else-is_master-clause-only
returns-else-is_master-clause-only c = λ m spells.
    let begin : c.u64_at.result ≡ m.begin = c.u64_at.ensures.only m.begin spells.valid.begin.fits
    (sym (ap (λ (bs : List ℕ). slice_range bs 8 16) spells.spelled ∙ begin_at m)) in
    let end : c.u64_at-2.result ≡ m.end = c.u64_at-2.ensures.only m.end spells.valid.end.fits
    (sym (ap (λ (bs : List ℕ). slice_range bs 16 24) spells.spelled ∙ end_at m)) in
    let found : Master = record { begin = c.u64_at.result; end = c.u64_at-2.result } in
    let is : found ≡ m = λ i. record { begin = begin i; end = end i } in
    let valid : IsMaster found = subst IsMaster (sym is) spells.valid in
    let same : c.args.bytes.now ≡ master_bytes found = spells.spelled ∙ ap master_bytes (sym is) in
    elim c.else-is_master.branch [
      | else-is_master-via-then-is_master+else-is_same w ↦ absurd (search rules)
      | else-is_master-via-else-is_master w ↦ absurd (search rules)
    ]

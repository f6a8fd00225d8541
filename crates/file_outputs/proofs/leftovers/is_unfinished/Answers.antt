use Rattle.std.proofs.Common.{arith, refl, take}
use Rattle.file_outputs.proofs.UnfinishedNames.{none_told, told}
use Rattle.file_outputs.proofs.leftovers.is_unfinished.Goals as goal

pub returns-then-end-bytes : goal.returns-then-end-bytes
returns-then-end-bytes c =
    let bytes = c.as_bytes-bytes.result.now in
    let end = c.before_digits-end.result in
    told c.args.name.now bytes (take end bytes) c.as_bytes.result.now end c.ends_with.result
    c.as_bytes-bytes.ensures.value c.as_bytes.ensures.value refl c.ends_with.ensures.value c.if-end-bytes.true
    c.before_digits-end.ensures.digits c.before_digits-end.ensures.most

pub returns-else-end-bytes : goal.returns-else-end-bytes
returns-else-end-bytes c =
    let bytes = c.as_bytes-bytes.result.now in
    let end = c.before_digits-end.result in (
      (λ yes. grind (arith, c.if-end-bytes.false, yes)),
      λ named. absurd (none_told c.args.name.now bytes end c.as_bytes-bytes.ensures.value c.if-end-bytes.false c.before_digits-end.ensures.bound
          c.before_digits-end.ensures.most named),
    )

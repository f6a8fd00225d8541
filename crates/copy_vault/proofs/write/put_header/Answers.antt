use Rattle.std.proofs.Common.{◌++◌, List, ℕ, length, take, drop, ap, ◌∙◌, arith}
use Rattle.std.proofs.lemmas.List.{length-take, take_at}
use Rattle.copy_vault.proofs.Headers.{length-header_bytes}
use Rattle.copy_vault.proofs.write.put_header.Goals as goal

pub copy_from_slice-requires : goal.copy_from_slice-requires
copy_from_slice-requires c =
    let room = c.requires in
    omega (
      arith,
      length-take 64 c.args.buffer.now,
      ap length c.encode_header.ensures,
      length-header_bytes c.args.header.now,
    )

pub returns : goal.returns
returns c =
    let rest = drop 64 c.args.buffer.now in
    let is = c.copy_from_slice.ensures.after ∙ c.encode_header.ensures in
    ap (λ (bs : List ℕ). take 64 (bs ++ rest)) is
    ∙ take_at _ rest 64 (length-header_bytes c.args.header.now)

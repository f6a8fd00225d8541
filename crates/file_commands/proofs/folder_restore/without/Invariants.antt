use Rattle.std.proofs.Common.{◌≡◌, filter, nat_eq, not, take}
use Rattle.file_commands.proofs.folder_restore.without.Given as goal

abbrev pub invariant-loop-header : goal.invariant-loop-header
invariant-loop-header l =
    l.others.items ≡ filter (λ header. not (nat_eq header.id l.id)) (take l.header-index l.headers)

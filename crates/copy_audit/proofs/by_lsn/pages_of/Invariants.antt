use Rattle.std.proofs.Common.{map}
use Rattle.copy_audit.specs.ByLsn.{HavePages}
use Rattle.copy_audit.proofs.by_lsn.pages_of.Given as goal

abbrev pub invariant-loop-member : goal.invariant-loop-member
invariant-loop-member l = HavePages l.row l.member (map (λ it. it.member) l.due.items)

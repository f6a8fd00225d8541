use Rattle.std.proofs.Common.{◌<◌, length, map}
use Rattle.std.proofs.lemmas.List.Sorted.{Contains-permutation, IsPermutation-map}
use Rattle.std.proofs.lemmas.Map.Views.{All-map-IsPermutation}
use Rattle.copy_audit.specs.declared.by_lsn.Due.{Due}
use Rattle.copy_audit.proofs.by_lsn.due_pages.Goals as goal

pub returns : goal.returns
returns c =
    let old = c.in_ok-due.due.items in
    let new = c.sort_unstable_by_key.new.self.items in
    let moved = c.sort_unstable_by_key.ensures.permutation in
    let have = c.in_ok-due.ensures in
    record {
      within = All-map-IsPermutation (λ (it : Due). it.member) (λ k. k < length c.args.row.now) old new moved have.within;
      all = λ k page lt is. Contains-permutation (map (λ (it : Due). it.member) old) (map (λ (it : Due). it.member) new) k
          (IsPermutation-map (λ (it : Due). it.member) old new moved) (have.all k page lt is);
    }

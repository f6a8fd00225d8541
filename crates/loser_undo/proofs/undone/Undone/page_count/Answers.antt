use Rattle.std.proofs.Common.{arith}
use Rattle.log_records.proofs.Public.{page_count-is_count}
use Rattle.loser_undo.proofs.undone.Undone.page_count.Goals as goal

pub overflow_cast-result : goal.overflow_cast-result
overflow_cast-result c =
    let is = c.self.invariant.is in
    omega (arith, is.count, (page_count-is_count _ is.valid).most, c.len.ensures, c.self.inside.pages.ok.0)

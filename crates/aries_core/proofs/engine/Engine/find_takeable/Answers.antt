use Rattle.std.proofs.Common.{arith}
use Rattle.aries_core.proofs.engine.Engine.find_takeable.Goals as goal

pub is_undecided-requires : goal.is_undecided-requires
is_undecided-requires g c = omega (arith, c.if-page-pages.false, c.page.view_is, c.pages.ensures)

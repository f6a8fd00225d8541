use Rattle.database_session.proofs.CommandCopies.{takes_more, takes_none, takes_refused}
use Rattle.database_session.proofs.page_takes.take_pages.Goals as goal

pub loop-page-init : goal.loop-page-init
loop-page-init g c = takes_none c.args.id c.args.engine.now.state

pub loop-page-preserved : goal.loop-page-preserved
loop-page-preserved g c =
    takes_more c.args.id c.loop-page.page c.args.engine.now.state c.loop-page.engine.state
    c.take_page.new.engine.state c.loop-page.invariant c.in-Ok.ensures.taken

pub returns-in-Err-clause-refused : goal.returns-in-Err-clause-refused
returns-in-Err-clause-refused g c =
    takes_refused c.args.id c.loop-page.page c.in-Err.why c.args.engine.now.state c.loop-page.engine.state
    c.take_page.new.engine.state c.loop-page.invariant c.in-Err.ensures.refused

use Rattle.std.proofs.Common.{true, refl, arith}
use Rattle.copy_audit.proofs.Tells.{told_more, told_no_more}
use Rattle.copy_audit.proofs.all_pages.UnsoundPages.note.Goals as goal

pub returns-in_ok-push : goal.returns-in_ok-push
returns-in_ok-push c = λ all first.
    told_more all c.args.it c.args.self.now (record { pages = c.push.new.self; has_more = c.args.self.now.has_more })
    (omega (arith, c.if-len-lt-MOST_PAGES.true, c.len.ensures)) c.in_ok-push.ensures.items refl first

pub returns-else-len-lt-MOST_PAGES : goal.returns-else-len-lt-MOST_PAGES
returns-else-len-lt-MOST_PAGES c = λ all first.
    told_no_more all c.args.it c.args.self.now (record { pages = c.args.self.now.pages; has_more = true })
    (omega (arith, c.if-len-lt-MOST_PAGES.false, c.len.ensures)) refl refl first

use Rattle.std.proofs.Common.{refl, ap, sym, ◌∙◌}
use Rattle.database_opening.proofs.TakingUp.{ids_more}
use Rattle.database_opening.specs.Copies.{ids_passed, none_left, one_more}
use Rattle.database_opening.proofs.copies.take_up.Goals as goal

pub loop-file-init : goal.loop-file-init
loop-file-init c = record {
  log = refl;
  pages = refl;
  taken = none_left;
  unread = c.new-unread.ensures.items;
}

pub loop-file-preserved : goal.loop-file-preserved
loop-file-preserved c =
    let so_far = c.loop-file.invariant in
    let file = c.in-Some.file in
    record {
      log = c.take_file.ensures.log ∙ so_far.log;
      pages = c.take_file.ensures.pages ∙ so_far.pages;
      taken = one_more c.loop-file.yielded file c.loop-file.restarted c.take_file.new.restarted so_far.taken
          c.take_file.ensures.log c.in_ok-take_file.ensures.judged;
      unread = c.in_ok-take_file.ensures.unread ∙ ap (λ ids. ids_passed ids file) so_far.unread
          ∙ sym (ids_more c.loop-file.yielded file);
    }

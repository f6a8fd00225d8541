use Rattle.std.proofs.Common.{List, [], refl, subst, sym, ◌∙◌}
use Rattle.log_records.specs.Log.{Log}
use Rattle.copy_vault.specs.Vault.{CopyState}
use Rattle.imgcopy_engine.specs.declared.taking_up.RefusedCopy.{RefusedCopy}
use Rattle.imgcopy_engine.specs.Taken.{IsJudged, TakesUp, none_left, one_more}
use Rattle.imgcopy_engine.proofs.taking_up.take_up.Goals as goal

pub loop-copy-init : goal.loop-copy-init
loop-copy-init c =
    let log = c.args.restarted.now.log in
    record {
      log = refl;
      pages = refl;
      taken = subst (λ (told : List RefusedCopy). TakesUp log [] told c.args.restarted.now.copies)
          (sym c.new-refused.ensures.items)
          (subst (λ (copies : List CopyState). TakesUp log [] [] copies) (sym c.requires.none) none_left);
    }

pub loop-copy-preserved : goal.loop-copy-preserved
loop-copy-preserved c =
    let so_far = c.loop-copy.invariant in
    let made = c.take_one.new in
    record {
      log = c.take_one.ensures.log ∙ so_far.log;
      pages = c.take_one.ensures.pages ∙ so_far.pages;
      taken = one_more c.loop-copy.yielded c.loop-copy.refused.items made.refused.items c.loop-copy.restarted.copies
          made.restarted.copies c.in-Some.copy so_far.taken
          (subst (λ (log : Log). IsJudged log c.in-Some.copy c.loop-copy.restarted.copies c.loop-copy.refused.items
          made.restarted.copies made.refused.items) so_far.log c.in_ok-take_one.ensures.judged);
    }

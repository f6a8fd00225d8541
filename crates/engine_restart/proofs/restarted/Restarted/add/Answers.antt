use Rattle.engine_restart.proofs.Adding.{after_add}
use Rattle.engine_restart.proofs.restarted.Restarted.add.Goals as goal

pub invariant_of-self : goal.invariant_of-self
invariant_of-self c =
    let was = c.self.invariant.restarted in
    record {
      restarted = record {
        may = after_add c.self.inside.log c.self.inside.vault.copies c.add.new.self.copies c.args.copy c.add.result
            c.check.ensures.valid was.may c.in_default.ensures.ok c.check.ensures.whole c.add.ensures.added
            c.add.ensures.ok c.add.ensures.same;
        pages = was.pages;
      };
      checkpoints = c.self.invariant.checkpoints;
      begun = c.self.invariant.begun;
    }

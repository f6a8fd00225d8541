use Rattle.std.proofs.Common.{◌∙◌}
use Rattle.engine_restart.proofs.Appending.{next_is, next_may}
use Rattle.engine_restart.proofs.undo_on_log.GrowingLogUndoSink.take.Goals as goal

pub append-requires-clause-stands : goal.append-requires-clause-stands
append-requires-clause-stands g c =
    let to = c.requires.1 in
    (next_may to.0 to.1.0 c.args.next.now _ (c.make_room.ensures.same ∙ to.1.1.0.log_is c.if-self.false) to.1.1.1).stands

pub append-requires-clause-more : goal.append-requires-clause-more
append-requires-clause-more g c =
    let to = c.requires.1 in
    (next_may to.0 to.1.0 c.args.next.now _ (c.make_room.ensures.same ∙ to.1.1.0.log_is c.if-self.false) to.1.1.1).more

pub append-requires-clause-few : goal.append-requires-clause-few
append-requires-clause-few g c =
    let to = c.requires.1 in
    (next_may to.0 to.1.0 c.args.next.now _ (c.make_room.ensures.same ∙ to.1.1.0.log_is c.if-self.false) to.1.1.1).few

pub returns-in-Ok : goal.returns-in-Ok
returns-in-Ok g c = λ start log behind grown come. record {
  log_is = λ fine. c.append.ensures.next
      ∙ next_is log behind c.args.next.now _ (c.make_room.ensures.same ∙ grown.log_is fine);
  forced_end = c.append.ensures.forced_end ∙ c.make_room.ensures.forced_end ∙ grown.forced_end;
  device = c.append.ensures.device ∙ c.make_room.ensures.device ∙ grown.device;
}

use Rattle.std.proofs.Common.{◌∙◌, ap, subst, sym}
use Rattle.log_rules.specs.CheckpointTable.{MayNoteCheckpoint, noted_checkpoint}
use Rattle.log_rules.specs.History.{Made}
use Rattle.log_rules.specs.Table.{MayNote}
use Rattle.log_records.proofs.Public.{checkpoint_gives_none}
use Rattle.log_records.proofs.Public.{more-none}
use Rattle.log_rules.proofs.Public.{after_checkpoint}
use Rattle.log_store.proofs.history.History.follow_checkpoint.Goals as goal

pub returns-clause-taken : goal.returns-clause-taken
returns-clause-taken c = λ yes.
    let r = c.args.next.now in
    let after = after_checkpoint c.args.self.now r c.requires.kind in
    let old = c.self.inside in (
      record {
        may_note = subst (λ (m : Made). MayNote m.table r) c.self.view_is
            (c.may_note.ensures.0 c.if-not-may_note.false);
        may_note_checkpoint = subst (λ (m : Made). MayNoteCheckpoint m.table m.checkpoints r) c.self.view_is
            (c.may_note-else-not-may_note.ensures.0 c.if-not-may_note-2.false);
        replaces = after.0;
        more = more-none _ r (checkpoint_gives_none r c.requires.kind);
      },
      ap (λ t. let m : Made = record
          { table = old.txns.table; checkpoints = t; counts = old.counts; pages = old.pages.items } in m)
          c.in_ok-note.ensures.ok
          ∙ ap (λ (m : Made). let n : Made = record m
          { checkpoints = noted_checkpoint m.checkpoints r } in n) c.self.view_is
          ∙ sym after.1,
    )

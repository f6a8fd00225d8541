use Rattle.std.proofs.Common.{◌∙◌, ap₂}
use Rattle.loser_undo.proofs.Public.{log_and_appended}
use Rattle.media_restore.proofs.Restored.{volume_redone}
use Rattle.media_restore.proofs.WithLog.{has_room, with_log}
use Rattle.media_restore.proofs.files_log.undone.Goals as goal

pub undo_into-requires : goal.undo_into-requires
undo_into-requires c =
    let files = c.requires.0 in
    let from = c.requires.1 in
    let log = c.args.read.kept in (
      log,
      (
        from.to_undo,
        (
          has_room files log _ _ _ from c.reserve.new.self.items _ _ c.owed.result
              (c.reserve.ensures.items ∙ c.into_parts-first_count.ensures.parts.1) c.reserve.new.self.ok.0 c.owed.ensures
              c.in_ok-reserve.ensures.ok,
          volume_redone files log _ _ _ from,
        ),
      ),
    )

pub returns : goal.returns
returns c = λ files from.
    let log = c.args.read.kept in
    let took = c.undo_into.ensures log from.to_undo (
      has_room files log _ _ _ from c.reserve.new.self.items _ _ c.owed.result
          (c.reserve.ensures.items ∙ c.into_parts-first_count.ensures.parts.1) c.reserve.new.self.ok.0 c.owed.ensures
          c.in_ok-reserve.ensures.ok,
      volume_redone files log _ _ _ from,
    ) in
    with_log files log _ _ _ _ _ from took.1.made
    (ap₂ (λ pages records. record { pages = pages; records = records }) c.into_parts-first_count.ensures.parts.0
    (took.0.made ∙ log_and_appended log))

use Rattle.std.proofs.Common.{◌∙◌, ap, length}
use Rattle.log_records.specs.declared.record.Record.{Record}
use Rattle.loser_undo.proofs.Public.{log_and_appended}
use Rattle.embed_calls.proofs.Undoing.{has_room, may_be_undone, on_pages, recovered_of}
use Rattle.embed_calls.proofs.recover.undo.Goals as goal

pub undo_into-requires : goal.undo_into-requires
undo_into-requires c =
    let bytes = c.requires.0 in
    let may = c.requires.1 in
    let it = c.args.redone in (
      it.log,
      (
        may_be_undone bytes it.log it.losers it.pages.items may _ (ap (length {A = Record}) c.records-count.ensures.records),
        (
          has_room bytes it.log it.losers it.pages.items may c.reserve.new.self.items _ _ c.owed.result
              (c.reserve.ensures.items ∙ c.into_parts-records.ensures.parts.1) c.reserve.new.self.ok.0 c.owed.ensures
              c.in_ok-reserve.ensures.ok,
          on_pages bytes it.log it.losers it.pages.items may,
        ),
      ),
    )

pub returns : goal.returns
returns c = λ bytes may.
    let it = c.args.redone in
    let counted = ap (length {A = Record}) c.records-count.ensures.records in
    let took = c.undo_into.ensures it.log (may_be_undone bytes it.log it.losers it.pages.items may _ counted) (
      has_room bytes it.log it.losers it.pages.items may c.reserve.new.self.items _ _ c.owed.result
          (c.reserve.ensures.items ∙ c.into_parts-records.ensures.parts.1) c.reserve.new.self.ok.0 c.owed.ensures
          c.in_ok-reserve.ensures.ok,
      on_pages bytes it.log it.losers it.pages.items may,
    ) in
    record {
      of_log = may.of_log;
      room = may.room;
      records_are = took.0.made ∙ log_and_appended it.log;
      count_is = counted;
      recovered = recovered_of bytes it.log it.losers it.pages.items may _ took.1.made;
    }

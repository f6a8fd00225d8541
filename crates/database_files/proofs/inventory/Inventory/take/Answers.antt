use Rattle.std.proofs.Common.{string_bytes, subst}
use Rattle.database_files.specs.Standing.{IsUnfinished}
use Rattle.database_files.proofs.Inventories.{of_same, unfinished_with}
use Rattle.database_files.proofs.inventory.Inventory.take.Goals as goal

pub returns-then-branch : goal.returns-then-branch
returns-then-branch c =
    of_same c.as_str-text.result.now (string_bytes c.args.name) c.args.self.now c.note.new.self
    c.as_str-text.ensures.value c.in_ok-note.ensures

pub returns-in_ok-push : goal.returns-in_ok-push
returns-in_ok-push c = λ names was.
    let it = of_same c.as_str-text.result.now (string_bytes c.args.name) c.args.self.now c.note.new.self
    c.as_str-text.ensures.value c.in_ok-note.ensures names was in record {
      log = it.log;
      volume = it.volume;
      master = it.master;
      closed = it.closed;
      manifest = it.manifest;
      copies = it.copies;
      unfinished = unfinished_with c.note.new.self.unfinished.items c.push.new.self.items c.args.name
          c.in_ok-push.ensures.items it.unfinished
          (subst IsUnfinished c.as_str-text.ensures.value (c.is_unfinished.ensures c.if-is_unfinished.true));
    }

pub returns-then-not-is_harmless : goal.returns-then-not-is_harmless
returns-then-not-is_harmless c = λ names was.
    let it = of_same c.as_str-text.result.now (string_bytes c.args.name) c.args.self.now c.note.new.self
    c.as_str-text.ensures.value c.in_ok-note.ensures names was in record {
      log = it.log;
      volume = it.volume;
      master = it.master;
      closed = it.closed;
      manifest = it.manifest;
      copies = it.copies;
      unfinished = it.unfinished;
    }

pub returns-else-is_none : goal.returns-else-is_none
returns-else-is_none c =
    of_same c.as_str-text.result.now (string_bytes c.args.name) c.args.self.now c.note.new.self
    c.as_str-text.ensures.value c.in_ok-note.ensures

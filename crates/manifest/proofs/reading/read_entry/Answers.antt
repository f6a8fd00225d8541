use Rattle.std.proofs.Common.{◌∙◌, ap, sym, subst, is_some, ◌<◌, List, length as len}
use Rattle.manifest.specs.Entries.{Noted}
use Rattle.manifest.proofs.Names.{unknown_lacks}
use Rattle.manifest.proofs.Whole.{entry_stands, name_again, no_sum}
use Rattle.manifest.proofs.reading.read_entry.Goals as goal

pub returns-in_default-sum_at-clause-stopped : goal.returns-in_default-sum_at-clause-stopped
returns-in_default-sum_at-clause-stopped c =
    let length = c.in-Some.ensures.found in
    no_sum c.args.manifest.now c.args.bytes.now c.in-Some.behind.now c.in-Some.extent c.in-Some.count length.0 length.1
    c.in_default-sum_at.ensures.none

pub returns-then-is_some-clause-stopped : goal.returns-then-is_some-clause-stopped
returns-then-is_some-clause-stopped c =
    let length = c.in-Some.ensures.found in
    let sum = c.in-Some-sum_at.ensures.found in
    name_again c.args.manifest.now c.args.bytes.now c.in-Some.behind.now c.in-Some-sum_at.rest.now c.in-Some.extent c.in-Some.count
    c.in-Some-sum_at.sum.0 c.in-Some-sum_at.name.now length.0 length.1 sum.0 sum.1 sum.2
    (ap is_some (sym c.entry.ensures) ∙ sym c.if-is_some.ensures)

pub add-requires-clause-new : goal.add-requires-clause-new
add-requires-clause-new c =
    unknown_lacks c.in-Some-sum_at.name.now c.args.manifest.now.entries (ap is_some (sym c.entry.ensures) ∙ sym c.if-is_some.ensures)

pub returns-in-Ok-clause-taken : goal.returns-in-Ok-clause-taken
returns-in-Ok-clause-taken c =
    let length = c.in-Some.ensures.found in
    let sum = c.in-Some-sum_at.ensures.found in
    entry_stands c.args.manifest.now c.add.new.self c.args.bytes.now c.in-Some.behind.now c.in-Some-sum_at.rest.now c.in-Some.extent c.in-Some.count
    c.in-Some-sum_at.sum c.in-Some-sum_at.name.now
    (record {
      noted = record { name = sum.1; bytes = length.0; sum = sum.0 };
      new = unknown_lacks c.in-Some-sum_at.name.now c.args.manifest.now.entries (ap is_some (sym c.entry.ensures) ∙ sym c.if-is_some.ensures);
      few = subst (λ (es : List Noted). len es < 4096) c.entries.ensures c.if-entries-ge-MAX_ENTRIES.false;
    })
    length.1 sum.2 c.in-Ok.ensures.ok

use Rattle.std.proofs.Common.{◌≡◌, ◌<◌, length as len, rules, subst}
use Rattle.std.specs.List.{flat_map}
use Rattle.manifest.specs.Reading.{StopsAt}
use Rattle.manifest.specs.Text.{entry_text}
use Rattle.manifest.proofs.Whole.{followed, is_nil, not_nil, text_goes_on, wanted_follows, wanted_is}
use Rattle.manifest.proofs.reading.decode.Goals as goal

pub returns-in_default-clause-only : goal.returns-in_default-clause-only
returns-in_default-clause-only c wanted is e =
    c.in_default.ensures.none wanted.database (flat_map entry_text wanted.entries) is.database e

pub returns-in-Err-Bad-clause-only : goal.returns-in-Err-Bad-clause-only
returns-in-Err-Bad-clause-only c wanted is e =
    let some : 0 < len c.entries.rest.now = search rules in
    absurd (wanted_follows c.entries.manifest wanted c.entries.rest.now c.args.bytes.now c.entries.invariant.manifest is
    c.entries.invariant.text (not_nil c.entries.rest.now some) e
    (subst (StopsAt c.entries.manifest c.entries.rest.now) c.in-Err-Bad.field-0-is c.in-Err-Bad.ensures.stopped))

pub entries-preserved : goal.entries-preserved
entries-preserved c =
    let taken = c.in-Ok.ensures.taken in
    record {
      manifest = followed c.entries.manifest c.read_entry.new.manifest c.entries.rest.now c.in-Ok.behind.now c.entries.invariant.manifest taken;
      text = text_goes_on c.entries.manifest c.read_entry.new.manifest c.args.bytes.now c.entries.rest.now c.in-Ok.behind.now c.entries.invariant.text taken;
    }

pub returns-clause-only : goal.returns-clause-only
returns-clause-only c wanted is e =
    let none : len c.entries.rest.now ≡ 0 = search rules in
    wanted_is c.entries.manifest wanted c.entries.rest.now c.args.bytes.now c.entries.invariant.manifest is c.entries.invariant.text (is_nil c.entries.rest.now none) e

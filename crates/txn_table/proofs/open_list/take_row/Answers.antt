use Rattle.std.proofs.Common.{◌++◌, ◌∷◌, [], length, ap, cond, set, sym, arith, ◌∙◌}
use Rattle.std.proofs.lemmas.Bool.{le-ltb, lt-ltb}
use Rattle.txn_table.proofs.open_list.take_row.Goals as goal

pub returns-then-row-len-clause-ok : goal.returns-then-row-len-clause-ok
returns-then-row-len-clause-ok c =
    let rows = c.args.rows.now in
    let e = c.begin.new.self in
    record {
      entry = e;
      begun = c.begin.ensures;
      rows = sym (ap (λ b. cond b (set rows.items c.args.row e) (rows.items ++ e ∷ []))
          (lt-ltb c.args.row (length rows.items) (omega (arith, rows.ok.0))));
    }

pub returns-clause-ok : goal.returns-clause-ok
returns-clause-ok c =
    let rows = c.args.rows.now in
    let e = c.begun_entry.result in
    record {
      entry = e;
      begun = c.begun_entry.ensures;
      rows = c.in_ok-push.ensures.items
          ∙ sym (ap (λ b. cond b (set rows.items c.args.row e) (rows.items ++ e ∷ []))
          (le-ltb c.args.row (length rows.items) (omega (arith, rows.ok.0))));
    }

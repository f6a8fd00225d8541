use Rattle.std.proofs.Common.{◌≡◌, ◌∙◌, ◌&&◌, ap, cond, eqb, refl, sym, true}
use Rattle.std.proofs.lemmas.Bool.{and_from, eq-eqb}
use Rattle.slot_claims.specs.Adders.{rows_at}
use Rattle.slot_claims.specs.RowSet.{has_row}
use Rattle.slot_claims.proofs.adders.Adders.put_row.Goals as goal

pub returns-clause-now : goal.returns-clause-now
returns-clause-now c = λ other within.
    let here : (eqb c.args.page c.args.page && eqb c.args.slot c.args.slot) ≡ true =
    and_from (eqb c.args.page c.args.page) _ (eq-eqb c.args.page c.args.page refl)
    (eq-eqb c.args.slot c.args.slot refl) in
    ap (λ set. has_row set other) (c.put.ensures c.args.page c.args.slot
    ∙ ap (λ b. cond b c.with.result (rows_at c.args.self.now c.args.page c.args.slot)) here)
    ∙ c.with.ensures other within
    ∙ ap (λ set. cond (eqb other c.args.row) c.args.present (has_row set other)) c.rows-was.ensures

pub returns-clause-put : goal.returns-clause-put
returns-clause-put c = λ p s.
    let here : (eqb c.args.page c.args.page && eqb c.args.slot c.args.slot) ≡ true =
    and_from (eqb c.args.page c.args.page) _ (eq-eqb c.args.page c.args.page refl)
    (eq-eqb c.args.slot c.args.slot refl) in
    c.put.ensures p s
    ∙ ap (λ set. cond (eqb c.args.page p && eqb c.args.slot s) set (rows_at c.args.self.now p s))
    (sym (c.put.ensures c.args.page c.args.slot
    ∙ ap (λ b. cond b c.with.result (rows_at c.args.self.now c.args.page c.args.slot)) here))

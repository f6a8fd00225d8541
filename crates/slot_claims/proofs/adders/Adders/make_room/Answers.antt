use Rattle.std.proofs.Common.{◌∙◌, ◌<◌, ap, arith, inl, inr, refl, sym}
use Rattle.std.proofs.lemmas.Bool.{cases_lt}
use Rattle.std.proofs.lemmas.Result.{on_err_weaker, on_ok_weaker}
use Rattle.std.specs.Prelude.{vec_len}
use Rattle.slot_claims.specs.declared.adders.Adders.{Adders}
use Rattle.slot_claims.specs.Adders.{has_set_at, no_adders, rows_at, rows_in}
use Rattle.slot_claims.specs.RowSet.{no_rows}
use Rattle.slot_claims.proofs.AdderSets.{no_set_found, no_set_page, no_set_slot, set_put}
use Rattle.slot_claims.proofs.Holds.{on_err_from}
use Rattle.slot_claims.proofs.Paged.{at_still}
use Rattle.slot_claims.proofs.adders.Adders.make_room.Goals as goal

pub returns-then-slot-ge-SLOTS-clause-needed : goal.returns-then-slot-ge-SLOTS-clause-needed
returns-then-slot-ge-SLOTS-clause-needed c =
    let slot_is = c.slot.view_is in no_set_slot c.args.self.now c.args.page c.args.slot (omega arith)

pub returns-in_err-make_page-clause-needed : goal.returns-in_err-make_page-clause-needed
returns-in_err-make_page-clause-needed c =
    let page_is = c.page.view_is in
    on_err_from c.from_residual.result _
    (no_set_page c.args.self.now c.args.page c.args.slot (omega (arith, c.in_err-make_page.ensures.needed)))

pub returns-clause-room : goal.returns-clause-room
returns-clause-room c =
    let fits : c.slot.inside.0 < 62 = omega arith in
    on_ok_weaker c.make_room.result
    (λ room. set_put c.make_page.new.self _ c.args.page c.args.slot c.page.inside.0 c.slot.inside.0 c.make_room.new.self
    refl c.in_ok-make_page.ensures.ok c.page.view_is c.slot.view_is fits room) c.make_room.ensures.room

pub returns-clause-needed : goal.returns-clause-needed
returns-clause-needed c =
    let old = c.args.self.now in
    let new = c.make_page.new.self in
    on_err_weaker c.make_room.result
    (λ none. elim (cases_lt c.page.inside.0 (vec_len old.pages)) [
      | inl within ↦
          ap (λ (a : Adders). has_set_at a c.args.page c.args.slot) (sym (c.make_page.ensures.there within))
          ∙ no_set_found new c.args.page c.args.slot c.page.inside.0 c.slot.inside.0 c.index_mut.result.now
          c.page.view_is c.slot.view_is c.in_ok-make_page.ensures.ok c.index_mut.ensures.value none
      | inr behind ↦
          no_set_page old c.args.page c.args.slot (omega (arith, behind, c.page.view_is))
    ]) c.make_room.ensures.needed

pub returns-clause-same : goal.returns-clause-same
unfolding rows_at
returns-clause-same c =
    let pages = c.make_page.new.self.pages in
    at_still no_adders rows_in no_rows pages.items c.args.self.now.pages.items c.page.inside.0
    c.index_mut.result.now c.make_room.new.self (omega (arith, pages.ok.0, c.in_ok-make_page.ensures.ok))
    c.index_mut.ensures.value c.make_room.ensures.same c.make_page.ensures.same

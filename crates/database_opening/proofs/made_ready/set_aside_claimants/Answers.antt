use Rattle.std.proofs.Common.{◌∙◌, List, get_or, subst, sym, take, true≢false}
use Rattle.std.proofs.lemmas.List.{take_all, take_more}
use Rattle.database_files.specs.MovedAside.{AreSetAside, IsSetAsideAt, file_name_of, none_left, one_more}
use Rattle.database_files.specs.declared.evidence.ForcedEndClaim.{ForcedEndClaim}
use Rattle.database_files.proofs.Public.{note_here, note_stays, puts_more, stays_here}
use Rattle.database_opening.proofs.made_ready.set_aside_claimants.Goals as goal

pub loop-claim-init : goal.loop-claim-init
loop-claim-init g c =
    let begun = g.F.Folder.entries c.args.folder.now in (c.requires, none_left, stays_here begun, note_here begun)

pub loop-claim-preserved : goal.loop-claim-preserved
loop-claim-preserved g c =
    let claims = c.as_slice-claims.result.now in
    let i = c.loop-claim.claim-index in
    let claim = get_or claims i c.claim-item.result in
    let begun = g.F.Folder.entries c.args.folder.now in
    let old = g.F.Folder.entries c.loop-claim.folder in
    let new = g.F.Folder.entries c.move_witness_aside.new.folder in (
      c.move_witness_aside.ensures.claimed,
      subst (λ (cs : List ForcedEndClaim). AreSetAside begun cs new) (sym (take_more claims i c.claim-item.result c.loop-claim-test.true))
          (one_more (take i claims) claim old new c.loop-claim.invariant.1
          (subst (λ (it : ForcedEndClaim). IsSetAsideAt (file_name_of it.witness) old new) c.claim-item.is c.in-Ok.ensures.set_aside)),
      puts_more begun old new c.loop-claim.invariant.2 c.move_witness_aside.ensures.stays,
      note_stays begun old new c.loop-claim.invariant.3 c.move_witness_aside.ensures.note,
    )

pub returns : goal.returns
returns g c =
    let claims = c.as_slice-claims.result.now in
    record {
      set_aside = subst (λ (cs : List ForcedEndClaim). AreSetAside (g.F.Folder.entries c.args.folder.now) cs
          (g.F.Folder.entries c.loop-claim.folder))
          (take_all c.loop-claim.claim-index claims c.loop-claim-test.false ∙ c.as_slice-claims.ensures.value)
          c.loop-claim.invariant.1;
      none = λ none. absurd (true≢false (sym (c.is_none.ensures.1 none) ∙ c.if-is_none.false));
      stays = c.loop-claim.invariant.2;
      note = c.loop-claim.invariant.3;
      claimed = c.loop-claim.invariant.0;
    }

pub returns-then-is_none-clause-set_aside : goal.returns-then-is_none-clause-set_aside
returns-then-is_none-clause-set_aside g c =
    let begun = g.F.Folder.entries c.args.folder.now in
    subst (λ (cs : List ForcedEndClaim). AreSetAside begun cs begun) (sym (c.is_none.ensures.0 c.if-is_none.true)) none_left

pub returns-in-Err-clause-stays : goal.returns-in-Err-clause-stays
returns-in-Err-clause-stays g c =
    puts_more (g.F.Folder.entries c.args.folder.now) (g.F.Folder.entries c.loop-claim.folder)
    (g.F.Folder.entries c.move_witness_aside.new.folder) c.loop-claim.invariant.2 c.move_witness_aside.ensures.stays

use Rattle.std.proofs.Common.{ap, arith, length, map, refl, sym, ◌∙◌}
use Rattle.std.proofs.lemmas.List.{length-map, with_items_is}
use Rattle.engine_run.specs.Settled.{evidence_of}
use Rattle.imgcopy_engine.specs.Run.{all_works}
use Rattle.imgcopy_engine.proofs.Seated.{handed_on, refused_on, same_evidence, settled_on, worked_on}
use Rattle.imgcopy_engine.proofs.run.run_tasks.Goals as goal

pub returns-in_default-all-clause-tried : goal.returns-in_default-all-clause-tried
returns-in_default-all-clause-tried g c =
    let same = with_items_is c.in-Ok-seats_of.seats c.work_all.new.seats
    (omega (arith, c.work_all.auto.seats, c.deref_mut.ensures.len)) in (
      _,
      _,
      worked_on g.T.Task.worked c.work_all.ensures
          (ap (λ seats. map (λ seat. seat.task) seats) c.deref_mut.ensures.value ∙ c.in-Ok-seats_of.ensures.tasks)
          (c.give_back.ensures.tasks ∙ ap (λ seats. map (λ seat. seat.task) seats) same),
    )

pub returns-in-Ok-settle_whole-clause-settled : goal.returns-in-Ok-settle_whole-clause-settled
returns-in-Ok-settle_whole-clause-settled g c =
    let same = with_items_is c.in-Ok-seats_of.seats c.work_all.new.seats
    (omega (arith, c.work_all.auto.seats, c.deref_mut.ensures.len)) in
    let given = c.give_back.ensures.sessions ∙ ap (λ seats. map (λ seat. seat.client.session) seats) same in
    let told = c.receipts_of.ensures ∙ ap (λ v. v.items) c.in-Ok-settle_whole.ensures.receipts in
    let own = c.give_back.ensures.works ∙ ap (λ seats. map (λ seat. seat.works.items) seats) same in
    record {
      have_worked = handed_on g.T.Task.worked
          (worked_on g.T.Task.worked c.work_all.ensures
          (ap (λ seats. map (λ seat. seat.task) seats) c.deref_mut.ensures.value ∙ c.in-Ok-seats_of.ensures.tasks)
          (c.give_back.ensures.tasks ∙ ap (λ seats. map (λ seat. seat.task) seats) same))
          (sym (told ∙ given)) (sym own);
      settled = settled_on c.in-Ok-settle_whole.ensures.settled (cc c.sessions_of.ensures.began) (sym told)
          (c.deref-2.ensures.value ∙ c.in-Ok-all.ensures
          ∙ ap (λ seats. all_works (map (λ seat. seat.works.items) seats)) (c.deref.ensures.value ∙ same)
          ∙ ap all_works (sym own));
    }

pub returns-clause-tried : goal.returns-clause-tried
returns-clause-tried g c =
    let same = with_items_is c.in-Ok-seats_of.seats c.work_all.new.seats
    (omega (arith, c.work_all.auto.seats, c.deref_mut.ensures.len)) in (
      _,
      _,
      worked_on g.T.Task.worked c.work_all.ensures
          (ap (λ seats. map (λ seat. seat.task) seats) c.deref_mut.ensures.value ∙ c.in-Ok-seats_of.ensures.tasks)
          (c.give_back.ensures.tasks ∙ ap (λ seats. map (λ seat. seat.task) seats) same),
    )

pub returns-clause-compared : goal.returns-clause-compared
returns-clause-compared g c =
    let same = with_items_is c.in-Ok-seats_of.seats c.work_all.new.seats
    (omega (arith, c.work_all.auto.seats, c.deref_mut.ensures.len)) in
    let given = c.give_back.ensures.sessions ∙ ap (λ seats. map (λ seat. seat.client.session) seats) same in
    let back = ap (λ v. v.items) c.in-Err.ensures.sessions in
    let own = c.give_back.ensures.works ∙ ap (λ seats. map (λ seat. seat.works.items) seats) same in
    let as_many = ap length (back ∙ given) in
    record {
      began = c.args.shared.began;
      is_began = refl;
      why = c.in-Err.back.fault;
      is_why = refl;
      have_worked = handed_on g.T.Task.worked
          (worked_on g.T.Task.worked c.work_all.ensures
          (ap (λ seats. map (λ seat. seat.task) seats) c.deref_mut.ensures.value ∙ c.in-Ok-seats_of.ensures.tasks)
          (c.give_back.ensures.tasks ∙ ap (λ seats. map (λ seat. seat.task) seats) same))
          (sym (c.receipts_of-in-Err.ensures ∙ back ∙ given)) (sym own);
      wrong = refused_on c.sessions_of.new.shared.sessions c.sessions_of.new.shared.began
          (evidence_of c.in-Err.back.shared.held.engine.state) c.in-Err.back.sessions.items c.deref-2.result.now
          c.in-Err.back.fault c.in-Err.ensures.fault
          (omega (
            arith,
            as_many,
            length-map c.work_all.new.seats (λ seat. seat.client.session),
            c.work_all.auto.seats,
            c.deref_mut.ensures.len,
            c.in-Ok-seats_of.ensures.count,
            c.in-Ok-sessions_of.ensures.made,
            c.requires.none,
            c.len-3.ensures,
            c.in-Ok-seats_of.seats.ok.0,
          ))
          c.sessions_of.ensures.began
          (same_evidence c.into_parts-retired.result.0 c.in-Err.back.shared.held.engine.state
          c.into_parts-retired.ensures.log c.into_parts-retired.ensures.forced_end c.into_parts-retired.ensures.copies)
          (sym c.receipts_of-in-Err.ensures)
          (c.deref-2.ensures.value ∙ c.in-Ok-all.ensures
          ∙ ap (λ seats. all_works (map (λ seat. seat.works.items) seats)) (c.deref.ensures.value ∙ same)
          ∙ ap all_works (sym own));
    }

use Rattle.std.proofs.Common.{◌∙◌, ◌∷◌, [], sym, ap, subst}
use Rattle.log_records.specs.Log.{IsLog, Log, with_next}
use Rattle.log_records.proofs.Public.{checkpoint_gives_none}
use Rattle.log_records.proofs.Public.{more-none}
use Rattle.log_rules.proofs.Public.{valid_next}
use Rattle.fuzzy_ckpt.proofs.ckpt.append.Goals as goal

pub returns-clause-valid : goal.returns-clause-valid
returns-clause-valid g c =
    subst IsLog (sym (c.append.ensures.next ∙ ap
    (λ (l : Log). with_next l (c.args.next ∷ [])) c.make_room.ensures.same))
    (valid_next c.args.log.now.log c.args.next c.end_of-end.ensures.valid c.requires.few c.requires.stands
    (more-none _ c.args.next (checkpoint_gives_none c.args.next c.requires.kind)))

pub append-requires-clause-more : goal.append-requires-clause-more
append-requires-clause-more g c = more-none _ c.args.next (checkpoint_gives_none c.args.next c.requires.kind)

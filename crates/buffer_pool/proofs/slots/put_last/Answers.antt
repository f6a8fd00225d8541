use Rattle.std.proofs.Common.{◌∙◌, nat_eq}
use Rattle.std.specs.Prelude.{Err, IsOk, Ok, OnOk, Result}
use Rattle.indexmap.proofs.CallerLemmas.{insert_entry-new}
use Rattle.buffer_pool.proofs.slots.put_last.Goals as goal

of_ok : {X E : Type 0} (r : Result X E) (P : Type 0) → IsOk r → OnOk r P → P
of_ok (Ok x) P ok p = p
of_ok (Err e) P ok p = absurd (cc)

pub returns : goal.returns
returns c =
    of_ok c.insert.result _ (c.insert.ensures.succeeds c.requires.room) c.insert.ensures.entries
    ∙ insert_entry-new nat_eq c.args.slots.now c.args.number c.args.slot c.requires.absent

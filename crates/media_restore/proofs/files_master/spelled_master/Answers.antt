use Rattle.std.proofs.Common.{◌≡◌, ◌+◌, [], length, take, refl, sym, subst, arith, inl}
use Rattle.std.proofs.KnownBytes.{Consumes-nil}
use Rattle.std.proofs.lemmas.List.{length-take}
use Rattle.log_store.specs.declared.master.Master.{Master}
use Rattle.log_store.specs.Master.{SpellsMaster}
use Rattle.page_core.proofs.Public.{always_ok, if_err, of_input}
use Rattle.media_restore.specs.FilesStop.{FailsInMaster}
use Rattle.media_restore.proofs.Masters.{IsFoundIn, found_at_end, none_at_end, none_begins, none_in_nothing}
use Rattle.media_restore.proofs.Masters.{still_open, still_short}
use Rattle.media_restore.proofs.files_master.spelled_master.Goals as goal

pub returns-in-End-clause-ok : goal.returns-in-End-clause-ok
returns-in-End-clause-ok g c =
    found_at_end c.whole_master.result c.loop.found _ _ (take c.loop.filled c.loop.bytes)
    (c.in-End.ensures.1 _ [] c.loop.invariant.taken) c.in-End.ensures.0 c.loop.invariant.right
    c.whole_master.ensures.ok

pub returns-in-End-clause-err : goal.returns-in-End-clause-err
returns-in-End-clause-err g c =
    none_at_end c.whole_master.result c.loop.found _ _ (take c.loop.filled c.loop.bytes)
    (c.in-End.ensures.1 _ [] c.loop.invariant.taken) c.in-End.ensures.0 c.loop.invariant.right
    c.whole_master.ensures.err

pub returns-then-is_misspelt-clause-err : goal.returns-then-is_misspelt-clause-err
returns-then-is_misspelt-clause-err g c =
    let given = take (c.loop.filled + c.in-More.count) c.read_more.new.buffer in
    let why = c.if-is_misspelt.ensures.0 refl in
    let room = c.in-More.ensures.0 in
    of_input _ _ given (λ bytes. (m : Master) → ¬ SpellsMaster m bytes)
    (c.in-More.ensures.1 _ [] c.loop.invariant.taken)
    (λ rest end m. none_begins c.decode_master-next.result given rest m
    (omega (arith, why.0, room, length-take (c.loop.filled + c.in-More.count) c.read_more.new.buffer))
    c.decode_master-next.ensures.only why.1)

pub loop-init : goal.loop-init
loop-init g c = record {
  short = omega arith;
  taken = Consumes-nil (g.M.Read.remaining c.args.reader.now);
  gave = inl (omega arith);
  right = none_in_nothing;
}

pub loop-preserved : goal.loop-preserved
loop-preserved g c =
    let given = take (c.loop.filled + c.in-More.count) c.read_more.new.buffer in
    let room = c.in-More.ensures.0 in
    let long : length given ≡ c.loop.filled + c.in-More.count =
    omega (arith, room, length-take (c.loop.filled + c.in-More.count) c.read_more.new.buffer) in
    let right : IsFoundIn c.decode_master-next.result given =
    record { right = c.decode_master-next.ensures.found; only = c.decode_master-next.ensures.only } in
    record {
      short = still_short c.decode_master-next.result given (c.loop.filled + c.in-More.count) (omega arith)
          long right c.if-is_misspelt.ensures.1;
      taken = c.in-More.ensures.1 _ [] c.loop.invariant.taken;
      gave = still_open c.decode_master-next.result given (c.loop.filled + c.in-More.count) long right
          c.if-is_misspelt.ensures.1;
      right = right;
    }

pub returns-in-End-clause-stops : goal.returns-in-End-clause-stops
returns-in-End-clause-stops g c = if_err c.whole_master.result _ _ (λ fault is.
    subst (FailsInMaster (g.M.Read.remaining c.args.reader.now) (g.M.Read.remaining c.read_more.new.reader)) (sym is.0)
    (take c.loop.filled c.loop.bytes, c.in-End.ensures.1 _ [] c.loop.invariant.taken)) c.whole_master.ensures.err

pub returns-in-End-clause-end : goal.returns-in-End-clause-end
returns-in-End-clause-end g c = always_ok c.whole_master.result _
    ((take c.loop.filled c.loop.bytes, c.in-End.ensures.1 _ [] c.loop.invariant.taken), c.in-End.ensures.0)

pub returns-then-is_misspelt-clause-stops : goal.returns-then-is_misspelt-clause-stops
returns-then-is_misspelt-clause-stops g c = (
  take (c.loop.filled + c.in-More.count) c.read_more.new.buffer,
  c.in-More.ensures.1 _ [] c.loop.invariant.taken,
)

pub returns-in-Failed-clause-stops : goal.returns-in-Failed-clause-stops
returns-in-Failed-clause-stops g c = (
  take c.loop.filled c.loop.bytes,
  (c.in-Failed.ensures _ [] c.loop.invariant.taken, c.loop.invariant.gave),
)

pub returns-clause-stops : goal.returns-clause-stops
returns-clause-stops g c = (
  take c.loop.filled c.loop.bytes,
  (c.loop.invariant.taken, c.loop.invariant.gave),
)

use Rattle.std.proofs.Common.{rules, ℕ, refl, subst, arith}
use Rattle.log_records.specs.Log.{IsWithin, page_count}
use Rattle.log_rules.proofs.Public.{gives_more, made_next, may_come, may_follow}
use Rattle.log_store.proofs.Scans.{pages_are, taken_bad_chain, taken_next, valid_with}
use Rattle.log_records.specs.Record.{record_bytes}
use Rattle.log_store.proofs.scan.take_found.Goals as goal

pub returns-then-not-branch-clause-first : goal.returns-then-not-branch-clause-first
returns-then-not-branch-clause-first g c = λ format given rest of_format taken.
    let r = c.args.found.now in
    let made = c.args.history.now in
    let stands = c.requires.stands in
    let within : IsWithin (page_count taken.log) r = subst (λ (n : ℕ). IsWithin n r)
    (pages_are g.S.RecordSink.holds format c.args.sink.now made c.args.count given taken) stands.within in
    taken_bad_chain g.S.RecordSink.holds format c.args.sink.now made c.args.count given taken r
    (record_bytes r) rest
    (omega arith)
    stands of_format refl
    (λ may. let yes = c.in_ok-follow.ensures.refused (may_come taken.log made r taken.made_of
    taken.spells.valid stands.valid within may.1 may.0) in
    absurd (search rules))

pub take-requires : goal.take-requires
take-requires g c =
    let format = c.requires.so_far.0 in
    let given = c.requires.so_far.1 in
    let taken = c.requires.so_far.2 in (
      taken.log,
      (
        taken.held,
        valid_with g.S.RecordSink.holds format c.args.sink.now c.args.history.now c.args.count given
            taken c.args.found.now (omega arith) c.requires.stands
            (gives_more taken.log c.args.history.now c.args.found.now taken.made_of
            (c.in_ok-follow.ensures.taken (search rules)).0),
      ),
    )

pub returns-clause-ok : goal.returns-clause-ok
returns-clause-ok g c = λ format given of_format taken.
    let r = c.args.found.now in
    let old = c.args.history.now in
    let new = c.follow.new.self in
    let stands = c.requires.stands in
    let within : IsWithin (page_count taken.log) r = subst (λ (n : ℕ). IsWithin n r)
    (pages_are g.S.RecordSink.holds format c.args.sink.now old c.args.count given taken) stands.within in
    let said = c.in_ok-follow.ensures.taken (search rules) in
    let may = may_follow taken.log old r taken.made_of taken.spells.valid stands.valid within said.0 in
    let more = gives_more taken.log old r taken.made_of said.0 in
    let valid = valid_with g.S.RecordSink.holds format c.args.sink.now old c.args.count given
    taken r (omega arith) stands more in
    taken_next g.S.RecordSink.holds format c.args.sink.now old c.args.count given taken c.take.new.self new r
    (record_bytes r) (omega arith) stands more of_format refl may
    (made_next taken.log old new r taken.linked taken.made_of taken.spells.valid more may said.1)
    (c.in_ok-take.ensures taken.log taken.held valid)

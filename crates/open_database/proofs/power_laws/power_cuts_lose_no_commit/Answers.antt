use Rattle.std.proofs.Common.{[], get_or, append-nil, ap, sym}
use Rattle.log_records.specs.Log.{Log}
use Rattle.engine_rules.specs.AnsweredCommits.{answered_commits}
use Rattle.engine_rules.specs.EngineState.{log_of}
use Rattle.engine_rules.proofs.Public.{forced_later}
use Rattle.open_database.specs.PowerCuts.{HasForced, MayBeRead}
use Rattle.open_database.proofs.PowerCuts.{committed_in, engine_has_forced, front_restores, front_stands, kept_if_written}
use Rattle.open_database.proofs.power_laws.power_cuts_lose_no_commit.Goals as goal

pub returns : goal.returns
returns g c =
    let engine = c.args.engine.now in
    let s = engine.state in
    let fit = c.log_end-end.ensures.fit in
    let has : (front : Log) → MayBeRead g.D.Disk.may_leave g.D.Disk.is_clean engine.device front → HasForced s front =
    λ front read. engine_has_forced g.D.Disk.may_leave g.D.Disk.is_clean _ engine.device _ s front
    c.log.ensures.log c.log.ensures.forced_end c.log.ensures.device c.device.ensures.device c.device.ensures.kept
    c.device.ensures.lasts fit.linked c.lasting_bytes_are_left.ensures.counted
    c.lasting_bytes_are_left.ensures.left (c.fronts_have_what_a_device_keeps.ensures _) read in
    record {
      forced = has;
      commits = λ began events replies front fit_began run read. λ k d lt.
          let commit = get_or (answered_commits events replies) k d in
          committed_in front.records commit
          (front_stands s front (has front read) commit (forced_later began events replies s fit_began run k d lt));
      restores = λ front id copy read is.
          let restorable = c.copies_may_be_restored.ensures (log_of s) s.forced_end s.stored s.copies fit.copied in
          front_restores s front front id copy fit (has front read)
          ([], sym (ap (λ rs. record front { records = rs }) (append-nil front.records)))
          read.front.front.spells.valid is restorable
          (λ kept is_kept. c.a_complete_copy_restores.ensures.restores (log_of s) kept s.forced_end s.copies id copy
          fit.valid restorable is_kept is);
      written = λ front read. kept_if_written s front (has front read);
    }

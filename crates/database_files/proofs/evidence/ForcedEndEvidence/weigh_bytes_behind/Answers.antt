use Rattle.std.proofs.Common.{refl}
use Rattle.database_files.specs.Evidence.{IsBy}
use Rattle.database_files.specs.declared.evidence.Witness.TheVariants as witness
use Rattle.database_files.proofs.Weighed.{weighs_none}
use Rattle.database_files.proofs.evidence.ForcedEndEvidence.weigh_bytes_behind.Goals as goal

pub returns-in-None-clause-weighed : goal.returns-in-None-clause-weighed
returns-in-None-clause-weighed c =
    let claims = c.args.self.now.claims.items in
    weighs_none (IsBy witness.Record) claims claims _ refl (c.forced_behind.ensures.none c.in-None.is)

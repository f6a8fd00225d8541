use Rattle.std.proofs.Common.{◌<◌, take}
use Rattle.std.specs.Io.KnownBytes.{Consumes}
use Rattle.media_restore.specs.FilesStop.{MayBeMaster}
use Rattle.media_restore.proofs.Masters.{IsFoundIn}
use Rattle.media_restore.proofs.files_master.spelled_master.Given as goal

abbrev pub invariant-loop : goal.invariant-loop
invariant-loop g l = record {
  short : l.filled < 65;
  taken : Consumes (g.M.Read.remaining l.fn.reader) (g.M.Read.remaining l.reader) (take l.filled l.bytes);
  gave : MayBeMaster (take l.filled l.bytes);
  right : IsFoundIn l.found (take l.filled l.bytes);
}

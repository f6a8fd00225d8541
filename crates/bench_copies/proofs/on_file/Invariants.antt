use Rattle.std.specs.Prelude.{[]}
use Rattle.bench_copies.proofs.on_file.Given as goal

abbrev pub ghosts-measure-G-Ledger : goal.ghosts-measure-G-Ledger
ghosts-measure-G-Ledger g a = record { name = a.blank.name; parts = a.blank.parts }

abbrev pub ghosts-measure-G-Life : goal.ghosts-measure-G-Life
ghosts-measure-G-Life g a = record { before = [] }

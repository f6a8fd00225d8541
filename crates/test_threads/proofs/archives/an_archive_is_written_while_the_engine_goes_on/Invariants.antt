use Rattle.std.specs.Prelude.{[]}
use Rattle.test_threads.proofs.archives.an_archive_is_written_while_the_engine_goes_on.Given as goal

abbrev pub ghosts-write_beside-G-Ledger : goal.ghosts-write_beside-G-Ledger
ghosts-write_beside-G-Ledger g a = record { name = a.blank.name; parts = a.blank.parts }

abbrev pub ghosts-write_beside-G-Life : goal.ghosts-write_beside-G-Life
ghosts-write_beside-G-Life g a = record { before = [] }

use Rattle.std.proofs.Common.{map, ◌≡◌, take}
use Rattle.std.specs.Io.Buffered.{reader_remaining}
use Rattle.saved_files.specs.LateFile.{left_of}
use Rattle.saved_files.proofs.restore.told_readers.Given as goal

abbrev pub invariant-loop-name : goal.invariant-loop-name
invariant-loop-name g l =
    map (λ it. reader_remaining (λ file. left_of g.N.File.Read.remaining
    (g.N.NamedFiles.bytes file.files.now file.name.now) file.stage) it.reader) l.readers.items
    ≡ map (λ name. g.N.NamedFiles.bytes l.files name.now) (take l.name-index l.names)

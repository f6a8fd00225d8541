use Rattle.std.proofs.Common.{◌≡◌, ◌∷◌, take}
use Rattle.file_devices.specs.Calls.{done}
use Rattle.file_devices.specs.declared.calls.Request.TheVariants.{SetLen}
use Rattle.file_devices.specs.FileStore.{writes_of}
use Rattle.file_devices.proofs.file_store.fill.Given as goal

abbrev pub invariant-loop-page : goal.invariant-loop-page
invariant-loop-page l = l.file ≡ done (SetLen 0) ∷ writes_of (take l.page-index l.pages)

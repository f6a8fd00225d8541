-- The status of a fault that is told.
use Rattle.std.proofs.Common.{inl, inr, refl}
use Rattle.media_restore.specs.declared.files_fault.RestoreFault.{RestoreFault}
use Rattle.media_restore.specs.declared.files_fault.RestoreFault.TheVariants as files
use Rattle.script_run.specs.Status.{status_of_restore}
use Rattle.file_commands.specs.Statuses.{IsOfFault}

-- it is 1 or 2
pub restore_is : (fault : RestoreFault) → IsOfFault (status_of_restore fault)
restore_is files.OutOfMemory = inr refl
restore_is files.LogFull = inl refl
restore_is (files.WriteFault done) = inr refl
restore_is files.BadHeader = inr refl
restore_is (files.BadRecord at) = inr refl
restore_is (files.Torn at) = inr refl
restore_is files.ReadFault = inr refl
restore_is files.TooLong = inr refl
restore_is (files.BadChain at) = inr refl
restore_is (files.BadArchive at) = inr refl
restore_is (files.ChainBroken copy) = inl refl
restore_is files.CountDiffers = inr refl
restore_is files.RedoBeyondLog = inl refl
restore_is (files.PageBeyondLog page) = inl refl

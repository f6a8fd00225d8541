-- What the line of a fault begins with, and what is printed of one that has a number of its own.
use Rattle.std.specs.Prelude.{ℕ, List, ◌++◌, codes}
use Rattle.std.specs.Fmt.{decimal}
use Rattle.page_core.specs.declared.fault_name.FaultName.{FaultName}
use Rattle.page_core.specs.declared.fault_name.FaultName.TheVariants as name

abbrev pub fault_line : FaultName → List ℕ
fault_line name.OutOfMemory = codes "E1 OutOfMemory"
fault_line name.NoTxn = codes "E2 NoTxn"
fault_line name.PageOut = codes "E3 PageOut"
fault_line name.SlotOut = codes "E4 SlotOut"
fault_line name.SlotBusy = codes "E5 SlotBusy"
fault_line name.TxnRolling = codes "E6 TxnRolling"
fault_line name.NotRolling = codes "E7 NotRolling"
fault_line name.LogFull = codes "E8 LogFull"
fault_line name.TooManyTxns = codes "E9 TooManyTxns"
fault_line name.NotDirty = codes "E10 NotDirty"
fault_line name.WriteBegun = codes "E11 WriteBegun"
fault_line name.NoWrite = codes "E12 NoWrite"
fault_line name.CkptOpen = codes "E13 CkptOpen"
fault_line name.NoCkpt = codes "E14 NoCkpt"
fault_line name.GatherLeft = codes "E15 GatherLeft"
fault_line name.NoMaster = codes "E16 NoMaster"
fault_line name.NoCopy = codes "E17 NoCopy"
fault_line name.CopyNotOpen = codes "E18 CopyNotOpen"
fault_line name.CopyNotComplete = codes "E19 CopyNotComplete"
fault_line name.PageDecided = codes "E20 PageDecided"
fault_line name.PagesLeft = codes "E21 PagesLeft"
fault_line name.StoreFault = codes "E22 StoreFault"
fault_line name.LogFault = codes "E23 LogFault"
fault_line name.PoolFull = codes "E24 PoolFull"
fault_line name.TooManyCopies = codes "E25 TooManyCopies"
fault_line name.CommitUnsure = codes "E26 CommitUnsure"
fault_line name.CutTooShort = codes "E27 CutTooShort"
fault_line name.Unsettled = codes "E28 Unsettled"
fault_line name.WriteFault = codes "E29 WriteFault"
fault_line name.BadHeader = codes "E30 BadHeader"
fault_line name.BadRecord = codes "E31 BadRecord"
fault_line name.Torn = codes "E32 Torn"
fault_line name.ReadFault = codes "E33 ReadFault"
fault_line name.TooLong = codes "E34 TooLong"
fault_line name.BadChain = codes "E35 BadChain"
fault_line name.BadArchive = codes "E36 BadArchive"
fault_line name.ChainBroken = codes "E37 ChainBroken"
fault_line name.CountDiffers = codes "E38 CountDiffers"
fault_line name.RedoBeyondLog = codes "E39 RedoBeyondLog"
fault_line name.PageBeyondLog = codes "E40 PageBeyondLog"
fault_line name.Unsound = codes "E41 Unsound"
fault_line name.NoSavepoint = codes "E42 NoSavepoint"
fault_line name.NotLarger = codes "E43 NotLarger"

-- the name, and a number behind it
abbrev pub fault_line_with : FaultName → ℕ → List ℕ
fault_line_with fault number = fault_line fault ++ codes " " ++ decimal number

-- When an opening has only looked.
use Rattle.database_files.specs.declared.fault.OpenFault.{OpenFault}
use Rattle.database_files.specs.declared.fault.OpenFault.TheVariants.{Change, Lost}

-- a refusal: the folder was looked at, and nothing was done there. So is each fault but one of a
-- change
abbrev pub IsRefusal : OpenFault → Type 0
IsRefusal (Change why) = ⊥
IsRefusal looked = Unit {0}

-- the refusal of a log that lacks records which were forced
abbrev pub IsLost : OpenFault → Type 0
IsLost (Lost evidence) = Unit {0}
IsLost other = ⊥

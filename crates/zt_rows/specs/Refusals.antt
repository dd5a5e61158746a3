-- The refusals' numbers and names.
use Rattle.std.specs.Prelude.{ℕ, List, codes}
use Rattle.zt_rows.specs.declared.refusals.Refusal.{Refusal}
use Rattle.zt_rows.specs.declared.refusals.Refusal.TheVariants as refusal

abbrev pub refusal_number : Refusal → ℕ
refusal_number refusal.OutOfMemory = 1
refusal_number refusal.NoProcess = 2
refusal_number refusal.Full = 3
refusal_number refusal.NoMoment = 4
refusal_number refusal.NoBranch = 5
refusal_number refusal.NameTaken = 6
refusal_number refusal.Detached = 7
refusal_number refusal.AtStart = 8
refusal_number refusal.NoObject = 9
refusal_number (refusal.BadLine _) = 10
refusal_number refusal.LineTooLong = 11
refusal_number refusal.ClientFull = 12
refusal_number refusal.TooManyClients = 13
refusal_number refusal.ReadFault = 14
refusal_number refusal.WriteFault = 15
refusal_number refusal.BadName = 16

abbrev pub refusal_name : Refusal → List ℕ
refusal_name refusal.OutOfMemory = codes "OutOfMemory"
refusal_name refusal.NoProcess = codes "NoProcess"
refusal_name refusal.Full = codes "Full"
refusal_name refusal.NoMoment = codes "NoMoment"
refusal_name refusal.NoBranch = codes "NoBranch"
refusal_name refusal.NameTaken = codes "NameTaken"
refusal_name refusal.Detached = codes "Detached"
refusal_name refusal.AtStart = codes "AtStart"
refusal_name refusal.NoObject = codes "NoObject"
refusal_name (refusal.BadLine _) = codes "BadLine"
refusal_name refusal.LineTooLong = codes "LineTooLong"
refusal_name refusal.ClientFull = codes "ClientFull"
refusal_name refusal.TooManyClients = codes "TooManyClients"
refusal_name refusal.ReadFault = codes "ReadFault"
refusal_name refusal.WriteFault = codes "WriteFault"
refusal_name refusal.BadName = codes "BadName"

-- A refusal of the transactions, as a refusal of the core.
use Rattle.ft_forest.specs.declared.fault.ForestFault.{ForestFault}
use Rattle.ft_forest.specs.declared.fault.ForestFault.TheVariants as forest
use Rattle.ft_core.specs.declared.fault.Fault.{Fault}
use Rattle.ft_core.specs.declared.fault.Fault.TheVariants.{Memory, NoTxn, Ended, ChildLive, Full, Deep}

-- the refusal of the same name
abbrev pub fault_from : ForestFault → Fault
fault_from forest.Memory = Memory
fault_from forest.NoTxn = NoTxn
fault_from forest.Ended = Ended
fault_from forest.ChildLive = ChildLive
fault_from forest.Full = Full
fault_from forest.Deep = Deep

-- What a fault of reading tells.
use Rattle.std.specs.Prelude.{◌≡◌, ⊤, List, Some}
use Rattle.cc_cost.specs.declared.fault.ProfileFault.{ProfileFault}
use Rattle.cc_cost.specs.declared.fault.ProfileFault.TheVariants as fault
use Rattle.cc_rows.specs.Rows.{Row}
use Rattle.cc_cost.specs.Rules.{first_fault}

-- the first row that breaks a rule, and the least rule that it breaks; memory may run out anywhere
abbrev pub TellsFault : List Row → ProfileFault → Type 0
TellsFault rows (fault.Row row rule) = first_fault rows ≡ Some (row, rule)
TellsFault rows fault.NoMemory = ⊤

use Rattle.std.proofs.Common.{◌++◌, ℕ, List, take}
use Rattle.cc_names.specs.View.{HaveSame}
use Rattle.cc_syntax.specs.Names.{device_names}
use Rattle.cc_lower_numbers.proofs.names.reserve_devices.Given as goal

abbrev pub invariant-loop-device : goal.invariant-loop-device
invariant-loop-device l = (reserved : List (List ℕ)) → HaveSame l.initial.names reserved → HaveSame l.names (reserved ++ device_names (take l.device-index l.devices))

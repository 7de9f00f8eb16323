use Rattle.std.proofs.Common.{[], ◌++◌, ℕ, List, take}
use Rattle.cc_names.specs.Holds.{Holds}
use Rattle.cc_syntax.specs.Names.{device_names}
use Rattle.cc_rewrite_names.proofs.reservations.reserve_devices.Given as goal

abbrev pub invariant-loop-device : goal.invariant-loop-device
invariant-loop-device l = (reserved : List (List ℕ)) → Holds l.initial.taken reserved [] → Holds l.taken (reserved ++ device_names (take l.device-index l.devices)) []

use Rattle.std.proofs.Common.{◌≡◌, ◌++◌, drop}
use Rattle.cc_lower_numbers.specs.Numbered.{named_from}
use Rattle.cc_lower_numbers.proofs.devices.named.Given as goal

abbrev pub invariant-loop-device : goal.invariant-loop-device
invariant-loop-device l = record { at : l.position ≡ l.device-index; done : l.named.items ++ named_from l.device-index (drop l.device-index l.devices) ≡ named_from 0 l.devices }

-- Devices that the text of a program in normal form has.
use Rattle.std.specs.Prelude.{◌≡◌, ℕ, true, false, nat_eq, Some, slice_get}
use Rattle.std.specs.List.{list_any}
use Rattle.cc_program.specs.declared.object.Device.{Device}
use Rattle.cc_program.specs.declared.program.Program.{Program}
use Rattle.cc_syntax.specs.Normal.{devices_in_text, has_name}

-- each device without a name stands in a function
abbrev pub AreDevicesInText : Program → Type 0
AreDevicesInText p = (i : ℕ) (d : Device) → slice_get p.devices i ≡ Some d → has_name d ≡ false → list_any (nat_eq i) (devices_in_text p) ≡ true

-- The names of a program, and which spaces they share (C99 6.2.3).
use Rattle.std.specs.Prelude.{ℕ, Bool, ◌&&◌, List, [], ◌∷◌, ◌++◌, map, Option, Some, None}
use Rattle.std.specs.List.{list_all}
use Rattle.cc_program.specs.CcWords.Names.{is_name, are_distinct}
use Rattle.cc_program.specs.declared.object.Device.{Device}
use Rattle.cc_program.specs.declared.program.Program.{Program}
use Rattle.cc_program.specs.declared.program.Roles.{Roles}
use Rattle.cc_syntax.specs.Types.{Named}

-- the name of a device, where it has one, in front of others
abbrev pub with_name : Option (List ℕ) → List (List ℕ) → List (List ℕ)
with_name None names = names
with_name (Some name) names = name ∷ names

-- the names of devices
abbrev pub device_names : List Device → List (List ℕ)
device_names [] = []
device_names (d ∷ ds) = with_name d.name (device_names ds)

abbrev pub intrinsic_names : Roles → List (List ℕ)
intrinsic_names roles = roles.off ∷ roles.on ∷ roles.save ∷ roles.restore ∷ []

-- what a file declares: devices, objects and functions, and the intrinsics
abbrev pub file_names : Program → List (List ℕ)
file_names p = device_names p.devices ++ (map (λ o. o.name) p.objects ++ (map (λ f. f.name) p.funcs ++ intrinsic_names p.roles))

-- tags have a space of their own (6.2.3, 1)
abbrev pub tags : Program → List (List ℕ)
tags p = map (λ s. s.tag) p.structures

abbrev pub local_names : List Named → List (List ℕ)
local_names locals = map (λ l. l.0) locals

-- each may name something, and no two are the same
abbrev pub are_names : List (List ℕ) → Bool
are_names names = list_all is_name names && are_distinct names

-- Names of devices.
use Rattle.std.specs.Prelude.{ℕ, Bool, true, false, not, List, Option, Some, None}
use Rattle.std.specs.List.{list_any}
use Rattle.std.specs.Str.{bytes_eq}
use Rattle.cc_program.specs.CcWords.Names.{is_name}

abbrev pub is_named : List ℕ → Option (List ℕ) → Bool
is_named name None = false
is_named name (Some other) = bytes_eq name other

-- a device has no name, or none of these
abbrev pub is_new : Option (List ℕ) → List (List ℕ) → Bool
is_new None names = true
is_new (Some name) names = not (list_any (bytes_eq name) names)

abbrev pub has_name : Option (List ℕ) → Bool
has_name None = true
has_name (Some name) = is_name name

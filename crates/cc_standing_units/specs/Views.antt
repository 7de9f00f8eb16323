-- The view that a state of the rules is: its structures with their bytes, and what has a place in memory of its own, by number (C99 6.2.1 to 6.2.5).
use Rattle.std.specs.Prelude.{ℕ, Bool, nat_lt, length, Option, Some, None, slice_get, option_map, option_and_then, if◌then◌else◌}
use Rattle.cc_program.specs.CcNum.declared.target.Target.{Target}
use Rattle.cc_terms.specs.CcSyntax.Views.{View}
use Rattle.cc_terms.specs.CcScopes.State.{State, KnownStructure, members_or_none, structures_of}
use Rattle.cc_relocated_units.specs.Units.{static_as, device_as, function_as}

-- one that has members is complete
abbrev pub has_content : KnownStructure → Bool
has_content k = nat_lt 0 (length (members_or_none k.members))

abbrev pub known_extent : KnownStructure → Option ℕ
known_extent k = if has_content k then Some k.layout.size else None

abbrev pub view_of : Target → State → View
view_of target s = record {
  target = target;
  structures = structures_of s;
  extents = λ i. option_map known_extent (slice_get s.structures i);
  statics = λ i. option_and_then (λ d. static_as d.ctype d.kind) (slice_get s.names i);
  devices = λ i. option_and_then (λ d. device_as d.kind) (slice_get s.names i);
  functions = λ i. option_and_then (λ d. function_as d.ctype d.kind) (slice_get s.names i);
}

-- What the text and the accesses of a key say of each reason, as tests.
use Rattle.std.specs.Prelude.{ℕ, Bool, false, not, ◌||◌, List}
use Rattle.std.specs.Option.{option_map_or}
use Rattle.cc_program.specs.Qualifiers.{is_const, is_volatile}
use Rattle.cc_program.specs.declared.program.Program.{Program}
use Rattle.cc_slots.specs.declared.first.Findings.{Findings}
use Rattle.cc_slots.specs.Codes.{is_wide_by}
use Rattle.cc_slots.specs.Judged.{is_torn, is_unbounded, is_volatile_somewhere}
use Rattle.cc_slots_accesses.specs.declared.access.Access.{Access}
use Rattle.cc_slots_accesses.specs.Arrays.{is_array}
use Rattle.cc_slots_structures.specs.Stands.{is_automatic, is_open}
use Rattle.cc_slots_types.specs.declared.class.Class.{Class}
use Rattle.cc_state_points.specs.CcState.Shape.{ctype_of}
use Rattle.cc_state_points.specs.CcStateFacts.declared.facts.Key.{Key}
use Rattle.cc_state_points.specs.CcStateFacts.declared.facts.Key.TheVariants as key

-- a member of a structure that stands nowhere at a place that is not const; a member of one that stands in a local
abbrev pub is_closed_key : Program → Key → Bool
is_closed_key p (key.Object i) = false
is_closed_key p (key.Local f r) = false
is_closed_key p (key.Member s m) = not (is_open p s)

abbrev pub is_automatic_key : Program → Key → Bool
is_automatic_key p (key.Object i) = false
is_automatic_key p (key.Local f r) = false
is_automatic_key p (key.Member s m) = is_automatic p s

abbrev pub findings_of : Program → Key → List Access → Bool → Class → ℕ → ℕ → Bool → ℕ → Findings
findings_of p k accesses addressed class count bytes has_code bits = record {
  volatile = option_map_or is_volatile (ctype_of p k) false || is_volatile_somewhere accesses;
  constant = option_map_or is_const (ctype_of p k) false || is_closed_key p k;
  addressed = addressed;
  automatic = is_automatic_key p k;
  torn = is_torn accesses class bytes p.target.atomic_bytes;
  index = is_unbounded accesses;
  wide = is_wide_by has_code (is_array p k) count bytes bits;
}

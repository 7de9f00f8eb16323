-- Where the static objects of a program stand by a plan for its slots, as layouts.
use Rattle.std.specs.Prelude.{ℕ, ◌*◌, nat_lt, List, length, map, Option, Some, None, if◌then◌else◌}
use Rattle.cc_plan_legal.specs.declared.candidate.Candidate.{Candidate}
use Rattle.cc_plan_legal.specs.declared.kinds.Plan.{Plan}
use Rattle.cc_plan_legal.specs.Candidates.{candidate_of}
use Rattle.cc_program.specs.declared.program.Program.{Program}
use Rattle.cc_rewrite_codes.specs.FirstValues.{each_in}
use Rattle.cc_rewrite_codes.specs.Homes.{Home, Fixed, InWord, InArray}
use Rattle.cc_rewrite_codes.specs.Placed.{home_of}
use Rattle.cc_rewrite_homes.specs.Homes.{Field}
use Rattle.cc_rewrite_layouts.specs.Layouts.{Layout, Same, One, InField, InElements, Nowhere}
use Rattle.cc_slots_accesses.specs.Arrays.{is_array}
use Rattle.cc_slots_types.specs.declared.slot.Slot.{Slot}
use Rattle.cc_state_points.specs.CcStateFacts.declared.facts.Key.TheVariants as key

-- slots as plans see them
abbrev pub candidates_of : Program → List Slot → List Candidate
candidates_of p slots = map (λ (slot : Slot). candidate_of slot (is_array p slot.key)) slots

-- a field of a word that is a static object of so many bytes
abbrev pub field_in : (word bytes shift bits : ℕ) → Field
field_in word bytes shift bits = record { object = word; position = 0; bits = 8 * bytes; shift = shift; width = bits }

abbrev pub layout_at : Home → Layout
layout_at (Fixed type v) = One v
layout_at (InWord word bytes shift bits alone code) = InField (field_in word bytes shift bits)
layout_at (InArray object bits code) = InElements object (each_in bits) bits

-- what is not coded stands as it is
abbrev pub layout_by : Option Home → Layout
layout_by None = Same
layout_by (Some home) = layout_at home

module _ (slots : List Slot) (plan : Plan) (p : Program) where
  abbrev pub layout_of : ℕ → Layout
  layout_of i = if nat_lt i (length p.objects) then layout_by (home_of slots plan p (key.Object i)) else Nowhere

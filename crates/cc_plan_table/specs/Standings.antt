-- Where a slot stands in a plan.
use Rattle.std.specs.Prelude.{ℕ, Bool, true, false, Option, Some, None}
use Rattle.cc_bins.specs.declared.types.Field.{Field}
use Rattle.cc_plan_legal.specs.declared.kinds.Plan.{Plan}
use Rattle.cc_plan_legal.specs.Legality.{field_of, is_among}
use Rattle.cc_plan_table.specs.declared.standing.Standing.{Standing}
use Rattle.cc_plan_table.specs.declared.standing.Standing.TheVariants as standing

abbrev pub standing_by : Option Field → Bool → Bool → Bool → Bool → Standing
standing_by (Some f) is_const is_array is_left is_dissolved = standing.InWord f
standing_by None true is_array is_left is_dissolved = standing.AsConst
standing_by None false true is_left is_dissolved = standing.AsArray
standing_by None false false true is_dissolved = standing.BeyondBudget
standing_by None false false false true = standing.Dissolved
standing_by None false false false false = standing.Nowhere

unfoldable pub standing_of : Plan → ℕ → Standing
standing_of plan slot = standing_by (field_of plan.fields slot) (is_among plan.consts slot) (is_among plan.arrays slot) (is_among plan.budget slot) (is_among plan.dissolved slot)

-- whether the slot is coded
abbrev pub is_coded : Standing → Bool
is_coded (standing.InWord f) = true
is_coded standing.AsConst = true
is_coded standing.AsArray = true
is_coded standing.BeyondBudget = false
is_coded standing.Dissolved = false
is_coded standing.Nowhere = false

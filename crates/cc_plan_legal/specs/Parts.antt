-- Lists that are those of a plan.
use Rattle.std.specs.Prelude.{◌≡◌, Bool, ◌&&◌}
use Rattle.cc_plan_legal.specs.declared.kinds.Plan.{Plan}
use Rattle.cc_plan_legal.specs.declared.parts.Parts.{Parts}
use Rattle.cc_plan_legal.specs.Plans.{ascends, slots_of, are_in, are_used}

-- the lists are those of a plan
abbrev pub is_plan : Parts → Bool
is_plan p =
    ascends (slots_of p.fields)
    && ascends p.consts
    && ascends p.arrays
    && ascends p.budget
    && ascends p.dissolved
    && are_in p.words p.fields
    && are_used 0 p.words p.fields

-- the plan has these lists
pub record HasParts (parts : Parts) (plan : Plan) : Type 0 where
  pub fields : plan.fields ≡ parts.fields
  pub consts : plan.consts ≡ parts.consts
  pub arrays : plan.arrays ≡ parts.arrays
  pub words : plan.words ≡ parts.words
  pub budget : plan.budget ≡ parts.budget
  pub dissolved : plan.dissolved ≡ parts.dissolved

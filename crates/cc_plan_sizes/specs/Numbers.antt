-- The slots of a plan are there.
use Rattle.std.specs.Prelude.{◌<◌, List, All, length}
use Rattle.cc_bins.specs.declared.types.Field.{Field}
use Rattle.cc_plan_legal.specs.declared.candidate.Candidate.{Candidate}
use Rattle.cc_plan_legal.specs.declared.kinds.Plan.{Plan}

pub record HasItsSlots (slots : List Candidate) (plan : Plan) : Type 0 where
  pub fields : All (λ (f : Field). f.slot < length slots) plan.fields
  pub arrays : All (λ slot. slot < length slots) plan.arrays

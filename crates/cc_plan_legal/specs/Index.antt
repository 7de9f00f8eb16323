-- What is looked up of a plan.
use Rattle.std.specs.Prelude.{◌≡◌, map}
use Rattle.cc_plan_legal.specs.declared.index.Index.{Index}
use Rattle.cc_plan_legal.specs.declared.kinds.Plan.{Plan}
use Rattle.cc_plan_legal.specs.Lookup.{no_fields, put_all}
use Rattle.cc_plan_legal.specs.Plans.{slots_of}

pub record IsIndex (plan : Plan) (index : Index) : Type 0 where
  pub slots : index.slots ≡ slots_of plan.fields
  pub groups : index.groups ≡ put_all (map (λ _. no_fields) plan.words) plan.fields

-- The domain of the values of slots: that of sets of numbers.
use Rattle.cc_sets.specs.declared.vals.Vals.{Vals}
use Rattle.cc_sets.specs.Results.{IsConverted, IsKept, OneResult, OpResult}
use Rattle.cc_sets.specs.Rungs.{IsHull, ValsBelow, ValsHas, vals_members}
use Rattle.cc_state_points.specs.CcStateOperators.Domains.{Domain, domain}

abbrev pub vals_domain : Domain Vals
vals_domain =
    domain ValsHas ValsBelow (λ op a b t target r. IsHull (OpResult op a b t target) r) (λ op a t target r. IsHull (OneResult op a t target) r) (λ a t target r. IsHull (IsConverted a t target) r)
    (λ test a b r. IsHull (IsKept test a b) r) vals_members

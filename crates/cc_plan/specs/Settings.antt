-- What a profile says of weights and budgets, as the ranking takes them.
use Rattle.cc_cost.specs.declared.profile.Profile.{Profile}
use Rattle.cc_cost_ranking.specs.declared.types.Budgets.{Budgets}
use Rattle.cc_cost_ranking.specs.declared.types.Weights.{Weights}

abbrev pub weights_of : Profile → Weights
weights_of profile = record { code = profile.weight_code; time = profile.weight_time }

abbrev pub budgets_of : Profile → Budgets
budgets_of profile = record { code = profile.budget_code; time = profile.budget_time }

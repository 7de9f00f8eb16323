-- The first values of objects, as far as loops over them have come.
use Rattle.cc_rules_asked.proofs.CcSteps.StartLemmas.{map-more, values-none, values-some, statics-more}

pub ruleset of_values = (map-more, values-none, values-some, statics-more)

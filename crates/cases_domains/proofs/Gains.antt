-- No slot gains more than all slots together.
use Rattle.std.proofs.Common.{◌≤◌, ◌^◌, List, sum_by, All, arith}
use Rattle.std.proofs.lemmas.List.Elements.{All-from_get_or}
use Rattle.std.proofs.lemmas.List.Sums.{get_or-le-sum_by}
use Rattle.cc_cost_ranking.specs.declared.types.Costed.{Costed}

abbrev no_slot : Costed
no_slot = record { slot = 0; gain = 0; code = 0; time = 0 }

pub each_gain : (list : List Costed) → sum_by (λ (c : Costed). c.gain) list ≤ 2 ^ 32 → All (λ (c : Costed). c.gain ≤ 2 ^ 40) list
each_gain list h = All-from_get_or (λ (c : Costed). c.gain ≤ 2 ^ 40) list no_slot (λ i l. let one = get_or-le-sum_by (λ (c : Costed). c.gain) list i no_slot l in omega (arith, one, h))

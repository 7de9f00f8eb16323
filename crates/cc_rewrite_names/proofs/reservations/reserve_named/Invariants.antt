use Rattle.std.proofs.Common.{[], ◌++◌, ℕ, List, take, map}
use Rattle.cc_names.specs.Holds.{Holds}
use Rattle.cc_rewrite_names.proofs.reservations.reserve_named.Given as goal

abbrev pub invariant-loop-one : goal.invariant-loop-one
invariant-loop-one l = (reserved : List (List ℕ)) → Holds l.initial.taken reserved [] → Holds l.taken (reserved ++ map (λ x. x.0) (take l.one-index l.named)) []

use Rattle.std.proofs.Common.{[], ◌++◌, ℕ, List, take, map}
use Rattle.cc_names.specs.Holds.{Holds}
use Rattle.cc_rewrite_names.proofs.reservations.reserve_objects.Given as goal

abbrev pub invariant-loop-object : goal.invariant-loop-object
invariant-loop-object l = (reserved : List (List ℕ)) → Holds l.initial.taken reserved [] → Holds l.taken (reserved ++ map (λ x. x.name) (take l.object-index l.objects)) []

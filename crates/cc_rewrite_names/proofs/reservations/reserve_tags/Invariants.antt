use Rattle.std.proofs.Common.{[], ◌++◌, ℕ, List, take, map}
use Rattle.cc_names.specs.Holds.{Holds}
use Rattle.cc_rewrite_names.proofs.reservations.reserve_tags.Given as goal

abbrev pub invariant-loop-structure : goal.invariant-loop-structure
invariant-loop-structure l = (reserved : List (List ℕ)) → Holds l.initial.taken reserved [] → Holds l.taken (reserved ++ map (λ x. x.tag) (take l.structure-index l.structures)) []

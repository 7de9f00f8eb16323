use Rattle.std.proofs.Common.{[], ◌++◌, ℕ, List, take}
use Rattle.std.specs.Prelude.{flat_map}
use Rattle.cc_names.specs.Holds.{Holds}
use Rattle.cc_linked_names.proofs.reserved.reserve_identifiers.Given as goal

abbrev pub invariant-loop-x : goal.invariant-loop-x
invariant-loop-x l = (reserved : List (List ℕ)) → Holds l.initial.taken reserved [] → Holds l.taken (reserved ++ flat_map (λ x. x.identifiers) (take l.x-index l.texts)) []

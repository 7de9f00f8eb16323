use Rattle.std.proofs.Common.{[], ◌++◌, ℕ, List, take}
use Rattle.std.specs.List.{flat_map}
use Rattle.cc_names.specs.Holds.{Holds}
use Rattle.cc_syntax.specs.Names.{local_names}
use Rattle.cc_rewrite_names.proofs.reservations.reserve_members.Given as goal

abbrev pub invariant-loop-structure : goal.invariant-loop-structure
invariant-loop-structure l = (reserved : List (List ℕ)) → Holds l.initial.taken reserved [] → Holds l.taken (reserved ++ flat_map (λ x. local_names x.members) (take l.structure-index l.structures)) []

use Rattle.std.proofs.Common.{◌++◌, ℕ, List, take, map}
use Rattle.cc_names.specs.View.{HaveSame}
use Rattle.cc_lower_numbers.proofs.names.reserve_tags.Given as goal

abbrev pub invariant-loop-structure : goal.invariant-loop-structure
invariant-loop-structure l = (reserved : List (List ℕ)) → HaveSame l.initial.names reserved → HaveSame l.names (reserved ++ map (λ x. x.tag) (take l.structure-index l.structures))

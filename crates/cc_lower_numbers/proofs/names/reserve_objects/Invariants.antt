use Rattle.std.proofs.Common.{◌++◌, ℕ, List, take, map}
use Rattle.cc_names.specs.View.{HaveSame}
use Rattle.cc_lower_numbers.proofs.names.reserve_objects.Given as goal

abbrev pub invariant-loop-object : goal.invariant-loop-object
invariant-loop-object l = (reserved : List (List ℕ)) → HaveSame l.initial.names reserved → HaveSame l.names (reserved ++ map (λ x. x.name) (take l.object-index l.objects))

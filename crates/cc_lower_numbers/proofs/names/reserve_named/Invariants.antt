use Rattle.std.proofs.Common.{◌++◌, ℕ, List, take, map}
use Rattle.cc_names.specs.View.{HaveSame}
use Rattle.cc_lower_numbers.proofs.names.reserve_named.Given as goal

abbrev pub invariant-loop-one : goal.invariant-loop-one
invariant-loop-one l = (reserved : List (List ℕ)) → HaveSame l.initial.names reserved → HaveSame l.names (reserved ++ map (λ x. x.0) (take l.one-index l.named))

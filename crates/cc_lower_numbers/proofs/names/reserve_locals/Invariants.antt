use Rattle.std.proofs.Common.{◌++◌, ℕ, List, take}
use Rattle.std.specs.List.{flat_map}
use Rattle.cc_names.specs.View.{HaveSame}
use Rattle.cc_syntax.specs.Names.{local_names}
use Rattle.cc_lower_numbers.proofs.names.reserve_locals.Given as goal

abbrev pub invariant-loop-f : goal.invariant-loop-f
invariant-loop-f l = (reserved : List (List ℕ)) → HaveSame l.initial.names reserved → HaveSame l.names (reserved ++ flat_map (λ x. local_names x.locals) (take l.f-index l.funcs))

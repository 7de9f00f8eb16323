use Rattle.std.proofs.Common.{◌≡◌, take, map, true}
use Rattle.std.specs.List.{list_all}
use Rattle.cc_syntax.specs.Folding.{folding_of}
use Rattle.cc_normal.proofs.folding.+folding.Given as goal

abbrev pub invariant-are_folded-loop-arg : goal.invariant-are_folded-loop-arg
invariant-are_folded-loop-arg l = list_all (λ a. a.is_folded) (map (folding_of l.target) (take l.arg-index l.arg-items)) ≡ true

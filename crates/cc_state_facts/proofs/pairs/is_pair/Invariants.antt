use Rattle.std.proofs.Common.{◌≡◌, false, ◌&&◌, nat_eq, take}
use Rattle.std.specs.List.{list_any}
use Rattle.cc_state_facts.proofs.pairs.is_pair.Given as goal

abbrev pub invariant-loop-pair : goal.invariant-loop-pair
invariant-loop-pair g l = list_any (λ pair. nat_eq pair.0 l.register && nat_eq pair.1 l.cell) (take l.pair-index l.fact.same) ≡ false

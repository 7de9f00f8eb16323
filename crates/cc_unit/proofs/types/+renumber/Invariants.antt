use Rattle.std.proofs.Common.{◌≡◌, take, map}
use Rattle.cc_unit.specs.Renumbered.{type_renumbered}
use Rattle.cc_unit.proofs.types.+renumber.Given as goal

abbrev pub invariant-renumber_sig-loop-param : goal.invariant-renumber_sig-loop-param
invariant-renumber_sig-loop-param l = l.params.items ≡ map (λ t. type_renumbered l.structures t) (take l.param-index l.param-items)

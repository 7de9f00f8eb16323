use Rattle.std.proofs.Common.{◌≡◌, map, take}
use Rattle.cc_operands.specs.Qualified.{unqualified}
use Rattle.cc_specifiers.proofs.derived.taken.Given as goal

abbrev pub invariant-loop-param : goal.invariant-loop-param
invariant-loop-param l = l.out.items ≡ map (λ p. unqualified p.ctype) (take l.param-index l.params)

use Rattle.std.proofs.Common.{◌≡◌, take}
use Rattle.cc_program.proofs.types.+copy.Given as goal

abbrev pub invariant-Sig::copy-loop-param : goal.invariant-Sig::copy-loop-param
invariant-Sig::copy-loop-param l = l.params.items ≡ take l.param-index l.param-items

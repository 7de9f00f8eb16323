use Rattle.std.proofs.Common.{◌≡◌, map}
use Rattle.cc_type.specs.Functions.{local_of}
use Rattle.cc_type.proofs.signature.locals_of.Given as goal

abbrev pub invariant-loop-parameter : goal.invariant-loop-parameter
invariant-loop-parameter l = l.locals.items ≡ map local_of l.yielded

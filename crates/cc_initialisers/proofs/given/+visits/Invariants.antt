use Rattle.std.proofs.Common.{◌≡◌, ◌++◌, drop}
use Rattle.cc_initialisers.specs.Initialisers.{initialiser_of}
use Rattle.cc_initialisers.specs.View.{steps_of}
use Rattle.cc_initialisers.proofs.Started.{visits}
use Rattle.cc_initialisers.proofs.given.+visits.Given as goal

-- the expressions from here on complete those of the initialiser
abbrev pub invariant-loop-g : goal.invariant-loop-g
invariant-loop-g l = steps_of l.out ++ visits (drop l.g-index l.g-items) ≡ steps_of l.fn.out ++ (initialiser_of l.fn.g).visited

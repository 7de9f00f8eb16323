use Rattle.std.proofs.Common.{◌≡◌, ◌+◌, ◌-◌, length, map}
use Rattle.cc_initialisers.specs.Initialisers.{elements_of, here}
use Rattle.cc_initialisers.specs.View.{content_view}
use Rattle.cc_initialisers.proofs.bound.elements_given.Given as goal

-- the elements for which the rest has something, and those so far
abbrev pub invariant-loop-n : goal.invariant-loop-n
invariant-loop-n l = l.n + elements_of (length l.gs - l.n) (content_view l.of) (map here l.rest) ≡ elements_of (length l.gs) (content_view l.of) (map here l.gs)

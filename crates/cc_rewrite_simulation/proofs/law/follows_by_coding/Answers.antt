use Rattle.cc_rewrite_simulation.proofs.Whole.{follows}
use Rattle.cc_rewrite_simulation.proofs.law.follows_by_coding.Goals as goal

pub returns : goal.returns
returns g c q p h = let s = g.S.CodedSimulation in follows (s.compared q p h) (s.known q p h) (s.known_source q p h) (s.followed q p h)

use Rattle.cc_rewrite_simulation.proofs.Whole.{answers}
use Rattle.cc_rewrite_simulation.proofs.law.answers_by_coding.Goals as goal

pub returns : goal.returns
returns g c q p h = let s = g.S.CodedSimulation in answers (s.compared q p h) (s.known q p h) (s.known_source q p h) (s.answered q p h)

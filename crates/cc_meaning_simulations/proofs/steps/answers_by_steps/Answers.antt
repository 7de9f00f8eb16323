use Rattle.cc_meaning_simulations.proofs.Turns.{answers}
use Rattle.cc_meaning_simulations.proofs.steps.answers_by_steps.Goals as goal

pub returns : goal.returns
returns g c q p h =
    let s = g.S.StepSimulation in
    answers q p (s.counterpart q p) (s.handlers q p h) (s.levels q p h) (s.entries q p h) (s.suspended q p) (s.running q p) (s.invariant q p) (s.rows q p h) (s.kept q p h) (s.answered q p h) (s.caught q p h) (s.starts q p h)

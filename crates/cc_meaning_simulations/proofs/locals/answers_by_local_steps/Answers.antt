use Rattle.cc_meaning_simulations.proofs.Approaching.{answers}
use Rattle.cc_meaning_simulations.proofs.locals.answers_by_local_steps.Goals as goal

pub returns : goal.returns
returns g c p h =
    let s = g.S.LocalSimulation in
    answers (s.more p) (s.bodies p) p (s.scalars p h) (s.hidden p) (s.invariant p) (s.matches p) (s.fits p) (s.opens p) (s.shown p h) (s.written p h) (s.fitting_written p h) (s.fitting_before p h) (s.begun p h) (s.alike p h) (s.seen p h) (s.kept p h) (s.starts p h) (s.visible p h) (s.fitting p h) (s.nothing_passed p h) (s.there p h).0 (s.there p h).1

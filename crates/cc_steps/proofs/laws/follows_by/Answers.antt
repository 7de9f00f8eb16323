use Rattle.cc_steps.proofs.RunLaws.{Follows-by_simulation}
use Rattle.cc_steps.proofs.laws.follows_by.Goals as goal

pub returns : goal.returns
returns g c q p h =
    let s = g.S.Simulation in Follows-by_simulation q p (s.related q p) (s.same q p h) (s.starts q p h) (s.turns q p h)

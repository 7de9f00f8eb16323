-- The lowest facts of the shape are held as soon as they stand in memory.
use Rattle.cc_rules_system.proofs.system.ConstraintSystemSystem.lowest.Goals as goal

pub lowest-requires : goal.lowest-requires
lowest-requires g c = record { normal = c.requires.ready.normal; flow = c.requires.ready.made.flow }

pub returns : goal.returns
returns g c = record { fitting = (c.in_ok-facts.ensures.shape, c.held.ensures); below = λ h fits meets. c.in_ok-facts.ensures.least h fits.0 }

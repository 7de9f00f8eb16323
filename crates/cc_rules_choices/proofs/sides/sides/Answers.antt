-- The tests, of the value of the expression.
use Rattle.cc_rules_choices.proofs.sides.sides.Goals as goal

pub new-requires : goal.new-requires
new-requires g c = record { sized = c.requires.here.sized; sets = c.requires.here.known; pure = c.requires.may.pure }

pub tested_sides-requires : goal.tested_sides-requires
tested_sides-requires g c = record { here = c.requires.here; may = c.requires.may; labels = c.requires.labels; trial = c.in_ok-trial.ensures }

pub returns : goal.returns
returns g c = record { flows = c.tested_sides.ensures.flows; like = c.tested_sides.ensures.like; worked = c.tested_sides.ensures.worked }

-- What is known at the point is such as a memory holds, and nothing else is another.
use Rattle.std.proofs.Common.{subst, sym}
use Rattle.cc_rules_raised.proofs.Memory.{point_held}
use Rattle.cc_rules_raised.proofs.slots.raise_held_point.Goals as goal
use Rattle.cc_state_limits.specs.Held.{AreHeld}

pub returns-in_err-rose-clause-held : goal.returns-in_err-rose-clause-held
returns-in_err-rose-clause-held g c = λ h. subst AreHeld (sym c.in_err-rose.ensures.same) h

pub returns : goal.returns
returns g c =
    let is = c.in_ok-rose.ensures in
    record {
      rose = is.rose;
      had = is.had;
      same = tt;
      held = point_held g.I.Lattice.IsBelow c.args.facts.now c.args.point c.args.flow.now c.raise_point.new.facts c.in_ok-rose.rose is.rose is.had c.held_point.ensures;
    }

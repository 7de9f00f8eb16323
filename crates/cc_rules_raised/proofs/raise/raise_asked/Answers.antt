-- The order by slots, in which facts were raised, is that part by part, since the facts are of one kind and well formed.
use Rattle.cc_rules_asked.specs.CcPlaces.laws.AbstractLaws.{abs_itself, abs_through}
use Rattle.cc_rules_asked.proofs.CcRulesNeeds.ByParts.{slots_below, parts_below}
use Rattle.cc_rules_raised.proofs.raise.raise_asked.Goals as goal
use Rattle.cc_rules_asked.specs.CcStateOperators.Domains.{domain}
use Rattle.cc_state_shape.proofs.Alike.{facts_alike, well_formed}

pub returns : goal.returns
returns g c =
    let d = domain g.I.Concrete.Has g.I.Lattice.IsBelow g.I.IntDomain.OpGives g.I.IntDomain.OpOneGives g.I.IntDomain.ToGives g.I.IntDomain.KeepGives g.I.IntDomain.members_of in
    let below = g.I.Lattice.IsBelow in
    let self = abs_itself g.I.Lattice.AreAlike below g.met.I.Lattice.below_itself g.met.I.IntDomain.all_alike in
    let through = abs_through g.I.Lattice.AreAlike below g.met.I.Lattice.below_through g.met.I.IntDomain.all_alike in
    let p = c.args.p.now in
    let step = c.raise_all.ensures.step in
    record {
      shape = step.shape;
      above = parts_below below self through c.args.facts.now c.raise_all.new.facts (facts_alike d p c.args.facts.now c.raise_all.new.facts c.requires.shape step.shape) (well_formed d p c.args.facts.now c.requires.shape) step.above;
      least = λ h shape b has. parts_below below self through c.raise_all.new.facts h (facts_alike d p c.raise_all.new.facts h step.shape shape) (well_formed d p c.raise_all.new.facts step.shape)
          (step.least h shape (slots_below below self through c.args.facts.now h b) has);
      has = c.raise_all.ensures.has;
      rose = c.raise_all.ensures.rose;
      same = c.raise_all.ensures.same;
      held = c.raise_all.ensures.held;
    }

-- By the kind of the set.
use Rattle.std.proofs.Common.{sym, ◌∙◌}
use Rattle.std.proofs.lemmas.Result.{IfOk-weaker}
use Rattle.cc_rules_flows.specs.CcPlaces.Abstract.{IsBelowAbs}
use Rattle.cc_rules_flows.specs.CcPlaces.laws.AbstractLaws.{abs_itself}
use Rattle.cc_rules_tests.proofs.Cuts.{left_addresses}
use Rattle.cc_rules_tests.proofs.Registers.{all_held, copy_below, worked_addresses}
use Rattle.cc_rules_flows.specs.CcStateOperators.Domains.{domain}
use Rattle.cc_rules_tests.proofs.tested.Tested.left_of.Goals as goal

pub returns-in-Addrs : goal.returns-in-Addrs
returns-in-Addrs g c =
    let d = (domain g.I.Concrete.Has g.I.Lattice.IsBelow g.I.IntDomain.OpGives g.I.IntDomain.OpOneGives g.I.IntDomain.ToGives g.I.IntDomain.KeepGives g.I.IntDomain.members_of) in
    let t = c.args.self.now in
    let y = c.args.y.now in
    let s = c.in-Addrs.field-0 in
    let is = sym c.get.ensures ∙ c.in-Addrs.is in
    record {
      trial = c.requires.trial;
      left = IfOk-weaker c.share.result _ _ (λ z e. left_addresses d t c.args.r y z s is e) c.share.ensures;
      below = IfOk-weaker c.share.result _ _ (λ z e. copy_below (IsBelowAbs g.I.Lattice.IsBelow) y z (abs_itself g.I.Lattice.AreAlike g.I.Lattice.IsBelow g.met.I.Lattice.below_itself g.met.I.IntDomain.all_alike y) e) c.share.ensures;
      worked = IfOk-weaker c.share.result _ _ (λ z e. worked_addresses d t c.args.r y s is) c.share.ensures;
    }

pub of_integers-requires : goal.of_integers-requires
of_integers-requires g c =
    let is = sym c.get.ensures ∙ c.in-Ints.is in
    record { tested = c.requires.tested; trial = c.requires.trial; holds = all_held (domain g.I.Concrete.Has g.I.Lattice.IsBelow g.I.IntDomain.OpGives g.I.IntDomain.OpOneGives g.I.IntDomain.ToGives g.I.IntDomain.KeepGives g.I.IntDomain.members_of) c.args.self.now c.args.r c.args.y.now c.in-Ints.x is c.requires.holds; set = is }

pub returns-in-Ints : goal.returns-in-Ints
returns-in-Ints g c = record { trial = c.of_integers.ensures.trial; left = c.of_integers.ensures.left; below = c.of_integers.ensures.below; worked = c.of_integers.ensures.worked }

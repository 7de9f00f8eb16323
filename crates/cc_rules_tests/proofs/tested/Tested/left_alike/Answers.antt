-- As of the register where all values are of its type.
use Rattle.std.proofs.Common.{◌↔◌, IsTrue, subst}
use Rattle.std.proofs.lemmas.Result.{IfOk-weaker}
use Rattle.cc_rules_flows.specs.CcPlaces.Abstract.{IsBelowAbs}
use Rattle.cc_rules_flows.specs.CcPlaces.laws.AbstractLaws.{abs_itself}
use Rattle.cc_rules_flows.specs.CcStateOperators.Domains.{domain}
use Rattle.cc_rules_tests.specs.Tested.{IsOfRegisterIn}
use Rattle.cc_rules_tests.proofs.Registers.{copy_below, left_same_type, left_unlike, may_have, worked_unlike}
use Rattle.cc_rules_tests.proofs.tested.Tested.left_alike.Goals as goal

pub is_of_register-requires : goal.is_of_register-requires
is_of_register-requires g c = c.requires.register

pub left_of-requires : goal.left_of-requires
left_of-requires g c = record {
  tested = c.requires.tested;
  trial = c.requires.trial;
  holds = may_have (domain g.I.Concrete.Has g.I.Lattice.IsBelow g.I.IntDomain.OpGives g.I.IntDomain.OpOneGives g.I.IntDomain.ToGives g.I.IntDomain.KeepGives g.I.IntDomain.members_of) c.args.self.now c.args.r c.args.y.now c.requires.register (subst (λ v. IsOfRegisterIn (domain g.I.Concrete.Has g.I.Lattice.IsBelow g.I.IntDomain.OpGives g.I.IntDomain.OpOneGives g.I.IntDomain.ToGives g.I.IntDomain.KeepGives g.I.IntDomain.members_of) c.args.self.now c.args.r v) c.get.ensures (c.is_of_register.ensures.0 c.if-is_of_register.true));
}

pub returns-then-is_of_register : goal.returns-then-is_of_register
returns-then-is_of_register g c =
    let t = c.args.self.now in
    let y = c.args.y.now in
    let of = subst (λ v. IsOfRegisterIn (domain g.I.Concrete.Has g.I.Lattice.IsBelow g.I.IntDomain.OpGives g.I.IntDomain.OpOneGives g.I.IntDomain.ToGives g.I.IntDomain.KeepGives g.I.IntDomain.members_of) t c.args.r v) c.get.ensures (c.is_of_register.ensures.0 c.if-is_of_register.true) in
    record {
      trial = c.left_of.ensures.trial;
      left = IfOk-weaker c.left_of.result _ _ (λ z h. left_same_type (domain g.I.Concrete.Has g.I.Lattice.IsBelow g.I.IntDomain.OpGives g.I.IntDomain.OpOneGives g.I.IntDomain.ToGives g.I.IntDomain.KeepGives g.I.IntDomain.members_of) t c.args.r y z of h) c.left_of.ensures.left;
      below = c.left_of.ensures.below;
      worked = IfOk-weaker c.left_of.result _ _ (λ z h k. h) c.left_of.ensures.worked;
    }

pub returns-else-is_of_register : goal.returns-else-is_of_register
returns-else-is_of_register g c =
    let t = c.args.self.now in
    let y = c.args.y.now in
    let tells = subst (λ v. IsTrue c.is_of_register.result ↔ IsOfRegisterIn (domain g.I.Concrete.Has g.I.Lattice.IsBelow g.I.IntDomain.OpGives g.I.IntDomain.OpOneGives g.I.IntDomain.ToGives g.I.IntDomain.KeepGives g.I.IntDomain.members_of) t c.args.r v) c.get.ensures c.is_of_register.ensures in
    record {
      trial = c.requires.trial;
      left = IfOk-weaker c.share.result _ _ (λ z e. left_unlike (domain g.I.Concrete.Has g.I.Lattice.IsBelow g.I.IntDomain.OpGives g.I.IntDomain.OpOneGives g.I.IntDomain.ToGives g.I.IntDomain.KeepGives g.I.IntDomain.members_of) t c.args.r y z c.is_of_register.result tells c.if-is_of_register.false e) c.share.ensures;
      below = IfOk-weaker c.share.result _ _ (λ z e. copy_below (IsBelowAbs g.I.Lattice.IsBelow) y z (abs_itself g.I.Lattice.AreAlike g.I.Lattice.IsBelow g.met.I.Lattice.below_itself g.met.I.IntDomain.all_alike y) e) c.share.ensures;
      worked = IfOk-weaker c.share.result _ _ (λ z e. worked_unlike (domain g.I.Concrete.Has g.I.Lattice.IsBelow g.I.IntDomain.OpGives g.I.IntDomain.OpOneGives g.I.IntDomain.ToGives g.I.IntDomain.KeepGives g.I.IntDomain.members_of) t c.args.r y c.is_of_register.result tells c.if-is_of_register.false) c.share.ensures;
    }

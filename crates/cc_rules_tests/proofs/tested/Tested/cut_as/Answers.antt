-- Cut where the operand is the register, and as it was where it is not.
use Rattle.cc_rules_flows.specs.CcStateOperators.Domains.{domain}
use Rattle.cc_rules_tests.proofs.Cuts.{cut_by, uncut_by}
use Rattle.cc_rules_tests.proofs.tested.Tested.cut_as.Goals as goal

pub is_operand-requires : goal.is_operand-requires
is_operand-requires g c = c.requires.holds.1.register

pub returns-then-not-is_operand : goal.returns-then-not-is_operand
returns-then-not-is_operand g c = record {
  changed = c.requires.changed;
  cut = uncut_by (domain g.I.Concrete.Has g.I.Lattice.IsBelow g.I.IntDomain.OpGives g.I.IntDomain.OpOneGives g.I.IntDomain.ToGives g.I.IntDomain.KeepGives g.I.IntDomain.members_of) c.args.self.now c.args.r c.args.x.now c.args.u c.args.op c.args.a.now c.args.other.now c.is_operand.result c.is_operand.ensures c.if-not-is_operand.true;
  below = g.met.I.Lattice.below_itself c.args.u (g.met.I.IntDomain.all_alike c.args.u c.args.u);
}

pub numbers_with-requires : goal.numbers_with-requires
numbers_with-requires g c = record { tested = c.requires.tested; changed = c.requires.changed; holds = c.requires.holds; number = c.requires.number }

pub keep-requires : goal.keep-requires
keep-requires g c = c.requires.compares

pub returns : goal.returns
returns g c = record {
  changed = c.numbers_with.ensures.changed;
  cut = cut_by (domain g.I.Concrete.Has g.I.Lattice.IsBelow g.I.IntDomain.OpGives g.I.IntDomain.OpOneGives g.I.IntDomain.ToGives g.I.IntDomain.KeepGives g.I.IntDomain.members_of) c.args.self.now c.args.r c.args.x.now c.args.u c.keep.result c.in_ok-w.w c.args.op c.args.a.now c.args.other.now c.is_operand.result c.is_operand.ensures c.if-not-is_operand.false c.in_ok-w.ensures.value c.keep.ensures;
  below = g.met.I.IntDomain.keep_below c.args.op c.args.u c.in_ok-w.w c.keep.result c.requires.compares c.keep.ensures;
}

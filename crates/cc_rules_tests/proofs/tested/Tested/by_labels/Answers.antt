-- By each label where the expression is the register.
use Rattle.std.proofs.lemmas.Result.{IfOk-weaker}
use Rattle.cc_rules_flows.specs.CcStateOperators.Domains.{domain}
use Rattle.cc_rules_tests.proofs.Cuts.{left_labels, left_no_labels, not_operand}
use Rattle.cc_rules_tests.proofs.Numbers.{labels_values}
use Rattle.cc_rules_tests.proofs.Registers.{copy_below}
use Rattle.cc_rules_tests.proofs.tested.Tested.by_labels.Goals as goal

pub is_operand-requires : goal.is_operand-requires
is_operand-requires g c = c.requires.register

pub without_labels-requires : goal.without_labels-requires
without_labels-requires g c = labels_values (domain g.I.Concrete.Has g.I.Lattice.IsBelow g.I.IntDomain.OpGives g.I.IntDomain.OpOneGives g.I.IntDomain.ToGives g.I.IntDomain.KeepGives g.I.IntDomain.members_of) c.args.self.now c.requires.tested c.args.labels.now c.requires.is

pub returns-then-is_operand : goal.returns-then-is_operand
returns-then-is_operand g c = record {
  left = IfOk-weaker c.without_labels.result _ _ (λ z h. left_labels (domain g.I.Concrete.Has g.I.Lattice.IsBelow g.I.IntDomain.OpGives g.I.IntDomain.OpOneGives g.I.IntDomain.ToGives g.I.IntDomain.KeepGives g.I.IntDomain.members_of) c.args.self.now c.args.r c.args.x.now z c.args.labels.now c.requires.range c.requires.is (c.is_operand.ensures.0 c.if-is_operand.true) h) c.without_labels.ensures.cut;
  below = c.without_labels.ensures.below;
}

pub copied-requires : goal.copied-requires
copied-requires g c = g.met.I.IntDomain.all_alike c.args.x.now c.args.x.now

pub returns-else-is_operand : goal.returns-else-is_operand
returns-else-is_operand g c =
    let x = c.args.x.now in
    record {
      left = IfOk-weaker c.copied.result _ _ (λ z e. left_no_labels (domain g.I.Concrete.Has g.I.Lattice.IsBelow g.I.IntDomain.OpGives g.I.IntDomain.OpOneGives g.I.IntDomain.ToGives g.I.IntDomain.KeepGives g.I.IntDomain.members_of) c.args.self.now c.args.r x z c.args.labels.now c.requires.range c.requires.is (not_operand (domain g.I.Concrete.Has g.I.Lattice.IsBelow g.I.IntDomain.OpGives g.I.IntDomain.OpOneGives g.I.IntDomain.ToGives g.I.IntDomain.KeepGives g.I.IntDomain.members_of) c.args.self.now c.args.r x c.args.self.now.expression.now c.is_operand.result c.is_operand.ensures c.if-is_operand.false) e) c.copied.ensures;
      below = IfOk-weaker c.copied.result _ _ (λ z e. copy_below g.I.Lattice.IsBelow x z (g.met.I.Lattice.below_itself x (g.met.I.IntDomain.all_alike x x)) e) c.copied.ensures;
    }

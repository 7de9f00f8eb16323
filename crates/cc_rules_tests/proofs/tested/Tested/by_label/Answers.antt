-- By the label where the expression is the register.
use Rattle.std.proofs.Common.{subst, sym}
use Rattle.std.proofs.lemmas.Result.{IfOk-weaker}
use Rattle.cc_rules_flows.specs.CcLattice.Domains.{IsIntValue}
use Rattle.cc_program.specs.CcNum.declared.op.BinOp.TheVariants as op
use Rattle.cc_rules_flows.specs.CcStateOperators.Domains.{domain}
use Rattle.cc_rules_tests.proofs.Cuts.{left_label, left_no_label, not_operand}
use Rattle.cc_rules_tests.proofs.Following.{int_same}
use Rattle.cc_rules_tests.proofs.Numbers.{cut_read, label_value}
use Rattle.cc_rules_tests.proofs.Registers.{copy_below}
use Rattle.cc_rules_tests.proofs.tested.Tested.by_label.Goals as goal

pub is_operand-requires : goal.is_operand-requires
is_operand-requires g c = c.requires.register

pub at_label-requires : goal.at_label-requires
at_label-requires g c =
    let n = label_value (domain g.I.Concrete.Has g.I.Lattice.IsBelow g.I.IntDomain.OpGives g.I.IntDomain.OpOneGives g.I.IntDomain.ToGives g.I.IntDomain.KeepGives g.I.IntDomain.members_of) c.args.self.now c.requires.tested c.args.n c.requires.is in
    subst IsIntValue (sym (int_same c.args.n n)) n

pub returns-then-is_operand : goal.returns-then-is_operand
returns-then-is_operand g c =
    let n = label_value (domain g.I.Concrete.Has g.I.Lattice.IsBelow g.I.IntDomain.OpGives g.I.IntDomain.OpOneGives g.I.IntDomain.ToGives g.I.IntDomain.KeepGives g.I.IntDomain.members_of) c.args.self.now c.requires.tested c.args.n c.requires.is in
    record {
      left = left_label (domain g.I.Concrete.Has g.I.Lattice.IsBelow g.I.IntDomain.OpGives g.I.IntDomain.OpOneGives g.I.IntDomain.ToGives g.I.IntDomain.KeepGives g.I.IntDomain.members_of) c.args.self.now c.args.r c.args.x.now c.at_label.result c.args.n c.requires.range c.requires.is (c.is_operand.ensures.0 c.if-is_operand.true) (cut_read (domain g.I.Concrete.Has g.I.Lattice.IsBelow g.I.IntDomain.OpGives g.I.IntDomain.OpOneGives g.I.IntDomain.ToGives g.I.IntDomain.KeepGives g.I.IntDomain.members_of) op.Eq c.args.n c.args.x.now c.at_label.result n c.at_label.ensures.cut);
      below = c.at_label.ensures.below;
    }

pub copied-requires : goal.copied-requires
copied-requires g c = g.met.I.IntDomain.all_alike c.args.x.now c.args.x.now

pub returns-else-is_operand : goal.returns-else-is_operand
returns-else-is_operand g c =
    let x = c.args.x.now in
    record {
      left = IfOk-weaker c.copied.result _ _ (λ z e. left_no_label (domain g.I.Concrete.Has g.I.Lattice.IsBelow g.I.IntDomain.OpGives g.I.IntDomain.OpOneGives g.I.IntDomain.ToGives g.I.IntDomain.KeepGives g.I.IntDomain.members_of) c.args.self.now c.args.r x z c.args.n c.requires.range c.requires.is (not_operand (domain g.I.Concrete.Has g.I.Lattice.IsBelow g.I.IntDomain.OpGives g.I.IntDomain.OpOneGives g.I.IntDomain.ToGives g.I.IntDomain.KeepGives g.I.IntDomain.members_of) c.args.self.now c.args.r x c.args.self.now.expression.now c.is_operand.result c.is_operand.ensures c.if-is_operand.false) e) c.copied.ensures;
      below = IfOk-weaker c.copied.result _ _ (λ z e. copy_below g.I.Lattice.IsBelow x z (g.met.I.Lattice.below_itself x (g.met.I.IntDomain.all_alike x x)) e) c.copied.ensures;
    }

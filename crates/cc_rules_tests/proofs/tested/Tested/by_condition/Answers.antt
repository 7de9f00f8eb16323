-- By the operands of a comparison, and not at all by another condition.
use Rattle.std.proofs.Common.{◌≡◌, true, ap, sym, subst, ◌∙◌}
use Rattle.std.proofs.lemmas.Result.{IfOk-weaker}
use Rattle.cc_rules_flows.specs.CcLattice.Domains.{is_comparison}
use Rattle.cc_rules_flows.specs.CcStateOperators.Domains.{domain}
use Rattle.cc_rules_tests.specs.Forms.{comparison_view}
use Rattle.cc_rules_tests.proofs.Cuts.{left_compared_by, left_uncompared}
use Rattle.cc_rules_tests.proofs.Numbers.{compares, operands, passing_compares}
use Rattle.cc_rules_tests.proofs.Registers.{copy_below}
use Rattle.cc_rules_tests.proofs.tested.Tested.by_condition.Goals as goal

pub copied-requires : goal.copied-requires
copied-requires g c = g.met.I.IntDomain.all_alike c.args.x.now c.args.x.now

pub returns-in-None : goal.returns-in-None
returns-in-None g c =
    let x = c.args.x.now in
    let form = sym c.comparison_of.ensures ∙ ap comparison_view c.in-None.is in
    record {
      changed = c.requires.changed;
      left = IfOk-weaker c.copied.result _ _ (λ z e. left_uncompared (domain g.I.Concrete.Has g.I.Lattice.IsBelow g.I.IntDomain.OpGives g.I.IntDomain.OpOneGives g.I.IntDomain.ToGives g.I.IntDomain.KeepGives g.I.IntDomain.members_of) c.args.self.now c.args.r x z c.args.b c.requires.range c.requires.is form e) c.copied.ensures;
      below = IfOk-weaker c.copied.result _ _ (λ z e. copy_below g.I.Lattice.IsBelow x z (g.met.I.Lattice.below_itself x (g.met.I.IntDomain.all_alike x x)) e) c.copied.ensures;
    }

pub by_operands-requires : goal.by_operands-requires
by_operands-requires g c =
    let t = c.args.self.now in
    let o = c.in-Some.c.op in
    let a = c.in-Some.c.left.now in
    let b = c.in-Some.c.right.now in
    let form = sym c.comparison_of.ensures ∙ ap comparison_view c.in-Some.is in
    let both = operands (domain g.I.Concrete.Has g.I.Lattice.IsBelow g.I.IntDomain.OpGives g.I.IntDomain.OpOneGives g.I.IntDomain.ToGives g.I.IntDomain.KeepGives g.I.IntDomain.members_of) t c.requires.tested o a b form in
    record {
      tested = c.requires.tested;
      changed = c.requires.changed;
      holds = c.requires.holds;
      compares = subst (λ q. is_comparison q ≡ true) (sym c.passing-op.ensures) (passing_compares c.args.b o (compares (domain g.I.Concrete.Has g.I.Lattice.IsBelow g.I.IntDomain.OpGives g.I.IntDomain.OpOneGives g.I.IntDomain.ToGives g.I.IntDomain.KeepGives g.I.IntDomain.members_of) t c.requires.tested o a b form));
      first = both.0;
      second = both.1;
    }

pub returns-in-Some : goal.returns-in-Some
returns-in-Some g c =
    let form = sym c.comparison_of.ensures ∙ ap comparison_view c.in-Some.is in
    record {
      changed = c.by_operands.ensures.changed;
      left = IfOk-weaker c.by_operands.result _ _ (λ z h. left_compared_by (domain g.I.Concrete.Has g.I.Lattice.IsBelow g.I.IntDomain.OpGives g.I.IntDomain.OpOneGives g.I.IntDomain.ToGives g.I.IntDomain.KeepGives g.I.IntDomain.members_of) c.args.self.now c.args.r c.args.x.now z c.args.b c.in-Some.c.op c.passing-op.result c.in-Some.c.left.now c.in-Some.c.right.now c.passing-op.ensures c.requires.range c.requires.is form h) c.by_operands.ensures.cut;
      below = c.by_operands.ensures.below;
    }

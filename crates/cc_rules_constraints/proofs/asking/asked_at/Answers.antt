use Rattle.std.proofs.Common.{arith, ◌<◌, ◌≤◌, ◌^◌, length, ap, sym, subst, ◌∙◌}
use Rattle.std.proofs.lemmas.Result.{IfOk-weaker}
use Rattle.cc_rules_asked.specs.CcFlow.declared.types.Flow.{Flow}
use Rattle.cc_rules_asked.specs.CcFlow.Points.{count_of}
use Rattle.cc_rules_asked.specs.CcRules.Rules.{act_at}
use Rattle.cc_rules_constraints.proofs.asking.asked_at.Goals as goal
use Rattle.cc_rules_constraints.proofs.Asks.{in_point, point_here, reached, unreached}
use Rattle.cc_rules_constraints.specs.Asking.{IsAskedHere}
use Rattle.cc_rules_asked.specs.CcRulesFlows.Nexts.{statement_of}
use Rattle.cc_rules_functions.specs.Functions.{AreFunctionsOf}
use Rattle.cc_rules_made.specs.Rules.{AreOf}
use Rattle.cc_rules_numbered.specs.Numbered.{rule_view}
use Rattle.cc_rules_grow.specs.CcState.Shape.{HaveShape}
use Rattle.cc_rules_asked.specs.CcStateOperators.Domains.{domain}
use Rattle.cc_rules_asked.specs.CcSyntax.Normal.{IsNormal}

pub here_at-requires : goal.here_at-requires
here_at-requires g c = record {
  normal = c.requires.normal;
  points = c.all-points.ensures ∙ ap (λ (flow : Flow). flow.points) c.requires.rules.flow;
  functions = subst (AreFunctionsOf c.args.rules.now.program.now) (sym c.all-functions.ensures) c.requires.rules.functions;
  tracked = c.all-tracked.ensures ∙ c.requires.rules.tracked;
  shape = c.requires.shape;
}

pub asked_by_here-list-requires : goal.asked_by_here-list-requires
asked_by_here-list-requires g c =
    let is = c.in-Some.ensures in
    record {
      normal = in_point (domain g.I.Concrete.Has g.I.Lattice.IsBelow g.I.IntDomain.OpGives g.I.IntDomain.OpOneGives g.I.IntDomain.ToGives g.I.IntDomain.KeepGives g.I.IntDomain.members_of) c.args.rules.now.program.now c.args.facts.now c.args.point c.in-Some.here is (λ p facts n. IsNormal p) c.requires.normal;
      rules = in_point (domain g.I.Concrete.Has g.I.Lattice.IsBelow g.I.IntDomain.OpGives g.I.IntDomain.OpOneGives g.I.IntDomain.ToGives g.I.IntDomain.KeepGives g.I.IntDomain.members_of) c.args.rules.now.program.now c.args.facts.now c.args.point c.in-Some.here is (λ p facts n. AreOf p c.args.rules.now) c.requires.rules;
      shape = in_point (domain g.I.Concrete.Has g.I.Lattice.IsBelow g.I.IntDomain.OpGives g.I.IntDomain.OpOneGives g.I.IntDomain.ToGives g.I.IntDomain.KeepGives g.I.IntDomain.members_of) c.args.rules.now.program.now c.args.facts.now c.args.point c.in-Some.here is (λ p facts n. HaveShape (domain g.I.Concrete.Has g.I.Lattice.IsBelow g.I.IntDomain.OpGives g.I.IntDomain.OpOneGives g.I.IntDomain.ToGives g.I.IntDomain.KeepGives g.I.IntDomain.members_of) p facts) c.requires.shape;
      here = is.is;
      point = point_here (domain g.I.Concrete.Has g.I.Lattice.IsBelow g.I.IntDomain.OpGives g.I.IntDomain.OpOneGives g.I.IntDomain.ToGives g.I.IntDomain.KeepGives g.I.IntDomain.members_of) c.args.rules.now.program.now c.args.facts.now c.args.point c.in-Some.here is;
      few = in_point (domain g.I.Concrete.Has g.I.Lattice.IsBelow g.I.IntDomain.OpGives g.I.IntDomain.OpOneGives g.I.IntDomain.ToGives g.I.IntDomain.KeepGives g.I.IntDomain.members_of) c.args.rules.now.program.now c.args.facts.now c.args.point c.in-Some.here is (λ p facts n. count_of p ≤ 65536) c.requires.few;
      few_keys = in_point (domain g.I.Concrete.Has g.I.Lattice.IsBelow g.I.IntDomain.OpGives g.I.IntDomain.OpOneGives g.I.IntDomain.ToGives g.I.IntDomain.KeepGives g.I.IntDomain.members_of) c.args.rules.now.program.now c.args.facts.now c.args.point c.in-Some.here is (λ p facts n. length facts.keys < 2 ^ 32) (let few = c.requires.few_keys in omega (arith, few, ap length c.requires.shape.keys));
    }

pub returns-in-None : goal.returns-in-None
returns-in-None g c = unreached (domain g.I.Concrete.Has g.I.Lattice.IsBelow g.I.IntDomain.OpGives g.I.IntDomain.OpOneGives g.I.IntDomain.ToGives g.I.IntDomain.KeepGives g.I.IntDomain.members_of) c.args.rules.now.program.now c.args.facts.now c.args.point (rule_view c.args.rule) c.new.result.items c.in-None.ensures c.new.ensures.items

pub returns-in-Some : goal.returns-in-Some
returns-in-Some g c =
    IfOk-weaker c.asked_by_here-list.result (λ list. IsAskedHere (domain g.I.Concrete.Has g.I.Lattice.IsBelow g.I.IntDomain.OpGives g.I.IntDomain.OpOneGives g.I.IntDomain.ToGives g.I.IntDomain.KeepGives g.I.IntDomain.members_of) c.in-Some.here (rule_view c.args.rule) (act_at (statement_of c.in-Some.here.context.func.now c.in-Some.here.point.now) c.in-Some.here.context.func.now) list.items) _
    (λ list. reached (domain g.I.Concrete.Has g.I.Lattice.IsBelow g.I.IntDomain.OpGives g.I.IntDomain.OpOneGives g.I.IntDomain.ToGives g.I.IntDomain.KeepGives g.I.IntDomain.members_of) c.args.rules.now.program.now c.args.facts.now c.args.point c.in-Some.here c.in-Some.ensures (rule_view c.args.rule) list.items) c.asked_by_here-list.ensures

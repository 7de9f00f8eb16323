use Rattle.cc_state_points.specs.CcRulesFlows.View.{act_view}
use Rattle.cc_rules_here.proofs.ActLemmas.{pure_here, may_here}
use Rattle.cc_rules_here.proofs.Marked.{marks_there, marks_kept}
use Rattle.cc_state_points.specs.CcStateOperators.Domains.{domain}
use Rattle.cc_rules_here.proofs.acts.act_here.Goals as goal

pub marks_at-kept-requires : goal.marks_at-kept-requires
marks_at-kept-requires g c = marks_there c.args.here.now.context.program.now c.args.marks.now c.args.here.now.context.id c.args.here.now.context.func.now c.requires.marks c.requires.point.function

pub act_of-requires : goal.act_of-requires
act_of-requires g c = marks_kept c.args.here.now.context.program.now c.args.marks.now c.args.here.now.context.id c.args.here.now.context.func.now c.marks_at-kept.result.now c.requires.marks c.requires.point.function c.marks_at-kept.ensures

pub returns-clause-is : goal.returns-clause-is
returns-clause-is g c = c.act_of.ensures

pub returns-clause-pure : goal.returns-clause-pure
returns-clause-pure g c = pure_here (domain g.I.Concrete.Has g.I.Lattice.IsBelow g.I.IntDomain.OpGives g.I.IntDomain.OpOneGives g.I.IntDomain.ToGives g.I.IntDomain.KeepGives g.I.IntDomain.members_of) c.args.here.now (act_view c.act_of.result) c.requires.normal c.requires.point c.act_of.ensures

pub returns-clause-may : goal.returns-clause-may
returns-clause-may g c = may_here (domain g.I.Concrete.Has g.I.Lattice.IsBelow g.I.IntDomain.OpGives g.I.IntDomain.OpOneGives g.I.IntDomain.ToGives g.I.IntDomain.KeepGives g.I.IntDomain.members_of) c.args.here.now (act_view c.act_of.result) c.requires.normal c.requires.shape c.requires.here c.requires.point c.act_of.ensures

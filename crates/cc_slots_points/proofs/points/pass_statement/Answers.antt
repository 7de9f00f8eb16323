use Rattle.std.proofs.Common.{sym, subst}
use Rattle.std.specs.Prelude.{OnOk}
use Rattle.std.specs.Option.{option_copied}
use Rattle.cc_state_points.specs.CcRulesFlows.Acts.{Act}
use Rattle.cc_slots_points.specs.Points.{HasPurePlace, IsDone}
use Rattle.cc_state_points.specs.CcStateOperators.Domains.{domain}
use Rattle.cc_slots_points.proofs.points.pass_statement.Goals as goal

pub pass_act-requires-clause-pure : goal.pass_act-requires-clause-pure
pass_act-requires-clause-pure g c = subst (λ (x : Act). HasPurePlace c.args.c.now.program.now c.args.c.now.func.now x) (sym c.act_of-act.ensures) c.requires.pure

pub returns : goal.returns
returns g c =
    let d = domain g.I.Concrete.Has g.I.Lattice.IsBelow g.I.IntDomain.OpGives g.I.IntDomain.OpOneGives g.I.IntDomain.ToGives g.I.IntDomain.KeepGives g.I.IntDomain.members_of in
    subst (λ (x : Act). OnOk c.pass_act.result (IsDone d c.args.c.now c.args.facts.now (option_copied c.args.fact) c.args.point x c.args.lists.now c.pass_act.new.lists)) c.act_of-act.ensures c.pass_act.ensures

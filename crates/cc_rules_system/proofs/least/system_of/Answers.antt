-- What is made of the program is ready.
use Rattle.std.proofs.Common.{arith, ◌≤◌, sym, subst}
use Rattle.cc_rules_asked.specs.CcFlow.Points.{count_of}
use Rattle.cc_program.specs.declared.program.Program.{Program}
use Rattle.cc_rules_system.proofs.Solutions.{made_own, ready_by}
use Rattle.cc_rules_system.proofs.least.system_of.Goals as goal
use Rattle.cc_rules_asked.specs.CcStateOperators.Domains.{domain}
use Rattle.cc_rules_asked.proofs.CcSyntax.NameRules.{sound-typed}

pub rules_of-requires : goal.rules_of-requires
rules_of-requires g c =
    let few = c.requires.few_facts in
    record { typed = sound-typed c.args.p.now c.requires.normal.sound; flow = c.requires.flow; few = c.requires.few_points; few_keys = omega (arith, few) }

pub index_of-requires : goal.index_of-requires
index_of-requires g c =
    let made = c.in_ok-rules.ensures in
    record { rules = made_own c.args.p.now c.in_ok-rules.rules made; few = subst (λ (q : Program). count_of q ≤ 65536) (sym made.program) c.requires.few_points }

pub returns : goal.returns
returns g c =
    let d = domain g.I.Concrete.Has g.I.Lattice.IsBelow g.I.IntDomain.OpGives g.I.IntDomain.OpOneGives g.I.IntDomain.ToGives g.I.IntDomain.KeepGives g.I.IntDomain.members_of in
    let made = c.in_ok-rules.ensures in
    record { ready = ready_by d c.args.p.now c.in_ok-rules.rules c.in_ok-index.index made c.requires.normal c.requires.few_points c.requires.few_facts c.wholes.ensures c.in_ok-index.ensures; program = made.program }

-- Facts meet the constraint where they lack nothing of what it asks of them.
use Rattle.std.proofs.Common.{arith, ◌≡◌, length, sym, ap, subst, ◌∙◌}
use Rattle.cc_rules_asked.specs.Asked.{all_needs}
use Rattle.cc_rules_lacking.specs.First.{LacksFirst}
use Rattle.cc_rules_asked.specs.CcRulesNeeds.Needs.{Needs}
use Rattle.cc_rules_system.proofs.AskedLemmas.{asked_at}
use Rattle.cc_rules_system.proofs.Having.{met_where}
use Rattle.cc_rules_system.proofs.system.ConstraintSystemSystem.met.Goals as goal
use Rattle.cc_rules_asked.proofs.CcStateKeys.FactCounts.{few_tracked}
use Rattle.cc_rules_asked.specs.CcStateKeys.Tracked.{tracked}
use Rattle.cc_rules_asked.specs.CcStateOperators.Domains.{domain}

pub asked-requires : goal.asked-requires
asked-requires g c =
    let r = c.requires.ready in
    let few = r.few_facts in
    record { normal = r.normal; rules = r.made; shape = c.requires.fitting.0; few = r.few_points; few_keys = omega (arith, few); there = c.requires.index }

pub overflow_cast-cells : goal.overflow_cast-cells
overflow_cast-cells g c =
    let all = ap length (c.all.ensures ∙ c.requires.ready.made.tracked) in
    let few = few_tracked c.args.self.now.rules.program.now in
    omega (arith, all, few)

pub returns : goal.returns
returns g c =
    let d = domain g.I.Concrete.Has g.I.Lattice.IsBelow g.I.IntDomain.OpGives g.I.IntDomain.OpOneGives g.I.IntDomain.ToGives g.I.IntDomain.KeepGives g.I.IntDomain.members_of in
    let p = c.args.self.now.rules.program.now in
    let f = c.args.facts.now in
    let r = c.requires.ready in
    let shape = c.requires.fitting.0 in
    let i = c.args.index in
    let ns = all_needs p c.in_ok-list.list.items in
    let asked = c.in_ok-list.ensures in
    let a = asked_at d p i f ns c.requires.index asked.asks asked.worked in
    let same : all_needs p c.deref.result.now ≡ ns = ap (all_needs p) c.deref.ensures.value in
    let below = g.I.Lattice.IsBelow in
    let cells : length (tracked p) ≡ length c.all.result.now = sym (ap length (c.all.ensures ∙ r.made.tracked)) in
    let first = subst (λ (ms : Needs g.row.I.Denot). LacksFirst below ms f c.in_ok-lacking.lacking) same (c.in_ok-lacking.ensures p cells) in
    met_where d p i f ns a (c.laws.ensures.determined p r.normal f shape a.constraint a.worked) c.in_ok-lacking.lacking c.is_none.result c.is_none.ensures first

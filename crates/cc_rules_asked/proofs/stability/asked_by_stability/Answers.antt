use Rattle.std.proofs.Common.{◌≡◌, [], cond}
use Rattle.std.proofs.lemmas.Result.{IfOk-weaker}
use Rattle.cc_rules_asked.specs.Unstable.{unstable_in}
use Rattle.cc_rules_asked.proofs.StabilityLemmas.{stability_asked}
use Rattle.cc_rules_asked.proofs.stability.asked_by_stability.Goals as goal
use Rattle.cc_rules.specs.CcStateOperators.Domains.{domain}

pub asked_if_on-requires : goal.asked_if_on-requires
asked_if_on-requires g c = record { few = c.requires.here.few; few_keys = c.requires.few }

pub returns : goal.returns
returns g c =
    IfOk-weaker c.asked_if_on.result (λ list. list.items ≡ cond c.args.here.now.fact.now.on (unstable_in c.args.here.now c.args.keys.now) []) _
    (λ list e. stability_asked (domain g.I.Concrete.Has g.I.Lattice.IsBelow g.I.IntDomain.OpGives g.I.IntDomain.OpOneGives g.I.IntDomain.ToGives g.I.IntDomain.KeepGives g.I.IntDomain.members_of) c.args.here.now list.items c.args.keys.now c.requires.here c.requires.keys e)
    c.asked_if_on.ensures

use Rattle.std.proofs.Common.{arith, ◌≡◌, ℕ, length, subst}
use Rattle.cc_rules_firsts.proofs.ByKey.{at_place, no_sets, none_behind}
use Rattle.cc_rules_firsts.proofs.firsts.none_sets.Goals as goal
use Rattle.cc_rules_firsts.specs.Firsts.{AreNoneOf}

pub loop-kind-init : goal.loop-kind-init
loop-kind-init g c = no_sets g.I.Lattice.IsBelow c.args.kinds.now c.new-sets.result.items c.new-sets.ensures.items

pub loop-kind-preserved : goal.loop-kind-preserved
loop-kind-preserved g c =
    none_behind g.I.Lattice.IsBelow c.args.kinds.now c.loop-kind.kind-index c.kind-item.result c.none_of.result c.loop-kind.sets.items c.push.new.self.items c.loop-kind.invariant
    (at_place c.args.kinds.now c.loop-kind.kind-index c.kind-item.result c.loop-kind-test.true c.kind-item.is) c.none_of.ensures c.in_ok-push.ensures.items

pub returns : goal.returns
returns g c =
    let all : c.loop-kind.kind-index ≡ length c.args.kinds.now = omega (arith, c.loop-kind-test.false) in
    subst (λ (n : ℕ). AreNoneOf g.I.Lattice.IsBelow c.args.kinds.now n c.loop-kind.sets.items) all c.loop-kind.invariant
